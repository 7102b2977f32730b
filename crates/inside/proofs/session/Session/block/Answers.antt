use Rattle.std.proofs.Common.{◌∙◌, sym, ap, subst, arith}
use Rattle.inside.specs.declared.session.Session.TheVariants.{Taking}
use Rattle.inside.specs.Sessions.{HasTaken, HasGiven}
use Rattle.inside.specs.Statuses.{answered_status}
use Rattle.inside.proofs.Answered.{answered, refused_else, status_below}
use Rattle.inside.proofs.session.Session.block.Goals as goal

pub returns-in-Taking : goal.returns-in-Taking
returns-in-Taking c =
    let r = c.take_block-answer.result in let is = c.settle.ensures.status in let below = status_below r in record {
      took = λ e u lives h.
          let ok = answered r _ _ is e in
          subst (HasTaken _ lives) (sym (c.settle.ensures.unchanged (λ m. omega (arith, e, m)))) ((rw ok at c.take_block-answer.ensures.taken) u lives (subst (HasTaken u lives) c.in-Taking.is h));
      unchanged = λ not_taken not_memory. c.settle.ensures.unchanged not_memory ∙ ap (λ d. Taking d c.in-Taking.field-1) (refused_else r _ is not_taken not_memory c.take_block-answer.ensures.refused.unchanged) ∙ sym c.in-Taking.is;
      stops = c.settle.ensures.stops;
      stopped = λ e. absurd (cc);
      ended = λ e u lives h. ((c.take_block-answer.ensures.refused.after_end u lives (subst (HasTaken u lives) c.in-Taking.is h)).0 (answered r _ _ is e)).0;
      many = λ e u lives h. (c.take_block-answer.ensures.refused.too_many u lives (subst (HasTaken u lives) c.in-Taking.is h)).0 (answered r _ _ is e);
      is_full = λ u lives h full. is ∙ ap answered_status ((c.take_block-answer.ensures.refused.too_many u lives (subst (HasTaken u lives) c.in-Taking.is h)).1 full);
      is_ended = λ u lives h ended room. is ∙ ap answered_status ((c.take_block-answer.ensures.refused.after_end u lives (subst (HasTaken u lives) c.in-Taking.is h)).1 (ended, room));
      want = λ e u lives h. c.take_block-answer.ensures.want u lives (subst (HasTaken u lives) c.in-Taking.is h) (answered r _ _ is e);
      giving = λ text count h. absurd (subst (HasGiven text count) c.in-Taking.is h);
      taking = λ u lives h e. omega (arith, e);
      known = λ e. omega (arith, e);
      within = omega arith;
    }
