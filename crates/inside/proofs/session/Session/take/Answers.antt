use Rattle.std.proofs.Common.{◌∙◌, ◌++◌, [], ◌∷◌, sym, ap, subst, arith}
use Rattle.online.specs.Lives.{in_life}
use Rattle.online.specs.Online.{MayWant}
use Rattle.inside.specs.declared.session.Session.TheVariants.{Taking}
use Rattle.inside.specs.Sessions.{HasTaken, HasGiven}
use Rattle.inside.specs.Statuses.{answered_status}
use Rattle.inside.proofs.Answered.{answered, refused_else, status_below}
use Rattle.inside.proofs.session.Session.take.Goals as goal

pub returns-in-Some : goal.returns-in-Some
returns-in-Some c =
    let r = c.take-answer.result in let is = c.settle.ensures.status in let below = status_below r in record {
      took = λ e u lives what h named.
          let ok = answered r _ _ is e in
          subst (HasTaken (u ++ in_life lives what ∷ []) lives) (sym (c.settle.ensures.unchanged (λ m. omega (arith, e, m))))
          (subst (λ x. HasTaken (u ++ in_life lives x ∷ []) lives (Taking c.take-answer.new.self c.in-Taking.field-1)) (sym (c.in-Some.ensures.named what named))
          ((rw ok at c.take-answer.ensures.taken) u lives (subst (HasTaken u lives) c.in-Taking.is h)));
      named = λ _. c.in-Some.ensures.known;
      unchanged = λ not_taken not_memory. c.settle.ensures.unchanged not_memory ∙ ap (λ d. Taking d c.in-Taking.field-1) (refused_else r _ is not_taken not_memory c.take-answer.ensures.refused.unchanged) ∙ sym c.in-Taking.is;
      stops = c.settle.ensures.stops;
      stopped = λ e. absurd (cc);
      ended = λ e u lives h. ((c.take-answer.ensures.refused.after_end u lives (subst (HasTaken u lives) c.in-Taking.is h)).0 (answered r _ _ is e)).0;
      many = λ e u lives h.
          let after = subst (HasTaken u lives) c.in-Taking.is h in
          omega (arith, after.within, (c.take-answer.ensures.refused.too_many u lives after).0 (answered r _ _ is e));
      unknown = λ e. omega (arith, e);
      is_unknown = λ above. absurd (omega (arith, above, c.in-Some.ensures.known));
      is_full = λ _ u lives h full. is ∙ ap answered_status ((c.take-answer.ensures.refused.too_many u lives (subst (HasTaken u lives) c.in-Taking.is h)).1 (omega (arith, full)));
      is_ended = λ _ u lives h ended room. is ∙ ap answered_status ((c.take-answer.ensures.refused.after_end u lives (subst (HasTaken u lives) c.in-Taking.is h)).1 (ended, omega (arith, room)));
      want = λ e u lives what h named. subst (λ x. MayWant u (in_life lives x)) (sym (c.in-Some.ensures.named what named)) (c.take-answer.ensures.want u lives (subst (HasTaken u lives) c.in-Taking.is h) (answered r _ _ is e));
      giving = λ text count h. absurd (subst (HasGiven text count) c.in-Taking.is h);
      taking = λ u lives h e. omega (arith, e);
      within = omega arith;
    }
