use Rattle.collect.proofs.Common.{arith, ap, sym, ◌∙◌, subst, insert_entry, nat_cmp, IsEntry}
use Rattle.collect.proofs.Kept.{put, on_err, race_on-values, IsKeyed-put, values-put}
use Rattle.collect.proofs.Best.{Holds-kept, Holds-put}
use Rattle.collect.proofs.collectors.Collector.keep.Goals as goal

pub returns-then-has_better-clause-ok : goal.returns-then-has_better-clause-ok
returns-then-has_better-clause-ok c = λ g h. Holds-kept g _ _ (sym c.has_better.ensures ∙ c.if-has_better.true) h

pub returns-in_err-insert-clause-cause : goal.returns-in_err-insert-clause-cause
returns-in_err-insert-clause-cause c = on_err c.from_residual.result (rw (← c.self.view_is, ← c.race.view_is) (sym (race_on-values _ _ c.self.invariant) ∙ c.in_err-insert.ensures.absent))

pub invariant_of-self-2 : goal.invariant_of-self-2
invariant_of-self-2 c =
    let entry : IsEntry c.args.race = subst IsEntry c.race.view_is (record { fits = omega arith; shape = c.race.invariant }) in
    IsKeyed-put c.args.race _ _ entry c.self.invariant (c.in_ok-insert.ensures.entries ∙ ap (λ r. insert_entry nat_cmp c.self.inside.kept.entries r.location c.args.race) c.race.view_is)

pub returns-clause-ok : goal.returns-clause-ok
returns-clause-ok c = λ g h.
    let races = values-put c.args.race _ _ c.self.invariant (c.in_ok-insert.ensures.entries ∙ ap (λ r. insert_entry nat_cmp c.self.inside.kept.entries r.location c.args.race) c.race.view_is) in
    Holds-put g c.args.self.now _ c.args.race (sym c.has_better.ensures ∙ c.if-has_better.false) (races ∙ ap (λ k. put c.args.race k.races) c.self.view_is) (ap (λ k. k.refused) c.self.view_is) h
