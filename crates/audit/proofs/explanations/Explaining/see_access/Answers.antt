use Rattle.audit.proofs.Common.{ap, sym, Explaining}
use Rattle.audit.proofs.ExplainLemmas.{on_ok, sees_reported, sees_kept}
use Rattle.audit.proofs.explanations.Explaining.see_access.Goals as goal

pub returns-in_ok-reported-in-Some-clause-sees : goal.returns-in_ok-reported-in-Some-clause-sees
returns-in_ok-reported-in-Some-clause-sees c =
    sees_reported c.args.self.now c.args.access c.in-Some.kind c.in-Some.first.now c.in_ok-reported-in-Some.reported _ (sym c.deref.ensures.value) c.in_ok-reported-in-Some.ensures c.in-Some.ensures

pub returns-in-None-clause-sees : goal.returns-in-None-clause-sees
returns-in-None-clause-sees c =
    on_ok _ (λ k. sees_kept c.args.self.now c.keep.new.self c.args.access (ap (λ (s : Explaining). s.reported) c.keep.ensures.rest) (ap (λ (s : Explaining). s.openers.items) c.keep.ensures.rest) k c.in-None.ensures) c.keep.ensures.keeps
