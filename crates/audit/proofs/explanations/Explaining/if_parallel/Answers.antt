use Rattle.audit.proofs.Common.{true, false, Option, IfSome, subst, sym, ◌∙◌, Trail, DecidesNow}
use Rattle.audit.proofs.ExplainLemmas.{decides_now}
use Rattle.audit.proofs.explanations.Explaining.if_parallel.Goals as goal
use Rattle.audit.proofs.explanations.Explaining.if_parallel.Goals.{in_default-via-in-Some+else-is_parallel, in_default-via-in_default}

pub returns-in-Some-clause-parallel : goal.returns-in-Some-clause-parallel
returns-in-Some-clause-parallel c =
    (c.in-Some.is, decides_now c.args.self.now.meetings c.in-Some.trail c.len.result c.is_parallel.result true (c.len.ensures ∙ c.in-Some.trail.openers.ok.0) c.if-is_parallel.true c.is_parallel.ensures)

pub returns-in_default-clause-ordered : goal.returns-in_default-clause-ordered
returns-in_default-clause-ordered c =
    let P : Option Trail → Type 0 = λ o. IfSome o (DecidesNow c.args.self.now.meetings false) in
    elim c.in_default.branch [
      | in_default-via-in-Some+else-is_parallel w ↦
          subst P (sym w.in-Some.is) (decides_now c.args.self.now.meetings w.in-Some.trail w.len.result w.is_parallel.result false (w.len.ensures ∙ w.in-Some.trail.openers.ok.0) w.if-is_parallel.false w.is_parallel.ensures)
      | in_default-via-in_default w ↦ subst P (sym w.in_default.is) tt
    ]
