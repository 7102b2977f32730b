use Rattle.std.proofs.Common.{ap, rules, Ok}
use Rattle.trace.proofs.Nexts.{next_after, next_error, read_failed, read_more, used_all}
use Rattle.trace.proofs.intake.Intake.read_on.Goals as goal

pub returns-in-Err : goal.returns-in-Err
returns-in-Err g c = rw c.fail.ensures.fault (read_failed _ _ _ _ _ _ c.loop-self.invariant c.fill.ensures.came _ c.requires c.in-Err.ensures.count c.in-Err.ensures.failed c.fail.ensures.kept)

pub returns-in-Ok-false : goal.returns-in-Ok-false
returns-in-Ok-false g c = next_after _ _ _ _ _ _ _ c.requires
    (read_more _ _ _ _ _ _ c.loop-self.invariant c.fill.ensures.came c.in-Ok-false.ensures.count)
    (c.finish.ensures _ ((c.in-Ok-false.ensures.none (ap Ok c.in-Ok-false.field-0-test)).1))

pub returns-in_err-placed : goal.returns-in_err-placed
returns-in_err-placed g c = next_error _ _ _ _ _ c.from_residual.ensures.1 (next_after _ _ _ _ _ _ _ c.requires
    (read_more _ _ _ _ _ _ c.loop-self.invariant c.fill.ensures.came c.in-Ok-true.ensures.count)
    (c.in_err-placed.ensures.next (λ is. search (rules, is)) _))

pub returns-in-Some : goal.returns-in-Some
returns-in-Some g c = next_after _ _ _ _ _ _ _ c.requires
    (read_more _ _ _ _ _ _ c.loop-self.invariant c.fill.ensures.came c.in-Ok-true.ensures.count)
    (rw c.in-Some.is at c.in_ok-placed.ensures.next (λ is. search (rules, is)) _)

pub loop-self-preserved : goal.loop-self-preserved
loop-self-preserved g c = used_all _ _ _ _
    (read_more _ _ _ _ _ _ c.loop-self.invariant c.fill.ensures.came c.in-Ok-true.ensures.count)
    (c.in_ok-placed.ensures.none (search rules))
