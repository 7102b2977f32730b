use Rattle.trace.proofs.Common.{◌-◌, ◌⇝◌, held_back}
use Rattle.trace.proofs.Nexts.{HasReadOn}
use Rattle.trace.proofs.intake.Intake.read_on.Given as goal

abbrev pub invariant-loop-self : goal.invariant-loop-self
invariant-loop-self g l = HasReadOn l.fn.self l.self (g.S.Source.state l.fn.source ⇝ g.S.Source.state l.source)

abbrev pub decreases-loop-self : goal.decreases-loop-self
decreases-loop-self g l = 35 - held_back l.self.reading
