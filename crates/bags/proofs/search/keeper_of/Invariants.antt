use Rattle.bags.proofs.Halving.{Stepped}
use Rattle.bags.proofs.search.keeper_of.Given as goal

abbrev pub invariant-loop-step : goal.invariant-loop-step
invariant-loop-step l = Stepped l.stretches l.part l.step l.probes l.procedure

abbrev pub decreases-loop-step : goal.decreases-loop-step
decreases-loop-step l = l.step
