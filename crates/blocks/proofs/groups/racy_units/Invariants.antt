use Rattle.blocks.proofs.Looks.{HasLooked}
use Rattle.blocks.proofs.groups.racy_units.Given as goal

abbrev pub invariant-loop-rest : goal.invariant-loop-rest
invariant-loop-rest l = HasLooked l.bags.active l.kind l.units l.rest l.racy l.groups l.index

abbrev pub decreases-loop-rest : goal.decreases-loop-rest
decreases-loop-rest l = l.index
