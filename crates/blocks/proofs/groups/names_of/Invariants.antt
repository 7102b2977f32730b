use Rattle.blocks.proofs.Looks.{HasNotFound}
use Rattle.blocks.proofs.groups.names_of.Given as goal

abbrev pub invariant-loop-index : goal.invariant-loop-index
invariant-loop-index l = HasNotFound l.unit l.groups l.index

abbrev pub decreases-loop-index : goal.decreases-loop-index
decreases-loop-index l = l.index
