use Rattle.blocks.proofs.Renames.{HasRenamed}
use Rattle.blocks.proofs.groups.follow.Given as goal

abbrev pub invariant-loop-rest : goal.invariant-loop-rest
invariant-loop-rest l = HasRenamed l.bags.active l.kind l.step l.units l.initial.groups.items l.index l.from l.rest l.groups.items

abbrev pub decreases-loop-rest : goal.decreases-loop-rest
decreases-loop-rest l = l.index
