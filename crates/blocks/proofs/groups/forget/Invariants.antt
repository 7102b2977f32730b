use Rattle.blocks.proofs.Forgets.{HasForgotten}
use Rattle.blocks.proofs.groups.forget.Given as goal

abbrev pub invariant-loop-index : goal.invariant-loop-index
invariant-loop-index l = HasForgotten l.units l.fn.groups.items l.index l.groups.items

abbrev pub decreases-loop-index : goal.decreases-loop-index
decreases-loop-index l = l.index
