use Rattle.blocks.proofs.Common.{◌≡◌, units_before}
use Rattle.blocks.proofs.masks.count_before.Given as goal

abbrev pub invariant-loop-before : goal.invariant-loop-before
invariant-loop-before l = l.count ≡ units_before l.units l.before
