use Rattle.blocks.proofs.Common.{arith, shr_and_one, bit_at-lt}
use Rattle.blocks.proofs.Counts.{before-le}
use Rattle.blocks.proofs.masks.count_before.Goals as goal

pub overflow_add-count : goal.overflow_add-count
overflow_add-count c =
    omega (arith, before-le c.args.units c.loop-before.before, c.loop-before.invariant, c.loop-before-test.true, c.requires, shr_and_one c.args.units c.loop-before.before, bit_at-lt c.args.units c.loop-before.before)
