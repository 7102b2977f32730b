use Rattle.collect.proofs.Common.{arith, length-decimal-20}
use Rattle.collect.proofs.writers.write_head.Goals as goal

pub number-requires : goal.number-requires
number-requires g c = let short = length-decimal-20 c.args.count c.ranges.count.fits in omega arith

pub word-requires-2 : goal.word-requires-2
word-requires-2 g c = let short = length-decimal-20 c.args.count c.ranges.count.fits in omega arith
