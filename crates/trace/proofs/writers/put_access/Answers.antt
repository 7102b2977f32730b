use Rattle.trace.proofs.SpelledLines.{length-decimal-20}
use Rattle.std.proofs.Common.{arith}
use Rattle.trace.proofs.writers.put_access.Goals as goal

pub number-requires : goal.number-requires
number-requires g c = let short = length-decimal-20 c.args.location c.ranges.location.fits in omega arith

pub word-requires-2 : goal.word-requires-2
word-requires-2 g c = let short = length-decimal-20 c.args.location c.ranges.location.fits in omega arith
