use Rattle.texts.proofs.Common.{arith, length-decimal-20}
use Rattle.texts.proofs.messages.line_of.Goals as goal

pub number-requires : goal.number-requires
number-requires c = let short = length-decimal-20 c.args.number c.ranges.number.fits in omega arith

pub word-requires-2 : goal.word-requires-2
word-requires-2 c = let short = length-decimal-20 c.args.number c.ranges.number.fits in omega arith
