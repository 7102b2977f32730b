use Rattle.collect.proofs.Common.{◌<◌, ◌^◌, arith, length-decimal-20}
use Rattle.collect.proofs.writers.line_of.Goals as goal

pub number-requires : goal.number-requires
number-requires c =
    let fits : c.race.inside.location < 2 ^ 64 = omega arith in
    let short = length-decimal-20 c.race.inside.location fits in
    omega arith

pub word-requires-4 : goal.word-requires-4
word-requires-4 c =
    let fits : c.race.inside.location < 2 ^ 64 = omega arith in
    let short = length-decimal-20 c.race.inside.location fits in
    omega arith
