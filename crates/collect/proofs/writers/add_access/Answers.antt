use Rattle.std.proofs.Common.{arith}
use Rattle.collect.proofs.Written.{length-decimal-place}
use Rattle.collect.proofs.writers.add_access.Goals as goal

pub number-requires : goal.number-requires
number-requires c = let short = length-decimal-place c.args.access.place c.requires.place in omega arith

pub word-requires : goal.word-requires
word-requires c = let short = length-decimal-place c.args.access.place c.requires.place in omega arith

pub word-requires-in-Read : goal.word-requires-in-Read
word-requires-in-Read c = let short = length-decimal-place c.args.access.place c.requires.place in omega arith

pub word-requires-in-Write : goal.word-requires-in-Write
word-requires-in-Write c = let short = length-decimal-place c.args.access.place c.requires.place in omega arith

pub returns-in-Read-clause-len : goal.returns-in-Read-clause-len
returns-in-Read-clause-len c = let short = length-decimal-place c.args.access.place c.requires.place in omega arith

pub returns-in-Write-clause-len : goal.returns-in-Write-clause-len
returns-in-Write-clause-len c = let short = length-decimal-place c.args.access.place c.requires.place in omega arith
