use Rattle.collect.proofs.Common.{arith, TooLarge}
use Rattle.collect.proofs.Refusals.{refused_for}
use Rattle.collect.proofs.bounded.bytes_from.Goals as goal

pub returns : goal.returns
returns g c = refused_for _ TooLarge (c.loop-bytes.bytes.items, c.loop-bytes.invariant.gave, omega arith)
