use Rattle.std.proofs.Common.{arith}
use Rattle.route.proofs.Powers.{remainder_of_power}
use Rattle.route.proofs.lanes_for.lane_of.Goals as goal

pub returns-then-count-below-eq0 : goal.returns-then-count-below-eq0
returns-then-count-below-eq0 c = remainder_of_power c.args.location c.args.count c.requires (omega (arith, c.ranges.count.fits)) c.if-count-below-eq0.true
