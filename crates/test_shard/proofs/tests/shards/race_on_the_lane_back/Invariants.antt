use Rattle.std.proofs.Common.{◌≡◌, false}
use Rattle.lane.specs.Lanes.{IsUnmarked}
use Rattle.test_shard.proofs.tests.shards.race_on_the_lane_back.Given as goal

abbrev pub invariant-loop-place : goal.invariant-loop-place
invariant-loop-place g l = IsUnmarked l.sender
