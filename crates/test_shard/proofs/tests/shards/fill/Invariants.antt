use Rattle.std.proofs.Common.{◌≡◌, false}
use Rattle.lane.specs.Lanes.{IsUnmarked}
use Rattle.test_shard.proofs.tests.shards.fill.Given as goal

abbrev pub invariant-loop-index : goal.invariant-loop-index
invariant-loop-index g l = IsUnmarked l.sender
