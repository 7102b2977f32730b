use Rattle.std.proofs.Common.{◌≡◌, false}
use Rattle.lane.specs.Lanes.{IsUnmarked}
use Rattle.test_shard.proofs.tests.lanes.fill.Given as goal

abbrev pub invariant-loop-value : goal.invariant-loop-value
invariant-loop-value g l = IsUnmarked l.sender

abbrev pub invariant-loop-value-2 : goal.invariant-loop-value-2
invariant-loop-value-2 g l = IsUnmarked l.sender
