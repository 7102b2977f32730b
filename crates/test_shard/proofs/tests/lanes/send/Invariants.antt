use Rattle.std.proofs.Common.{◌≡◌, false}
use Rattle.lane.specs.Lanes.{IsUnmarked}
use Rattle.test_shard.proofs.tests.lanes.send.Given as goal

abbrev pub invariant-loop-value : goal.invariant-loop-value
invariant-loop-value g l = (l.sender.lane ≡ l.initial.sender.lane) × IsUnmarked l.sender
