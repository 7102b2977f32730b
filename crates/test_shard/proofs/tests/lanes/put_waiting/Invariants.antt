use Rattle.std.proofs.Common.{◌≡◌, false}
use Rattle.lane.specs.Lanes.{IsUnmarked}
use Rattle.test_shard.proofs.tests.lanes.put_waiting.Given as goal

abbrev pub invariant-loop : goal.invariant-loop
invariant-loop g l = (l.sender.lane ≡ l.initial.sender.lane) × IsUnmarked l.sender
