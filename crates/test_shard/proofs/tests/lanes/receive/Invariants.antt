use Rattle.std.proofs.Common.{◌≡◌}
use Rattle.test_shard.proofs.tests.lanes.receive.Given as goal

abbrev pub invariant-loop : goal.invariant-loop
invariant-loop g l = l.taker.lane ≡ l.initial.taker.lane
