use Rattle.std.proofs.Common.{◌≡◌}
use Rattle.test_shard.proofs.tests.shards.take_all.Given as goal

abbrev pub invariant-loop : goal.invariant-loop
invariant-loop l = l.taker.lane ≡ l.initial.taker.lane
