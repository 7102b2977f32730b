use Rattle.std.proofs.Common.{◌≡◌}
use Rattle.test_shard.proofs.tests.shards.race_comes.Given as goal

abbrev pub invariant-loop : goal.invariant-loop
invariant-loop l = l.back.lane ≡ l.fn.back.lane
