use Rattle.std.proofs.Common.{◌≡◌}
use Rattle.test_shard.proofs.tests.shards.exchange.Given as goal

abbrev pub invariant-loop : goal.invariant-loop
invariant-loop g l = (l.sender.lane ≡ l.initial.sender.lane) × (l.back.lane ≡ l.initial.back.lane)
