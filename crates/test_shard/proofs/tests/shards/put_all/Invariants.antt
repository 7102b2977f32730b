use Rattle.std.proofs.Common.{◌≡◌}
use Rattle.test_shard.proofs.tests.shards.put_all.Given as goal

abbrev pub invariant-loop-next : goal.invariant-loop-next
invariant-loop-next l = l.sender.lane ≡ l.fn.sender.lane
