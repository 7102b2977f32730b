use Rattle.std.proofs.Common.{◌≡◌}
use Rattle.test_shard.proofs.tests.routers.three_shards.Given as goal

abbrev pub invariant-loop-what : goal.invariant-loop-what
invariant-loop-what g l = l.router.marked ≡ 0
