use Rattle.std.proofs.Common.{◌≡◌}
use Rattle.test_shard.proofs.tests.routers.send.Given as goal

abbrev pub invariant-loop : goal.invariant-loop
invariant-loop g l = l.router.marked ≡ 0
