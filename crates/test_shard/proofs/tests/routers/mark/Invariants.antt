use Rattle.std.proofs.Common.{◌≡◌, None}
use Rattle.test_shard.proofs.tests.routers.mark.Given as goal

abbrev pub invariant-loop : goal.invariant-loop
invariant-loop g l = l.router.pending ≡ None
