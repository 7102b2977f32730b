use Rattle.std.proofs.Common.{◌≡◌}
use Rattle.test_shard.proofs.tests.routers.steps.Given as goal

abbrev pub invariant-loop-progress : goal.invariant-loop-progress
invariant-loop-progress g l = (l.router.lanes ≡ l.initial.router.lanes) × (l.router.marked ≡ 0)
