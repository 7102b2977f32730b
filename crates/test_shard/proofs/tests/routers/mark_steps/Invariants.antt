use Rattle.std.proofs.Common.{◌≡◌, None}
use Rattle.test_shard.proofs.tests.routers.mark_steps.Given as goal

abbrev pub invariant-loop-progress : goal.invariant-loop-progress
invariant-loop-progress g l = (l.router.lanes ≡ l.initial.router.lanes) × (l.router.pending ≡ None)
