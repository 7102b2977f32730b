use Rattle.std.proofs.Common.{◌≡◌, [], All, vec_len}
use Rattle.lane.specs.Lanes.{put_of}
use Rattle.test_shard.proofs.tests.routers.lanes.Given as goal

abbrev pub invariant-loop : goal.invariant-loop
invariant-loop l = (vec_len l.senders ≡ l.counter) × All (λ s. put_of s ≡ []) l.senders.items
