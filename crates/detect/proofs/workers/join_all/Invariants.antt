use Rattle.detect.proofs.Common.{◌≡◌, length, map, vec_len, vec_capacity, AllDid, handle_lanes}
use Rattle.detect.proofs.workers.join_all.Given as goal

abbrev pub invariant-loop-handle : goal.invariant-loop-handle
invariant-loop-handle g l =
    AllDid (map handle_lanes l.yielded) l.workers.items × (vec_len l.workers ≡ length l.yielded) × (vec_capacity l.workers ≡ vec_capacity l.initial.workers)
