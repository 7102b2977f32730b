use Rattle.detect.proofs.Common.{◌≡◌, ◌++◌, length, vec_len, vec_capacity, takers_of, counts_of}
use Rattle.detect.proofs.closing.into_run.Given as goal

abbrev pub invariant-loop-worked : goal.invariant-loop-worked
invariant-loop-worked g l = record {
  split : l.yielded ++ l.worked-iterator.rest.items ≡ l.fn.workers.items;
  taken : l.taken.items ≡ counts_of l.yielded;
  lanes : l.lanes.items ≡ takers_of l.yielded;
  taken_count : vec_len l.taken ≡ length l.yielded;
  lane_count : vec_len l.lanes ≡ length l.yielded;
  taken_room : vec_capacity l.taken ≡ vec_capacity l.initial.taken;
  lane_room : vec_capacity l.lanes ≡ vec_capacity l.initial.lanes;
}
