use Rattle.detect.proofs.Common.{◌≡◌, ◌+◌, ◌++◌, length, map, vec_len, vec_capacity, AllFresh, job_lanes, handle_lanes}
use Rattle.detect.proofs.workers.start_all.Given as goal

abbrev pub invariant-loop-job : goal.invariant-loop-job
invariant-loop-job g l = record {
  split : l.yielded ++ l.job-iterator.rest.items ≡ l.fn.jobs.items;
  new : AllFresh l.job-iterator.rest.items;
  lanes : map handle_lanes l.handles.items ≡ map job_lanes l.yielded;
  count : vec_len l.handles + length l.job-iterator.rest.items ≡ vec_len l.fn.jobs;
  room : vec_capacity l.handles ≡ vec_capacity l.fn.handles;
}
