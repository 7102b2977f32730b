use Rattle.detect.proofs.Common.{◌≡◌, ◌+◌, length, vec_len, AreJobsFrom, IsTied}
use Rattle.detect.proofs.made.make_ends.Given as goal

abbrev pub invariant-loop-hasher : goal.invariant-loop-hasher
invariant-loop-hasher g l = record {
  tied : IsTied l.index l.ends;
  jobs : AreJobsFrom l.fn.capacity 0 l.ends.jobs.items;
  count : l.index + length l.hasher-iterator.rest.items ≡ vec_len l.fn.hashers;
}
