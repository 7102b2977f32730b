use Rattle.detect.proofs.Common.{◌≡◌, ℕ, ◌<◌, map, put_of, taken_by, takers_of, IsSameWork, IsSettled, IsEmptied}
use Rattle.detect.proofs.closing.settle_shards.Given as goal

abbrev pub invariant-loop-shard : goal.invariant-loop-shard
invariant-loop-shard g l = record {
  same : IsSameWork l.fn.workers.items l.workers.items;
  puts : map put_of l.ends.items ≡ map put_of l.fn.ends.items;
  lanes : map (λ e. e.lane) l.ends.items ≡ map (λ e. e.lane) l.fn.ends.items;
  settled : (k : ℕ) → k < l.shard → IsSettled (taken_by l.fn.workers.items) (map put_of l.fn.ends.items) k;
  emptied : (k : ℕ) → k < l.shard → IsEmptied (takers_of l.workers.items) k;
}
