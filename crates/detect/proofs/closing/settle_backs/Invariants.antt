use Rattle.detect.proofs.Common.{◌≡◌, ℕ, ◌<◌, map, given_by, given_back, takers_of, IsSameWork, IsSettled}
use Rattle.detect.proofs.closing.settle_backs.Given as goal

abbrev pub invariant-loop-shard : goal.invariant-loop-shard
invariant-loop-shard g l = record {
  same : IsSameWork l.fn.workers.items l.workers.items;
  takers : takers_of l.workers.items ≡ takers_of l.fn.workers.items;
  taken : given_by l.backs.items ≡ given_by l.fn.backs.items;
  lanes : map (λ t. t.lane) l.backs.items ≡ map (λ t. t.lane) l.fn.backs.items;
  settled : (k : ℕ) → k < l.shard → IsSettled (given_by l.fn.backs.items) (given_back l.fn.workers.items) k;
}
