use Rattle.detect.proofs.Common.{ℕ, ◌<◌, IsFurther, HasBackMark}
use Rattle.detect.proofs.gathering.Gathering.finish_lanes.Given as goal

abbrev pub invariant-loop-shard : goal.invariant-loop-shard
invariant-loop-shard g l = IsFurther l.fn.self l.self × ((k : ℕ) → k < l.shard → HasBackMark l.self k)
