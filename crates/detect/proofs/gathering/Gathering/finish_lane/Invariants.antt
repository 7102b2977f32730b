use Rattle.detect.proofs.Common.{◌≡◌, IsFurther}
use Rattle.detect.proofs.gathering.Gathering.finish_lane.Given as goal

abbrev pub invariant-loop : goal.invariant-loop
invariant-loop g l = IsFurther l.fn.self l.self × (l.shard ≡ l.fn.shard)
