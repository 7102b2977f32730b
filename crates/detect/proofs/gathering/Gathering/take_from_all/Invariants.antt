use Rattle.detect.specs.LanesBack.{IsFurther}
use Rattle.detect.proofs.gathering.Gathering.take_from_all.Given as goal

abbrev pub invariant-loop-shard : goal.invariant-loop-shard
invariant-loop-shard l = IsFurther l.fn.self l.self
