use Rattle.trace.proofs.Common.{◌∙◌, IsPart-range}
use Rattle.trace.proofs.writers.put_all.Goals as goal

pub loop-rest-preserved : goal.loop-rest-preserved
loop-rest-preserved g c = record {
  part = IsPart-range _ _ _ _ _ _ c.loop-rest.invariant.part c.in_ok-taken.ensures.bytes;
  steady = c.in_ok-taken.ensures.count ∙ c.loop-rest.invariant.steady;
}
