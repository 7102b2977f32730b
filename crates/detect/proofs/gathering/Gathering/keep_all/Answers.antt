use Rattle.std.proofs.Common.{◌∙◌}
use Rattle.detect.proofs.LanesBack.{continues_next}
use Rattle.detect.proofs.gathering.Gathering.keep_all.Goals as goal

pub loop-item-preserved : goal.loop-item-preserved
loop-item-preserved c = record {
  backs = c.keep_item.ensures.backs ∙ c.loop-item.invariant.backs;
  gathers = continues_next _ _ _ c.args.items.now c.loop-item.item-index c.item-item.result c.item-item.is c.loop-item-test.true c.loop-item.invariant.gathers c.keep_item.ensures.gathers;
}
