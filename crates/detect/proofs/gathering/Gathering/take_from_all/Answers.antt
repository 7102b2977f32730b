use Rattle.detect.proofs.LanesBack.{further_refl, further_trans}
use Rattle.detect.proofs.gathering.Gathering.take_from_all.Goals as goal

pub loop-shard-init : goal.loop-shard-init
loop-shard-init c = further_refl _

pub loop-shard-preserved : goal.loop-shard-preserved
loop-shard-preserved c = further_trans _ _ _ c.loop-shard.invariant c.take_from.ensures

pub returns : goal.returns
returns c = c.loop-shard.invariant
