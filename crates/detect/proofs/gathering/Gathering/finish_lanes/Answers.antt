use Rattle.detect.proofs.Common.{arith, HasBackMark}
use Rattle.detect.proofs.LanesBack.{further_refl, further_trans, ended_to}
use Rattle.detect.proofs.gathering.Gathering.finish_lanes.Goals as goal

pub loop-shard-init : goal.loop-shard-init
loop-shard-init g c = (further_refl _, λ k h. absurd (omega (arith, h)))

pub finish_lane-requires : goal.finish_lane-requires
finish_lane-requires g c = let i = c.loop-shard.invariant.0 in omega (arith, i.count, c.loop-shard-test.true, c.requires)

pub loop-shard-preserved : goal.loop-shard-preserved
loop-shard-preserved g c =
    let i = c.loop-shard.invariant in
    (further_trans _ _ _ i.0 c.finish_lane.ensures.further, λ k h. ended_to (HasBackMark c.finish_lane.new.self) c.loop-shard.shard c.finish_lane.ensures.ended (λ j l. c.finish_lane.ensures.further.marks j (i.1 j l)) k (omega (arith, h)))

pub returns-clause-further : goal.returns-clause-further
returns-clause-further g c = c.loop-shard.invariant.0

pub returns-clause-ended : goal.returns-clause-ended
returns-clause-ended g c k h = c.loop-shard.invariant.1 k (omega (arith, h, c.loop-shard-test.false))
