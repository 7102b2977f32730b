use Rattle.detect.proofs.Common.{rules, refl, ap, ◌∙◌, map-set_same, put_of, Worked, given_by, given_back, IsSettled}
use Rattle.detect.proofs.LanesBack.{ended_to}
use Rattle.detect.proofs.Receipts.{front_same, at_front, within_front, at_map, settled_at, same_set}
use Rattle.detect.proofs.closing.settle_backs.Goals as goal

pub settle-requires-after_bounds : goal.settle-requires-after_bounds
settle-requires-after_bounds g c κs =
    at_front (λ (w : Worked g.row.S.Denot g.row.S-Hasher.Denot). w.back.lane) (λ t. t.lane) c.loop-shard.workers.items c.loop-shard.backs.items c.loop-shard.shard _ _
    (front_same _ _ _ _ c.loop-shard.invariant.same.from_shards c.loop-shard.invariant.lanes c.requires) (search rules) c.index_mut-in-loop-shard.ensures.value c.index_mut.ensures.value

pub loop-shard-preserved : goal.loop-shard-preserved
loop-shard-preserved g c =
    let i = c.loop-shard.invariant in
    let t = c.index_mut.result.now in
    let w = c.index_mut-in-loop-shard.result.now in
    record {
      same = same_set c.args.workers.now.items c.loop-shard.workers.items c.loop-shard.shard w _ c.index_mut-in-loop-shard.ensures.value refl refl c.settle.ensures.compared.put c.settle.ensures.compared.lane.1.0 refl i.same;
      takers = map-set_same (λ (x : Worked g.row.S.Denot g.row.S-Hasher.Denot). x.taker) c.loop-shard.workers.items c.loop-shard.shard _ w (ap (λ (x : Worked g.row.S.Denot g.row.S-Hasher.Denot). x.taker) c.index_mut-in-loop-shard.ensures.value) ∙ i.takers;
      taken = map-set_same (λ t. t.taken) c.loop-shard.backs.items c.loop-shard.shard c.settle.new.self t (c.settle.ensures.compared.taken ∙ ap (λ t. t.taken) c.index_mut.ensures.value) ∙ i.taken;
      lanes = map-set_same (λ t. t.lane) c.loop-shard.backs.items c.loop-shard.shard c.settle.new.self t (c.settle.ensures.compared.lane.0.0 ∙ ap (λ t. t.lane) c.index_mut.ensures.value) ∙ i.lanes;
      settled = λ k lt. ended_to (IsSettled (given_by c.args.backs.now.items) (given_back c.args.workers.now.items)) c.loop-shard.shard
          (settled_at (given_by c.loop-shard.backs.items) (given_by c.args.backs.now.items) (given_back c.loop-shard.workers.items) (given_back c.args.workers.now.items) c.loop-shard.shard
          t.taken c.settle.new.self.taken (put_of w.back) (put_of c.settle.new.end) i.taken i.same.backs
          (at_map (λ t. t.taken) c.loop-shard.backs.items c.loop-shard.shard t _
          (within_front (λ (x : Worked g.row.S.Denot g.row.S-Hasher.Denot). x.back.lane) (λ t. t.lane) c.loop-shard.workers.items c.loop-shard.backs.items c.loop-shard.shard (front_same _ _ _ _ c.loop-shard.invariant.same.from_shards c.loop-shard.invariant.lanes c.requires) (search rules)) c.index_mut.ensures.value)
          (at_map (λ (x : Worked g.row.S.Denot g.row.S-Hasher.Denot). put_of x.back) c.loop-shard.workers.items c.loop-shard.shard w _ (search rules) c.index_mut-in-loop-shard.ensures.value)
          c.settle.ensures.compared.taken c.settle.ensures.compared.put c.settle.ensures.prefix c.settle.ensures.whole)
          i.settled k lt;
    }
