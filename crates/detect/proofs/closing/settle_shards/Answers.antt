use Rattle.detect.proofs.Common.{rules, map, refl, sym, ap, ◌∙◌, map-set_same, put_of, Worked, taken_by, IsSettled}
use Rattle.detect.proofs.LanesBack.{ended_to}
use Rattle.detect.proofs.Receipts.{front_same, at_front, within_front, at_map, settled_at, same_set, emptied_by, emptied_more}
use Rattle.detect.proofs.closing.settle_shards.Goals as goal

pub settle-requires-after_bounds : goal.settle-requires-after_bounds
settle-requires-after_bounds g c κs =
    sym (at_front (λ (w : Worked g.row.S.Denot g.row.S-Hasher.Denot). w.taker.lane) (λ e. e.lane) c.loop-shard.workers.items c.loop-shard.ends.items c.loop-shard.shard _ _ (front_same _ _ _ _ c.loop-shard.invariant.same.to_shards c.loop-shard.invariant.lanes c.requires) (search rules) c.index_mut.ensures.value c.index_mut-in-loop-shard.ensures.value)

pub loop-shard-preserved : goal.loop-shard-preserved
loop-shard-preserved g c =
    let i = c.loop-shard.invariant in
    let w = c.index_mut.result.now in
    let e = c.index_mut-in-loop-shard.result.now in
    record {
      same = same_set c.args.workers.now.items c.loop-shard.workers.items c.loop-shard.shard w _ c.index_mut.ensures.value c.settle.ensures.compared.taken c.settle.ensures.compared.lane.0.0 refl refl refl i.same;
      puts = map-set_same put_of c.loop-shard.ends.items c.loop-shard.shard c.settle.new.end e (c.settle.ensures.compared.put ∙ ap put_of c.index_mut-in-loop-shard.ensures.value) ∙ i.puts;
      lanes = map-set_same (λ e. e.lane) c.loop-shard.ends.items c.loop-shard.shard c.settle.new.end e (c.settle.ensures.compared.lane.1.0 ∙ ap (λ e. e.lane) c.index_mut-in-loop-shard.ensures.value) ∙ i.lanes;
      settled = λ k lt. ended_to (IsSettled (taken_by c.args.workers.now.items) (map put_of c.args.ends.now.items)) c.loop-shard.shard
          (settled_at (taken_by c.loop-shard.workers.items) (taken_by c.args.workers.now.items) (map put_of c.loop-shard.ends.items) (map put_of c.args.ends.now.items) c.loop-shard.shard
          w.taker.taken c.settle.new.self.taken (put_of e) (put_of c.settle.new.end) i.same.taken i.puts
          (at_map (λ (x : Worked g.row.S.Denot g.row.S-Hasher.Denot). x.taker.taken) c.loop-shard.workers.items c.loop-shard.shard w _ (search rules) c.index_mut.ensures.value)
          (at_map put_of c.loop-shard.ends.items c.loop-shard.shard e _
          (within_front (λ (x : Worked g.row.S.Denot g.row.S-Hasher.Denot). x.taker.lane) (λ e. e.lane) c.loop-shard.workers.items c.loop-shard.ends.items c.loop-shard.shard (front_same _ _ _ _ c.loop-shard.invariant.same.to_shards c.loop-shard.invariant.lanes c.requires) (search rules)) c.index_mut-in-loop-shard.ensures.value)
          c.settle.ensures.compared.taken c.settle.ensures.compared.put c.settle.ensures.prefix c.settle.ensures.whole)
          i.settled k lt;
      emptied = λ k lt. emptied_more c.loop-shard.workers.items c.loop-shard.shard w _ (search rules) (emptied_by _ _ _ c.settle.ensures.compared.waiting c.settle.ensures.whole) i.emptied k lt;
    }
