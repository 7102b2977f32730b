use Rattle.shard.proofs.Common.{◌≡◌, List, ◌++◌, take, Placed, records, put_of, HasWorked}
use Rattle.shard.proofs.worker.Worker.apply_block.Given as goal

abbrev pub invariant-loop-item : goal.invariant-loop-item
invariant-loop-item g l = record {
  same_back : l.self.back.lane ≡ l.fn.self.back.lane;
  worked : (u : List Placed) → HasWorked u l.fn.self.shard (put_of l.fn.self.back) l.fn.self.stopped → HasWorked (u ++ records (take l.item-index l.block)) l.self.shard (put_of l.self.back) l.self.stopped;
}
