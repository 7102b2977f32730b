use Rattle.shard.proofs.Common.{◌≡◌, false, has_mark, records, put_of, HasWorked}
use Rattle.shard.proofs.worker_loop.work.Given as goal

abbrev pub invariant-loop : goal.invariant-loop
invariant-loop g l = record {
  same_taker : l.taker.lane ≡ l.fn.taker.lane;
  same_back : l.worker.back.lane ≡ l.fn.back.lane;
  before_mark : has_mark l.taker.taken ≡ false;
  worked : HasWorked (records l.taker.taken) l.worker.shard (put_of l.worker.back) l.worker.stopped;
}
