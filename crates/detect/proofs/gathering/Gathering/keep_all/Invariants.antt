use Rattle.std.proofs.Common.{◌≡◌, take}
use Rattle.detect.proofs.LanesBack.{Continues}
use Rattle.detect.proofs.gathering.Gathering.keep_all.Given as goal

abbrev pub invariant-loop-item : goal.invariant-loop-item
invariant-loop-item l = record {
  backs : l.self.backs ≡ l.fn.self.backs;
  gathers : Continues l.fn.self.collector l.self.collector (take l.item-index l.items);
}
