use Rattle.std.proofs.Common.{◌≡◌, ◌+◌, true, ◌++◌, take}
use Rattle.rtrb.specs.Ring.{sent, known_free, SameProducer}
use Rattle.lane.specs.Slots.{all_items, have_items}
use Rattle.lane.proofs.giving.show_each.Given as goal

abbrev pub invariant-loop-at : goal.invariant-loop-at
invariant-loop-at g l = record {
  same : SameProducer l.fn.ring l.ring;
  staged : l.staged ≡ l.fn.staged;
  shown : all_items (sent l.ring) ≡ all_items (sent l.fn.ring) ++ take l.at l.fn.staged.items;
  some : have_items (sent l.ring) ≡ true;
  room : known_free l.fn.ring ≡ known_free l.ring + l.at;
}
