-- Private: items that join those that a ring's slots have.
use Rattle.std.specs.Prelude.{◌≡◌, ◌+◌, ◌≤◌, true, false, List, ◌++◌, length}
use Rattle.std.specs.declared.alloc.Global.{Global}
use Rattle.rtrb.specs.Ring.{sent, known_free, SameProducer}
use Rattle.rtrb.specs.declared.producer.Producer.{Producer}
use Rattle.lane.specs.declared.item.Item.{Item}
use Rattle.lane.specs.declared.item.Slot.{Slot}
use Rattle.lane.specs.declared.item.MarkLast.{MarkLast}
use Rattle.lane.specs.Items.{has_mark}
use Rattle.lane.specs.Slots.{all_items, have_items}

module _ {T : Type 0} where
  -- these items may join those of a ring's slots: there is room, and none of them follows a mark
  pub record MayJoin (ring : Producer (Slot T) Global MarkLast) (items : List (Item T)) : Type 0 where
    pub room : length items ≤ known_free ring
    pub unmarked : has_mark (all_items (sent ring) ++ items) ≡ false
    pub some : have_items (sent ring) ≡ true

  -- they have joined them
  pub record HasJoined (items : List (Item T)) (old new : Producer (Slot T) Global MarkLast) : Type 0 where
    pub same : SameProducer old new
    pub shown : all_items (sent new) ≡ all_items (sent old) ++ items
    pub some : have_items (sent new) ≡ true
    pub room : known_free old ≤ known_free new + length items
