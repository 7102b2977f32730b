-- Private: the list in a taker's hand, and how both ends look at each other.
use Rattle.std.specs.Prelude.{◌≡◌, ℕ, ◌+◌, ◌-◌, ◌%◌, ◌^◌, ◌≤◌, Bool, true, ◌++◌, length, IsTrue, IsFalse}
use Rattle.std.specs.declared.alloc.Global.{Global}
use Rattle.rtrb.specs.Ring.{sent, producer_capacity, received, known_items, consumer_capacity, IsPair, SameConsumer}
use Rattle.rtrb.specs.declared.consumer.Consumer.{Consumer}
use Rattle.rtrb.specs.declared.AnyItems.{AnyItems}
use Rattle.lane.specs.declared.item.Slot.{Slot}
use Rattle.lane.specs.declared.item.MarkLast.{MarkLast}
use Rattle.lane.specs.declared.giving.Giving.{Giving}
use Rattle.lane.specs.Given.{items_sent, room_in, HasLooked}
use Rattle.lane.specs.Items.{mark_last}
use Rattle.lane.specs.Lanes.{TakerState, SameTaker}
use Rattle.lane.specs.Slots.{all_items}

-- the end that takes what is shown, and the end that takes the units
abbrev pub ShownEnd : Type 0 → Type 0
ShownEnd T = Consumer (Slot T) Global MarkLast

abbrev pub UnitEnd : Type 0
UnitEnd = Consumer (Unit {0}) Global AnyItems

module _ {T : Type 0} where
  -- nothing was taken, and the list in hand has an item that isn't, unless none is there
  pub record HasInHand (some : Bool) (old new : TakerState T) : Type 0 where
    pub lane : SameTaker old new
    pub taken : new.taken ≡ old.taken
    pub near : length old.near ≤ length new.near
    pub last : mark_last new.taken ≡ true
    pub rest : IsTrue some → 1 ≤ length new.rest
    pub none : IsFalse some → (length old.near ≡ 0) × (length new.rest ≡ 0)
    pub none_waits : IsFalse some → length old.waiting ≡ 0

  -- the ends of the same rings: so many of the items that have come aren't taken, and units for the others are owed
  pub record MayLook (g : Giving T) (ring : ShownEnd T) (units : UnitEnd) (rest owed : ℕ) : Type 0 where
    pub rings : IsPair g.ring ring
    pub pair : IsPair g.units units
    pub paid : length (received units) + rest ≤ length (all_items (received ring))
    pub owes : owed ≡ (length (all_items (received ring)) - rest - length (received units)) % 2 ^ 64

  -- each knows what the other has done, and no unit is owed
  pub record HaveLooked (old new : Giving T) (was now : ShownEnd T) (before after : UnitEnd) (rest behind : ℕ)
      : Type 0 where
    pub giving : HasLooked old new
    pub ring : SameConsumer was now
    pub units : SameConsumer before after
    pub received_same : received now ≡ received was
    pub fifo : received now ++ known_items now ≡ sent new.ring
    pub all_paid : length (received after) + rest ≡ length (all_items (received now))
    pub known : behind ≡ length (all_items (known_items now))
    pub most : behind ≤ consumer_capacity after
    pub knew : length (items_sent old) + room_in old ≤ producer_capacity new.units + length (received after)
    pub knows : producer_capacity new.units + length (received after) ≤ length (items_sent new) + room_in new
