-- Private: the sender's end of what a lane is made of.
use Rattle.std.specs.Prelude.{◌≡◌, ℕ, ◌+◌, ◌<◌, ◌≤◌, min, false, List, [], ◌++◌, length, vec_len, vec_capacity, Vec}
use Rattle.std.specs.declared.alloc.Global.{Global}
use Rattle.rtrb.specs.Ring.{sent, known_free, producer_capacity, SameProducer}
use Rattle.lane.specs.declared.item.Item.{Item}
use Rattle.lane.specs.declared.giving.Giving.{Giving}
use Rattle.lane.specs.declared.giving.TheConstants.{LIST}
use Rattle.lane.specs.Items.{has_mark}
use Rattle.lane.specs.Slots.{all_items}

module _ {T : Type 0} where
  -- the items that the taker is shown
  abbrev pub items_sent : Giving T → List (Item T)
  items_sent g = all_items (sent g.ring)

  -- for how many items more there is known to be room
  abbrev pub room_in : Giving T → ℕ
  room_in g = min (known_free g.units) (known_free g.ring)

  -- the same rings
  abbrev pub SameGiving : Giving T → Giving T → Type 0
  SameGiving old new = SameProducer old.ring new.ring × SameProducer old.units new.units

  -- nothing is shown, and no room that was known is lost
  abbrev pub HasLooked : Giving T → Giving T → Type 0
  HasLooked old new = SameGiving old new × ((sent new.ring ≡ sent old.ring) × (room_in old ≤ room_in new))

  -- what is staged may be shown
  pub record MayShow (g : Giving T) (staged : Vec (Item T) Global) : Type 0 where
    pub some : 1 ≤ vec_len staged
    pub most : vec_len staged ≤ LIST
    pub room : vec_len staged ≤ room_in g
    pub unmarked : has_mark (items_sent g ++ staged.items) ≡ false

  -- it is shown, and an empty list that isn't smaller is in its place
  pub record HasShownList (old new : Giving T) (was now : Vec (Item T) Global) : Type 0 where
    pub same : SameGiving old new
    pub shown : items_sent new ≡ items_sent old ++ was.items
    pub room : room_in old ≤ room_in new + vec_len was
    pub none : now.items ≡ []
    pub memory : vec_capacity was ≤ vec_capacity now

  -- So many items may be staged before a look at the taker's end: no more than the most, and than there is known to be
  -- room for. There is room for one more, unless the limit is 0.
  pub record IsLimit (limit most : ℕ) (g : Giving T) (staged : Vec (Item T) Global) : Type 0 where
    pub of_most : limit ≤ most
    pub of_room : limit ≤ room_in g
    pub within : vec_len staged ≤ limit
    pub below : 1 ≤ limit → vec_len staged < limit

  -- as many are staged as the limit says, or one if it is 0
  pub record IsAtLimit (limit most : ℕ) (g : Giving T) (staged : Vec (Item T) Global) : Type 0 where
    pub some : 1 ≤ vec_len staged
    pub enough : 1 ≤ limit → vec_len staged ≤ room_in g
    pub one : limit ≡ 0 → vec_len staged ≡ 1
    pub unmarked : has_mark (items_sent g ++ staged.items) ≡ false
    pub list : (1 ≤ most) × (most ≤ LIST)
    pub within : vec_len staged ≤ most

  -- all that was staged is shown, or is staged at the next limit
  pub record HasStagedOn (most next : ℕ) (old new : Giving T) (was now : Vec (Item T) Global) : Type 0 where
    pub same : SameGiving old new
    pub memory : vec_capacity was ≤ vec_capacity now
    pub put : items_sent new ++ now.items ≡ items_sent old ++ was.items
    pub room : room_in old + vec_len now ≤ room_in new + vec_len was
    pub limited : IsLimit next most new now
    pub less : vec_len now < most

  -- no room is known and none was, as many items are shown as the lane holds, and what was staged isn't any more
  pub record WasStuck (limit : ℕ) (old new : Giving T) (was now : Vec (Item T) Global) : Type 0 where
    pub same : SameGiving old new
    pub memory : vec_capacity was ≤ vec_capacity now
    pub looked : limit ≡ 0
    pub knew_of_none : room_in old ≡ 0
    pub knows_of_none : room_in new ≡ 0
    pub filled : producer_capacity new.units ≤ length (items_sent new)
    pub shown : items_sent new ≡ items_sent old
    pub none_staged : now.items ≡ []
