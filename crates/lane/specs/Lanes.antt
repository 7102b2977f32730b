-- Promised: what contracts see of the ends of a lane: which lane they are of, what was put, and what was taken.
use Rattle.std.specs.Prelude.{◌≡◌, ℕ, ◌+◌, ◌-◌, ◌%◌, ◌^◌, ◌≤◌, false, true, List, [], ◌++◌, length}
use Rattle.std.specs.declared.alloc.Global.{Global}
use Rattle.rtrb.specs.Shared.{Names}
use Rattle.rtrb.specs.declared.end.End.{End}
use denote.RawPtr.{Ptr}
use Rattle.lane.specs.declared.item.Item.{Item}
use Rattle.lane.specs.Items.{has_mark, mark_last}

-- a ring, as a value that distinguishes it from each other ring: its place, and its names
abbrev pub RingId : Type 0
RingId = (Ptr × Ptr) × (Names × Global)

abbrev pub ring_of : {T P : Type 0} → End T Global P → RingId
ring_of end = ((end.words, end.slots), (end.names, end.heap))

-- a lane, as a value that distinguishes it from each other lane: the ring of what is shown, and that of the units
abbrev pub LaneId : Type 0
LaneId = RingId × RingId

-- the lane of these ends of its rings
abbrev pub lane_of_rings : {S U P Q : Type 0} → End S Global P → End U Global Q → LaneId
lane_of_rings ring units = (ring_of ring, ring_of units)

-- how many items this lane holds at most, which is among the names of the ring of units
abbrev pub lane_capacity : LaneId → ℕ
lane_capacity lane = lane.1.1.0.0

-- one more, in a counter of 64 bits
abbrev pub one_more : ℕ → ℕ
one_more n = (n + 1) % 2 ^ 64

-- the end that puts, and its receipt
pub record SenderState (T : Type 0) : Type 0 where
  pub lane : LaneId
  -- how many items the lane holds at most
  pub capacity : ℕ
  pub of_lane : capacity ≡ lane_capacity lane
  -- what the taker is shown, the mark included
  pub shown : List (Item T)
  -- what is put and not shown yet
  pub staged : List (Item T)
  -- for how many items more the sender knows to have room
  pub room : ℕ
  -- how often it refused a put, a block or the mark, in a counter of 64 bits
  pub refusals : ℕ

-- the end that takes
pub record TakerState (T : Type 0) : Type 0 where
  pub lane : LaneId
  -- how many items the lane holds at most
  pub capacity : ℕ
  pub of_lane : capacity ≡ lane_capacity lane
  -- what was taken, the mark included
  pub taken : List (Item T)
  -- the items that the taker knows to wait
  pub waiting : List (Item T)
  -- those that it could take with no look at the other end; it may not know how many they are
  pub near : List (Item T)
  -- what is left of the list in hand, and what was last taken of it at once
  pub rest : List (Item T)
  pub list : List (Item T)

module _ {T : Type 0} where
  -- what was put, the mark included
  abbrev pub put_of : SenderState T → List (Item T)
  put_of s = s.shown ++ s.staged

  -- the mark wasn't put
  abbrev pub IsUnmarked : SenderState T → Type 0
  IsUnmarked s = has_mark (put_of s) ≡ false

  -- how many of the items put the sender knows to be taken
  abbrev pub known_taken : SenderState T → ℕ
  known_taken s = length (put_of s) + s.room - s.capacity

  -- the lane is full, as far as the sender knows: as many items are put and not taken as it holds at most
  abbrev pub IsFull : SenderState T → Type 0
  IsFull s = length (put_of s) ≡ s.capacity + known_taken s

  -- the same lane, which holds as many items at most
  abbrev pub SameSender : SenderState T → SenderState T → Type 0
  SameSender old new = (new.lane ≡ old.lane) × (new.capacity ≡ old.capacity)

  -- nothing was put, and the taker is shown all that was
  pub record HasShown (old new : SenderState T) : Type 0 where
    pub lane : SameSender old new
    pub put : put_of new ≡ put_of old
    pub shown : new.shown ≡ put_of old
    pub none_staged : new.staged ≡ []
    pub room : old.room ≤ new.room
    pub refusals : new.refusals ≡ old.refusals

  -- these items were put behind those that were put before
  pub record HasAdded (items : List (Item T)) (old new : SenderState T) : Type 0 where
    pub lane : SameSender old new
    pub put : put_of new ≡ put_of old ++ items
    pub room : old.room ≤ new.room + length items
    pub refusals : new.refusals ≡ old.refusals

  -- nothing was put, the taker is shown all that was, and one refusal more is counted
  pub record HasRefused (old new : SenderState T) : Type 0 where
    pub lane : SameSender old new
    pub put : put_of new ≡ put_of old
    pub none_staged : new.staged ≡ []
    pub room : old.room ≤ new.room
    pub refusals : new.refusals ≡ one_more old.refusals

  -- so it refused, and the lane was full and is, as far as the sender knows: it knew of no room, and knows of none
  pub record WasFull (old new : SenderState T) : Type 0 where
    pub refused : HasRefused old new
    pub was : IsFull old
    pub still : IsFull new
    pub knew_of_none : old.room ≡ 0
    pub knows_of_none : new.room ≡ 0

  -- the same of the end that takes
  abbrev pub SameTaker : TakerState T → TakerState T → Type 0
  SameTaker old new = (new.lane ≡ old.lane) × (new.capacity ≡ old.capacity)

  -- The ends were compared, and nothing was put or taken: what was taken and what waits is what was put, and what the
  -- sender knew to be taken was.
  pub record AreCompared (old new : TakerState T) (was now : SenderState T) : Type 0 where
    pub lane : SameTaker old new × SameSender was now
    pub taken : new.taken ≡ old.taken
    pub put : put_of now ≡ put_of was
    pub waiting : new.taken ++ new.waiting ≡ put_of now
    pub knew : known_taken was ≤ length new.taken
    pub last : mark_last (put_of now) ≡ true
