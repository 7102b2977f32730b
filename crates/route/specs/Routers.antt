-- Promised: what a router says: its lanes, what was put on them, the pending record, and the marks.
use Rattle.std.specs.Prelude.{◌≡◌, ℕ, ◌+◌, ◌-◌, ◌<◌, ◌≤◌, true, false, List, [], length, slice_index_or, Option}
use Rattle.std.specs.Option.{ForSome}
use Rattle.lane.specs.declared.item.Item.{Item}
use Rattle.lane.specs.Lanes.{LaneId}
use Rattle.dag.specs.declared.records.Placed.{Placed}
use Rattle.dag.specs.Shares.{goes_placed}
use Rattle.route.specs.Senders.{with_refusal}
use Rattle.route.specs.Sending.{put_on, AllSent, HaveMarks}

-- What every router keeps, by what was put on its lanes, the pending record, the lane that this goes on next, and how
-- many lanes have their mark.
pub record IsRouter (puts : List (List (Item Placed))) (pending : Option Placed) (next marked : ℕ) : Type 0 where
  pub some : 1 ≤ length puts
  pub next_within : next < length puts
  pub aimed : ForSome pending (λ p. goes_placed next (length puts) p ≡ true)
  pub unmarked : ForSome pending (λ p. marked ≡ 0)
  pub at_most_all : marked ≤ length puts
  pub marks : HaveMarks marked puts

-- of each lane in turn: which it is, how many items it holds at most, what was put on it, what its taker is shown, for
-- how many items more its sender knows to have room, and how often it refused a put, in a counter of 64 bits
pub record RouterState : Type 0 where
  pub lanes : List LaneId
  pub capacities : List ℕ
  pub puts : List (List (Item Placed))
  pub shown : List (List (Item Placed))
  pub rooms : List ℕ
  pub refusals : List ℕ
  -- the record that still lacks a put, and the lane that it goes on next
  pub pending : Option Placed
  pub next : ℕ
  -- how many lanes have their mark; they are the first ones
  pub marked : ℕ
  pub kept : IsRouter puts pending next marked

-- how many lanes
abbrev pub lane_count : RouterState → ℕ
lane_count r = length r.puts

-- w was sent whole, and the pending record to the lanes before the next one
abbrev pub HasSent : List Placed → RouterState → Type 0
HasSent w r = AllSent (lane_count r) w r.next r.pending r.marked (put_on r.puts)

-- the same lanes with the same capacities, in the same order
pub record IsOnLanes (old new : RouterState) : Type 0 where
  pub lanes : new.lanes ≡ old.lanes
  pub capacities : new.capacities ≡ old.capacities
  pub count : lane_count new ≡ lane_count old

-- nothing was put, and the pending record, the next lane and the marks are the same, so what was sent whole is
pub record IsUnchanged (old new : RouterState) : Type 0 where
  pub on : IsOnLanes old new
  pub puts : new.puts ≡ old.puts
  pub pending : new.pending ≡ old.pending
  pub next : new.next ≡ old.next
  pub marked : new.marked ≡ old.marked
  pub sent : (w : List Placed) → HasSent w old → HasSent w new

-- no lane after k gets the record
abbrev pub IsLastLane : ℕ → ℕ → Placed → Type 0
IsLastLane n k p = (j : ℕ) → k < j → j < n → goes_placed j n p ≡ false

-- what the taker of lane k is shown
abbrev pub shown_on : RouterState → ℕ → List (Item Placed)
shown_on r k = slice_index_or r.shown k []

-- each taker is shown all items put on its lane
abbrev pub ShowsAll : RouterState → Type 0
ShowsAll r = (k : ℕ) → k < lane_count r → shown_on r k ≡ put_on r.puts k

-- how many items lane k can hold
abbrev pub capacity_on : RouterState → ℕ → ℕ
capacity_on r k = slice_index_or r.capacities k 0

-- for how many items more the sender of lane k knows to have room
abbrev pub room_on : RouterState → ℕ → ℕ
room_on r k = slice_index_or r.rooms k 0

-- how many of the items put on lane k its sender knows to be taken
abbrev pub known_taken_on : RouterState → ℕ → ℕ
known_taken_on r k = length (put_on r.puts k) + room_on r k - capacity_on r k

-- lane k is full, as far as its sender knows: as many items are put on it and not taken as it holds at most
abbrev pub IsFullOn : RouterState → ℕ → Type 0
IsFullOn r k = length (put_on r.puts k) ≡ capacity_on r k + known_taken_on r k

-- the sender of lane k refused a put, and no other sender refused one
abbrev pub WasRefused : RouterState → RouterState → ℕ → Type 0
WasRefused old new k = new.refusals ≡ with_refusal old.refusals k

-- A put on lane k was blocked: its sender refused it in this call. It knew of no room, and knows of none.
pub record HasBlocked (old new : RouterState) (k : ℕ) : Type 0 where
  pub within : k < lane_count old
  pub refused : WasRefused old new k
  pub knew_of_none : room_on old k ≡ 0
  pub knows_of_none : room_on new k ≡ 0
  pub full : IsFullOn old k
  pub unchanged : IsUnchanged old new

-- lane k is full, and its sender knows of no room
pub record IsStuck (r : RouterState) (k : ℕ) : Type 0 where
  pub within : k < lane_count r
  pub no_room : room_on r k ≡ 0
  pub full : IsFullOn r k
