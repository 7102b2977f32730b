-- Promised: the items on each lane while records are sent, and the lanes that a record goes to.
use Rattle.std.specs.Prelude.{◌≡◌, ℕ, ◌<◌, ◌%◌, ◌&&◌, nat_lt, if◌then◌else◌, List, [], ◌∷◌, ◌++◌, length, map}
use Rattle.std.specs.Prelude.{slice_index_or, slice_set, Option, Some, None}
use Rattle.lane.specs.declared.item.Item.{Item}
use Rattle.lane.specs.declared.item.Item.TheVariants.{One, Finish}
use Rattle.lane.specs.Items.{has_mark}
use Rattle.dag.specs.declared.records.Record.{Record}
use Rattle.dag.specs.declared.records.Record.TheVariants.{Spawn, Call, Return, Sync, Read, Write}
use Rattle.dag.specs.declared.records.Placed.{Placed}
use Rattle.dag.specs.Shares.{goes_placed, share}

-- what was put on lane k
abbrev pub put_on : List (List (Item Placed)) → ℕ → List (Item Placed)
put_on puts k = slice_index_or puts k []

-- one more item on lane k
abbrev pub with_put : List (List (Item Placed)) → ℕ → Item Placed → List (List (Item Placed))
with_put puts k x = slice_set puts k (put_on puts k ++ x ∷ [])

-- the first lane of n that a record goes to
abbrev pub first_lane : ℕ → Record → ℕ
first_lane n Spawn = 0
first_lane n Call = 0
first_lane n Return = 0
first_lane n Sync = 0
first_lane n (Read l) = l % n
first_lane n (Write l) = l % n

-- what lane k has of the record that is being sent, while lane `next` is the next one
abbrev pub portion : ℕ → ℕ → ℕ → Option Placed → List Placed
portion k n next None = []
portion k n next (Some p) = if nat_lt k next && goes_placed k n p then p ∷ [] else []

-- the mark, if lane k is among the first `marked`
abbrev pub mark_of : ℕ → ℕ → List (Item Placed)
mark_of k marked = if nat_lt k marked then Finish ∷ [] else []

-- of n lanes, with `on k` put on lane k: each has its share of w, what it has of the pending record,
-- and its mark
abbrev pub AllSent : ℕ → List Placed → ℕ → Option Placed → ℕ → (ℕ → List (Item Placed)) → Type 0
AllSent n w next pending marked on = (k : ℕ) → k < n
    → on k ≡ map One (share k n w ++ portion k n next pending) ++ mark_of k marked

-- the records that were sent whole, after a step that may have sent the pending one
abbrev pub sent_whole : List Placed → Option Placed → Option Placed → List Placed
sent_whole w None left = w
sent_whole w (Some p) None = w ++ p ∷ []
sent_whole w (Some p) (Some q) = w

-- the marks stand on the first `marked` lanes
abbrev pub HaveMarks : ℕ → List (List (Item Placed)) → Type 0
HaveMarks marked puts = (k : ℕ) → k < length puts → has_mark (put_on puts k) ≡ nat_lt k marked
