-- Private: how far a worker has come, and what it may still take.
use Rattle.std.specs.Prelude.{◌≡◌, ◌+◌, ◌-◌, ◌<◌, ◌≤◌, ◌↔◌, ◌∷◌, ◌++◌, ℕ, Bool, true, false, List, [], length}
use Rattle.dag.specs.Bounds.{most_records}
use Rattle.dag.specs.declared.records.Record.TheVariants.{Return}
use Rattle.dag.specs.declared.records.Placed.{Placed}
use Rattle.dag.specs.Traces.{opens, closes}
use Rattle.shadow.specs.Found.{found}
use Rattle.lane.specs.declared.item.Item.{Item}
use Rattle.dag.specs.declared.back.Back.{Back}
use Rattle.shadow.specs.SpBags.{SpBags, HasSeen}
use Rattle.shard.specs.Shards.{ShardState, capped_count}
use Rattle.shard.specs.Working.{AreInOrder, race_items, HasStopped}

-- after a place, with this number of active procedures: the places ascend, and nothing follows the root's return
abbrev pub Follow : ℕ → ℕ → List Placed → Type 0
Follow place active [] = Unit {0}
Follow place active (p ∷ u) = (place < p.place) × (p.place ≤ most_records) × (p.what ≡ Return → active ≡ 1 → u ≡ [])
    × Follow p.place ((active + opens p.what) - closes p.what) u

-- the records that a shard may take from here on
pub record MayTake (s : SpBags) (rest : List Placed) : Type 0 where
  pub after_end : s.ended ≡ true → rest ≡ []
  pub before_end : s.ended ≡ false → Follow s.last_place (length s.bags.active) rest

-- a worker applies what comes: it has applied the records u and put their races
pub record IsGoing (u : List Placed) (s : SpBags) (put : List (Item Back)) : Type 0 where
  pub applied : HasSeen u s
  pub goes_on : (rest : List Placed) → AreInOrder (u ++ rest) ↔ MayTake s rest
  pub races : put ≡ race_items (found u)

-- a worker was given the records u
pub record HasWorked (u : List Placed) (s : ShardState) (put : List (Item Back)) (stopped : Bool) : Type 0 where
  pub taken : s.taken ≡ capped_count (length u)
  pub going : stopped ≡ false → IsGoing u s.sp_bags put
  pub at_end : stopped ≡ true → HasStopped u put
