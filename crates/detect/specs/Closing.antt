-- Private: what the workers and the receipts say, lane by lane.
use Rattle.std.specs.Prelude.{◌≡◌, ℕ, ◌<◌, true, List, [], length, map, slice_index_or}
use Rattle.dag.specs.declared.records.Placed.{Placed}
use Rattle.lane.specs.declared.item.Item.{Item}
use Rattle.lane.specs.declared.taker.Taker.{Taker}
use Rattle.lane.specs.Items.{has_mark, IsBeginning}
use Rattle.lane.specs.Lanes.{LaneId, put_of}
use Rattle.dag.specs.declared.back.Back.{Back}
use Rattle.shard.specs.declared.worker_loop.Worked.{Worked}

module _ {S H : Type 0} where
  -- what the workers took
  abbrev pub taken_by : List (Worked S H) → List (List (Item Placed))
  taken_by workers = map (λ w. w.taker.taken) workers

  -- what they put on the lanes back
  abbrev pub given_back : List (Worked S H) → List (List (Item Back))
  given_back workers = map (λ w. put_of w.back) workers

  -- how many records each shard took
  abbrev pub counts_of : List (Worked S H) → List ℕ
  counts_of workers = map (λ w. w.shard.taken) workers

  abbrev pub takers_of : List (Worked S H) → List (Taker Placed)
  takers_of workers = map (λ w. w.taker) workers

  abbrev pub taker_lanes : List (Worked S H) → List LaneId
  taker_lanes workers = map (λ w. w.taker.lane) workers

  abbrev pub given_lanes : List (Worked S H) → List LaneId
  given_lanes workers = map (λ w. w.back.lane) workers

  -- the same was taken, given back and counted, on the same lanes
  pub record IsSameWork (old new : List (Worked S H)) : Type 0 where
    pub count : length new ≡ length old
    pub taken : taken_by new ≡ taken_by old
    pub backs : given_back new ≡ given_back old
    pub counts : counts_of new ≡ counts_of old
    pub to_shards : taker_lanes new ≡ taker_lanes old
    pub from_shards : given_lanes new ≡ given_lanes old

-- what was taken of lane k is a prefix of what was put on it, and with the mark all of it
pub record IsSettled {T : Type 0} (taken put : List (List (Item T))) (k : ℕ) : Type 0 where
  pub prefix : IsBeginning (slice_index_or taken k []) (slice_index_or put k [])
  pub whole : has_mark (slice_index_or taken k []) ≡ true → slice_index_or taken k [] ≡ slice_index_or put k []

-- so it is with the first n lanes
abbrev pub AreSettled : {T : Type 0} → ℕ → List (List (Item T)) → List (List (Item T)) → Type 0
AreSettled n taken put = (k : ℕ) → k < n → IsSettled taken put k

-- a taker that took the mark of lane k knows that nothing waits there
abbrev pub IsEmptied : List (Taker Placed) → ℕ → Type 0
IsEmptied takers k = has_mark (slice_index_or (map (λ t. t.taken) takers) k []) ≡ true
    → slice_index_or (map (λ t. t.waiting) takers) k [] ≡ []
