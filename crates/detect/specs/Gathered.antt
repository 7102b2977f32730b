-- Private: what the shards have handed back, lane by lane, and what a collector holds of it.
use Rattle.std.specs.Prelude.{◌≡◌, ℕ, ◌+◌, ◌<◌, ◌%◌, false, List, [], ◌∷◌, ◌++◌, length, map}
use Rattle.std.specs.Prelude.{slice_index_or, slice_set, ⊤}
use Rattle.std.specs.List.{AllByRecursion}
use Rattle.dag.specs.declared.back.Back.{Back}
use Rattle.lane.specs.declared.item.Item.{Item}
use Rattle.lane.specs.declared.taker.Taker.{Taker}
use Rattle.lane.specs.Items.{records}
use Rattle.dag.specs.Backs.{races_of, fails}
use Rattle.collect.specs.Collected.{Collection, KeepsBest}

-- the items that each lane gave, lane after lane
abbrev pub given_by : List (Taker Back) → List (List (Item Back))
given_by backs = map (λ t. t.taken) backs

abbrev pub all_given : List (List (Item Back)) → List Back
all_given [] = []
all_given (items ∷ lists) = records items ++ all_given lists

-- lane k gave these items more
abbrev pub with_items : List (List (Item Back)) → ℕ → List (Item Back) → List (List (Item Back))
with_items lists k xs = slice_set lists k (slice_index_or lists k [] ++ xs)

-- of n lanes these stand from lane k on, and each gave races of its own locations alone
abbrev pub AreAtHomeFrom : ℕ → ℕ → List (List (Item Back)) → Type 0
AreAtHomeFrom n k [] = ⊤
AreAtHomeFrom n k (items ∷ lists) = AllByRecursion (λ r. r.location % n ≡ k) (races_of (records items))
    × AreAtHomeFrom n (k + 1) lists

abbrev pub AreAtHome : List (List (Item Back)) → Type 0
AreAtHome lists = AreAtHomeFrom (length lists) 0 lists

-- unless a growth was refused, here or in a shard, the collector was given all that came
pub record Gathers (lists : List (List (Item Back))) (kept : Collection) : Type 0 where
  pub none_failed : kept.refused ≡ false → fails (all_given lists) ≡ false
  pub holds : kept.refused ≡ false → AreAtHome lists → KeepsBest (all_given lists) kept

-- what was gathered before, and then these items of any lane
abbrev pub GathersMore : List (Item Back) → Collection → Collection → Type 0
GathersMore items old new = (lists : List (List (Item Back))) (k : ℕ) → k < length lists
    → Gathers lists old → Gathers (with_items lists k items) new
