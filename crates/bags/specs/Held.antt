-- Private: the bags as they are held: a list of stretches, and for each active procedure its number and its first
-- stretch.
use Rattle.std.specs.Prelude.{◌≡◌, ℕ, ◌+◌, ◌-◌, ◌<◌, ◌≤◌, Bool, true, false, not, if◌then◌else◌, List, [], ◌∷◌}
use Rattle.std.specs.Prelude.{length, take, drop, reverse, ⊤}
use Rattle.std.specs.List.{range_with_len}
use Rattle.std.specs.FinSet as set
use Rattle.bags.specs.Nested.{Nested}
use Rattle.bags.specs.Procedures.{Bag, Active, Procedures}
use Rattle.bags.specs.Stretch.{Stretch}
use Rattle.dag.specs.Bounds.{most_records}

-- the procedures from one number up to another, which is not among them
abbrev pub run : ℕ → ℕ → Bag
run from to = set.from_list (range_with_len from (to - from))

-- the first number of the first stretch, or the number that follows where there is none
abbrev pub start : ℕ → List Stretch → ℕ
start next [] = next
start next (s ∷ ss) = s.first

-- whether a stretch is one of a P-bag, or of an S-bag
abbrev pub is_of : Bool → Stretch → Bool
is_of parallel s = if parallel then s.is_parallel else not s.is_parallel

-- what the stretches of one kind hold, where the number next follows the last one
abbrev pub bag_of : Bool → ℕ → List Stretch → Bag
bag_of parallel next [] = set.empty
bag_of parallel next (s ∷ ss) =
    if is_of parallel s
    then set.union (run s.first (start next ss)) (bag_of parallel next ss)
    else bag_of parallel next ss

-- an active procedure by its stretches
abbrev pub active_of : ℕ → Bool → List Stretch → Active
active_of next is_called ss = record {
  own = start next ss;
  is_called = is_called;
  serial = bag_of false next ss;
  parallel = bag_of true next ss;
}

-- the active procedures, from the one that executes to the root
abbrev pub actives_of : ℕ → List Stretch → List Nested → List Active
actives_of next ss [] = []
actives_of next ss (f ∷ fs) =
    active_of next f.is_called (drop f.begins ss) ∷ actives_of (start next (drop f.begins ss)) (take f.begins ss) fs

abbrev pub procedures_of : ℕ → List Stretch → List Nested → Procedures
procedures_of count ss nested = record { count = count; active = actives_of count ss (reverse nested) }

-- the stretches of one procedure: no one is empty, and those of its two bags alternate
abbrev pub AreAlternating : Bool → ℕ → List Stretch → Type 0
AreAlternating parallel next [] = ⊤
AreAlternating parallel next (s ∷ ss) = (s.is_parallel ≡ parallel) × (s.first < start next ss)
    × AreAlternating (not parallel) next ss

-- each procedure has a stretch, its first one begins with it and is of its S-bag, and the root has the number 0
abbrev pub AreCut : ℕ → List Stretch → List Nested → Type 0
AreCut next ss [] = (next ≡ 0) × (ss ≡ [])
AreCut next ss (f ∷ fs) = (f.begins < length ss) × AreAlternating false next (drop f.begins ss)
    × AreCut (start next (drop f.begins ss)) (take f.begins ss) fs × (f.number ≡ start next (drop f.begins ss))

pub record AreHeld (count : ℕ) (ss : List Stretch) (nested : List Nested) : Type 0 where
  pub some : 1 ≤ count
  pub most : count ≤ most_records + 1
  pub cut : AreCut count ss (reverse nested)
