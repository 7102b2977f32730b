-- Private: a stretch, as it is held.
use Rattle.std.specs.Prelude.{ℕ, ◌-◌, Bool, List, get_or}
use Rattle.bags.specs.Words.{number_in, flag_in}

-- a run of procedures that stand in one bag: the first of them, and whether the bag is a P-bag
pub record Stretch : Type 0 where
  pub first : ℕ
  pub is_parallel : Bool

abbrev pub stretch_of : ℕ → Stretch
stretch_of word = record { first = number_in word; is_parallel = flag_in word }

-- whether the bag of the stretch before an index is a P-bag
abbrev pub bag_before : List Stretch → ℕ → Bool
bag_before stretches index = (get_or stretches (index - 1) (stretch_of 0)).is_parallel
