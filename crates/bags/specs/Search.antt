-- Private: the first numbers of stretches.
use Rattle.std.specs.Prelude.{◌≡◌, ℕ, zero, suc, ◌+◌, ◌*◌, ◌^◌, ◌<◌, ◌≤◌, List, [], ◌∷◌, length, get_or}
use Rattle.bags.specs.Numbers.{digits}
use Rattle.bags.specs.Stretch.{Stretch}

-- the first number at an index, or 0 past the end
abbrev pub first_at : List Stretch → ℕ → ℕ
first_at [] i = 0
first_at (s ∷ ss) zero = s.first
first_at (s ∷ ss) (suc i) = first_at ss i

-- no stretch begins before one that stands before it
abbrev pub IsAscending : List Stretch → Type 0
IsAscending stretches = (i j : ℕ) → i ≤ j → j < length stretches → first_at stretches i ≤ first_at stretches j

-- the last stretch whose first number is not above a procedure's
pub record IsKeeper (stretches : List Stretch) (procedure : ℕ) (keeper : Stretch) : Type 0 where
  pub index : ℕ
  pub within : index < length stretches
  pub is : keeper ≡ get_or stretches index keeper
  pub not_above : first_at stretches index ≤ procedure
  pub next_above : index + 1 < length stretches → procedure < first_at stretches (index + 1)

-- where a search begins: the greatest power of two that is not above the number of stretches, and the index of the
-- first comparison
pub record Start : Type 0 where
  pub longest : ℕ
  pub middle : ℕ

-- from the middle on there are no more stretches than the longest step; and as many, unless the middle is the
-- second one
pub record IsStart (len : ℕ) (s : Start) : Type 0 where
  pub long : 2 * s.longest ≡ 2 ^ digits len
  pub within : s.middle < len
  pub newer : len ≤ s.middle + s.longest
  pub exact : (s.middle ≡ 1 → ⊥) → s.middle + s.longest ≡ len
