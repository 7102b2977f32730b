-- Promised: shadow memory: what is kept of each location, and how far the run has come.
use Rattle.std.specs.Prelude.{◌≡◌, ℕ, List, slice_index_or}
use Rattle.shadow.specs.Cells.{Cell, untouched}

-- what is kept of each location, by its number, the place of the last touch, and the count of its bags
pub record Shadow : Type 0 where
  pub kept : List Cell
  pub last_place : ℕ
  pub least_count : ℕ

-- what is kept of a location
abbrev pub kept_of : Shadow → ℕ → Cell
kept_of m l = slice_index_or m.kept l untouched

abbrev pub last_place_of : Shadow → ℕ
last_place_of m = m.last_place

abbrev pub least_count_of : Shadow → ℕ
least_count_of m = m.least_count

-- nothing changed
pub record IsSameShadow (old new : Shadow) : Type 0 where
  pub kept : (l : ℕ) → kept_of new l ≡ kept_of old l
  pub last_place : last_place_of new ≡ last_place_of old
  pub least_count : least_count_of new ≡ least_count_of old
