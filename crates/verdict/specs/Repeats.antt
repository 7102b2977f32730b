-- Promised: which records are repeats, and what is left of a trace when some of them go.
use Rattle.std.specs.Prelude.{◌≡◌, ℕ, suc, ◌<◌, ◌⊎◌, Bool, false, if◌then◌else◌, List, [], ◌∷◌, length, take}
use Rattle.dag.specs.declared.records.Record.{Record}
use Rattle.dag.specs.Traces.{IsPlace}
use Rattle.dag.specs.Races.{IsAccessPlace, IsRead, IsWrite}

-- Record k is a repeat: an earlier record accesses the same location, only accesses stand between the two, and the
-- earlier one writes or k reads.
pub record IsRepeat (w : List Record) (k : ℕ) : Type 0 where
  pub location : ℕ
  pub earlier : ℕ
  pub before : earlier < k
  pub first : IsRead w location earlier ⊎ IsWrite w location earlier
  pub second : IsRead w location k ⊎ IsWrite w location k
  pub only_accesses : (m : ℕ) → earlier < m → m < k → IsAccessPlace w m
  pub covers : IsWrite w location earlier ⊎ IsRead w location k

-- each place that doesn't stay is a repeat
abbrev pub RepeatsGo : List Record → (ℕ → Bool) → Type 0
RepeatsGo w stays = (k : ℕ) → IsPlace w k → stays k ≡ false → IsRepeat w k

-- the records at the places that stay, if the first record has this place
abbrev pub rest_from : (ℕ → Bool) → ℕ → List Record → List Record
rest_from stays i [] = []
rest_from stays i (r ∷ w) = if stays i then r ∷ rest_from stays (suc i) w else rest_from stays (suc i) w

-- the records at the places that stay
abbrev pub rest : (ℕ → Bool) → List Record → List Record
rest stays w = rest_from stays 1 w

-- the place in the rest of the record at a place that stays
abbrev pub place_in_rest : (ℕ → Bool) → List Record → ℕ → ℕ
place_in_rest stays w k = length (rest stays (take k w))
