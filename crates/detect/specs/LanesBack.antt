-- Private: how what came over the lanes back may go on.
use Rattle.std.specs.Prelude.{◌≡◌, ℕ, true, List, [], map, slice_index_or, vec_len}
use Rattle.lane.specs.Items.{has_mark}
use Rattle.lane.specs.Lanes.{LaneId}
use Rattle.detect.specs.declared.gathering.Gathering.{Gathering}
use Rattle.detect.specs.Gathered.{given_by, Gathers}

abbrev pub back_lanes : Gathering → List LaneId
back_lanes g = map (λ t. t.lane) g.backs.items

-- the mark of lane k came
abbrev pub HasBackMark : Gathering → ℕ → Type 0
HasBackMark g k = has_mark (slice_index_or (given_by g.backs.items) k []) ≡ true

-- the collector was given all that came, unless a growth was refused
abbrev pub IsGathered : Gathering → Type 0
IsGathered g = Gathers (given_by g.backs.items) g.collector

-- more was taken, of the same lanes
pub record IsFurther (old new : Gathering) : Type 0 where
  pub count : vec_len new.backs ≡ vec_len old.backs
  pub lanes : back_lanes new ≡ back_lanes old
  pub gathers : IsGathered old → IsGathered new
  pub marks : (k : ℕ) → HasBackMark old k → HasBackMark new k
