-- Promised: how many items a sender stages.
use Rattle.std.specs.Prelude.{ℕ, ◌/◌, max, min}
use Rattle.lane.specs.declared.giving.TheConstants.{LIST}

-- at most this number on a lane of this capacity: a quarter of the lane, so that some lists fill while others are
-- taken, and no more than a list has
abbrev pub most_staged : ℕ → ℕ
most_staged capacity = max (min (capacity / 4) LIST) 1
