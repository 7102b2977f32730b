-- Private: what the detector does with a record.
use Rattle.std.specs.Prelude.{◌≡◌, List, [], ◌∷◌, ◌++◌}
use Rattle.dag.specs.declared.records.Placed.{Placed}
use Rattle.detect_plain.specs.Detected.{HasFollowed}
use Rattle.detect_plain.specs.declared.detector.PlainDetector.{PlainDetector}

-- it takes one record more
pub record TakesRecord {S H : Type 0} (p : Placed) (old new : PlainDetector S H) : Type 0 where
  pub detected : (u : List Placed) → HasFollowed u old → HasFollowed (u ++ p ∷ []) new
  pub last : new.sp_bags.last_place ≡ p.place
