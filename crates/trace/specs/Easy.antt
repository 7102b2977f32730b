-- Private: how a feed stands that reads its next records with no look at it.
use Rattle.std.specs.Prelude.{◌≡◌, ℕ, ◌+◌, ◌≤◌, [], None, is_some, IsTrue, ◌<◌, false}
use Rattle.dag.specs.Bounds.{most_records}
use Rattle.trace.specs.Nesting.{Nesting}
use Rattle.trace.specs.Reading.{Reading}
use Rattle.trace.specs.declared.intake.Ending.{Ending}
use Rattle.trace.specs.declared.intake.Ending.TheVariants.{Running}

-- the header has come, and no byte of a line that isn't ended
pub record IsBetweenLines (s : Reading) : Type 0 where
  pub begun : IsTrue (is_some s.version)
  pub nothing_held : s.rest ≡ []

-- So many records more are within the reader's limit. If there are any, it stands between two lines and has met no
-- fault.
pub record HasRoomFor (reading : Reading) (records : ℕ) : Type 0 where
  pub within : reading.count + records ≤ reading.limit
  pub limit : reading.limit ≤ most_records
  pub at_line : 0 < records → IsBetweenLines reading
  pub no_fault : 0 < records → reading.fault ≡ None

-- it hasn't ended, nor has the root returned, and its reader has room for so many records more
pub record IsEasy (reading : Reading) (nesting : Nesting) (ending : Ending) (records : ℕ) : Type 0 where
  pub running : ending ≡ Running
  pub not_ended : nesting.ended ≡ false
  pub room : HasRoomFor reading records
