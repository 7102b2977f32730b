-- Promised: what a detector has found in the records that came.
use Rattle.std.specs.Prelude.{◌≡◌, ◌≤◌, false, List, length}
use Rattle.dag.specs.declared.back.Back.{Back}
use Rattle.dag.specs.declared.records.Record.{Record}
use Rattle.dag.specs.declared.records.Placed.{Placed}
use Rattle.dag.specs.declared.part.Part.{Part}
use Rattle.dag.specs.Traces.{placed}
use Rattle.dag.specs.Parts.{records_of}
use Rattle.shadow.specs.Found.{found}
use Rattle.shadow.specs.SpBags.{SpBags, HasSeen}
use Rattle.collect.specs.Collected.{Collection, KeepsBest, races_of, fails}
use Rattle.detect_plain.specs.declared.detector.PlainDetector.{PlainDetector}

-- the records u were taken, and a collector was given exactly the races found in them
pub record HasDetected (u : List Placed) (s : SpBags) (kept : Collection) : Type 0 where
  pub seen : HasSeen u s
  pub given : List Back
  pub holds : KeepsBest given kept
  pub none_failed : fails given ≡ false
  pub races : races_of given ≡ found u

-- the detector has taken these records
abbrev pub HasFollowed : {S H : Type 0} → List Placed → PlainDetector S H → Type 0
HasFollowed u d = HasDetected u d.sp_bags d.collector

-- it has taken the records u as they came, numbered from 1
pub record HasSeenTrace {S H : Type 0} (u : List Record) (d : PlainDetector S H) : Type 0 where
  pub detected : HasFollowed (placed u) d
  pub last : d.sp_bags.last_place ≤ length u

-- it has taken what a part has of the records u
pub record HasSeenPart {S H : Type 0} (part : Part) (u : List Record) (d : PlainDetector S H) : Type 0 where
  pub detected : HasFollowed (records_of part (placed u)) d
  pub last : d.sp_bags.last_place ≤ length u
