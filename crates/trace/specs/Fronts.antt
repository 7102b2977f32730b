-- Private: what stands at the front of a piece of a trace's text.
use Rattle.std.specs.Prelude.{◌≡◌, ℕ, ◌≤◌, List, length, take, None, Result, Ok, Err}
use Rattle.dag.specs.declared.records.Version.{Version}
use Rattle.trace.specs.declared.faults.TextFault.{TextFault}
use Rattle.trace.specs.declared.front.Front.{Front}
use Rattle.trace.specs.declared.reading.Taken.{Taken}
use Rattle.trace.specs.Text.{line, Fits}

-- the line of this record, whole, in this version
pub record IsFront (v : Version) (piece : List ℕ) (f : Front) : Type 0 where
  pub within : f.used ≤ length piece
  pub is_line : take f.used piece ≡ line f.record
  pub fits : Fits v f.record

-- what was used of a piece, as what a step takes that gives no record
abbrev pub without_record : Result ℕ TextFault → Result Taken TextFault
without_record (Ok n) = Ok (record { used = n; what = None })
without_record (Err f) = Err f
