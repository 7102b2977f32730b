-- Promised: what a source gave that should give the text of a report.
use Rattle.std.specs.Prelude.{◌≡◌, ℕ, ◌+◌, ◌≤◌, List, length, Some}
use Rattle.dag.specs.Accesses.{RaceAt}
use Rattle.trace.specs.Devices.{Change, Gave, IsUsedUp, IsSteady, HasFailed}
use Rattle.collect.specs.declared.readers.ReportFault.{ReportFault}
use Rattle.collect.specs.declared.readers.ReportFault.TheVariants as faults
use Rattle.collect.specs.Reports.{IsReportList}
use Rattle.collect.specs.ReportText.{rtext}
use Rattle.collect.specs.ReportFaults.{IsFirstBadLine}
use Rattle.collect.specs.declared.bounded.ReportRefusal.{ReportRefusal}
use Rattle.collect.specs.declared.bounded.ReportRefusal.TheVariants.{Read, TooLarge, Bad, NoMemory}

-- the most bytes that a report may have
abbrev pub most_report_bytes : ℕ
most_report_bytes = 67108864

-- these bytes are all that the source had
pub record GivesAll (c : Change) (bytes : List ℕ) : Type 0 where
  pub gave : Gave c bytes
  pub used_up : IsUsedUp c.new
  pub within : length bytes ≤ most_report_bytes
  pub steady : IsSteady c

-- the text of the entries is all that the source had
pub record GivesReport (c : Change) (entries : List RaceAt) : Type 0 where
  pub is_report : IsReportList entries
  pub gives : GivesAll c (rtext entries)

-- a source that shows its bytes and doesn't fail: they are the text of a report that isn't too large
pub record HoldsReport (c : Change) (entries : List RaceAt) : Type 0 where
  pub is_text : c.old.bytes ≡ Some (rtext entries)
  pub is_report : IsReportList entries
  pub within : length (rtext entries) ≤ most_report_bytes
  pub never_failed : HasFailed c → ⊥

-- What a refusal says of the bytes that came. `Read` comes only if the source failed within the bytes that a report
-- may have. `TooLarge` comes after one byte too many, and no more bytes were read.
abbrev pub IsCause : Change → ReportRefusal → Type 0
IsCause c Read = (came : List ℕ) × Gave c came × (length came ≤ most_report_bytes) × HasFailed c
IsCause c TooLarge = (came : List ℕ) × Gave c came × (length came ≡ most_report_bytes + 1)
IsCause c (Bad line) = (came : List ℕ) × GivesAll c came × IsFirstBadLine came line
IsCause c NoMemory = Unit {0}

-- Why there is no report. A source that holds one and doesn't fail is refused only for lack of memory.
pub record IsRefusal (c : Change) (refusal : ReportRefusal) : Type 0 where
  pub cause : IsCause c refusal
  pub honest : (entries : List RaceAt) → HoldsReport c entries → refusal ≡ NoMemory

-- the refusal of bytes that are no report's text
abbrev pub refusal_of : ReportFault → ReportRefusal
refusal_of (faults.Bad line) = Bad line
refusal_of faults.NoMemory = NoMemory
