-- Promised: what a reader of a trace's text has read: whole records, and an unfinished line.
use Rattle.std.specs.Prelude.{◌≡◌, ℕ, ◌+◌, ◌≤◌, List, [], ◌++◌, length, Option, None, Some, Result, IfOk, IfErr}
use Rattle.std.specs.Option.{option_to_list}
use Rattle.dag.specs.declared.records.Version.{Version}
use Rattle.dag.specs.declared.records.Record.{Record}
use Rattle.dag.specs.Bounds.{most_records, longest_line}
use Rattle.trace.specs.Text.{header, ended, text, AllFit, IsOpen}
use Rattle.trace.specs.declared.faults.TextFault.{TextFault}
use Rattle.trace.specs.declared.reading.Taken.{Taken}

-- a reader: its limit on records, the version once the header has come, how many records it has given, the
-- bytes of the unfinished line, and the fault that it has met
pub record Reading : Type 0 where
  pub limit : ℕ
  pub version : Option Version
  pub count : ℕ
  pub rest : List ℕ
  pub fault : Option TextFault

abbrev pub at_first_byte : ℕ → Reading
at_first_byte limit = record { limit = limit; version = None; count = 0; rest = []; fault = None }

-- the bytes are the header, the lines of w and the rest; or the header hasn't come, and they are a rest of line 1
abbrev pub AreBytes : Option Version → List Record → List ℕ → List ℕ → Type 0
AreBytes (Some v) w rest bytes = bytes ≡ text v w ++ rest
AreBytes None w rest bytes = (w ≡ []) × (bytes ≡ rest)

-- the records w have lines in the version; before the header has come there are none
abbrev pub AllFitIn : Option Version → List Record → Type 0
AllFitIn (Some v) w = AllFit v w
AllFitIn None w = w ≡ []

-- the header has come, and the bytes are the text of w in its version
abbrev pub AreText : Option Version → List Record → List ℕ → Type 0
AreText (Some v) w bytes = bytes ≡ text v w
AreText None w bytes = ⊥

-- from these bytes the reader has given the records w, and has met no fault
pub record HasRead (w : List Record) (bytes : List ℕ) (s : Reading) : Type 0 where
  pub bytes_are : AreBytes s.version w s.rest bytes
  pub fits : AllFitIn s.version w
  pub unfinished : IsOpen s.rest
  pub count_is : s.count ≡ length w
  pub within : length w ≤ s.limit
  pub no_fault : s.fault ≡ None

-- how many bytes are held back: those of the header, and those of the unfinished line
abbrev pub header_length : Option Version → ℕ
header_length (Some v) = length (ended (header v))
header_length None = 0

abbrev pub held_back : Reading → ℕ
held_back s = header_length s.version + length s.rest

-- What a reader makes of the front of a piece that it uses. It holds back the bytes that aren't a record's, never more
-- than a line, and counts the records that it gives. It keeps a fault; the fault is of a line that has begun.
pub record HasReadFront (old new : Reading) (piece : List ℕ) (result : Result Taken TextFault) : Type 0 where
  pub used : IfOk result (λ t. t.used ≤ length piece)
  pub held_back : IfOk result (λ t. t.what ≡ None → held_back new ≡ held_back old + t.used)
  pub short : length new.rest ≤ longest_line
  pub limit : new.limit ≡ old.limit
  pub count : IfOk result (λ t. new.count ≡ old.count + length (option_to_list t.what))
  pub fault_count : IfErr result (λ _. new.count ≡ old.count)
  pub most : new.count ≤ most_records
  pub line : old.fault ≡ None → IfErr result (λ f. f.line ≤ old.count + 2)
  pub kept : IfErr result (λ f. new.fault ≡ Some f)

-- What a step of a reader makes of a piece. It uses a front of the piece, all of it if it gives no record.
pub record HasReadPiece (old new : Reading) (piece : List ℕ) (result : Result Taken TextFault) : Type 0 where
  pub front : HasReadFront old new piece result
  pub whole : IfOk result (λ t. t.what ≡ None → t.used ≡ length piece)
