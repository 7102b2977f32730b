-- Promised: the first fault of bytes that should be the text of a trace, within limits.
use Rattle.std.specs.Prelude.{◌≡◌, ◌≢◌, ℕ, suc, ◌+◌, ◌<◌, ◌≤◌, List, [], ◌∷◌, ◌++◌, length}
use Rattle.dag.specs.declared.records.Version.{Version}
use Rattle.dag.specs.declared.records.Record.{Record}
use Rattle.trace.specs.declared.faults.TextFault.{TextFault}
use Rattle.trace.specs.declared.faults.TextKind.TheVariants.{Header, Line, TooMany, Truncated}
use Rattle.trace.specs.declared.faults.NestFault.{NestFault}
use Rattle.trace.specs.declared.faults.NestKind.{NestKind}
use Rattle.trace.specs.declared.faults.NestKind.TheVariants.{AfterEnd, TooDeep, Unfinished}
use Rattle.trace.specs.declared.faults.Fault.{Fault}
use Rattle.trace.specs.declared.faults.Fault.TheVariants.{Text, Nest}
use Rattle.dag.specs.Traces.{IsPlace, IsRootReturn, depth, opens}
use Rattle.trace.specs.Text.{header, spell, Fits, AllFit, ended, line, text, IsUnended, IsOpen}

-- The bytes begin with a line that is judged: one that ends, or one that has 27 bytes.
-- (No line of a trace has more than 26 bytes, so 27 bytes that aren't a line never become one.)
pub data IsJudged : List ℕ → List ℕ → Type 0 where
  at_end : (body more : List ℕ) → IsUnended body → IsJudged (ended body ++ more) body
  at_length : (body more : List ℕ) → IsUnended body → length body ≡ 27 → IsJudged (body ++ more) body

-- it is the header of no version
abbrev pub IsNoHeader : List ℕ → Type 0
IsNoHeader body = (v : Version) → body ≢ header v

-- it spells no record of this version
abbrev pub IsNoRecord : Version → List ℕ → Type 0
IsNoRecord v body = (r : Record) → Fits v r → body ≢ spell r

-- The first faulty line among those that are judged. The lines before it are the header of a version v and w,
-- at most as many records as the limit. A line that is both bad and past the limit is bad.
pub data IsBadLine (records : ℕ) (bytes : List ℕ) : TextFault → Type 0 where
  bad_header : (body : List ℕ) → IsJudged bytes body → IsNoHeader body
      → IsBadLine records bytes (record { line = 1; kind = Header })
  bad_line : (v : Version) (w : List Record) (rest body : List ℕ) → AllFit v w → length w ≤ records
      → bytes ≡ text v w ++ rest
      → IsJudged rest body → IsNoRecord v body
      → IsBadLine records bytes (record { line = length w + 2; kind = Line })
  too_many : (v : Version) (w : List Record) (r : Record) (more : List ℕ) → AllFit v w → length w ≡ records → Fits v r
      → bytes ≡ text v w ++ (line r ++ more)
      → IsBadLine records bytes (record { line = length w + 2; kind = TooMany })

-- at the end of the bytes: a rest without a line end, or no header line
pub data IsTruncated (records : ℕ) (bytes : List ℕ) : TextFault → Type 0 where
  no_header : IsOpen bytes → IsTruncated records bytes (record { line = 1; kind = Truncated })
  no_line_end : (v : Version) (w : List Record) (rest : List ℕ) → AllFit v w → length w ≤ records
      → bytes ≡ text v w ++ rest
      → IsOpen rest → rest ≢ []
      → IsTruncated records bytes (record { line = length w + 2; kind = Truncated })

-- the root has returned
abbrev pub HasEnded : List Record → Type 0
HasEnded u = (i : ℕ) × IsPlace u i × IsRootReturn u i

-- what is wrong with a record after the records u: the root has returned, or else it opens a procedure
-- below the limit
pub data IsMisplaced (depths : ℕ) (u : List Record) (r : Record) : NestKind → Type 0 where
  after_end : HasEnded u → IsMisplaced depths u r AfterEnd
  too_deep : (HasEnded u → ⊥) → opens r ≡ 1 → depths ≤ depth u (suc (length u)) → IsMisplaced depths u r TooDeep

-- no record of these is misplaced
pub data AreNested (depths : ℕ) : List Record → Type 0 where
  none : AreNested depths []
  next : {u : List Record} {r : Record} → AreNested depths u → ((k : NestKind) → IsMisplaced depths u r k → ⊥)
      → AreNested depths (u ++ r ∷ [])

-- the first faulty place: the record there is misplaced, and none before it is
pub data IsBadPlace (depths : ℕ) (bytes : List ℕ) : NestFault → Type 0 where
  bad_place : (v : Version) (u : List Record) (r : Record) (more : List ℕ) (k : NestKind) → AllFit v u → Fits v r
      → bytes ≡ text v u ++ (line r ++ more) → AreNested depths u → IsMisplaced depths u r k
      → IsBadPlace depths bytes (record { place = length u + 1; kind = k })

-- The first fault of bytes after which others may come: the first faulty line or the first faulty place, whichever
-- comes first. The record at place p is on line p + 1; on the same line the faulty line comes first.
pub data IsFirstFault (records depths : ℕ) (bytes : List ℕ) : Fault → Type 0 where
  bad_line : (f : TextFault) → IsBadLine records bytes f
      → ((n : NestFault) → IsBadPlace depths bytes n → f.line ≤ n.place + 1)
      → IsFirstFault records depths bytes (Text f)
  bad_place : (n : NestFault) → IsBadPlace depths bytes n
      → ((f : TextFault) → IsBadLine records bytes f → n.place + 1 < f.line)
      → IsFirstFault records depths bytes (Nest n)

-- The first fault of bytes that have ended. A rest without a line end is a fault if nothing before it is; and the
-- last possible fault is that the root hasn't returned.
pub data IsFaultOfAll (records depths : ℕ) (bytes : List ℕ) : Fault → Type 0 where
  before_end : (f : Fault) → IsFirstFault records depths bytes f → IsFaultOfAll records depths bytes f
  truncated : (f : TextFault) → IsTruncated records bytes f → ((g : Fault) → IsFirstFault records depths bytes g → ⊥)
      → IsFaultOfAll records depths bytes (Text f)
  unfinished : (v : Version) (w : List Record) → AllFit v w → length w ≤ records → bytes ≡ text v w
      → AreNested depths w → (HasEnded w → ⊥)
      → IsFaultOfAll records depths bytes (Nest (record { place = length w + 1; kind = Unfinished }))
