-- Promised: what a session has taken or gives.
use Rattle.std.specs.Prelude.{◌≡◌, ◌≢◌, ℕ, ◌+◌, ◌<◌, ◌≤◌, ◌/◌, ◌%◌, ◌↔◌, ◌⊎◌, List, [], ◌∷◌, ◌++◌, length, map}
use Rattle.std.specs.Prelude.{slice_index_or}
use Rattle.std.specs.Int.RustNames.{count_ones}
use Rattle.dag.specs.Accesses.{RaceAt}
use Rattle.dag.specs.Bounds.{most_records}
use Rattle.trace.specs.Faults.{HasEnded}
use Rattle.dag.specs.Traces.{placed, IsWellNested}
use Rattle.dag.specs.declared.records.Record.{Record}
use Rattle.dag.specs.declared.records.Record.TheVariants.{Spawn, Call, Return, Sync, Read, Write}
use Rattle.shadow.specs.Found.{found, by_location, verdict}
use Rattle.collect.specs.ReportText.{rtext}
use Rattle.verdict.specs.Racy.{HasLocation}
use Rattle.verdict.specs.Reported.{IsReportOf}
use Rattle.online.specs.Accesses.{block_records}
use Rattle.online.specs.Lives.{in_life, first_lives, lives_after, AreOfFirstLives, IsReportOfLives, HasRacyLife}
use Rattle.online.specs.Lives.{IsRaceCount}
use Rattle.online.specs.Online.{IsAfter, MayWant}
use Rattle.inside.specs.declared.session.Session.{Session}
use Rattle.inside.specs.declared.session.Session.TheVariants.{Taking, Giving, Stopped}

-- what step and report answer
abbrev pub taken : ℕ
taken = 0

abbrev pub after_end : ℕ
after_end = 1

abbrev pub too_many : ℕ
too_many = 2

abbrev pub no_memory : ℕ
no_memory = 3

abbrev pub unknown_kind : ℕ
unknown_kind = 4

abbrev pub given : ℕ
given = 5

-- what next answers in place of a byte: that the text is at its end, and that there is no text
abbrev pub at_end : ℕ
at_end = 256

abbrev pub no_text : ℕ
no_text = 257

-- the record that C names by this number and this location
abbrev pub IsNamed : ℕ → ℕ → Record → Type 0
IsNamed kind location Spawn = kind ≡ 0
IsNamed kind location Call = kind ≡ 1
IsNamed kind location Return = kind ≡ 2
IsNamed kind location Sync = kind ≡ 3
IsNamed kind location (Read l) = (kind ≡ 4) × (l ≡ location)
IsNamed kind location (Write l) = (kind ≡ 5) × (l ≡ location)

-- it has taken the records u as they came, no growth was refused, and the locations are now in these lives
abbrev pub HasTaken : List Record → (ℕ → ℕ) → Session → Type 0
HasTaken u lives (Taking d _) = IsAfter u lives d
HasTaken u lives (Giving _ _) = ⊥
HasTaken u lives Stopped = ⊥

-- it has given this many bytes of this text
abbrev pub HasGiven : List ℕ → ℕ → Session → Type 0
HasGiven text count (Taking _ _) = ⊥
HasGiven text count (Giving t n) = (t.items ≡ text) × (n ≡ count)
HasGiven text count Stopped = ⊥

-- the text of the report of the records u, where each location has one life
abbrev pub report_text : List Record → List ℕ
report_text u = rtext (by_location (found (placed u)))

-- The text is that of the report of all lives. If the records are well nested, it has exactly the locations one of
-- whose lives has a race by the dag. If no location was accessed again after it was forgotten, it is the verdict, and
-- so of well nested records the report by the dag.
pub record IsTextOfLives (u : List Record) (text : List ℕ) : Type 0 where
  pub races : List RaceAt
  pub spelled : text ≡ rtext races
  pub of_lives : IsReportOfLives (placed u) races
  pub racy : (records depths : ℕ) → IsWellNested u records depths → (l : ℕ) → HasLocation races l ↔ HasRacyLife u l
  pub once : AreOfFirstLives u → races ≡ verdict u
  pub report : (records depths : ℕ) → AreOfFirstLives u → IsWellNested u records depths → IsReportOf u races

-- What a step does, from one session to the next.
pub record HasStepped (before : Session) (kind location : ℕ) (after : Session) (status : ℕ) : Type 0 where
  -- it took the record that came
  pub took : status ≡ taken → (u : List Record) (lives : ℕ → ℕ) (what : Record) → HasTaken u lives before
      → IsNamed kind location what → HasTaken (u ++ in_life lives what ∷ []) lives after
  pub named : status ≡ taken → kind < 6
  -- a record that it doesn't take changes nothing, but for a refused growth, which stops it for good
  pub unchanged : status ≢ taken → status ≢ no_memory → after ≡ before
  pub stops : status ≡ no_memory → after ≡ Stopped
  pub stopped : before ≡ Stopped → status ≡ no_memory
  pub ended : status ≡ after_end → (u : List Record) (lives : ℕ → ℕ) → HasTaken u lives before → HasEnded u
  pub many : status ≡ too_many → (u : List Record) (lives : ℕ → ℕ) → HasTaken u lives before → length u ≡ most_records
  pub unknown : status ≡ unknown_kind → 5 < kind
  -- and no record that it could take is refused so; memory may be refused only to a record that may need some
  pub is_unknown : 5 < kind → (u : List Record) (lives : ℕ → ℕ) → HasTaken u lives before → status ≡ unknown_kind
  pub is_full : kind < 6 → (u : List Record) (lives : ℕ → ℕ) → HasTaken u lives before → length u ≡ most_records
      → status ≡ too_many
  pub is_ended : kind < 6 → (u : List Record) (lives : ℕ → ℕ) → HasTaken u lives before → HasEnded u
      → length u < most_records → status ≡ after_end
  pub want : status ≡ no_memory → (u : List Record) (lives : ℕ → ℕ) (what : Record) → HasTaken u lives before
      → IsNamed kind location what → MayWant u (in_life lives what)
  -- it answers so after the report was made, and only then
  pub giving : (text : List ℕ) (count : ℕ) → HasGiven text count before → status ≡ given
  pub taking : (u : List Record) (lives : ℕ → ℕ) → HasTaken u lives before → status ≢ given
  pub within : status < 6

-- the kind and the location of a record in one number
abbrev pub unpacked : ℕ → ℕ × ℕ
unpacked r = (r % 8, r / 8)

-- What the steps of records of these kinds and locations do in turn, up to the first that isn't taken, if any: its
-- status is that of all.
abbrev pub HaveStepped : Session → List (ℕ × ℕ) → Session → ℕ → Type 0
HaveStepped before [] after status = (after ≡ before) × (status ≡ taken)
HaveStepped before (r ∷ rs) after status = (between : Session) × (s : ℕ) × HasStepped before r.0 r.1 between s
    × (((s ≡ taken) × HaveStepped between rs after status) ⊎ ((s ≢ taken) × (after ≡ between) × (status ≡ s)))

-- What the call does that takes accesses to units of a block, where `status` is as for a step.
pub record HasTakenBlock (before : Session) (location reads writes : ℕ) (after : Session) (status : ℕ) : Type 0 where
  -- it took them all
  pub took : status ≡ taken → (u : List Record) (lives : ℕ → ℕ) → HasTaken u lives before
      → HasTaken (u ++ map (in_life lives) (block_records location reads writes)) lives after
  -- or none of them, which changes nothing, but for a refused growth, which stops it for good
  pub unchanged : status ≢ taken → status ≢ no_memory → after ≡ before
  pub stops : status ≡ no_memory → after ≡ Stopped
  pub stopped : before ≡ Stopped → status ≡ no_memory
  pub ended : status ≡ after_end → (u : List Record) (lives : ℕ → ℕ) → HasTaken u lives before → HasEnded u
  pub many : status ≡ too_many → (u : List Record) (lives : ℕ → ℕ) → HasTaken u lives before
      → most_records < length u + (count_ones reads + count_ones writes)
  -- and none that it could take is refused so; memory may be refused only to accesses
  pub is_full : (u : List Record) (lives : ℕ → ℕ) → HasTaken u lives before
      → most_records < length u + (count_ones reads + count_ones writes) → status ≡ too_many
  pub is_ended : (u : List Record) (lives : ℕ → ℕ) → HasTaken u lives before → HasEnded u
      → length u + (count_ones reads + count_ones writes) ≤ most_records → status ≡ after_end
  pub want : status ≡ no_memory → (u : List Record) (lives : ℕ → ℕ) → HasTaken u lives before
      → (reads ≢ 0) ⊎ (writes ≢ 0)
  -- it answers so after the report was made, and only then
  pub giving : (text : List ℕ) (count : ℕ) → HasGiven text count before → status ≡ given
  pub taking : (u : List Record) (lives : ℕ → ℕ) → HasTaken u lives before → status ≢ given
  pub known : status ≢ unknown_kind
  pub within : status < 6

-- What the call does that begins a new life for units of a block, where `status` is as for a step.
pub record HasForgotten (before : Session) (location units : ℕ) (after : Session) (status : ℕ) : Type 0 where
  pub forgot : status ≡ taken → (u : List Record) (lives : ℕ → ℕ) → HasTaken u lives before
      → HasTaken u (lives_after location units lives) after
  pub unchanged : status ≢ taken → after ≡ before
  pub stopped : before ≡ Stopped → status ≡ no_memory
  pub giving : (text : List ℕ) (count : ℕ) → HasGiven text count before → status ≡ given
  pub taking : (u : List Record) (lives : ℕ → ℕ) → HasTaken u lives before → status ≡ taken

-- What the call answers that counts the locations that have raced.
pub record HasCounted (session : Session) (answer : ℕ) : Type 0 where
  pub counted : (u : List Record) (lives : ℕ → ℕ) → HasTaken u lives session → IsRaceCount u answer
  -- a session that takes no records any more counts none
  pub giving : (text : List ℕ) (count : ℕ) → HasGiven text count session → answer ≡ 0
  pub stopped : session ≡ Stopped → answer ≡ 0

-- What the call does that makes the text of the report.
pub record HasReported (before after : Session) (status : ℕ) : Type 0 where
  pub text : status ≡ taken → (u : List Record) (lives : ℕ → ℕ) → HasTaken u lives before
      → (t : List ℕ) × IsTextOfLives u t × HasGiven t 0 after
  -- where nothing was forgotten, it is the text of the verdict
  pub first : status ≡ taken → (u : List Record) → HasTaken u first_lives before → HasGiven (report_text u) 0 after
  pub unchanged : status ≡ given → after ≡ before
  pub stops : status ≢ taken → status ≢ given → (status ≡ no_memory) × (after ≡ Stopped)
  pub stopped : before ≡ Stopped → status ≡ no_memory
  pub giving : (text : List ℕ) (count : ℕ) → HasGiven text count before → status ≡ given
  pub taking : (u : List Record) (lives : ℕ → ℕ) → HasTaken u lives before → status ≢ given

-- What the call does that gives the next byte.
pub record HasNext (before after : Session) (answer : ℕ) : Type 0 where
  pub byte : (text : List ℕ) (count : ℕ) → HasGiven text count before → count < length text
      → (answer ≡ slice_index_or text count 0) × HasGiven text (count + 1) after
  pub end : (text : List ℕ) (count : ℕ) → HasGiven text count before → length text ≤ count
      → (answer ≡ at_end) × HasGiven text count after
  pub none : (u : List Record) (lives : ℕ → ℕ) → HasTaken u lives before
      → (answer ≡ no_text) × HasTaken u lives after
  pub stopped : before ≡ Stopped → (answer ≡ no_text) × (after ≡ Stopped)
