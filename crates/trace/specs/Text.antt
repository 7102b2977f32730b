-- Promised: the text of a trace: a header line, which names the version, and a line for each record.
use Rattle.std.specs.Prelude.{◌≢◌, ℕ, ◌<◌, ◌≤◌, ◌^◌, List, [], ◌∷◌, ◌++◌, length, All, codes, decimal}
use Rattle.std.specs.List.{flat_map, AllByRecursion}
use Rattle.dag.specs.declared.records.Version.{Version}
use Rattle.dag.specs.declared.records.Version.TheVariants.{One, Two}
use Rattle.dag.specs.declared.records.Record.{Record}
use Rattle.dag.specs.declared.records.Record.TheVariants.{Spawn, Call, Return, Sync, Read, Write}
use Rattle.dag.specs.Bounds.{longest_line}

-- the byte that ends a line
abbrev pub newline : ℕ
newline = 10

abbrev pub header : Version → List ℕ
header One = codes "trace 1"
header Two = codes "trace 2"

-- a version as its header names it
abbrev pub number : Version → ℕ
number One = 1
number Two = 2

-- a record as it is spelled
abbrev pub spell : Record → List ℕ
spell Spawn = codes "spawn"
spell Call = codes "call"
spell Return = codes "return"
spell Sync = codes "sync"
spell (Read l) = codes "read " ++ decimal l
spell (Write l) = codes "write " ++ decimal l

-- the version has a line for calls
abbrev pub HasCalls : Version → Type 0
HasCalls One = ⊥
HasCalls Two = Unit {0}

-- what has a line in a version: a call if the version has calls, and a location that fits 64 bits
abbrev pub Fits : Version → Record → Type 0
Fits v Spawn = Unit {0}
Fits v Call = HasCalls v
Fits v Return = Unit {0}
Fits v Sync = Unit {0}
Fits v (Read l) = l < 2 ^ 64
Fits v (Write l) = l < 2 ^ 64

abbrev pub AllFit : Version → List Record → Type 0
AllFit v w = AllByRecursion (Fits v) w

-- the text of a line, and the byte that ends it
abbrev pub ended : List ℕ → List ℕ
ended body = body ++ newline ∷ []

abbrev pub line : Record → List ℕ
line r = ended (spell r)

-- the one text of a trace in a version
abbrev pub text : Version → List Record → List ℕ
text v w = ended (header v) ++ flat_map line w

-- nothing here ends a line
abbrev pub IsUnended : List ℕ → Type 0
IsUnended bytes = All (λ b. b ≢ newline) bytes

-- an unfinished line that isn't judged yet: no line end, and no more bytes than the longest line has
pub record IsOpen (rest : List ℕ) : Type 0 where
  pub unended : IsUnended rest
  pub short : length rest ≤ longest_line
