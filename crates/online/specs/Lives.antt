-- Promised: the lives of locations, and what is reported of them.
use Rattle.std.specs.Prelude.{◌≡◌, ℕ, ◌+◌, ◌*◌, ◌%◌, ◌^◌, ◌<◌, ◌↔◌, ⊤, List, ◌++◌, length, map, replicate, All}
use Rattle.std.specs.Prelude.{if◌then◌else◌}
use Rattle.dag.specs.declared.records.Record.{Record}
use Rattle.dag.specs.declared.records.Record.TheVariants.{Spawn, Call, Return, Sync, Read, Write}
use Rattle.dag.specs.declared.records.Placed.{Placed}
use Rattle.dag.specs.Accesses.{RaceAt}
use Rattle.dag.specs.Races.{HasRace}
use Rattle.dag.specs.Traces.{placed, IsWellNested}
use Rattle.shadow.specs.Found.{found}
use Rattle.collect.specs.Collected.{race_on, best}
use Rattle.collect.specs.Reports.{IsReportList}
use Rattle.blocks.specs.Blocks.{is_unit}
use Rattle.verdict.specs.Racy.{HasLocation}

-- A life of a location is a location of its own in the records: life k of location l has the name l + 2^64 * k.
abbrev pub named : ℕ → ℕ → ℕ
named l k = l + 2 ^ 64 * k

-- a record, where each location is in the life that `lives` gives it
abbrev pub in_life : (ℕ → ℕ) → Record → Record
in_life lives Spawn = Spawn
in_life lives Call = Call
in_life lives Return = Return
in_life lives Sync = Sync
in_life lives (Read l) = Read (named l (lives l))
in_life lives (Write l) = Write (named l (lives l))

-- the first life of each location
abbrev pub first_lives : ℕ → ℕ
first_lives l = 0

-- the lives after these units of the location's block were forgotten: each of them is in its next one
abbrev pub lives_after : ℕ → ℕ → (ℕ → ℕ) → ℕ → ℕ
lives_after location units lives l = if is_unit location units l then lives l + 1 else lives l

-- the record accesses no location, or one in its first life
abbrev pub IsOfFirstLife : Record → Type 0
IsOfFirstLife Spawn = ⊤
IsOfFirstLife Call = ⊤
IsOfFirstLife Return = ⊤
IsOfFirstLife Sync = ⊤
IsOfFirstLife (Read l) = l < 2 ^ 64
IsOfFirstLife (Write l) = l < 2 ^ 64

-- no location was accessed again after it was forgotten
abbrev pub AreOfFirstLives : List Record → Type 0
AreOfFirstLives u = All IsOfFirstLife u

-- the location of a name
abbrev pub home : ℕ → ℕ
home x = x % 2 ^ 64

-- a race of a life, as a race of its location
abbrev pub at_home : RaceAt → RaceAt
at_home r = record { location = home r.location; first = r.first; second = r.second }

-- a life of the location has a race
abbrev pub HasRacyLife : List Record → ℕ → Type 0
HasRacyLife u l = (x : ℕ) × (home x ≡ l) × HasRace u x

-- The report of all lives: for each location that raced in any life, the race with the least second place among them.
pub record IsReportOfLives (u : List Placed) (races : List RaceAt) : Type 0 where
  pub ascending : IsReportList races
  pub best_on : (l : ℕ) → race_on l races ≡ best l (map at_home (found u))

-- So many locations are in the report of all lives of these records. If the procedures that are still open return now,
-- and the records are well nested then, these are exactly the locations one of whose lives has a race.
pub record IsRaceCount (u : List Record) (count : ℕ) : Type 0 where
  pub races : List RaceAt
  pub counted : count ≡ length races
  pub of_lives : IsReportOfLives (placed u) races
  pub racy : (returns records depths : ℕ) → IsWellNested (u ++ replicate returns Return) records depths
      → (l : ℕ) → HasLocation races l ↔ HasRacyLife (u ++ replicate returns Return) l
