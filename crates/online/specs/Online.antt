-- Promised: what a detector of a run has taken, and when it needs memory.
use Rattle.std.specs.Prelude.{◌≡◌, ℕ, ◌+◌, ◌%◌, ◌^◌, ◌==◌, ◌<◌, ◌≤◌, ◌↔◌, ◌⊎◌, ⊤, Bool, true, false, if◌then◌else◌}
use Rattle.std.specs.Prelude.{List, [], ◌∷◌, ◌++◌, length, map, sum_by}
use Rattle.dag.specs.declared.back.Back.{Back}
use Rattle.dag.specs.declared.records.Record.{Record}
use Rattle.dag.specs.declared.records.Record.TheVariants.{Spawn, Call, Return, Sync, Read, Write}
use Rattle.dag.specs.declared.records.Placed.{Placed}
use Rattle.dag.specs.Accesses.{RaceAt}
use Rattle.dag.specs.Bounds.{most_records}
use Rattle.dag.specs.Traces.{placed, opens, closes}
use Rattle.trace.specs.Faults.{HasEnded}
use Rattle.shadow.specs.Cells.{Cell, untouched}
use Rattle.shadow.specs.Shadow.{Shadow, kept_of}
use Rattle.shadow.specs.Found.{state_after, found}
use Rattle.shadow.specs.SpBags.{SpBags}
use Rattle.collect.specs.Collected.{Collection, KeepsBest, races_of, fails}
use Rattle.blocks.specs.Blocks.{Blocks, kept_in_blocks}
use Rattle.online.specs.Lives.{named, at_home}

-- its bags with the shadow memory of odd locations, the shadow memory of even ones, the races that are kept for the
-- report, and whether a growth was refused
pub record Online : Type 0 where
  pub sp_bags : SpBags
  pub blocks : Blocks
  pub kept : Collection
  pub stopped : Bool

-- a growth was refused
abbrev pub IsStopped : Online → Type 0
IsStopped d = d.stopped ≡ true

-- what both shadow memories keep of a location
abbrev pub kept_in_both : Shadow → Blocks → ℕ → Cell
kept_in_both cells blocks l = if l % 2 == 1 then kept_of cells l else kept_in_blocks blocks l

-- it has taken these records, and the locations are now in these lives
pub record HasTakenPlaced (u : List Placed) (lives : ℕ → ℕ) (d : Online) : Type 0 where
  pub bags_are : d.sp_bags.bags ≡ (state_after u).bags
  -- what it keeps of a location is of the location's present life, and later lives have no access yet
  pub cells_are : (l : ℕ) → l < 2 ^ 64
      → kept_in_both d.sp_bags.shadow d.blocks l ≡ (state_after u).kept (named l (lives l))
  pub later : (l k : ℕ) → l < 2 ^ 64 → lives l < k → (state_after u).kept (named l k) ≡ untouched
  -- and a collector was given exactly the races found in them
  pub given : List Back
  pub holds : KeepsBest given d.kept
  pub none_failed : fails given ≡ false
  pub races : races_of given ≡ map at_home (found u)

-- as many procedures are active as were opened and not closed, the root among them
pub record IsActiveCount (u : List Record) (active : ℕ) : Type 0 where
  pub some : 1 ≤ active
  pub balance : active + sum_by closes u ≡ 1 + sum_by opens u

-- whether the root has returned, and how many procedures are active if it hasn't
pub record IsRunning (u : List Record) (ended : Bool) (active : ℕ) : Type 0 where
  pub by_return : (ended ≡ true) ↔ HasEnded u
  pub counted : ended ≡ false → IsActiveCount u active

-- the detector has taken the records u as they came, numbered from 1, no growth was refused, and the locations are now
-- in these lives
pub record IsAfter (u : List Record) (lives : ℕ → ℕ) (d : Online) : Type 0 where
  pub met : HasTakenPlaced (placed u) lives d
  pub last : d.sp_bags.last_place ≡ length u
  pub within : length u ≤ most_records
  pub runs : IsRunning u d.sp_bags.ended (length d.sp_bags.bags.active)
  pub going : d.stopped ≡ false

-- a record of its own kind at which memory may be wanted: a spawn, a call, any access of an even location, and the
-- first access of an odd one
abbrev pub IsOpening : List Placed → Record → Type 0
IsOpening u Spawn = ⊤
IsOpening u Call = ⊤
IsOpening u Return = ⊥
IsOpening u Sync = ⊥
IsOpening u (Read l) = (l % 2 ≡ 0) ⊎ ((state_after u).kept l ≡ untouched)
IsOpening u (Write l) = (l % 2 ≡ 0) ⊎ ((state_after u).kept l ≡ untouched)

-- the record p after u may need memory: it is of that kind, or it adds a race
abbrev pub WantsMemory : List Placed → Placed → Type 0
WantsMemory u p = IsOpening u p.what ⊎ ((r : RaceAt) × (found (u ++ p ∷ []) ≡ found u ++ r ∷ []))

-- the same of the record that follows u
abbrev pub MayWant : List Record → Record → Type 0
MayWant u what = WantsMemory (placed u) (record { place = length u + 1; what = what })
