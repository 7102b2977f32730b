-- Private: how the detector follows placed records, and the accesses of a strand to a block.
use Rattle.std.specs.Prelude.{◌≡◌, ◌≢◌, ◌↔◌, ℕ, ◌+◌, ◌%◌, ◌^◌, ◌<◌, ◌≤◌, ◌||◌, ⊤, true, false, if◌then◌else◌}
use Rattle.std.specs.Prelude.{List, [], ◌∷◌, ◌++◌, map, Result, Err, OnOk}
use Rattle.std.specs.Int.RustNames.{count_ones}
use Rattle.dag.specs.declared.records.Kind.TheVariants as kinds
use Rattle.dag.specs.declared.records.Record.{Record}
use Rattle.dag.specs.declared.records.Record.TheVariants.{Spawn, Call, Return, Sync, Read, Write}
use Rattle.dag.specs.declared.records.Placed.{Placed}
use Rattle.dag.specs.Bounds.{most_records}
use Rattle.shadow.specs.Cells.{untouched}
use Rattle.shadow.specs.Shadow.{kept_of}
use Rattle.shadow.specs.SpBags.{SpBags, is_root_return}
use Rattle.blocks.specs.Blocks.{is_unit, Blocks, next_place_of, count_of_blocks}
use Rattle.online.specs.Lives.{in_life}
use Rattle.online.specs.Accesses.{accesses}
use Rattle.online.specs.Online.{Online, HasTakenPlaced, WantsMemory}
use Rattle.online.specs.declared.detector.Refusal.{Refusal}
use Rattle.online.specs.declared.detector.Refusal.TheVariants.{AfterEnd, TooMany, NoMemory}

-- the blocks may take accesses behind the last record
pub record AreBehind (blocks : Blocks) (s : SpBags) : Type 0 where
  pub next_place : next_place_of blocks ≤ s.last_place + 1
  pub known : count_of_blocks blocks ≤ s.bags.count

-- so many records may come, or why not
pub record IsAdmission (count : ℕ) (d : Online) (result : Result (Unit {0}) Refusal) : Type 0 where
  pub ok : OnOk result
      ((d.stopped ≡ false) × (d.sp_bags.ended ≡ false) × (d.sp_bags.last_place + count ≤ most_records))
  pub no_memory : (result ≡ Err NoMemory) ↔ (d.stopped ≡ true)
  pub too_many : (result ≡ Err TooMany) ↔ ((d.stopped ≡ false) × (most_records < d.sp_bags.last_place + count))
  pub after_end : (result ≡ Err AfterEnd)
      ↔ ((d.stopped ≡ false) × (d.sp_bags.ended ≡ true) × (d.sp_bags.last_place + count ≤ most_records))

-- the placed record, of a location in its present life
abbrev pub placed_in_life : (ℕ → ℕ) → Placed → Placed
placed_in_life lives p = record { place = p.place; what = in_life lives p.what }

-- it took these placed records, each of a location in its present life
abbrev pub TakesPlaced : List Placed → Online → Online → Type 0
TakesPlaced v old new = (u : List Placed) (lives : ℕ → ℕ) → HasTakenPlaced u lives old
    → HasTakenPlaced (u ++ map (placed_in_life lives) v) lives new

-- the reads and then the writes of a block, at the places from one on
abbrev pub block_accesses : ℕ → ℕ → ℕ → ℕ → List Placed
block_accesses location place reads writes =
    accesses location kinds.Read place reads ++ accesses location kinds.Write (place + count_ones reads) writes

-- it took the record at the next place
pub record HasFollowedNext (what : Record) (old new : Online) : Type 0 where
  pub met : TakesPlaced (record { place = old.sp_bags.last_place + 1; what = what } ∷ []) old new
  pub last : new.sp_bags.last_place ≡ old.sp_bags.last_place + 1
  pub ended : new.sp_bags.ended ≡ (old.sp_bags.ended || is_root_return old.sp_bags.bags what)
  pub going : new.stopped ≡ old.stopped

-- the record may need memory at the next place
abbrev pub Wants : Record → Online → Type 0
Wants what d = (u : List Placed) (lives : ℕ → ℕ) → HasTakenPlaced u lives d
    → WantsMemory u (record { place = d.sp_bags.last_place + 1; what = in_life lives what })

-- the record is no access to an even location
abbrev pub IsApart : Record → Type 0
IsApart Spawn = ⊤
IsApart Call = ⊤
IsApart Return = ⊤
IsApart Sync = ⊤
IsApart (Read l) = (l % 2 ≢ 0) × (l < 2 ^ 64)
IsApart (Write l) = (l % 2 ≢ 0) × (l < 2 ^ 64)

-- no procedure began or ended, and no growth was noted as refused
pub record HasOnlyAccessed (old new : Online) : Type 0 where
  pub bags : new.sp_bags.bags ≡ old.sp_bags.bags
  pub ended : new.sp_bags.ended ≡ old.sp_bags.ended
  pub going : new.stopped ≡ old.stopped

-- nothing is kept of these units of a block, and nothing else changed
pub record HasForgottenUnits (first units : ℕ) (old new : SpBags) : Type 0 where
  pub bags : new.bags ≡ old.bags
  pub kept : (l : ℕ) → kept_of new.shadow l ≡ (if is_unit first units l then untouched else kept_of old.shadow l)
  pub last_place : new.last_place ≡ old.last_place
  pub ended : new.ended ≡ old.ended
