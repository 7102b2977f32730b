-- Promised: the SP-bags algorithm after the records of a run: the bags, and what is kept of each location.
use Rattle.std.specs.Prelude.{◌≡◌, ℕ, ◌<◌, ◌≤◌, ◌==◌, ◌||◌, Bool, false, List, length}
use Rattle.dag.specs.Bounds.{most_records}
use Rattle.dag.specs.declared.records.Record.{Record}
use Rattle.dag.specs.declared.records.Record.TheVariants.{Spawn, Call, Return, Sync, Read, Write}
use Rattle.dag.specs.declared.records.Placed.{Placed}
use Rattle.bags.specs.Procedures.{Procedures}
use Rattle.shadow.specs.Cells.{untouched}
use Rattle.shadow.specs.Found.{State, state_at_start, state_after, after_record, with_cell}
use Rattle.shadow.specs.Shadow.{Shadow, IsSameShadow, kept_of, last_place_of, least_count_of}

-- the bags, the shadow memory, the place of the last record, and whether the root has returned
pub record SpBags : Type 0 where
  pub bags : Procedures
  pub shadow : Shadow
  pub last_place : ℕ
  pub ended : Bool

abbrev pub state_with : Procedures → Shadow → State
state_with bags m = record { bags = bags; kept = kept_of m }

-- the bags, and what is kept of each location
abbrev pub state_of : SpBags → State
state_of s = state_with s.bags s.shadow

-- the records u were taken
abbrev pub HasSeen : List Placed → SpBags → Type 0
HasSeen u s = state_of s ≡ state_after u

-- no location was touched
pub record IsBlank (m : Shadow) : Type 0 where
  pub kept : (l : ℕ) → kept_of m l ≡ untouched
  pub last_place : last_place_of m ≡ 0
  pub least_count : least_count_of m ≡ 1

-- no record was taken
pub record IsAtStart (s : SpBags) : Type 0 where
  pub state : state_of s ≡ state_at_start
  pub last_place : s.last_place ≡ 0
  pub running : s.ended ≡ false

-- a record may come at this place
pub record Accepts (s : SpBags) (place : ℕ) : Type 0 where
  pub later : s.last_place < place
  pub to_limit : place ≤ most_records
  pub running : s.ended ≡ false

-- the root's return is the return while only the root is active
abbrev pub is_root_return : Procedures → Record → Bool
is_root_return s Return = length s.active == 1
is_root_return s Spawn = false
is_root_return s Call = false
is_root_return s Sync = false
is_root_return s (Read l) = false
is_root_return s (Write l) = false

-- one record more was taken
pub record HasApplied (p : Placed) (old new : SpBags) : Type 0 where
  pub state : state_of new ≡ after_record (state_of old) p.place p.what
  pub last_place : new.last_place ≡ p.place
  pub ended : new.ended ≡ (old.ended || is_root_return old.bags p.what)

-- nothing changed
pub record IsSameRun (old new : SpBags) : Type 0 where
  pub bags : new.bags ≡ old.bags
  pub shadow : IsSameShadow old.shadow new.shadow
  pub last_place : new.last_place ≡ old.last_place
  pub ended : new.ended ≡ old.ended

-- nothing is kept of the location, and nothing else changed
pub record ForgetsLocation (location : ℕ) (old new : SpBags) : Type 0 where
  pub bags : new.bags ≡ old.bags
  pub kept : (l : ℕ) → kept_of new.shadow l ≡ with_cell location untouched (kept_of old.shadow) l
  pub last_place : new.last_place ≡ old.last_place
  pub ended : new.ended ≡ old.ended

-- a record at which memory may be wanted: a spawn, a call, or the first access of a location
abbrev pub MayGrow : Shadow → Record → Type 0
MayGrow m Spawn = Unit {0}
MayGrow m Call = Unit {0}
MayGrow m Return = ⊥
MayGrow m Sync = ⊥
MayGrow m (Read l) = kept_of m l ≡ untouched
MayGrow m (Write l) = kept_of m l ≡ untouched

-- the bags and the shadow memory may take a record at this place
pub record AreReadyFor (bags : Procedures) (m : Shadow) (place : ℕ) : Type 0 where
  pub later : last_place_of m < place
  pub no_fewer : least_count_of m ≤ bags.count
  pub numbered : bags.count ≤ place
