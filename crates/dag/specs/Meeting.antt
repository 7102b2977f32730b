-- Promised: the procedure in which two places meet, and when its spawns and syncs leave them parallel.
-- A procedure is named by the place of the record that opened it, and the root by 0.
use Rattle.std.specs.Prelude.{◌≡◌, ℕ, zero, suc, ◌+◌, ◌<◌, ◌≤◌, Bool, true, false, ◌⊎◌}
use Rattle.std.specs.Prelude.{◌&&◌, nat_lt, nat_eq, List, Option, Some, None}
use Rattle.dag.specs.declared.records.Record.{Record}
use Rattle.dag.specs.declared.records.Record.TheVariants.{Spawn, Call, Return, Sync, Read, Write}
use Rattle.dag.specs.Traces.{at, depth}

-- the depth of the places that a procedure executes itself
abbrev pub level : List Record → ℕ → ℕ
level w zero = 0
level w (suc f) = suc (depth w (suc f))

-- a record that opens a procedure: a spawn or a call
abbrev pub Opens : Option Record → Type 0
Opens r = (r ≡ Some Spawn) ⊎ (r ≡ Some Call)

-- a procedure is opened at f
abbrev pub IsOpener : List Record → ℕ → Type 0
IsOpener w zero = Unit {0}
IsOpener w (suc f) = Opens (at w (suc f))

-- place i is in the part of the procedure that is opened at f
pub record Holds (w : List Record) (f i : ℕ) : Type 0 where
  pub opener : IsOpener w f
  pub after : f < i
  pub inside : (k : ℕ) → f < k → k ≤ i → level w f ≤ depth w k

-- the deepest procedure whose part holds both places
pub record IsMeeting (w : List Record) (i j m : ℕ) : Type 0 where
  pub first : Holds w m i
  pub second : Holds w m j
  pub deepest : (f : ℕ) → Holds w f i → Holds w f j → level w f ≤ level w m

-- procedure m executes place e itself
pub record IsOwn (w : List Record) (m e : ℕ) : Type 0 where
  pub held : Holds w m e
  pub on_level : depth w e ≡ level w m

-- procedure m opens a child at s
pub record IsChild (w : List Record) (m s : ℕ) : Type 0 where
  pub own : IsOwn w m s
  pub opens : Opens (at w s)

-- what place j is in procedure m: itself, or the record that opened the child that holds it
pub data IsStand (w : List Record) (m j : ℕ) : ℕ → Type 0 where
  itself : IsOwn w m j → IsStand w m j j
  in_child : {c : ℕ} → IsChild w m c → Holds w c j → IsStand w m j c

abbrev pub is_sync : Option Record → Bool
is_sync None = false
is_sync (Some Spawn) = false
is_sync (Some Call) = false
is_sync (Some Return) = false
is_sync (Some Sync) = true
is_sync (Some (Read l)) = false
is_sync (Some (Write l)) = false

abbrev pub one_if : Bool → ℕ
one_if true = 1
one_if false = 0

-- The block of a place e of procedure m: the number of syncs that m executes itself before e.
abbrev pub block : List Record → ℕ → ℕ → ℕ
block w m zero = 0
block w m (suc e) = block w m e + one_if (nat_lt m e && (nat_eq (depth w e) (level w m) && is_sync (at w e)))

-- Place i lies inside a child that m spawned, in the block of j's stand in m.
pub record InOneBlock (w : List Record) (m i j : ℕ) : Type 0 where
  pub spawned_at : ℕ
  pub stand : ℕ
  pub child : IsChild w m spawned_at
  pub a_spawn : at w spawned_at ≡ Some Spawn
  pub inside : Holds w spawned_at i
  pub of_second : IsStand w m j stand
  pub one_block : block w m spawned_at ≡ block w m stand

-- one number has the property, and no other
abbrev pub ExactlyOne : (ℕ → Type 0) → Type 0
ExactlyOne P = (m : ℕ) × P m × ((k : ℕ) → P k → k ≡ m)
