-- Promised: traces, which are lists of records whose places count from 1; depth, and what a well nested trace is.
use Rattle.std.specs.Prelude.{◌≡◌, ℕ, zero, suc, ◌-◌, ◌<◌, ◌≤◌, List, [], ◌∷◌}
use Rattle.std.specs.Prelude.{length, take, sum_by, slice_get, Option, Some, None}
use Rattle.dag.specs.declared.records.Record.{Record}
use Rattle.dag.specs.declared.records.Record.TheVariants.{Spawn, Call, Return, Sync, Read, Write}
use Rattle.dag.specs.declared.records.Placed.{Placed}

-- the record at a place
abbrev pub at : List Record → ℕ → Option Record
at w zero = None
at w (suc i) = slice_get w i

abbrev pub IsPlace : List Record → ℕ → Type 0
IsPlace w i = (1 ≤ i) × (i ≤ length w)

-- the records with their places; the first record has the given place
abbrev pub placed_from : ℕ → List Record → List Placed
placed_from i [] = []
placed_from i (r ∷ w) = record { place = i; what = r } ∷ placed_from (suc i) w

abbrev pub placed : List Record → List Placed
placed w = placed_from 1 w

-- how many procedures a record opens, and how many it closes
abbrev pub opens : Record → ℕ
opens Spawn = 1
opens Call = 1
opens Return = 0
opens Sync = 0
opens (Read l) = 0
opens (Write l) = 0

abbrev pub closes : Record → ℕ
closes Spawn = 0
closes Call = 0
closes Return = 1
closes Sync = 0
closes (Read l) = 0
closes (Write l) = 0

-- how deep the procedure lies that executes the record at a place: the spawns and calls at places below it,
-- less the returns at places below it
abbrev pub depth : List Record → ℕ → ℕ
depth w zero = 0
depth w (suc i) = sum_by opens (take i w) - sum_by closes (take i w)

-- the root returns at place i
pub record IsRootReturn (w : List Record) (i : ℕ) : Type 0 where
  pub a_return : at w i ≡ Some Return
  pub at_zero : depth w i ≡ 0

-- The trace has a record and no more than the limit; it ends with the root's return, which no other
-- place holds; and no place is deeper than the limit.
pub record IsWellNested (w : List Record) (records depths : ℕ) : Type 0 where
  pub some : 1 ≤ length w
  pub within : length w ≤ records
  pub last : IsRootReturn w (length w)
  pub no_earlier : (i : ℕ) → i < length w → IsRootReturn w i → ⊥
  pub not_too_deep : (i : ℕ) → IsPlace w i → depth w i ≤ depths
