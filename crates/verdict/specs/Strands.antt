-- Promised: strands, which records of a trace are needless, and when only the order within a strand is another.
use Rattle.std.specs.Prelude.{◌≡◌, ℕ, zero, suc, ◌⊎◌, Bool, true, false, List, ◌++◌}
use Rattle.std.specs.Prelude.{length, take, filter, All, IsPermutation}
use Rattle.dag.specs.declared.records.Record.{Record}
use Rattle.dag.specs.declared.records.Record.TheVariants.{Spawn, Call, Return, Sync, Read, Write}
use Rattle.dag.specs.Traces.{IsPlace}
use Rattle.dag.specs.Races.{IsRead, IsWrite}
use Rattle.verdict.specs.Repeats.{IsRepeat}

abbrev pub is_structure : Record → Bool
is_structure Spawn = true
is_structure Call = true
is_structure Return = true
is_structure Sync = true
is_structure (Read l) = false
is_structure (Write l) = false

-- The number of the strand that a place lies in: how many structure records stand before it.
abbrev pub strand_of : List Record → ℕ → ℕ
strand_of w zero = 0
strand_of w (suc i) = length (filter is_structure (take i w))

-- Record k reads a location that its strand also writes, before or after.
pub record IsCovered (w : List Record) (k : ℕ) : Type 0 where
  pub location : ℕ
  pub write : ℕ
  pub a_read : IsRead w location k
  pub a_write : IsWrite w location write
  pub one_strand : strand_of w write ≡ strand_of w k

-- Record k accesses a location that no other strand accesses.
pub record IsAlone (w : List Record) (k : ℕ) : Type 0 where
  pub location : ℕ
  pub an_access : IsRead w location k ⊎ IsWrite w location k
  pub one_strand : (j : ℕ) → IsRead w location j ⊎ IsWrite w location j → strand_of w j ≡ strand_of w k

-- each place that doesn't stay is a repeat, is covered or is alone
abbrev pub NeedlessGo : List Record → (ℕ → Bool) → Type 0
NeedlessGo w stays = (k : ℕ) → IsPlace w k → stays k ≡ false → IsRepeat w k ⊎ (IsCovered w k ⊎ IsAlone w k)

-- The records are the same, and in the same order but for some accesses of one strand.
pub record IsReordered (w v : List Record) : Type 0 where
  pub before : List Record
  pub strand : List Record
  pub other : List Record
  pub after : List Record
  pub accesses : All (λ r. is_structure r ≡ false) strand
  pub permuted : IsPermutation strand other
  pub was : w ≡ before ++ (strand ++ after)
  pub is : v ≡ before ++ (other ++ after)
