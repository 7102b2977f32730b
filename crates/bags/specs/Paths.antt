-- Promised: what the P-bags say of paths.
use Rattle.std.specs.Prelude.{◌≡◌, ℕ, suc, ◌≤◌, ◌↔◌, Bool, true, List, take, Some}
use Rattle.dag.specs.declared.records.Record.{Record}
use Rattle.dag.specs.declared.records.Record.TheVariants.{Return}
use Rattle.dag.specs.Traces.{at, placed, IsPlace, IsWellNested}
use Rattle.dag.specs.Dag.{JoinsAt, Leads}
use Rattle.bags.specs.Procedures.{Procedures, bags_after, procedure_at}

-- procedure p completed at place r
pub record IsCompletedAt (w : List Record) (p r : ℕ) : Type 0 where
  pub a_return : at w r ≡ Some Return
  pub its_own : p ≡ procedure_at w r

-- If s are the bags after the first t records of a well nested trace, and the next record is neither a sync nor a
-- return: the answer is true exactly if no path leads from p's return to the next record.
abbrev pub DecidesPaths : Procedures → ℕ → Bool → Type 0
DecidesPaths s p answer = (w : List Record) (n d t r : ℕ) → IsWellNested w n d → s ≡ bags_after (take t (placed w))
    → IsPlace w (suc t) → (JoinsAt w (suc t) → ⊥) → IsCompletedAt w p r → r ≤ t
    → (answer ≡ true) ↔ (Leads w r (suc t) → ⊥)
