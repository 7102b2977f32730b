-- Promised: what a nest keeps of the records that it has accepted.
use Rattle.std.specs.Prelude.{◌≡◌, ℕ, suc, Bool, false, List, length, ◌↔◌, IsTrue}
use Rattle.dag.specs.declared.records.Record.{Record}
use Rattle.dag.specs.Traces.{depth}
use Rattle.trace.specs.Faults.{AreNested, HasEnded}

-- the limit on depth, how many records were accepted, how deep the executing procedure lies, and whether
-- the root has returned
pub record Nesting : Type 0 where
  pub max_depth : ℕ
  pub count : ℕ
  pub depth : ℕ
  pub ended : Bool

abbrev pub at_first_place : ℕ → Nesting
at_first_place limit = record { max_depth = limit; count = 0; depth = 0; ended = false }

-- the records u were accepted
pub record HasNested (u : List Record) (n : Nesting) : Type 0 where
  pub nested : AreNested n.max_depth u
  pub count_is : n.count ≡ length u
  pub depth_is : n.depth ≡ depth u (suc (length u))
  pub ended_is : IsTrue n.ended ↔ HasEnded u
