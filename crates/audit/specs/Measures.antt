-- Promised: the measures of a trace.
use Rattle.std.specs.Prelude.{◌≡◌, ℕ, ◌≤◌, Bool, true, false, List, length, count_by}
use Rattle.dag.specs.declared.records.Record.{Record}
use Rattle.dag.specs.declared.records.Record.TheVariants.{Spawn, Call, Return, Sync, Read, Write}
use Rattle.dag.specs.Traces.{depth, IsPlace}
use Rattle.dag.specs.Dag.{IsPath}
use Rattle.audit.specs.declared.answers.Measure.{Measure}

-- a path has this number of places, and none has more
pub record IsSpan (w : List Record) (span : ℕ) : Type 0 where
  pub reached : (p : List ℕ) × IsPath w p × (length p ≡ span)
  pub most : (p : List ℕ) → IsPath w p → length p ≤ span

-- some place is so deep, and none is deeper
pub record IsGreatestDepth (w : List Record) (greatest : ℕ) : Type 0 where
  pub reached : (i : ℕ) × IsPlace w i × (depth w i ≡ greatest)
  pub most : (i : ℕ) → IsPlace w i → depth w i ≤ greatest

abbrev pub is_spawn : Record → Bool
is_spawn Spawn = true
is_spawn Call = false
is_spawn Return = false
is_spawn Sync = false
is_spawn (Read l) = false
is_spawn (Write l) = false

-- the numbers of a trace: how many records, how many of them on a longest path, how many spawns, how deep
pub record IsMeasure (w : List Record) (m : Measure) : Type 0 where
  pub work : m.work ≡ length w
  pub span : IsSpan w m.span
  pub spawns : m.spawns ≡ count_by is_spawn w
  pub depth : IsGreatestDepth w m.depth
