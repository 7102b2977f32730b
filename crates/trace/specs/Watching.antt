-- Promised: the records that a watcher was shown, and the one that comes after them.
use Rattle.std.specs.Prelude.{◌≡◌, ◌+◌, ◌≤◌, List, length}
use Rattle.dag.specs.declared.records.Record.{Record}
use Rattle.dag.specs.declared.records.Placed.{Placed}
use Rattle.dag.specs.Bounds.{most_records}

-- a record has the place behind the records u
pub record ComesAfter (u : List Record) (p : Placed) : Type 0 where
  pub place_is : p.place ≡ length u + 1
  pub to_limit : p.place ≤ most_records
