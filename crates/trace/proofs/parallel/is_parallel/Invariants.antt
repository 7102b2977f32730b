use Rattle.std.proofs.Common.{◌+◌, ◌-◌, ◌≤◌}
use Rattle.trace.proofs.Walks.{Walks}
use Rattle.trace.proofs.parallel.is_parallel.Given as goal

-- what the walk knows after as many records as it has passed
abbrev pub invariant-loop-record : goal.invariant-loop-record
invariant-loop-record l = record {
  near : l.above ≤ l.record-index;
  earlier : l.shallow ≤ l.i;
  walked : Walks l.records l.i (l.i - 1 + l.record-index) l.above l.shallow l.pending;
}
