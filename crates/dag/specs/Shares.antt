-- Promised: a shard's share of a list of records.
use Rattle.std.specs.Prelude.{ℕ, ◌%◌, Bool, true, List, filter, ◌==◌}
use Rattle.dag.specs.declared.records.Record.{Record}
use Rattle.dag.specs.declared.records.Record.TheVariants.{Spawn, Call, Return, Sync, Read, Write}
use Rattle.dag.specs.declared.records.Placed.{Placed}

-- whether shard k of n gets a record: each gets the spawns, calls, returns and syncs, and shard l mod n
-- gets location l
abbrev pub goes : ℕ → ℕ → Record → Bool
goes k n Spawn = true
goes k n Call = true
goes k n Return = true
goes k n Sync = true
goes k n (Read l) = l % n == k
goes k n (Write l) = l % n == k

abbrev pub goes_placed : ℕ → ℕ → Placed → Bool
goes_placed k n p = goes k n p.what

abbrev pub share : ℕ → ℕ → List Placed → List Placed
share k n u = filter (goes_placed k n) u
