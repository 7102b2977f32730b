-- Promised: the parts of a trace's locations; a program can search each for races by itself.
use Rattle.std.specs.Prelude.{ℕ, ◌+◌, ◌*◌, ◌/◌, ◌%◌, ◌==◌, List, filter, map}
use Rattle.dag.specs.declared.records.Record.{Record}
use Rattle.dag.specs.declared.records.Record.TheVariants.{Spawn, Call, Return, Sync, Read, Write}
use Rattle.dag.specs.declared.records.Placed.{Placed}
use Rattle.dag.specs.declared.part.Part.{Part}
use Rattle.dag.specs.Accesses.{RaceAt}
use Rattle.dag.specs.Shares.{share}

-- Part k of n has the locations l with l mod n = k, and numbers them from 0 in their order: location l has
-- the number l div n.
abbrev pub numbered : ℕ → Record → Record
numbered n Spawn = Spawn
numbered n Call = Call
numbered n Return = Return
numbered n Sync = Sync
numbered n (Read l) = Read (l / n)
numbered n (Write l) = Write (l / n)

abbrev pub numbered_at : ℕ → Placed → Placed
numbered_at n p = record { place = p.place; what = numbered n p.what }

-- the records of a part: all spawns, calls, returns and syncs, and the accesses of its locations by their numbers, each
-- at its place in the trace
abbrev pub records_of : Part → List Placed → List Placed
records_of part u = map (numbered_at part.count) (share part.index part.count u)

-- the location that has this number in a part
abbrev pub location_at : Part → ℕ → ℕ
location_at part number = number * part.count + part.index

-- the races of a part's locations
abbrev pub races_of_part : Part → List RaceAt → List RaceAt
races_of_part part races = filter (λ r. r.location % part.count == part.index) races
