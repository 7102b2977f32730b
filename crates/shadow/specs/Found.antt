-- Promised: the races that the rules find in a list of placed records, and the verdict on a trace.
use Rattle.std.specs.Prelude.{ℕ, List, [], ◌∷◌, ◌++◌, Option, None, ◌==◌, nat_lt, if◌then◌else◌}
use Rattle.std.specs.Option.{option_to_list}
use Rattle.dag.specs.declared.records.Record.{Record}
use Rattle.dag.specs.declared.records.Record.TheVariants as records
use Rattle.dag.specs.declared.records.Kind.{Kind}
use Rattle.dag.specs.declared.records.Kind.TheVariants.{Read, Write}
use Rattle.dag.specs.declared.records.Placed.{Placed}
use Rattle.dag.specs.Traces.{placed}
use Rattle.dag.specs.Accesses.{RaceAt}
use Rattle.bags.specs.Procedures.{Procedures, at_start, event}
use Rattle.shadow.specs.Cells.{Cell, untouched, touched, race_at}

-- the bags, and what is kept of each location
pub record State : Type 0 where
  pub bags : Procedures
  pub kept : ℕ → Cell

abbrev pub state_at_start : State
state_at_start = record { bags = at_start; kept = λ _. untouched }

-- the cells with one of them changed
abbrev pub with_cell : ℕ → Cell → (ℕ → Cell) → ℕ → Cell
with_cell l c kept m = if m == l then c else kept m

-- an access touches its location, by the bags as they are; every other record moves the bags
abbrev pub after_access : State → ℕ → Kind → ℕ → State
after_access s l k place =
    record { bags = s.bags; kept = with_cell l (touched s.bags.active k place (s.kept l)) s.kept }

abbrev pub after_record : State → ℕ → Record → State
after_record s place (records.Read l) = after_access s l Read place
after_record s place (records.Write l) = after_access s l Write place
after_record s place records.Spawn = record { bags = event s.bags records.Spawn; kept = s.kept }
after_record s place records.Call = record { bags = event s.bags records.Call; kept = s.kept }
after_record s place records.Return = record { bags = event s.bags records.Return; kept = s.kept }
after_record s place records.Sync = record { bags = event s.bags records.Sync; kept = s.kept }

-- the race that is reported at a record
abbrev pub race_of : State → ℕ → Record → Option RaceAt
race_of s place (records.Read l) = race_at s.bags.active l Read place (s.kept l)
race_of s place (records.Write l) = race_at s.bags.active l Write place (s.kept l)
race_of s place records.Spawn = None
race_of s place records.Call = None
race_of s place records.Return = None
race_of s place records.Sync = None

-- the state after records, from a given one on
abbrev pub state_from : State → List Placed → State
state_from s [] = s
state_from s (p ∷ u) = state_from (after_record s p.place p.what) u

abbrev pub state_after : List Placed → State
state_after u = state_from state_at_start u

-- the reported races, by their second places
abbrev pub found_from : State → List Placed → List RaceAt
found_from s [] = []
found_from s (p ∷ u) = option_to_list (race_of s p.place p.what) ++ found_from (after_record s p.place p.what) u

abbrev pub found : List Placed → List RaceAt
found u = found_from state_at_start u

-- a race put into a list of races by ascending location
abbrev pub put_in : RaceAt → List RaceAt → List RaceAt
put_in r [] = r ∷ []
put_in r (s ∷ rs) = if nat_lt r.location s.location then r ∷ s ∷ rs else s ∷ put_in r rs

abbrev pub by_location : List RaceAt → List RaceAt
by_location [] = []
by_location (r ∷ rs) = put_in r (by_location rs)

-- the races that are reported of a trace, by ascending location
abbrev pub verdict : List Record → List RaceAt
verdict w = by_location (found (placed w))
