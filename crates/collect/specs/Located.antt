-- Promised: races whose locations are their numbers in a part, and the same races at their locations.
use Rattle.std.specs.Prelude.{◌<◌, ◌^◌, List}
use Rattle.std.specs.List.{AllByRecursion}
use Rattle.dag.specs.declared.part.Part.{Part}
use Rattle.dag.specs.Accesses.{RaceAt}
use Rattle.dag.specs.Parts.{location_at}

-- a race by its location's number in the part, at that location
abbrev pub located_at : Part → RaceAt → RaceAt
located_at part r = record { location = location_at part r.location; first = r.first; second = r.second }

-- each number is that of a location that fits 64 bits
abbrev pub HaveLocations : Part → List RaceAt → Type 0
HaveLocations part rs = AllByRecursion (λ r. location_at part r.location < 2 ^ 64) rs
