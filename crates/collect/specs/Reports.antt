-- Promised: the lists of races that a report holds.
use Rattle.std.specs.Prelude.{ℕ, ◌<◌, List, map, ◌^◌}
use Rattle.std.specs.List.{AllByRecursion}
use Rattle.std.specs.List.Sorted.{IsStrictlyIncreasing}
use Rattle.dag.specs.Accesses.{RaceAt, IsRaceShape}

abbrev pub locations : List RaceAt → List ℕ
locations rs = map (λ r. r.location) rs

-- a location that fits 64 bits, and two accesses as a race has them
pub record IsEntry (r : RaceAt) : Type 0 where
  pub fits : r.location < 2 ^ 64
  pub shape : IsRaceShape r.first r.second

-- the locations strictly ascend, and each race is one
pub record IsReportList (rs : List RaceAt) : Type 0 where
  pub ascending : IsStrictlyIncreasing (locations rs)
  pub entries : AllByRecursion IsEntry rs
