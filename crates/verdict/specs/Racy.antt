-- Promised: what is said of the accesses and races of a well nested trace.
use Rattle.std.specs.Prelude.{◌≡◌, ℕ, ◌<◌, ◌≤◌, ◌↔◌, List, map, Some, Contains}
use Rattle.std.specs.List.Sorted.{IsStrictlyIncreasing}
use Rattle.dag.specs.declared.records.Record.{Record}
use Rattle.dag.specs.Traces.{IsWellNested}
use Rattle.dag.specs.Dag.{Leads, IsParallel}
use Rattle.dag.specs.Accesses.{RaceAt}
use Rattle.dag.specs.Races.{IsAccessPlace, IsRead, IsKeptReader, IsReported}

-- of every trace that is well nested within some limits
abbrev pub OfWellNested : (List Record → Type 0) → Type 0
OfWellNested P = (w : List Record) (records depths : ℕ) → IsWellNested w records depths → P w

-- for three accesses in trace order: if the first and the second are parallel, and the second and the third are, then
-- the first and the third are
abbrev pub IsParallelThrough : List Record → Type 0
IsParallelThrough w = (i j k : ℕ) → i < j → j < k → IsAccessPlace w i → IsAccessPlace w j → IsAccessPlace w k
    → IsParallel w i j → IsParallel w j k → IsParallel w i k

-- if a path leads from the first to the second, and the first and the third are parallel, then the second and the
-- third are
abbrev pub IsParallelAfter : List Record → Type 0
IsParallelAfter w = (i j k : ℕ) → i < j → j < k → IsAccessPlace w i → IsAccessPlace w j → IsAccessPlace w k
    → Leads w i j → IsParallel w i k → IsParallel w j k

-- if any read of a location before an access is parallel to it, the kept reader is
abbrev pub KeepsParallelReader : List Record → Type 0
KeepsParallelReader w = (l i j : ℕ) → i < j → IsRead w l i → IsAccessPlace w j → IsParallel w i j
    → (k : ℕ) × IsKeptReader w l j (Some k) × IsParallel w k j

-- the races that are reported of the racy locations and whose second place is at most t, by their second places
pub record AreEarlyRaces (w : List Record) (t : ℕ) (rs : List RaceAt) : Type 0 where
  pub ascending : IsStrictlyIncreasing (map (λ r. r.second.place) rs)
  pub exactly : (r : RaceAt) → Contains rs r ↔ (IsReported w r × (r.second.place ≤ t))

-- a race of the list is of this location
abbrev pub HasLocation : List RaceAt → ℕ → Type 0
HasLocation rs l = (r : RaceAt) × Contains rs r × (r.location ≡ l)
