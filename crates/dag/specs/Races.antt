-- Promised: races of a trace, the race that is reported of a location, and the report of a trace.
use Rattle.std.specs.Prelude.{◌≡◌, ℕ, suc, ◌<◌, ◌≤◌, ◌↔◌, List, map, Option, Some, None, ◌⊎◌, Contains}
use Rattle.std.specs.List.Sorted.{IsStrictlyIncreasing}
use Rattle.dag.specs.declared.records.Record.{Record}
use Rattle.dag.specs.declared.records.Record.TheVariants as records
use Rattle.dag.specs.declared.records.Kind.{Kind}
use Rattle.dag.specs.declared.records.Kind.TheVariants.{Read, Write}
use Rattle.dag.specs.Traces.{at}
use Rattle.dag.specs.Dag.{Leads, IsParallel}
use Rattle.dag.specs.Accesses.{RaceAt}

-- the record of an access
abbrev pub access : Kind → ℕ → Record
access Read l = records.Read l
access Write l = records.Write l

-- location l is accessed at place i, in this way
abbrev pub IsAccess : List Record → ℕ → ℕ → Kind → Type 0
IsAccess w l i k = at w i ≡ Some (access k l)

abbrev pub IsRead : List Record → ℕ → ℕ → Type 0
IsRead w l i = IsAccess w l i Read

abbrev pub IsWrite : List Record → ℕ → ℕ → Type 0
IsWrite w l i = IsAccess w l i Write

-- a place at which some location is accessed
abbrev pub IsAccessPlace : List Record → ℕ → Type 0
IsAccessPlace w i = (l : ℕ) × (IsRead w l i ⊎ IsWrite w l i)

-- two accesses of l, in trace order and parallel, at least one of them a write
pub record IsRace (w : List Record) (l i j : ℕ) : Type 0 where
  pub in_order : i < j
  pub first : IsRead w l i ⊎ IsWrite w l i
  pub second : IsRead w l j ⊎ IsWrite w l j
  pub one_writes : IsWrite w l i ⊎ IsWrite w l j
  pub parallel : IsParallel w i j

-- two accesses of the location race
abbrev pub HasRace : List Record → ℕ → Type 0
HasRace w l = (i : ℕ) × (j : ℕ) × IsRace w l i j

-- the least second place of a race on l
pub record IsSecond (w : List Record) (l j : ℕ) : Type 0 where
  pub race : (i : ℕ) × IsRace w l i j
  pub least : (h k : ℕ) → IsRace w l h k → j ≤ k

-- the last write of l before place j
pub record IsLastWrite (w : List Record) (l j i : ℕ) : Type 0 where
  pub before : i < j
  pub a_write : IsWrite w l i
  pub none_between : (k : ℕ) → i < k → k < j → IsWrite w l k → ⊥

-- The kept reader of l before a place: the first read, and then each later read to which a path leads
-- from the kept one. (A relation, so that no definition has to decide whether a path leads.)
pub data IsKeptReader (w : List Record) (l : ℕ) : ℕ → Option ℕ → Type 0 where
  nothing_yet : IsKeptReader w l 1 None
  no_read : {j : ℕ} {k : Option ℕ} → (IsRead w l j → ⊥) → IsKeptReader w l j k → IsKeptReader w l (suc j) k
  first_read : {j : ℕ} → IsRead w l j → IsKeptReader w l j None → IsKeptReader w l (suc j) (Some j)
  replaces : {j k : ℕ} → IsRead w l j → Leads w k j → IsKeptReader w l j (Some k) → IsKeptReader w l (suc j) (Some j)
  stays : {j k : ℕ} → IsRead w l j → (Leads w k j → ⊥) → IsKeptReader w l j (Some k) → IsKeptReader w l (suc j) (Some k)

-- The first place of the race that is reported, if its second place is j: the last write before j if that is parallel
-- to j, otherwise the kept reader before j.
pub data IsFirst (w : List Record) (l j : ℕ) : ℕ → Type 0 where
  last_write : {i : ℕ} → IsLastWrite w l j i → IsParallel w i j → IsFirst w l j i
  kept_reader : {i : ℕ} → ((k : ℕ) → IsLastWrite w l j k → IsParallel w k j → ⊥) → IsKeptReader w l j (Some i)
      → IsFirst w l j i

-- the race that is reported of its location, with the kinds of its accesses
pub record IsReported (w : List Record) (r : RaceAt) : Type 0 where
  pub second : IsSecond w r.location r.second.place
  pub first : IsFirst w r.location r.second.place r.first.place
  pub first_kind : IsAccess w r.location r.first.place r.first.kind
  pub second_kind : IsAccess w r.location r.second.place r.second.kind

-- the race of each racy location, by ascending location
pub record IsReport (w : List Record) (rs : List RaceAt) : Type 0 where
  pub ascending : IsStrictlyIncreasing (map (λ r. r.location) rs)
  pub exactly : (r : RaceAt) → Contains rs r ↔ IsReported w r
