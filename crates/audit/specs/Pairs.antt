-- Promised: the races of one location.
use Rattle.std.specs.Prelude.{◌≡◌, ℕ, ◌<◌, ◌↔◌, List, ◌⊎◌, Contains, AllPairs}
use Rattle.dag.specs.declared.records.Record.{Record}
use Rattle.dag.specs.declared.records.Access.{Access}
use Rattle.dag.specs.Races.{IsAccess, IsRace}

-- two accesses of the location that race, with their kinds
pub record IsPair (w : List Record) (l : ℕ) (p : Access × Access) : Type 0 where
  pub race : IsRace w l p.0.place p.1.place
  pub first_kind : IsAccess w l p.0.place p.0.kind
  pub second_kind : IsAccess w l p.1.place p.1.kind

-- by the second place, then by the first
abbrev pub IsBefore : Access × Access → Access × Access → Type 0
IsBefore p q = (p.1.place < q.1.place) ⊎ ((p.1.place ≡ q.1.place) × (p.0.place < q.0.place))

-- each race of the location once, in this order
pub record ArePairs (w : List Record) (l : ℕ) (pairs : List (Access × Access)) : Type 0 where
  pub ascending : AllPairs IsBefore pairs
  pub exactly : (p : Access × Access) → Contains pairs p ↔ IsPair w l p
