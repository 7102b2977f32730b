-- Private: what is kept of the first records of a trace, so as to list the races of one location.
use Rattle.std.specs.Prelude.{◌≡◌, ℕ, suc, ◌<◌, ◌≤◌, ◌↔◌, List, length, slice_get, Some, ◌⊎◌, Contains, AllPairs}
use Rattle.dag.specs.declared.records.Record.{Record}
use Rattle.dag.specs.declared.records.Access.{Access}
use Rattle.dag.specs.Traces.{depth}
use Rattle.dag.specs.Races.{IsAccess}
use Rattle.dag.specs.declared.records.Kind.{Kind}
use Rattle.audit.specs.declared.meetings.Meetings.{Meetings}
use Rattle.audit.specs.declared.location_races.KeptAccess.{KeptAccess}
use Rattle.audit.specs.declared.location_races.Pairing.{Pairing}
use Rattle.audit.specs.Following.{WhateverComes}
use Rattle.audit.specs.Meetings.{HasMet}
use Rattle.audit.specs.Pairs.{IsPair, IsBefore}

-- an access of the location among the first t places, with its depth
pub record IsKept (w : List Record) (l t : ℕ) (a : KeptAccess) : Type 0 where
  pub access : IsAccess w l a.access.place a.access.kind
  pub upto : a.access.place ≤ t
  pub at_depth : depth w a.access.place ≡ a.depth

-- a place is that of one of the first n accesses that are kept
abbrev pub IsAmong : ℕ → List KeptAccess → ℕ → Type 0
IsAmong n kept place = (k : ℕ) × (a : KeptAccess) × (k < n) × (slice_get kept k ≡ Some a) × (a.access.place ≡ place)

-- the accesses of the location among the first t places, in their order
pub record AreKept (w : List Record) (l t : ℕ) (kept : List KeptAccess) : Type 0 where
  pub each : (k : ℕ) (a : KeptAccess) → slice_get kept k ≡ Some a → IsKept w l t a
  pub all : (i : ℕ) (kind : Kind) → i ≤ t → IsAccess w l i kind → IsAmong (length kept) kept i
  pub ascending : (j k : ℕ) (a b : KeptAccess) → j < k → slice_get kept j ≡ Some a → slice_get kept k ≡ Some b
      → a.access.place < b.access.place

-- the races whose second place is among the first t
pub record ArePairsTo (w : List Record) (l t : ℕ) (pairs : List (Access × Access)) : Type 0 where
  pub ascending : AllPairs IsBefore pairs
  pub exactly : (p : Access × Access) → Contains pairs p ↔ (IsPair w l p × (p.1.place ≤ t))

-- these, and those of place t + 1 with the first n accesses that are kept
pub record ArePairsWith (w : List Record) (l t n : ℕ) (kept : List KeptAccess) (pairs : List (Access × Access))
    : Type 0 where
  pub ascending : AllPairs IsBefore pairs
  pub exactly : (p : Access × Access) → Contains pairs p
      ↔ (IsPair w l p × ((p.1.place ≤ t) ⊎ ((p.1.place ≡ suc t) × IsAmong n kept p.0.place)))

-- the races of an access with the first n that are kept were added
abbrev pub AddsPairs : Meetings → List KeptAccess → Access → ℕ → List (Access × Access) → List (Access × Access)
    → Type 0
AddsPairs m kept second n old new = (l : ℕ) (u : List Record) → HasMet m u → second.place ≡ suc (length u)
    → WhateverComes u (λ w. AreKept w l (length u) kept → IsAccess w l second.place second.kind
    → ArePairsTo w l (length u) old
    → ArePairsWith w l (length u) n kept new)

-- the records u were seen, whatever well nested trace begins with them
pub record HasPaired (location : ℕ) (u : List Record) (s : Pairing) : Type 0 where
  pub location_is : s.location ≡ location
  pub met : HasMet s.meetings u
  pub kept : WhateverComes u (λ w. AreKept w location (length u) s.kept.items)
  pub pairs : WhateverComes u (λ w. ArePairsTo w location (length u) s.pairs.items)
