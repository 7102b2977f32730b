-- Promised: the S-bag and the P-bag of each active procedure, by the rules of SP-bags.
use Rattle.std.specs.Prelude.{ℕ, zero, suc, ◌+◌, Bool, true, false, if◌then◌else◌, List, [], ◌∷◌, take, refl}
use Rattle.std.specs.List.{list_any}
use Rattle.std.specs.Ordering.{nat_cmp}
use Rattle.std.specs.FinSet as set
use Rattle.std.specs.Coded.{Coded, code_by, coded×, coded_ℕ, coded_bool, coded_list}
use Rattle.dag.specs.declared.records.Record.{Record}
use Rattle.dag.specs.declared.records.Record.TheVariants.{Spawn, Call, Return, Sync, Read, Write}
use Rattle.dag.specs.declared.records.Placed.{Placed}
use Rattle.dag.specs.Traces.{placed}

-- a set of procedures; procedures are numbered by their spawns and calls, and the root is 0
abbrev pub Bag : Type 0
Bag = set.FinSet nat_cmp

-- an active procedure: its number, whether it was called and not spawned, and the completed descendants that it keeps,
-- itself among the serial ones
pub record Active : Type 0 where
  pub own : ℕ
  pub is_called : Bool
  pub serial : Bag
  pub parallel : Bag

-- the procedures so far: their number, and the active ones; the first of these executes, and each next one is the
-- parent of the one before it
pub record Procedures : Type 0 where
  pub count : ℕ
  pub active : List Active

-- a spawn or a call makes its procedure's bags: S = {F}, P = {}
abbrev pub opened : Bool → ℕ → Active
opened is_called f = record { own = f; is_called = is_called; serial = set.insert set.empty f; parallel = set.empty }

-- a sync: S = S + P, P = {}
abbrev pub synced : Active → Active
synced f = record { own = f.own; is_called = f.is_called; serial = set.union f.serial f.parallel; parallel = set.empty }

-- the parent f takes in its child g, which returns: g syncs; then P of f = P of f + S of g if g was spawned, and S of
-- f = S of f + S of g if it was called
abbrev pub adopts : Active → Active → Active
adopts f g = record {
  own = f.own;
  is_called = f.is_called;
  serial = if g.is_called then set.union f.serial (synced g).serial else f.serial;
  parallel = if g.is_called then f.parallel else set.union f.parallel (synced g).serial;
}

-- what a sync of the executing procedure leaves of the active ones
abbrev pub after_sync : List Active → List Active
after_sync [] = []
after_sync (f ∷ fs) = synced f ∷ fs

-- what a return of the executing procedure leaves of the active ones; the root's return changes nothing
abbrev pub after_return : List Active → List Active
after_return [] = []
after_return (f ∷ []) = f ∷ []
after_return (g ∷ f ∷ fs) = adopts f g ∷ fs

-- the executing procedure spawns or calls a child, which executes from here on
abbrev pub entered : Procedures → Bool → Procedures
entered s is_called = record { count = s.count + 1; active = opened is_called s.count ∷ s.active }

-- the rule of each record
abbrev pub event : Procedures → Record → Procedures
event s Spawn = entered s false
event s Call = entered s true
event s Return = record { count = s.count; active = after_return s.active }
event s Sync = record { count = s.count; active = after_sync s.active }
event s (Read l) = s
event s (Write l) = s

-- at the start the root alone is active
abbrev pub at_start : Procedures
at_start = record { count = 1; active = opened false 0 ∷ [] }

-- the bags after records, from given ones on
abbrev pub bags_from : Procedures → List Placed → Procedures
bags_from s [] = s
bags_from s (p ∷ u) = bags_from (event s p.what) u

-- the bags after the records u
abbrev pub bags_after : List Placed → Procedures
bags_after u = bags_from at_start u

-- whether a procedure stands in a P-bag
abbrev pub in_p : List Active → ℕ → Bool
in_p fs p = list_any (λ f. set.contains f.parallel p) fs

-- the executing procedure
abbrev pub current : List Active → ℕ
current [] = 0
current (f ∷ fs) = f.own

-- the procedure that executes the record at a place
abbrev pub procedure_at : List Record → ℕ → ℕ
procedure_at w zero = 0
procedure_at w (suc t) = current (bags_after (take t (placed w))).active

abbrev pub coded_active : Coded Active
coded_active = code_by (ℕ × (Bool × (Bag × Bag)))
    (coded× coded_ℕ (coded× coded_bool (coded× (set.code coded_ℕ) (set.code coded_ℕ))))
    (λ f. (f.own, (f.is_called, (f.serial, f.parallel))))
    (λ c. record { own = c.0; is_called = c.1.0; serial = c.1.1.0; parallel = c.1.1.1 })
    (λ _. refl)

abbrev pub coded_procedures : Coded Procedures
coded_procedures = code_by (ℕ × List Active) (coded× coded_ℕ (coded_list coded_active))
    (λ s. (s.count, s.active)) (λ c. record { count = c.0; active = c.1 }) (λ _. refl)
