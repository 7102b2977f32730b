-- Private: what measuring keeps of the first records of a trace: the longest paths in each active procedure.
use Rattle.std.specs.Prelude.{◌≡◌, ◌≢◌, ℕ, suc, ◌+◌, ◌<◌, ◌≤◌, max, Bool, true, false, List, [], ◌∷◌, ◌++◌, length}
use Rattle.std.specs.Prelude.{count_by, slice_get, Some, ◌⊎◌}
use Rattle.dag.specs.declared.records.Record.{Record}
use Rattle.dag.specs.declared.records.Record.TheVariants.{Spawn, Call, Return, Sync, Read, Write}
use Rattle.dag.specs.Traces.{at, depth, IsPlace}
use Rattle.dag.specs.Dag.{IsOpenerOf, JoinsAt, IsPath, end_of}
use Rattle.dag.specs.Meeting.{Opens}
use Rattle.audit.specs.declared.measures.Longest.{Longest}
use Rattle.audit.specs.declared.measures.Suspended.{Suspended}
use Rattle.audit.specs.declared.measures.Measuring.{Measuring}
use Rattle.audit.specs.Measures.{is_spawn}
use Rattle.audit.specs.Following.{WhateverComes}

-- a path of so many places ends at a place
pub record PathTo (w : List Record) (x j : ℕ) : Type 0 where
  pub first : ℕ
  pub rest : List ℕ
  pub path : IsPath w (first ∷ rest)
  pub ends : end_of first rest ≡ j
  pub count : length (first ∷ rest) ≡ x

-- the longest path to a place has so many places
pub record IsLongestTo (w : List Record) (j x : ℕ) : Type 0 where
  pub reached : PathTo w x j
  pub most : (y : ℕ) → PathTo w y j → y ≤ x

-- of the first t places, the last one that the active procedure at depth d executed itself, and the longest path to it
pub record LastOn (w : List Record) (t d x : ℕ) : Type 0 where
  pub last : ℕ
  pub place : IsPlace w last
  pub upto : last ≤ t
  pub level : depth w last ≡ d
  pub goes_on : at w last ≢ Some Return
  pub deeper : (k : ℕ) → last < k → k ≤ t → d < depth w k
  pub longest : IsLongestTo w last x

-- at r a procedure returns that was opened by such a record
pub record IsReturnOf (w : List Record) (what : Record) (r : ℕ) : Type 0 where
  pub a_return : at w r ≡ Some Return
  pub opener : ℕ
  pub opened : IsOpenerOf w opener r
  pub record_is : at w opener ≡ Some what

-- the longest path to the place from which an edge leads on at depth d: the procedure's own last place, the record that
-- opened it, or the return of a child that it called; 0 at the start, where there is none
pub data LeadsOn (w : List Record) (t d : ℕ) : ℕ → Type 0 where
  at_start : t ≡ 0 → LeadsOn w t d 0
  own : {x : ℕ} → LastOn w t d x → (IsReturnOf w Call t → ⊥) → LeadsOn w t d x
  opened : {x : ℕ} → Opens (at w t) → suc (depth w t) ≡ d → IsLongestTo w t x → LeadsOn w t d x
  came_back : {x : ℕ} → IsReturnOf w Call t → depth w t ≡ suc d → IsLongestTo w t x → LeadsOn w t d x

-- at r a child returned that a procedure at depth d spawned, and up to place t the procedure hasn't waited for it
pub record IsUnjoinedReturn (w : List Record) (t d r : ℕ) : Type 0 where
  pub upto : r ≤ t
  pub returned : IsReturnOf w Spawn r
  pub level : depth w r ≡ suc d
  pub not_yet : (k : ℕ) → r < k → k ≤ t → depth w k ≡ d → JoinsAt w k → ⊥

-- the longest path to such a return; 0 where there is none
pub record IsLongestUnjoined (w : List Record) (t d x : ℕ) : Type 0 where
  pub most : (r y : ℕ) → IsUnjoinedReturn w t d r → PathTo w y r → y ≤ x
  pub reached : (x ≡ 0) ⊎ ((r : ℕ) × IsUnjoinedReturn w t d r × PathTo w x r)

-- the record that opened the child, by whether it was called
abbrev pub opened_by : Bool → Record
opened_by true = Call
opened_by false = Spawn

-- after t records f waits at depth d: its last own place is the record that opened the child
pub record IsSuspended (w : List Record) (t d : ℕ) (f : Suspended) : Type 0 where
  pub own : LastOn w t d f.longest.own
  pub opener : at w own.last ≡ Some (opened_by f.calls)
  pub unjoined : IsLongestUnjoined w t d f.longest.unjoined

-- the active procedures before place t + 1, with their longest paths; those that wait stand by their depths
pub record AreLongest (w : List Record) (t : ℕ) (executing : Longest) (suspended : List Suspended) : Type 0 where
  pub level : length suspended ≡ depth w (suc t)
  pub own : LeadsOn w t (depth w (suc t)) executing.own
  pub unjoined : IsLongestUnjoined w t (depth w (suc t)) executing.unjoined
  pub waits : (k : ℕ) (f : Suspended) → slice_get suspended k ≡ Some f → IsSuspended w t k f

-- no path to the first t places is longer
pub record IsSpanTo (w : List Record) (t span : ℕ) : Type 0 where
  pub most : (j x : ℕ) → j ≤ t → PathTo w x j → x ≤ span
  pub reached : ((t ≡ 0) × (span ≡ 0)) ⊎ ((j : ℕ) × PathTo w span j)

-- none of the first t places is deeper
pub record IsDepthTo (w : List Record) (t greatest : ℕ) : Type 0 where
  pub most : (i : ℕ) → i ≤ t → depth w i ≤ greatest
  pub reached : ((t ≡ 0) × (greatest ≡ 0)) ⊎ ((i : ℕ) × IsPlace w i × (depth w i ≡ greatest))

-- after the first t records of a well nested trace
pub record HasMeasuredTo (w : List Record) (t : ℕ) (m : Measuring) : Type 0 where
  pub span : IsSpanTo w t m.span
  pub depth : IsDepthTo w t m.depth
  pub active : suc t ≤ length w → AreLongest w t m.executing m.suspended.items

-- paths to the first n places have no more places
pub record IsWithin (n : ℕ) (f : Longest) : Type 0 where
  pub own : f.own ≤ n
  pub unjoined : f.unjoined ≤ n

-- the records u were measured: whatever well nested trace begins with them
pub record HasMeasured (m : Measuring) (u : List Record) : Type 0 where
  pub work : m.work ≡ length u
  pub spawns : m.spawns ≡ count_by is_spawn u
  pub executing : IsWithin (length u) m.executing
  pub suspended : (k : ℕ) (f : Suspended) → slice_get m.suspended.items k ≡ Some f → IsWithin (length u) f.longest
  pub measured : WhateverComes u (λ w. HasMeasuredTo w (length u) m)

-- the longest path to the next record of a procedure: a record that waits for children comes after their returns too
abbrev pub through : Longest → Record → ℕ
through f Spawn = f.own + 1
through f Call = f.own + 1
through f Return = max f.own f.unjoined + 1
through f Sync = max f.own f.unjoined + 1
through f (Read l) = f.own + 1
through f (Write l) = f.own + 1

-- the longest paths of a procedure whose child returns, by a return to which the longest path has x places: it goes on
-- from the return of a child that it called, and has yet to wait for one that it spawned
abbrev pub after_child : ℕ → Bool → Longest → Longest
after_child x true f = record { own = x; unjoined = f.unjoined }
after_child x false f = record { own = f.own; unjoined = max f.unjoined x }

-- what becomes of the longest paths at a record to which the longest path has x places
abbrev pub Advances : ℕ → Record → Longest → List Suspended → Longest → List Suspended → Type 0
Advances x Spawn e suspended e' suspended' = (e' ≡ record { own = x; unjoined = 0 })
    × (suspended' ≡ suspended ++ record { longest = record { own = x; unjoined = e.unjoined }; calls = false } ∷ [])
Advances x Call e suspended e' suspended' = (e' ≡ record { own = x; unjoined = 0 })
    × (suspended' ≡ suspended ++ record { longest = record { own = x; unjoined = e.unjoined }; calls = true } ∷ [])
Advances x Return e suspended e' suspended' = ((suspended ≡ []) × (suspended' ≡ []) × (e' ≡ e))
    ⊎ ((f : Suspended) × (suspended ≡ suspended' ++ f ∷ []) × (e' ≡ after_child x f.calls f.longest))
Advances x Sync e suspended e' suspended' = (e' ≡ record { own = x; unjoined = 0 }) × (suspended' ≡ suspended)
Advances x (Read l) e suspended e' suspended' = (e' ≡ record { own = x; unjoined = e.unjoined })
    × (suspended' ≡ suspended)
Advances x (Write l) e suspended e' suspended' = (e' ≡ record { own = x; unjoined = e.unjoined })
    × (suspended' ≡ suspended)
