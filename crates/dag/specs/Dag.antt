-- Promised: the dag of a trace: its edges and paths, and which places are parallel.
use Rattle.std.specs.Prelude.{◌≡◌, ◌≢◌, ℕ, ◌+◌, ◌<◌, ◌≤◌, ◌↔◌, List, [], ◌∷◌, Some, ◌⊎◌}
use Rattle.dag.specs.declared.records.Record.{Record}
use Rattle.dag.specs.declared.records.Record.TheVariants.{Spawn, Call, Return, Sync}
use Rattle.dag.specs.Traces.{at, depth, IsPlace}

-- a procedure goes on from place i to its next place j: its children's places between are deeper
pub record IsContinuation (w : List Record) (i j : ℕ) : Type 0 where
  pub no_return : at w i ≢ Some Return
  pub same_depth : depth w j ≡ depth w i
  pub deeper_between : (k : ℕ) → i < k → k < j → depth w i < depth w k

-- from a spawn to the child's first place
pub record IsSpawn (w : List Record) (i j : ℕ) : Type 0 where
  pub a_spawn : at w i ≡ Some Spawn
  pub next : j ≡ i + 1

-- from a call to the called procedure's first place
pub record IsCall (w : List Record) (i j : ℕ) : Type 0 where
  pub a_call : at w i ≡ Some Call
  pub next : j ≡ i + 1

-- the record at o opened the procedure that returns at r: it is the last earlier one that is one less deep
pub record IsOpenerOf (w : List Record) (o r : ℕ) : Type 0 where
  pub before : o < r
  pub above : depth w r ≡ depth w o + 1
  pub last : (k : ℕ) → o < k → k < r → depth w k ≢ depth w o

-- from a called procedure's return to the next place
pub record IsComeback (w : List Record) (i j : ℕ) : Type 0 where
  pub a_return : at w i ≡ Some Return
  pub opener : ℕ
  pub opened : IsOpenerOf w opener i
  pub a_call : at w opener ≡ Some Call
  pub next : j ≡ i + 1

-- a place that waits for the procedure's children; a return does, since it implies a sync
abbrev pub JoinsAt : List Record → ℕ → Type 0
JoinsAt w j = (at w j ≡ Some Sync) ⊎ (at w j ≡ Some Return)

-- from a spawned child's return to the first later place of its parent that waits for it
pub record IsJoin (w : List Record) (i j : ℕ) : Type 0 where
  pub a_return : at w i ≡ Some Return
  pub opener : ℕ
  pub opened : IsOpenerOf w opener i
  pub a_spawn : at w opener ≡ Some Spawn
  pub above : depth w i ≡ depth w j + 1
  pub joins : JoinsAt w j
  pub first : (k : ℕ) → i < k → k < j → depth w k ≡ depth w j → JoinsAt w k → ⊥

pub data Edge (w : List Record) (i j : ℕ) : Type 0 where
  continuation : IsPlace w i → IsPlace w j → i < j → IsContinuation w i j → Edge w i j
  spawn : IsPlace w i → IsPlace w j → i < j → IsSpawn w i j → Edge w i j
  call : IsPlace w i → IsPlace w j → i < j → IsCall w i j → Edge w i j
  comes_back : IsPlace w i → IsPlace w j → i < j → IsComeback w i j → Edge w i j
  join : IsPlace w i → IsPlace w j → i < j → IsJoin w i j → Edge w i j

-- places; an edge leads from each to the next one; one place alone is a path
abbrev pub IsPath : List Record → List ℕ → Type 0
IsPath w [] = ⊥
IsPath w (i ∷ []) = IsPlace w i
IsPath w (i ∷ j ∷ p) = Edge w i j × IsPath w (j ∷ p)

-- the last place of i ∷ p
abbrev pub end_of : ℕ → List ℕ → ℕ
end_of i [] = i
end_of i (j ∷ p) = end_of j p

-- a path leads from i to j
abbrev pub Leads : List Record → ℕ → ℕ → Type 0
Leads w i j = (p : List ℕ) × IsPath w (i ∷ p) × (end_of i p ≡ j)

-- two different places; no path leads from either to the other
pub record IsParallel (w : List Record) (i j : ℕ) : Type 0 where
  pub first : IsPlace w i
  pub second : IsPlace w j
  pub apart : i ≢ j
  pub not_forth : Leads w i j → ⊥
  pub not_back : Leads w j i → ⊥

-- place i lies in the part of the procedure that returns at r: nothing from i to r is less deep than r
pub record IsInPart (w : List Record) (i r : ℕ) : Type 0 where
  pub a_return : at w r ≡ Some Return
  pub upto : i ≤ r
  pub inside : (k : ℕ) → i ≤ k → k ≤ r → depth w r ≤ depth w k

-- from a place in the part of a procedure that returns at r, the paths to places after r are those of r
abbrev pub OneWayOut : List Record → Type 0
OneWayOut w = (i r j : ℕ) → IsPlace w i → IsPlace w j → IsInPart w i r → r < j → Leads w i j ↔ Leads w r j
