-- Private: what is kept of the active procedures, so that it shows where an earlier access and the next place meet.
use Rattle.std.specs.Prelude.{◌≡◌, ℕ, suc, ◌-◌, ◌<◌, ◌≤◌, ◌↔◌, Bool, true, false, List, ◌∷◌, ◌++◌, length, take}
use Rattle.std.specs.Prelude.{slice_get, nat_lt, Some, ◌⊎◌, []}
use Rattle.std.specs.List.Sorted.{IsPartitionedBy}
use Rattle.dag.specs.declared.records.Record.{Record}
use Rattle.dag.specs.declared.records.Record.TheVariants.{Spawn, Call, Return, Sync, Read, Write}
use Rattle.dag.specs.Traces.{at, depth}
use Rattle.dag.specs.Dag.{IsParallel}
use Rattle.dag.specs.Meeting.{level, Opens, Holds, IsOwn}
use Rattle.dag.specs.Races.{IsAccessPlace}
use Rattle.audit.specs.declared.meetings.Active.{Active}
use Rattle.audit.specs.declared.meetings.Turn.{Turn}
use Rattle.audit.specs.declared.meetings.Meetings.{Meetings}
use Rattle.audit.specs.Following.{WhateverComes}

-- After t records f is active at depth d: it holds the next place. It executed a sync at f.synced, or none yet where
-- that is the place at which it was opened; and none since.
pub record IsActive (w : List Record) (t d : ℕ) (f : Active) : Type 0 where
  pub on_level : level w f.opened ≡ d
  pub holds : Holds w f.opened (suc t)
  pub last_sync : (f.synced ≡ f.opened) ⊎ (IsOwn w f.opened f.synced × (at w f.synced ≡ Some Sync))
  pub upto : f.synced ≤ t
  pub none_since : (k : ℕ) → f.synced < k → k ≤ t → depth w k ≡ d → at w k ≡ Some Sync → ⊥

-- the active procedures before place t + 1; those that wait stand by their depths
pub record AreActive (w : List Record) (t : ℕ) (executing : Active) (suspended : List Active) : Type 0 where
  pub level : length suspended ≡ depth w (suc t)
  pub executes : IsActive w t (depth w (suc t)) executing
  pub waits : (k : ℕ) (f : Active) → slice_get suspended k ≡ Some f → IsActive w t k f

-- the active procedure at a depth
pub data ActiveAt (executing : Active) (suspended : List Active) (k : ℕ) (f : Active) : Type 0 where
  waits : slice_get suspended k ≡ Some f → ActiveAt executing suspended k f
  executes : k ≡ length suspended → f ≡ executing → ActiveAt executing suspended k f

-- an active procedure executes the place itself
pub record IsActivesOwn (w : List Record) (executing : Active) (suspended : List Active) (place : ℕ) : Type 0 where
  pub on : ℕ
  pub owner : Active
  pub active : ActiveAt executing suspended on owner
  pub after : owner.opened < place
  pub on_level : depth w place ≡ on

-- the last turn that began up to place c has the kind of the child that is opened at c
pub record HasTurn (w : List Record) (turns : List Turn) (c : ℕ) : Type 0 where
  pub index : ℕ
  pub turn : Turn
  pub there : slice_get turns index ≡ Some turn
  pub begun : turn.opened ≤ c
  pub last : (j : ℕ) (x : Turn) → index < j → slice_get turns j ≡ Some x → c < x.opened
  pub kind : (turn.is_spawned ≡ true) ↔ (at w c ≡ Some Spawn)

-- The turns after t records: each began at a place that an active procedure executed itself, and every child that one
-- has opened since its last sync has its turn. What stands before f.turns began no later than f was opened, and the
-- rest later.
pub record AreTurns (w : List Record) (t : ℕ) (executing : Active) (suspended : List Active) (turns : List Turn)
    : Type 0 where
  pub ascending : (i j : ℕ) (x y : Turn) → i < j → slice_get turns i ≡ Some x → slice_get turns j ≡ Some y
      → x.opened < y.opened
  pub upto : (i : ℕ) (x : Turn) → slice_get turns i ≡ Some x → x.opened ≤ t
  pub owned : (i : ℕ) (x : Turn) → slice_get turns i ≡ Some x → IsActivesOwn w executing suspended x.opened
  pub within : (k : ℕ) (f : Active) → ActiveAt executing suspended k f → f.turns ≤ length turns
  pub before : (k : ℕ) (f : Active) → ActiveAt executing suspended k f → (i : ℕ) (x : Turn)
      → slice_get turns i ≡ Some x → i < f.turns → x.opened ≤ f.opened
  pub behind : (k : ℕ) (f : Active) → ActiveAt executing suspended k f → (i : ℕ) (x : Turn)
      → slice_get turns i ≡ Some x → f.turns ≤ i → f.opened < x.opened
  pub children : (k : ℕ) (f : Active) → ActiveAt executing suspended k f → (c : ℕ) → f.synced < c → c ≤ t
      → depth w c ≡ k → Opens (at w c) → HasTurn w turns c

pub record AreMet (w : List Record) (t : ℕ) (executing : Active) (suspended : List Active) (turns : List Turn)
    : Type 0 where
  pub active : AreActive w t executing suspended
  pub turned : AreTurns w t executing suspended turns

-- these are the active procedures and their turns after the records u, if others follow
abbrev pub HasMet : Meetings → List Record → Type 0
HasMet m u = WhateverComes u (λ w. suc (length u) ≤ length w
    → AreMet w (length u) m.executing m.suspended.items m.turns.items)

-- what an answer says of an earlier access at a depth, and of the place after the records u
abbrev pub DecidesParallel : List Record → ℕ → ℕ → Bool → Type 0
DecidesParallel u place deep answer = WhateverComes u (λ w.
    IsAccessPlace w place → place ≤ length u → depth w place ≡ deep → IsAccessPlace w (suc (length u))
    → (answer ≡ true) ↔ IsParallel w place (suc (length u)))

-- of the active procedures that were opened before a place, the last one
pub record IsLastOpenedBefore (executing : Active) (suspended : List Active) (place k : ℕ) (f : Active) : Type 0 where
  pub there : ActiveAt executing suspended k f
  pub before : f.opened < place
  pub deeper : (l : ℕ) (g : Active) → k < l → ActiveAt executing suspended l g → place ≤ g.opened

-- what an answer says of a place at a depth and of its keeper: whether a child of that one holds the place, and it
-- hasn't synced since
pub record DecidesUnjoined (executing : Active) (suspended : List Active) (place deep : ℕ) (answer : Bool)
    : Type 0 where
  pub on : ℕ
  pub keeper : Active
  pub keeps : IsLastOpenedBefore executing suspended place on keeper
  pub decides : (answer ≡ true) ↔ ((on < deep) × (keeper.synced < place))

-- the same, after the records u
abbrev pub DecidesUnjoinedAfter : Meetings → List Record → ℕ → ℕ → Bool → Type 0
DecidesUnjoinedAfter m u place deep answer = WhateverComes u (λ w. 1 ≤ place → suc (length u) ≤ length w
    → DecidesUnjoined m.executing m.suspended.items place deep answer)

-- what an answer says of the last turn that began before a place: its kind
abbrev pub DecidesTurn : List Turn → ℕ → Bool → Type 0
DecidesTurn turns place answer = IsPartitionedBy (λ x. nat_lt x.opened place) turns → (i : ℕ) (x : Turn)
    → slice_get turns i ≡ Some x → x.opened < place
    → ((j : ℕ) (y : Turn) → i < j → slice_get turns j ≡ Some y → place ≤ y.opened) → answer ≡ x.is_spawned

-- the last turn is one of such children
abbrev pub EndsIn : List Turn → Bool → Type 0
EndsIn turns is_spawned = (x : Turn) × (slice_get turns (length turns - 1) ≡ Some x) × (x.is_spawned ≡ is_spawned)

-- what becomes of the turns where a child is opened: its turn begins there, or the last one goes on
abbrev pub TakesTurn : ℕ → Bool → List Turn → List Turn → Type 0
TakesTurn place is_spawned old new = (new ≡ old ++ record { opened = place; is_spawned = is_spawned } ∷ [])
    ⊎ ((new ≡ old) × EndsIn old is_spawned)

-- a child was opened at a place
pub record OpensChild (place : ℕ) (is_spawned : Bool) (m m' : Meetings) : Type 0 where
  pub executing : m'.executing ≡ record { opened = place; synced = place; turns = length m'.turns.items }
  pub suspended : m'.suspended.items ≡ m.suspended.items ++ m.executing ∷ []
  pub turns : TakesTurn place is_spawned m.turns.items m'.turns.items

-- the executing procedure has returned
pub record Leaves (m m' : Meetings) : Type 0 where
  pub suspended : m.suspended.items ≡ m'.suspended.items ++ m'.executing ∷ []
  pub turns : m'.turns.items ≡ take m.executing.turns m.turns.items

-- the executing procedure has synced at a place
pub record Syncs (place : ℕ) (m m' : Meetings) : Type 0 where
  pub executing : m'.executing ≡ record { opened = m.executing.opened; synced = place; turns = m.executing.turns }
  pub suspended : m'.suspended.items ≡ m.suspended.items
  pub turns : m'.turns.items ≡ take m.executing.turns m.turns.items

-- what becomes of the active procedures and their turns at the record of a place
abbrev pub Moves : ℕ → Record → Meetings → Meetings → Type 0
Moves place Spawn m m' = OpensChild place true m m'
Moves place Call m m' = OpensChild place false m m'
Moves place Return m m' = (m.suspended.items ≡ []) ⊎ Leaves m m'
Moves place Sync m m' = Syncs place m m'
Moves place (Read l) m m' = m' ≡ m
Moves place (Write l) m m' = m' ≡ m
