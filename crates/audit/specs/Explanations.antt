-- Promised: why the accesses of the race that is reported of a location are parallel.
use Rattle.std.specs.Prelude.{◌≡◌, ℕ, ◌<◌, ◌↔◌, List, Option, None, Some, MatchOption, Contains, AllPairs}
use Rattle.dag.specs.declared.records.Record.{Record}
use Rattle.dag.specs.declared.records.Record.TheVariants as records
use Rattle.dag.specs.Traces.{at}
use Rattle.dag.specs.Dag.{JoinsAt}
use Rattle.dag.specs.Meeting.{Holds, IsMeeting, IsOwn, InOneBlock}
use Rattle.dag.specs.Races.{IsRace, IsReported}
use Rattle.audit.specs.declared.answers.Opening.{Opening}
use Rattle.audit.specs.declared.answers.Opening.TheVariants.{Spawn, Call}
use Rattle.audit.specs.declared.answers.Opener.{Opener}
use Rattle.audit.specs.declared.answers.Explained.{Explained}

-- the record that opens a procedure in this way
abbrev pub opening_record : Opening → Record
opening_record Spawn = records.Spawn
opening_record Call = records.Call

-- the openers of the procedures below m that hold place i, from the outermost on
pub record AreOpeners (w : List Record) (m i : ℕ) (openers : List Opener) : Type 0 where
  pub ascending : AllPairs (λ f g. f.place < g.place) openers
  pub exactly : (f : Opener) → Contains openers f
      ↔ ((m < f.place) × Holds w f.place i × (at w f.place ≡ Some (opening_record f.what)))

-- procedure m executes place k itself, and waits there for its children
abbrev pub WaitsAt : List Record → ℕ → ℕ → Type 0
WaitsAt w m k = IsOwn w m k × JoinsAt w k

-- the first place after j at which procedure m waits for its children
pub record IsNextWait (w : List Record) (m j k : ℕ) : Type 0 where
  pub after : j < k
  pub waits : WaitsAt w m k
  pub none_between : (i : ℕ) → j < i → i < k → WaitsAt w m i → ⊥

-- If the answer names no next wait, there is none.
abbrev pub AreJoined : List Record → ℕ → ℕ → Option ℕ → Type 0
AreJoined w m j joined = MatchOption joined ((k : ℕ) → j < k → WaitsAt w m k → ⊥) (IsNextWait w m j)

-- The race is the one that is reported of its location. Its accesses meet in a procedure, and these are the openers
-- below it. The first access lies inside a child that this procedure spawned, and the procedure doesn't sync from
-- there to the second access's stand.
pub record IsExplained (w : List Record) (e : Explained) : Type 0 where
  pub reported : IsReported w e.race
  pub meets : IsMeeting w e.race.first.place e.race.second.place e.meeting
  pub first : AreOpeners w e.meeting e.race.first.place e.first.items
  pub second : AreOpeners w e.meeting e.race.second.place e.second.items
  pub unjoined : InOneBlock w e.meeting e.race.first.place e.race.second.place
  pub joined : AreJoined w e.meeting e.race.second.place e.joined

-- what is said of a location: why it is racy, or that it isn't
abbrev pub Explains : List Record → ℕ → Option Explained → Type 0
Explains w l answer = MatchOption answer ((i j : ℕ) → IsRace w l i j → ⊥) (λ e. (e.race.location ≡ l) × IsExplained w e)

-- two explanations are equal
pub record IsSameExplanation (a b : Explained) : Type 0 where
  pub race : a.race ≡ b.race
  pub meeting : a.meeting ≡ b.meeting
  pub first : a.first.items ≡ b.first.items
  pub second : a.second.items ≡ b.second.items
  pub joined : a.joined ≡ b.joined

-- so do two answers
abbrev pub IsSameAnswer : Option Explained → Option Explained → Type 0
IsSameAnswer a b = MatchOption a (b ≡ None) (λ x. MatchOption b ⊥ (IsSameExplanation x))
