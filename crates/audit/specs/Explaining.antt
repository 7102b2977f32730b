-- Private: what is kept of the first records of a trace, so as to explain the race that is reported of one location.
use Rattle.std.specs.Prelude.{◌≡◌, ℕ, suc, ◌<◌, ◌≤◌, Bool, List, [], ◌∷◌, ◌++◌}
use Rattle.std.specs.Prelude.{length, slice_get, Option, Some, None, MatchOption, ◌⊎◌}
use Rattle.dag.specs.declared.records.Record.{Record}
use Rattle.dag.specs.declared.records.Record.TheVariants.{Spawn, Call, Return, Sync, Read, Write}
use Rattle.dag.specs.declared.records.Kind.{Kind}
use Rattle.dag.specs.declared.records.Placed.{Placed}
use Rattle.dag.specs.declared.records.Access.{Access}
use Rattle.dag.specs.Accesses.{RaceAt}
use Rattle.dag.specs.Traces.{at, depth, IsWellNested}
use Rattle.dag.specs.Meeting.{level, Holds, IsMeeting}
use Rattle.dag.specs.Races.{IsAccess, IsWrite, IsRace, IsLastWrite, IsKeptReader, IsReported}
use Rattle.audit.specs.declared.answers.Opening.TheVariants as openings
use Rattle.audit.specs.declared.answers.Opener.{Opener}
use Rattle.audit.specs.declared.answers.Explained.{Explained}
use Rattle.audit.specs.declared.explanations.Trail.{Trail}
use Rattle.audit.specs.declared.explanations.Reported.{Reported}
use Rattle.audit.specs.declared.explanations.Explaining.{Explaining}
use Rattle.audit.specs.Following.{WhateverComes}
use Rattle.audit.specs.Meetings.{HasMet, DecidesParallel}
use Rattle.audit.specs.declared.meetings.Meetings.{Meetings}
use Rattle.audit.specs.Explanations.{opening_record, AreOpeners, WaitsAt, IsNextWait}

-- f opened the procedure on level k + 1 that holds place i
pub record IsLink (w : List Record) (i k : ℕ) (f : Opener) : Type 0 where
  pub on_level : level w f.place ≡ suc k
  pub holds : Holds w f.place i
  pub opens : at w f.place ≡ Some (opening_record f.what)

-- the openers of all procedures below the root that hold place i
pub record IsTrail (w : List Record) (i : ℕ) (openers : List Opener) : Type 0 where
  pub all : length openers ≡ depth w i
  pub each : (k : ℕ) (f : Opener) → slice_get openers k ≡ Some f → IsLink w i k f

-- what becomes of the openers of the active procedures at the record of a place
abbrev pub Follows : ℕ → Record → List Opener → List Opener → Type 0
Follows place Spawn old new = new ≡ old ++ record { what = openings.Spawn; place = place } ∷ []
Follows place Call old new = new ≡ old ++ record { what = openings.Call; place = place } ∷ []
Follows place Return old new = (old ≡ []) ⊎ ((f : Opener) × (old ≡ new ++ f ∷ []))
Follows place Sync old new = new ≡ old
Follows place (Read l) old new = new ≡ old
Follows place (Write l) old new = new ≡ old

-- the last write up to place t, with its openers
abbrev pub KeepsWrite : List Record → ℕ → ℕ → Option Trail → Type 0
KeepsWrite w l t kept = MatchOption kept ((i : ℕ) → i ≤ t → IsWrite w l i → ⊥)
    (λ x. IsLastWrite w l (suc t) x.place × IsTrail w x.place x.openers.items)

-- the kept reader up to place t, with its openers
abbrev pub KeepsReader : List Record → ℕ → ℕ → Option Trail → Type 0
KeepsReader w l t kept = MatchOption kept (IsKeptReader w l (suc t) None)
    (λ x. IsKeptReader w l (suc t) (Some x.place) × IsTrail w x.place x.openers.items)

-- no race has its second place among the first t places, and these are the accesses that are kept of them
pub record HasSought (w : List Record) (l t : ℕ) (last_write kept_reader : Option Trail) : Type 0 where
  pub none_reported : (h k : ℕ) → IsRace w l h k → k ≤ t → ⊥
  pub writes : KeepsWrite w l t last_write
  pub reads : KeepsReader w l t kept_reader

-- procedure m didn't wait for its children after place j, and holds the next place
pub record IsUnjoined (w : List Record) (m j t : ℕ) : Type 0 where
  pub none : (k : ℕ) → j < k → k ≤ t → WaitsAt w m k → ⊥
  pub holds : suc t ≤ length w → Holds w m (suc t)

abbrev pub reported_race : ℕ → Reported → RaceAt
reported_race l d = record { location = l; first = d.first; second = d.second }

-- the race is reported, and the meeting procedure's next sync or return is looked for, up to place t
pub record HasFoundRace (w : List Record) (l t : ℕ) (d : Reported) : Type 0 where
  pub reported : IsReported w (reported_race l d)
  pub race : IsRace w l d.first.place d.second.place
  pub meets : IsMeeting w d.first.place d.second.place d.meeting
  pub on_level : level w d.meeting ≡ d.level
  pub first : AreOpeners w d.meeting d.first.place d.first_openers.items
  pub second : AreOpeners w d.meeting d.second.place d.second_openers.items
  pub upto : d.second.place ≤ t
  pub joined : MatchOption d.joined (IsUnjoined w d.meeting d.second.place t) (IsNextWait w d.meeting d.second.place)

-- what is known of the first t places
abbrev pub Stands : List Record → ℕ → ℕ → Explaining → Type 0
Stands w l t s = MatchOption s.reported
    (HasSought w l t s.last_write s.kept_reader × (suc t ≤ length w → IsTrail w (suc t) s.openers.items))
    (HasFoundRace w l t)

-- whether an access that is kept is parallel to the next place
abbrev pub DecidesNow : Meetings → Bool → Trail → Type 0
DecidesNow m answer x = (u : List Record) → HasMet m u → DecidesParallel u x.place (length x.openers.items) answer

-- a race on l with these accesses is the one that is reported
pub record IsRival (w : List Record) (l : ℕ) (first_kind : Kind) (first : Trail) (second : Access) : Type 0 where
  pub reported : IsReported w
      (record { location = l; first = record { kind = first_kind; place = first.place }; second = second })
  pub race : IsRace w l first.place second.place
  pub trail : IsTrail w first.place first.openers.items

-- the meeting procedure waits at a record
abbrev pub Joins : Record → Type 0
Joins r = (r ≡ Sync) ⊎ (r ≡ Return)

-- what becomes of the join that is looked for, at a record on a depth
abbrev pub NextJoined : Placed → ℕ → ℕ → Option ℕ → Option ℕ → Type 0
NextJoined p deep meeting_level old new =
    MatchOption old (((deep ≡ meeting_level) × Joins p.what × (new ≡ Some p.place))
    ⊎ ((deep ≡ meeting_level → Joins p.what → ⊥) × (new ≡ None))) (λ k. new ≡ Some k)

-- the race is reported, if the first access has one of these kinds and trails, and the active procedures have these
-- openers
abbrev pub ReportsIt : Kind → Trail → Access → List Opener → Reported → Type 0
ReportsIt first_kind first second openers d = (w : List Record) (l t : ℕ) (records depths : ℕ)
    → IsWellNested w records depths
    → second.place ≡ suc t → IsRival w l first_kind first second
    → IsTrail w second.place openers → HasFoundRace w l (suc t) d

-- what is kept after an access with which none races
abbrev pub Keeps : Explaining → Access → Explaining → Type 0
Keeps s a s' = (l : ℕ) (u : List Record) → HasMet s.meetings u → a.place ≡ suc (length u)
    → WhateverComes u (λ w. IsAccess w l a.place a.kind → ((i : ℕ) → IsRace w l i a.place → ⊥)
    → IsTrail w a.place s.openers.items → HasSought w l (length u) s.last_write s.kept_reader
    → HasSought w l (suc (length u)) s'.last_write s'.kept_reader)

-- what is known after an access of the location
abbrev pub Sees : Explaining → Access → Explaining → Type 0
Sees s a s' = (l : ℕ) (u : List Record) → HasMet s.meetings u → a.place ≡ suc (length u) → s.reported ≡ None
    → WhateverComes u (λ w. IsAccess w l a.place a.kind → Stands w l (length u) s → Stands w l (suc (length u)) s')

-- what is known after the next record
abbrev pub Seeks : Explaining → Placed → Explaining → Type 0
Seeks s p s' = (u : List Record) → HasMet s.meetings u → p.place ≡ suc (length u) → s.reported ≡ None
    → WhateverComes u (λ w. at w p.place ≡ Some p.what → Stands w s.location (length u) s
    → Stands w s.location (suc (length u)) s')

-- the records u were seen, whatever well nested trace begins with them
pub record HasExplained (location : ℕ) (u : List Record) (s : Explaining) : Type 0 where
  pub location_is : s.location ≡ location
  pub met : HasMet s.meetings u
  pub stands : WhateverComes u (λ w. Stands w location (length u) s)

-- what is reported in the end
abbrev pub explanation : ℕ → Reported → Explained
explanation l d = record {
  race = reported_race l d;
  meeting = d.meeting;
  first = d.first_openers;
  second = d.second_openers;
  joined = d.joined;
}
