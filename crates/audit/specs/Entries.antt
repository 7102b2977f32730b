-- Private: what is kept of the first records of a trace for the entries of a report.
use Rattle.std.specs.Prelude.{◌≡◌, ◌≢◌, ℕ, suc, ◌<◌, ◌≤◌, List, length, map, slice_get, Some}
use Rattle.dag.specs.declared.records.Record.{Record}
use Rattle.dag.specs.declared.records.Access.{Access}
use Rattle.dag.specs.Accesses.{RaceAt}
use Rattle.dag.specs.Traces.{depth}
use Rattle.dag.specs.Races.{IsAccess}
use Rattle.collect.specs.Reports.{IsReportList}
use Rattle.audit.specs.declared.answers.Confirm.{Confirm}
use Rattle.audit.specs.declared.answers.Confirm.TheVariants.{Yes, No}
use Rattle.audit.specs.declared.meetings.Meetings.{Meetings}
use Rattle.audit.specs.declared.confirms.Entry.{Entry}
use Rattle.audit.specs.declared.confirms.Standing.{Standing}
use Rattle.audit.specs.declared.confirms.Standing.TheVariants.{Missing, Begun, Confirmed}
use Rattle.audit.specs.declared.confirms.Confirming.{Confirming}
use Rattle.audit.specs.Following.{WhateverComes}
use Rattle.audit.specs.Meetings.{HasMet}
use Rattle.audit.specs.Confirms.{StatesRace}

-- the race that an entry states
abbrev pub entry_race : Entry → RaceAt
entry_race e = record { location = e.location; first = e.first; second = e.second }

abbrev pub entry_races : List Entry → List RaceAt
entry_races entries = map entry_race entries

-- an entry of which nothing was found yet
abbrev pub entry_of : RaceAt → Entry
entry_of r = record { location = r.location; first = r.first; second = r.second; standing = Missing }

abbrev pub AreAscending : List Entry → Type 0
AreAscending entries = (j k : ℕ) (e f : Entry) → j < k → slice_get entries j ≡ Some e → slice_get entries k ≡ Some f
    → e.location < f.location

-- the first access that an entry states is there, among the first t places, at a depth
pub record HasBegun (w : List Record) (t : ℕ) (r : RaceAt) (deep : ℕ) : Type 0 where
  pub first : IsAccess w r.location r.first.place r.first.kind
  pub upto : r.first.place ≤ t
  pub at_depth : depth w r.first.place ≡ deep
  pub not_yet : r.second.place ≤ t → StatesRace w r → ⊥

-- how far the race that an entry states was found among the first t places
abbrev pub HasStanding : List Record → ℕ → RaceAt → Standing → Type 0
HasStanding w t r Missing = r.first.place ≤ t → IsAccess w r.location r.first.place r.first.kind → ⊥
HasStanding w t r (Begun deep) = HasBegun w t r deep
HasStanding w t r Confirmed = StatesRace w r

-- each entry was found as far as it says
abbrev pub AllStand : List Record → ℕ → List Entry → Type 0
AllStand w t entries = (k : ℕ) (e : Entry) → slice_get entries k ≡ Some e → HasStanding w t (entry_race e) e.standing

-- the entries of a report after an access of a location, which comes after the records u
abbrev pub SeesEntries : Meetings → ℕ → Access → List Entry → List Entry → Type 0
SeesEntries m l a old new = (u : List Record) → HasMet m u → IsReportList (entry_races old) → a.place ≡ suc (length u)
    → WhateverComes u (λ w. IsAccess w l a.place a.kind → AllStand w (length u) old → AllStand w (suc (length u)) new)

-- what the entries answer
pub record IsFirstOpen (entries : List Entry) (entry : ℕ) : Type 0 where
  pub before : ℕ
  pub from_one : entry ≡ suc before
  pub found : Entry
  pub there : slice_get entries before ≡ Some found
  pub open_yet : found.standing ≢ Confirmed
  pub confirmed_before : (k : ℕ) (e : Entry) → k < before → slice_get entries k ≡ Some e → e.standing ≡ Confirmed

abbrev pub AnswersBy : List Entry → Confirm → Type 0
AnswersBy entries Yes = (k : ℕ) (e : Entry) → slice_get entries k ≡ Some e → e.standing ≡ Confirmed
AnswersBy entries (No entry) = IsFirstOpen entries entry

-- the records u were seen, whatever well nested trace begins with them
pub record HasConfirmed (races : List RaceAt) (u : List Record) (s : Confirming) : Type 0 where
  pub is_report : IsReportList races
  pub same_races : entry_races s.entries.items ≡ races
  pub met : HasMet s.meetings u
  pub stands : WhateverComes u (λ w. AllStand w (length u) s.entries.items)
