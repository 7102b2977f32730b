-- Promised: which entries of a report are races.
use Rattle.std.specs.Prelude.{◌≡◌, ℕ, suc, ◌<◌, List, slice_get, Some, All}
use Rattle.dag.specs.declared.records.Record.{Record}
use Rattle.dag.specs.Accesses.{RaceAt}
use Rattle.audit.specs.declared.answers.Confirm.{Confirm}
use Rattle.audit.specs.declared.answers.Confirm.TheVariants.{Yes, No}
use Rattle.audit.specs.Pairs.{IsPair}

-- the two accesses race on the entry's location, and are of the entry's kinds
abbrev pub StatesRace : List Record → RaceAt → Type 0
StatesRace w r = IsPair w r.location (r.first, r.second)

-- the first entry that isn't a race; entries are counted from 1
pub record IsFirstWrong (w : List Record) (entries : List RaceAt) (entry : ℕ) : Type 0 where
  pub before : ℕ
  pub from_one : entry ≡ suc before
  pub race : RaceAt
  pub there : slice_get entries before ≡ Some race
  pub wrong : StatesRace w race → ⊥
  pub right_before : (k : ℕ) (r : RaceAt) → k < before → slice_get entries k ≡ Some r → StatesRace w r

abbrev pub Confirms : List Record → List RaceAt → Confirm → Type 0
Confirms w entries Yes = All (StatesRace w) entries
Confirms w entries (No entry) = IsFirstWrong w entries entry
