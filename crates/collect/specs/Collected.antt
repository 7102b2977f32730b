-- Promised: what a collector keeps of the races that it was given.
use Rattle.std.specs.Prelude.{◌≡◌, ℕ, ◌<◌, ◌≤◌, ◌↔◌, ◌==◌, nat_lt, Bool, false, if◌then◌else◌, List, ◌∷◌, ◌++◌}
use Rattle.std.specs.Prelude.{Contains, Option, Some, None, find, fold, map}
use Rattle.std.specs.List.{AllByRecursion}
use Rattle.std.specs.Option.{option_map_or}
use Rattle.dag.specs.declared.back.Back.{Back}
use Rattle.dag.specs.declared.back.Back.TheVariants.{Race, NoMemory}
use Rattle.dag.specs.Accesses.{RaceAt}
pub use Rattle.dag.specs.Backs.{races_of, fails}
use Rattle.collect.specs.Reports.{IsReportList}

-- the first race on a location
abbrev pub race_on : ℕ → List RaceAt → Option RaceAt
race_on l rs = find (λ r. r.location == l) rs

-- of two races the one with the lesser second place; on equal places the one that came first
abbrev pub better : RaceAt → RaceAt → RaceAt
better kept r = if nat_lt r.second.place kept.second.place then r else kept

-- what is kept of location l after one more race
abbrev pub kept_after : ℕ → Option RaceAt → RaceAt → Option RaceAt
kept_after l kept r = if r.location == l then Some (option_map_or (λ k. better k r) kept r) else kept

-- of the races on location l the one with the least second place, the first of those on equal places
abbrev pub best : ℕ → List RaceAt → Option RaceAt
best l rs = fold (kept_after l) None rs

-- the view of a collector: the races that it keeps, and whether it took a refused growth
pub record Collection : Type 0 where
  pub races : List RaceAt
  pub refused : Bool

-- a race on a location without a kept race
abbrev pub IsFirstOnLocation : Collection → Back → Type 0
IsFirstOnLocation c (Race r) = race_on r.location c.races ≡ None
IsFirstOnLocation c NoMemory = ⊥

-- the collector was given exactly these, one after another
pub record KeepsBest (g : List Back) (c : Collection) : Type 0 where
  pub refused : c.refused ≡ fails g
  pub best_on : (l : ℕ) → race_on l c.races ≡ best l (races_of g)

-- what it was given before, and then these
abbrev pub KeepsMore : List Back → Collection → Collection → Type 0
KeepsMore more c d = (g : List Back) → KeepsBest g c → KeepsBest (g ++ more) d

-- The growth for one race of a list was refused: the races before it were taken, nothing else was, and none is kept on
-- its location.
pub record IsTakenInPart (races : List RaceAt) (c d : Collection) : Type 0 where
  pub before : List RaceAt
  pub refused_at : RaceAt
  pub after : List RaceAt
  pub came : races ≡ before ++ refused_at ∷ after
  pub took : KeepsMore (map Race before) c d
  pub is_first : IsFirstOnLocation d (Race refused_at)

-- Of the races on its location r is the first of those with the least second place: each that came before it has a
-- greater one, and none that came after it a lesser one.
pub record IsFirstLeast (rs : List RaceAt) (r : RaceAt) : Type 0 where
  pub before : List RaceAt
  pub after : List RaceAt
  pub came : rs ≡ before ++ r ∷ after
  pub first : AllByRecursion (λ s. s.location ≡ r.location → r.second.place < s.second.place) before
  pub least : AllByRecursion (λ s. s.location ≡ r.location → r.second.place ≤ s.second.place) after

-- the first least race of each location on which one was handed back, and nothing else
abbrev pub AreFirstLeast : List Back → List RaceAt → Type 0
AreFirstLeast g rs = (r : RaceAt) → Contains rs r ↔ IsFirstLeast (races_of g) r

-- the report of what was handed back: of each location the best race, and no growth was refused
pub record IsCollected (g : List Back) (rs : List RaceAt) : Type 0 where
  pub none_failed : fails g ≡ false
  pub is_report : IsReportList rs
  pub best_on : (l : ℕ) → race_on l rs ≡ best l (races_of g)
