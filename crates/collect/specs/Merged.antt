-- Promised: one report out of many, and that the reports of all parts make the report of the whole.
use Rattle.std.specs.Prelude.{◌≡◌, ℕ, ◌<◌, List, [], ◌∷◌, Contains, ◌↔◌, map}
use Rattle.std.specs.List.{flat_map}
use Rattle.std.specs.List.Sorted.{IsStrictlyIncreasing}
use Rattle.dag.specs.declared.back.Back.{Back}
use Rattle.dag.specs.declared.back.Back.TheVariants.{Race}
use Rattle.dag.specs.declared.records.Record.{Record}
use Rattle.dag.specs.declared.part.Part.{Part}
use Rattle.dag.specs.Accesses.{RaceAt}
use Rattle.dag.specs.Parts.{races_of_part}
use Rattle.dag.specs.Races.{IsReport}
use Rattle.collect.specs.Collected.{IsCollected}
use Rattle.collect.specs.Reports.{locations}

-- what reports give to a collector that takes one after another
abbrev pub backs_of_reports : List (List RaceAt) → List Back
backs_of_reports reports = flat_map (map Race) reports

-- the one report out of these: of each location the race that a collector keeps
abbrev pub IsMerged : List (List RaceAt) → List RaceAt → Type 0
IsMerged reports merged = IsCollected (backs_of_reports reports) merged

-- each of the n parts is among these, in any order, and maybe more than once
abbrev pub AreAllParts : ℕ → List Part → Type 0
AreAllParts n parts = (k : ℕ) → k < n → (part : Part) × Contains parts part × (part.count ≡ n) × (part.index ≡ k)

-- the reports of these parts, if races is the report of the whole
abbrev pub reports_of_parts : List Part → List RaceAt → List (List RaceAt)
reports_of_parts parts races = map (λ part. races_of_part part races) parts

-- the reports of all parts make the report of the whole
abbrev pub PartsMakeWhole : Type 0
PartsMakeWhole =
    (n : ℕ) (parts : List Part) (races merged : List RaceAt) → 0 < n → AreAllParts n parts
    → IsStrictlyIncreasing (locations races) → IsMerged (reports_of_parts parts races) merged → merged ≡ races

-- so do those of all parts of one trace
abbrev pub PartsMakeTrace : Type 0
PartsMakeTrace =
    (w : List Record) (n : ℕ) (parts : List Part) (races merged : List RaceAt) → 0 < n → AreAllParts n parts
    → IsReport w races → IsMerged (reports_of_parts parts races) merged → IsReport w merged

-- a report merged with itself is that report
abbrev pub MergesWithItself : Type 0
MergesWithItself =
    (races merged : List RaceAt) → IsStrictlyIncreasing (locations races) → IsMerged (races ∷ races ∷ []) merged
    → merged ≡ races

-- two races of one location on one second place are one race
abbrev pub AreOnDistinctPlaces : List (List RaceAt) → Type 0
AreOnDistinctPlaces reports =
    (rs ss : List RaceAt) (r s : RaceAt) → Contains reports rs → Contains rs r → Contains reports ss → Contains ss s
    → r.location ≡ s.location → r.second.place ≡ s.second.place → r ≡ s

-- the order of the reports decides only between races of one location on one second place
abbrev pub OrderIsFree : Type 0
OrderIsFree =
    (reports others : List (List RaceAt)) (merged also : List RaceAt)
    → ((rs : List RaceAt) → Contains reports rs ↔ Contains others rs) → AreOnDistinctPlaces reports
    → IsMerged reports merged → IsMerged others also → merged ≡ also
