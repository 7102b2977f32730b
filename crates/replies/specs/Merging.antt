-- Private: reports on their way into a collector.
use Rattle.std.specs.Prelude.{ℕ, List, ◌++◌, map, Option, Result, String}
use Rattle.dag.specs.declared.back.Back.{Back}
use Rattle.dag.specs.declared.back.Back.TheVariants.{Race}
use Rattle.dag.specs.Accesses.{RaceAt}
use Rattle.collect.specs.Collected.{Collection, KeepsBest}
use Rattle.collect.specs.Merged.{backs_of_reports}
use Rattle.replies.specs.declared.input.Input.{Input}
use Rattle.replies.specs.Merges.{HasReadReport, HaveReadReports}

module _ {F E : Type 0} (Gives : List ℕ → Result F E → Type 0) (known : Input F → Option (List ℕ)) where
  -- the report that the name stands for was read, and the collector took it
  pub record HasTakenReport (name : List ℕ) (c d : Collection) : Type 0 where
    pub entries : List RaceAt
    pub read : HasReadReport Gives known name entries
    pub took : (g : List Back) → KeepsBest g c → KeepsBest (g ++ map Race entries) d

  -- the reports that the names stand for were read, and the collector was given them and nothing else
  pub record HaveTaken {A : Type 0} (names : List (String A)) (c : Collection) : Type 0 where
    pub reports : List (List RaceAt)
    pub read : HaveReadReports Gives known names reports
    pub kept : KeepsBest (backs_of_reports reports) c
