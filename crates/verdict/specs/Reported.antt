-- Promised: what a report says of a trace.
use Rattle.std.specs.Prelude.{◌≡◌, ℕ, ◌%◌, List, ◌↔◌}
use Rattle.dag.specs.declared.records.Record.{Record}
use Rattle.dag.specs.declared.part.Part.{Part}
use Rattle.dag.specs.Accesses.{RaceAt}
use Rattle.dag.specs.Races.{HasRace, IsReport}
use Rattle.dag.specs.Parts.{races_of_part}
use Rattle.shadow.specs.Found.{verdict}
use Rattle.verdict.specs.Racy.{HasLocation}

-- The races are the verdict on the trace, which is its report by the dag. So the locations reported are exactly
-- those with two accesses, one a write, that no path joins.
pub record IsReportOf (w : List Record) (races : List RaceAt) : Type 0 where
  pub is_verdict : races ≡ verdict w
  pub is_report : IsReport w races
  pub racy : (l : ℕ) → HasRace w l ↔ HasLocation races l

-- The races are those of the verdict on the trace whose locations are the part's. So the locations reported are exactly
-- the part's among those with a race.
pub record IsPartReportOf (part : Part) (w : List Record) (races : List RaceAt) : Type 0 where
  pub is_part : races ≡ races_of_part part (verdict w)
  pub racy : (l : ℕ) → HasLocation races l ↔ (HasRace w l × (l % part.count ≡ part.index))
