-- Private: what a run has found in the records that were sent, by their own locations or by numbers in a part.
use Rattle.std.specs.Prelude.{◌≡◌, ℕ, ◌≤◌, List, Result}
use Rattle.dag.specs.declared.records.Record.{Record}
use Rattle.dag.specs.declared.records.Placed.{Placed}
use Rattle.dag.specs.declared.part.Part.{Part}
use Rattle.dag.specs.Traces.{placed}
use Rattle.dag.specs.Parts.{records_of}
use Rattle.dag.specs.Bounds.{most_records}
use Rattle.trace.specs.declared.faults.Fault.{Fault}
use Rattle.trace.specs.Devices.{Change}
use Rattle.trace.specs.Endings.{EndsReading, IsWantOfMemoryOrThread}
use Rattle.shadow.specs.Found.{by_location, found}
use Rattle.detect.specs.declared.closing.Done.{Done}
use Rattle.detect.specs.declared.sharded.Run.{Run}
use Rattle.detect.specs.RunReports.{TookSharesOf}
use Rattle.detect.specs.Finished.{IsDone}

-- the report are the races found in the records u, and each of n shards took its share of u
pub record RunFinds (n : ℕ) (run : Run) (u : List Placed) : Type 0 where
  pub races : run.report ≡ by_location (found u)
  pub took : TookSharesOf n u run

abbrev pub RunFindsPart : Part → ℕ → Run → List Record → Type 0
RunFindsPart part n run w = RunFinds n run (records_of part (placed w))

-- whatever a run of at least one shard has done, the result tells of it
abbrev pub AnswersRun : {S H : Type 0} → Done S H → Result Run Fault → Type 0
AnswersRun done result = (part : Part) (n records depths : ℕ) (change : Change) → 1 ≤ n → records ≤ most_records
    → IsDone part n records depths change done
    → EndsReading IsWantOfMemoryOrThread records depths change (RunFindsPart part n) result
