-- Promised: what a run with shards answers.
use Rattle.std.specs.Prelude.{◌≡◌, ℕ, ◌<◌, List, [], length, map, slice_index, slice_index_or}
use Rattle.dag.specs.declared.records.Record.{Record}
use Rattle.dag.specs.declared.records.Placed.{Placed}
use Rattle.dag.specs.declared.part.Part.{Part}
use Rattle.dag.specs.Traces.{placed}
use Rattle.dag.specs.Shares.{share}
use Rattle.dag.specs.Parts.{records_of}
use Rattle.lane.specs.Items.{with_mark}
use Rattle.detect.specs.declared.sharded.Run.{Run}
use Rattle.verdict.specs.Reported.{IsReportOf, IsPartReportOf}

-- of n shards each took its share of the records, each record once and in their order, and then the mark; its lane was
-- compared with the receipt, and nothing waits there
pub record TookSharesOf (n : ℕ) (u : List Placed) (run : Run) : Type 0 where
  pub lanes : length run.lanes.items ≡ n
  pub counts : length run.taken.items ≡ n
  pub shares : (k : ℕ) → k < n → slice_index_or (map (λ t. t.taken) run.lanes.items) k [] ≡ with_mark (share k n u)
  pub taken : (k : ℕ) → k < n → slice_index run.taken.items k ≡ length (share k n u)
  pub settled : (k : ℕ) → k < n → slice_index_or (map (λ t. t.waiting) run.lanes.items) k [] ≡ []

-- of n shards each took its share of the trace, each record once and in trace order, and then the mark
abbrev pub TookShares : ℕ → List Record → Run → Type 0
TookShares n trace run = TookSharesOf n (placed trace) run

-- the trace is reported, and each of n shards took its share of it
pub record RunAnswers (n : ℕ) (run : Run) (w : List Record) : Type 0 where
  pub reported : IsReportOf w run.report
  pub took : TookShares n w run

-- the part is reported, and each of n shards took its share of the part's records; in these an access has its
-- location's number
pub record RunAnswersPart (part : Part) (n : ℕ) (run : Run) (w : List Record) : Type 0 where
  pub reported : IsPartReportOf part w run.report
  pub took : TookSharesOf n (records_of part (placed w)) run
