-- The answer of a run for a part, from that of its numbers; and of the whole, from that of a part.
use Rattle.detect.proofs.Common.{◌≡◌, ℕ, List, map, Result, Ok, Err, subst, sym, ◌∙◌, Record, Placed, Part, Fault, RaceAt, Device, Change, ◌⇝◌, OfTrace, EndsReading, placed, IsWellNested, verdict, report_of, Run, RunAnswers, RunAnswersPart, TookSharesOf, RunFindsPart, part_report}
use Rattle.collect.specs.Located.{located_at}
use Rattle.detect_plain.proofs.PartRecords.{records_of-whole, races_of-whole}

-- the report of the whole
pub whole_answers : (part : Part) (n : ℕ) (w : List Record) {records depths : ℕ} (run : Run) → part.count ≡ 1 → IsWellNested w records depths → RunAnswersPart part n run w → RunAnswers n run w
whole_answers part n w run one nested h =
    let P : List Placed → Type 0 = λ u. TookSharesOf n u run in
    record {
      reported = report_of w run.report nested (h.reported.is_part ∙ races_of-whole part (verdict w) one);
      took = subst P (records_of-whole part (placed w) one) h.took;
    }

pub whole_ends : (IsWant : Fault → Type 0) (part : Part) (n records depths : ℕ) (c : Change) (r : Result Run Fault) → part.count ≡ 1
    → EndsReading IsWant records depths c (RunAnswersPart part n) r → EndsReading IsWant records depths c (RunAnswers n) r
whole_ends IsWant part n records depths c (Ok run) one ends = record { trace = ends.trace; read = ends.read; says = whole_answers part n ends.trace run one ends.read.whole.well_nested ends.says }
whole_ends IsWant part n records depths c (Err f) one ends = ends

-- the answer of a run for a part, where the source is the same at last
pub part_ends : {X : Type 0} (state : X → Device) (part : Part) (n m records depths : ℕ) (before : Device) (x x' : X) (numbered : Run) (report : List RaceAt) → n ≡ m → x' ≡ x
    → OfTrace records depths (before ⇝ state x) (RunFindsPart part n numbered) → report ≡ map (located_at part) numbered.report
    → OfTrace records depths (before ⇝ state x') (RunAnswersPart part m (record { report = report; taken = numbered.taken; lanes = numbered.lanes }))
part_ends {X = X} state part n m records depths before x x' numbered report same end t moved =
    let run : Run = record { report = report; taken = numbered.taken; lanes = numbered.lanes } in
    let P : ℕ → Type 0 = λ k. OfTrace records depths (before ⇝ state x) (RunAnswersPart part k run) in
    let Q : X → Type 0 = λ y. OfTrace records depths (before ⇝ state y) (RunAnswersPart part m run) in
    let took = t.says.took in
    subst Q (sym end) (subst P same (record {
      trace = t.trace;
      read = t.read;
      says = record {
        reported = part_report part t.trace numbered.report report t.read.whole.well_nested t.says.races moved;
        took = record { lanes = took.lanes; counts = took.counts; shares = took.shares; taken = took.taken; settled = took.settled };
      };
    }))
