-- Promised: what answers the questions of a trace: the text, and the exit status.
use Rattle.std.specs.Prelude.{◌≡◌, ℕ, ◌%◌, ◌↔◌, List, [], Option, None}
use Rattle.dag.specs.declared.records.Record.{Record}
use Rattle.dag.specs.declared.records.Access.{Access}
use Rattle.dag.specs.declared.part.Part.{Part}
use Rattle.trace.specs.declared.faults.Fault.{Fault}
use Rattle.trace.specs.Endings.{IsWantOfMemory, IsWantOfMemoryOrThread}
use Rattle.dag.specs.Accesses.{RaceAt}
use Rattle.collect.specs.ReportText.{rtext}
use Rattle.dag.specs.Races.{HasRace}
use Rattle.verdict.specs.Reported.{IsReportOf, IsPartReportOf}
use Rattle.audit.specs.declared.answers.Measure.{Measure}
use Rattle.audit.specs.declared.answers.Explained.{Explained}
use Rattle.audit.specs.declared.answers.Confirm.{Confirm}
use Rattle.audit.specs.declared.answers.Confirm.TheVariants.{Yes, No}
use Rattle.audit.specs.Measures.{IsMeasure}
use Rattle.audit.specs.Pairs.{ArePairs}
use Rattle.audit.specs.Confirms.{Confirms}
use Rattle.audit.specs.Explanations.{Explains}
use Rattle.words.specs.declared.asking.Question.{Question}
use Rattle.words.specs.declared.asking.Question.TheVariants as question
use Rattle.texts.specs.Texts.{pairs_text, explained_text, measure_text, confirm_text}

-- `check` of the whole: the report of the trace. The status is 0 exactly if it has no race, and 1 exactly if some
-- location has one.
pub record AnswersCheck (w : List Record) (text : List ℕ) (status : ℕ) : Type 0 where
  pub races : List RaceAt
  pub reported : IsReportOf w races
  pub is_text : text ≡ rtext races
  pub zero : (status ≡ 0) ↔ (races ≡ [])
  pub one : (status ≡ 1) ↔ ((l : ℕ) × HasRace w l)

-- the location is one of the part's, and it has a race
abbrev pub IsRacyIn : Part → List Record → ℕ → Type 0
IsRacyIn part w l = HasRace w l × (l % part.count ≡ part.index)

-- `check` of a part of the locations: the part's report. The status is 0 exactly if it has no race, and 1 exactly if
-- some location of the part has one.
pub record AnswersPart (part : Part) (w : List Record) (text : List ℕ) (status : ℕ) : Type 0 where
  pub races : List RaceAt
  pub reported : IsPartReportOf part w races
  pub is_text : text ≡ rtext races
  pub zero : (status ≡ 0) ↔ (races ≡ [])
  pub one : (status ≡ 1) ↔ ((l : ℕ) × IsRacyIn part w l)

-- `check`: the report of the part that is asked for; that of the only part of one is the report of the trace
pub record AnswersCheckOf (part : Part) (w : List Record) (text : List ℕ) (status : ℕ) : Type 0 where
  pub of_part : AnswersPart part w text status
  pub of_whole : part.count ≡ 1 → AnswersCheck w text status

-- `pairs`: each race of the location once; the status is 0 exactly if there is none, otherwise 1
pub record AnswersPairs (location : ℕ) (w : List Record) (text : List ℕ) (status : ℕ) : Type 0 where
  pub pairs : List (Access × Access)
  pub are_pairs : ArePairs w location pairs
  pub is_text : text ≡ pairs_text pairs
  pub zero : (status ≡ 0) ↔ (pairs ≡ [])
  pub one : (status ≡ 1) ↔ HasRace w location

-- `explain`: why the location is racy, or that it isn't; the status is 1 exactly if it is, otherwise 0
pub record AnswersExplain (location : ℕ) (w : List Record) (text : List ℕ) (status : ℕ) : Type 0 where
  pub answer : Option Explained
  pub explains : Explains w location answer
  pub is_text : text ≡ explained_text answer
  pub zero : (status ≡ 0) ↔ (answer ≡ None)
  pub one : (status ≡ 1) ↔ HasRace w location

-- `measure`: the numbers of the trace
pub record AnswersMeasure (w : List Record) (text : List ℕ) (status : ℕ) : Type 0 where
  pub numbers : Measure
  pub is_measure : IsMeasure w numbers
  pub is_text : text ≡ measure_text numbers
  pub zero : status ≡ 0

-- the status of `confirm`: 0 for yes, 1 for no
abbrev pub status_of : Confirm → ℕ
status_of Yes = 0
status_of (No entry) = 1

-- `confirm`: yes if each entry is a race of the trace, otherwise the first that isn't
pub record AnswersConfirm (entries : List RaceAt) (w : List Record) (text : List ℕ) (status : ℕ) : Type 0 where
  pub answer : Confirm
  pub confirms : Confirms w entries answer
  pub is_text : text ≡ confirm_text answer
  pub is_status : status ≡ status_of answer

-- the text and the status that answer what is asked of a trace alone
abbrev pub Answers : Question → List Record → List ℕ → ℕ → Type 0
Answers (question.Check c) w text status = AnswersCheckOf c.part w text status
Answers (question.Pairs p) w text status = AnswersPairs p.location w text status
Answers (question.Explain e) w text status = AnswersExplain e.location w text status
Answers (question.Measure m) w text status = AnswersMeasure w text status

-- what reading the trace may lack: memory, and for `check`, which starts threads, a thread
abbrev pub IsWant : Question → Fault → Type 0
IsWant (question.Check c) = IsWantOfMemoryOrThread
IsWant (question.Pairs p) = IsWantOfMemory
IsWant (question.Explain e) = IsWantOfMemory
IsWant (question.Measure m) = IsWantOfMemory
