-- Promised: how the program ends that was asked of a trace: what it wrote, and its exit status.
use Rattle.std.specs.Prelude.{◌≡◌, ◌⊎◌, ℕ, ◌<◌, ◌≤◌, List}
use Rattle.dag.specs.declared.records.Record.{Record}
use Rattle.trace.specs.declared.faults.Fault.{Fault}
use Rattle.dag.specs.Accesses.{RaceAt}
use Rattle.trace.specs.Devices.{Change, HasPassedOn}
use Rattle.trace.specs.Writers.{IsUntouched, Took, TookFront, WasGiven}
use Rattle.trace.specs.Endings.{OfTrace, IsRefused, IsWantOfMemory}
use Rattle.collect.specs.declared.bounded.ReportRefusal.{ReportRefusal}
use Rattle.collect.specs.ReportBytes.{GivesReport, IsRefusal}
use Rattle.texts.specs.Messages.{message, report_message, cannot_write}
use Rattle.replies.specs.Questions.{AnswersConfirm}

-- the trace was read whole, what answers the question was written and passed on, and nothing beside it
pub record HasAnswered (records depths : ℕ) (Says : List Record → List ℕ → ℕ → Type 0)
    (trace out err : Change) (status : ℕ) : Type 0 where
  pub text : List ℕ
  pub read : OfTrace records depths trace (λ w. Says w text status)
  pub took : Took text out
  pub passed : HasPassedOn out.new
  pub silent : IsUntouched err

-- the trace was refused for a fault, standard error has its line, and nothing of an answer was written
pub record HasFault (IsWant : Fault → Type 0) (records depths : ℕ) (trace out err : Change) : Type 0 where
  pub fault : Fault
  pub refused : IsRefused IsWant records depths trace fault
  pub untouched : IsUntouched out
  pub said : WasGiven (message fault) err

-- the trace was read whole, a write of the answer failed, and standard error has the line for that
pub record FailedToWrite (records depths : ℕ) (Says : List Record → List ℕ → ℕ → Type 0)
    (trace out err : Change) : Type 0 where
  pub text : List ℕ
  pub status : ℕ
  pub read : OfTrace records depths trace (λ w. Says w text status)
  pub took : TookFront text out
  pub said : WasGiven cannot_write err

-- Status 0 or 1 is an answer, and status 2 is none. So a source that holds a trace and doesn't fail has status 2 only
-- if memory or a thread was lacking, or if standard output failed. Either way standard error has the line: by
-- `honest` of the refusal, and by `failed`.
pub record IsAnswered (IsWant : Fault → Type 0) (records depths : ℕ) (Says : List Record → List ℕ → ℕ → Type 0)
    (trace out err : Change) (status : ℕ) : Type 0 where
  pub low : status ≤ 2
  pub answered : status < 2 → HasAnswered records depths Says trace out err status
  pub failed : status ≡ 2 → HasFault IsWant records depths trace out err
      ⊎ FailedToWrite records depths Says trace out err

-- there is no report, standard error has the line for that, and nothing of an answer was written
pub record HasNoReport (report out err : Change) (status : ℕ) : Type 0 where
  pub refusal : ReportRefusal
  pub refused : IsRefusal report refusal
  pub untouched : IsUntouched out
  pub said : WasGiven (report_message refusal) err
  pub is_two : status ≡ 2

-- the report was read whole, and then it was answered whether its entries are races of the trace
pub record HasReport (records depths : ℕ) (trace report out err : Change) (status : ℕ) : Type 0 where
  pub entries : List RaceAt
  pub given : GivesReport report entries
  pub answered : IsAnswered IsWantOfMemory records depths (AnswersConfirm entries) trace out err status

-- The program reads the report first; if there is none, it doesn't read the trace. So a report and a trace from
-- sources that hold them and don't fail have status 2 only for lack of memory, or if standard output failed.
abbrev pub IsConfirmed : (Unread : Type 0) → ℕ → ℕ → Change → Change → Change → Change → ℕ → Type 0
IsConfirmed Unread records depths trace report out err status = (Unread × HasNoReport report out err status)
    ⊎ HasReport records depths trace report out err status
