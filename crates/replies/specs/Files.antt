-- Promised: what the names stand for that were asked with, and how the answer ends of what they stand for.
use Rattle.std.specs.Prelude.{◌⊎◌, ℕ, ⊤, List, Option, None, Result, string_bytes}
use Rattle.std.specs.declared.fs.File.{File}
use Rattle.std.specs.declared.io.Error.{Error}
use Rattle.dag.specs.Bounds.{most_records}
use Rattle.trace.specs.Devices.{Device, Change, ◌⇝◌}
use Rattle.words.specs.declared.asking.Asked.{Asked}
use Rattle.words.specs.declared.asking.Asked.TheVariants as asked
use Rattle.words.specs.declared.asking.Question.{Question}
use Rattle.words.specs.declared.asking.ConfirmWords.{ConfirmWords}
use Rattle.words.specs.Asked.{depth_of, trace_name}
use Rattle.replies.specs.declared.input.Input.{Input}
pub use Rattle.replies.specs.Inputs.{untried}
use Rattle.replies.specs.Inputs.{StandsFor, HasNotOpened, known_bytes}
use Rattle.replies.specs.Questions.{Answers, IsWant}
use Rattle.replies.specs.Answered.{IsAnswered, IsConfirmed}
use Rattle.replies.specs.Merges.{HasMergedOf}

module _ {F E : Type 0} (Gives : List ℕ → Result F E → Type 0) (known : Input F → Option (List ℕ)) where
  -- the question was answered of the trace that its name stands for, or there is no answer
  pub record HasAnsweredOpened (question : Question) (out err : Change) (status : ℕ) : Type 0 where
    pub trace : Input F
    pub stands : StandsFor Gives (trace_name question) trace
    pub left : Device
    pub answered : IsAnswered (IsWant question) most_records (depth_of question) (Answers question)
        (untried (known trace) ⇝ left) out err status

  -- The same of the report and the trace that their names stand for. Both are closed before the call ends, and then
  -- nothing says what they have left: that a trace isn't read without a report is a clause of `answer_confirm` alone.
  pub record HasConfirmedOpened (confirm : ConfirmWords) (out err : Change) (status : ℕ) : Type 0 where
    pub trace : Input F
    pub report : Input F
    pub trace_stands : StandsFor Gives (string_bytes confirm.trace) trace
    pub report_stands : StandsFor Gives (string_bytes confirm.report) report
    pub trace_left : Device
    pub report_left : Device
    pub confirmed : IsConfirmed ⊤ most_records confirm.depth
        (untried (known trace) ⇝ trace_left) (untried (known report) ⇝ report_left) out err status

  -- the trace's name can't be opened, or the question was answered of what it stands for
  abbrev pub HasAnsweredOf : Question → Change → Change → ℕ → Type 0
  HasAnsweredOf question out err status = HasNotOpened Gives (trace_name question) out err status
      ⊎ HasAnsweredOpened question out err status

  -- one of the two names can't be opened, or it was confirmed of what they stand for
  abbrev pub HasConfirmedOf : ConfirmWords → Change → Change → ℕ → Type 0
  HasConfirmedOf confirm out err status = HasNotOpened Gives (string_bytes confirm.trace) out err status
      ⊎ HasNotOpened Gives (string_bytes confirm.report) out err status
      ⊎ HasConfirmedOpened confirm out err status

  -- what is asked was answered of what the names stand for
  abbrev pub IsAnsweredOf : Asked → Change → Change → ℕ → Type 0
  IsAnsweredOf (asked.Question q) out err status = HasAnsweredOf q out err status
  IsAnsweredOf (asked.Confirm c) out err status = HasConfirmedOf c out err status
  IsAnsweredOf (asked.Merge m) out err status = HasMergedOf Gives known m out err status

-- The same of the files of the system: no contract says what opening a name gives, or which bytes a file has.
abbrev pub IsAnsweredOfFiles : Asked → Change → Change → ℕ → Type 0
IsAnsweredOfFiles = IsAnsweredOf {F = File} {E = Error} (λ name opened. ⊤) (known_bytes (λ file. None))
