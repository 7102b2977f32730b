-- Promised: how the program ends when it merges reports.
use Rattle.std.specs.Prelude.{◌≡◌, ◌⊎◌, ℕ, ◌+◌, List, [], ◌∷◌, ◌++◌, length, Option, Result, String, string_bytes}
use Rattle.trace.specs.declared.faults.Fault.TheVariants.{NoMemory}
use Rattle.dag.specs.Accesses.{RaceAt}
use Rattle.trace.specs.Devices.{Device, Change, ◌⇝◌}
use Rattle.trace.specs.Writers.{IsUntouched, WasGiven}
use Rattle.collect.specs.ReportText.{rtext}
use Rattle.collect.specs.Merged.{IsMerged}
use Rattle.collect.specs.declared.bounded.ReportRefusal.{ReportRefusal}
use Rattle.collect.specs.declared.bounded.ReportRefusal.TheVariants as refusals
use Rattle.collect.specs.ReportBytes.{GivesReport, IsRefusal}
use Rattle.texts.specs.Messages.{message, merge_message}
use Rattle.texts.specs.Sinks.{EndsAnswer}
use Rattle.words.specs.declared.asking.MergeWords.{MergeWords}
use Rattle.replies.specs.declared.input.Input.{Input}
use Rattle.replies.specs.Inputs.{StandsFor, CannotOpen, untried}

-- the status of a report: 1 if it has a race, 0 if it has none
abbrev pub report_status : List RaceAt → ℕ
report_status [] = 0
report_status (r ∷ rs) = 1

-- The one report of these was written whole, with its status, or writing it failed; or there was no memory for it,
-- standard error has the line for that, and nothing was written.
abbrev pub HasWrittenMerged : List (List RaceAt) → Change → Change → ℕ → Type 0
HasWrittenMerged reports out err status =
    ((races : List RaceAt) × IsMerged reports races × EndsAnswer status (report_status races) (rtext races) out err)
    ⊎ ((status ≡ 2) × IsUntouched out × WasGiven (message NoMemory) err)

module _ {F E : Type 0} (Gives : List ℕ → Result F E → Type 0) (known : Input F → Option (List ℕ)) where
  -- the report that the name stands for was read whole, and has these entries
  pub record HasReadReport (name : List ℕ) (entries : List RaceAt) : Type 0 where
    pub report : Input F
    pub stands : StandsFor Gives name report
    pub left : Device
    pub given : GivesReport (untried (known report) ⇝ left) entries

  -- why the report that the name stands for wasn't taken
  pub record IsRefusedOpened (name : List ℕ) (refusal : ReportRefusal) : Type 0 where
    pub report : Input F
    pub stands : StandsFor Gives name report
    pub left : Device
    pub refused : IsRefusal (untried (known report) ⇝ left) refusal

  -- why there is no report of the name; one that can't be opened counts as a failed read
  abbrev pub IsRefusedReport : List ℕ → ReportRefusal → Type 0
  IsRefusedReport name refusal = (CannotOpen Gives name × (refusal ≡ refusals.Read)) ⊎ IsRefusedOpened name refusal

  -- these are the entries of the reports that the names stand for, in the order of the names
  abbrev pub HaveReadReports : {A : Type 0} → List (String A) → List (List RaceAt) → Type 0
  HaveReadReports [] [] = Unit {0}
  HaveReadReports [] (entries ∷ reports) = ⊥
  HaveReadReports (name ∷ names) [] = ⊥
  HaveReadReports (name ∷ names) (entries ∷ reports) = HasReadReport (string_bytes name) entries
      × HaveReadReports names reports

  -- of the reports that the names stand for that of this number, counted from 1, is the first that wasn't taken
  pub record IsFirstRefused {A : Type 0} (names : List (String A)) (number : ℕ) (refusal : ReportRefusal) : Type 0 where
    pub before : List (String A)
    pub name : String A
    pub after : List (String A)
    pub names_are : names ≡ before ++ name ∷ after
    pub number_is : number ≡ length before + 1
    pub earlier : (reports : List (List RaceAt)) × HaveReadReports before reports
    pub refused : IsRefusedReport (string_bytes name) refusal

  -- all reports were read, and one was made of them
  pub record HasMerged {A : Type 0} (names : List (String A)) (out err : Change) (status : ℕ) : Type 0 where
    pub reports : List (List RaceAt)
    pub read : HaveReadReports names reports
    pub written : HasWrittenMerged reports out err status

  -- a report was refused, standard error has the line for that, and nothing was written
  pub record HasNotMerged {A : Type 0} (names : List (String A)) (out err : Change) (status : ℕ) : Type 0 where
    pub number : ℕ
    pub refusal : ReportRefusal
    pub first : IsFirstRefused names number refusal
    pub untouched : IsUntouched out
    pub said : WasGiven (merge_message number refusal) err
    pub is_two : status ≡ 2

  -- Status 0 or 1 is that of the one report of all the named reports, which was written whole. So reports from
  -- sources that hold them and don't fail have status 2 only for lack of memory, or if standard output failed.
  abbrev pub HasMergedOf : MergeWords → Change → Change → ℕ → Type 0
  HasMergedOf merge out err status = HasMerged merge.reports.items out err status
      ⊎ HasNotMerged merge.reports.items out err status
