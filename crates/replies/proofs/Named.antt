-- How an answer ends of what names stand for.
use Rattle.replies.proofs.Common.{false, ◌≡◌, ℕ, List, Option, Result, string_bytes, ap, ◌∙◌, subst, inl, inr, ⊤, Device, Change, ◌⇝◌, WasGiven, depth_of, trace_name, message, Answers, IsWant, IsAnswered, IsConfirmed, Input, StandsFor, CannotOpen, HasNotOpened, HasAnsweredOpened, HasConfirmedOpened}
use Rattle.trace.specs.declared.faults.Fault.TheVariants.{Read}
use Rattle.dag.specs.Bounds.{most_records}
use Rattle.words.specs.declared.asking.Question.{Question}
use Rattle.words.specs.declared.asking.ConfirmWords.{ConfirmWords}
use Rattle.replies.specs.Files.{untried}
use Rattle.replies.proofs.Endings.{untouched}

-- what is said if nothing tells whether the trace was read
read_or_not : {Unread : Type 0} {records depths : ℕ} {trace report out err : Change} {status : ℕ} → IsConfirmed Unread records depths trace report out err status → IsConfirmed ⊤ records depths trace report out err status
read_or_not (inl (unread, none)) = inl (tt, none)
read_or_not (inr both) = inr both

-- a name that can't be opened is answered for by the line for a failed read
pub not_opened : {F E : Type 0} {Gives : List ℕ → Result F E → Type 0} {name : List ℕ} {err : Change} {status : ℕ} (out : Device) → CannotOpen Gives name → status ≡ 2 → WasGiven (message Read) err → HasNotOpened Gives name (out ⇝ out) err status
not_opened out cannot two said = record { cannot = cannot; untouched = untouched out; said = said; is_two = two }

module _ {F E : Type 0} (Gives : List ℕ → Result F E → Type 0) (known : Input F → Option (List ℕ)) {out err : Change} where
  -- a trace alone was answered for
  pub answered_alone : (q : Question) (trace : Input F) (status : ℕ) (before after : Device) → StandsFor Gives (trace_name q) trace → before ≡ untried (known trace)
      → IsAnswered (IsWant q) most_records (depth_of q) (Answers q) (before ⇝ after) out err status → HasAnsweredOpened Gives known q out err status
  answered_alone q trace status before after stands is answered =
      let P : Device → Type 0 = λ d. IsAnswered (IsWant q) most_records (depth_of q) (Answers q) (d ⇝ after) out err status in
      record { trace = trace; stands = stands; left = after; answered = subst P is answered }

  -- a report and a trace were answered for
  pub answered_both : (c : ConfirmWords) (trace report : Input F) {Unread : Type 0} (status : ℕ) (before after report_before report_after : Device)
      → StandsFor Gives (string_bytes c.trace) trace → StandsFor Gives (string_bytes c.report) report → before ≡ untried (known trace) → report_before ≡ untried (known report)
      → IsConfirmed Unread most_records c.depth (before ⇝ after) (report_before ⇝ report_after) out err status → HasConfirmedOpened Gives known c out err status
  answered_both c trace report status before after report_before report_after stands beside is is' confirmed =
      let P : Device → Type 0 = λ d. IsConfirmed ⊤ most_records c.depth (untried (known trace) ⇝ after) (d ⇝ report_after) out err status in
      let Q : Device → Type 0 = λ d. IsConfirmed ⊤ most_records c.depth (d ⇝ after) (report_before ⇝ report_after) out err status in
      record {
        trace = trace;
        report = report;
        trace_stands = stands;
        report_stands = beside;
        trace_left = after;
        report_left = report_after;
        confirmed = subst P is' (subst Q is (read_or_not confirmed));
      }

abbrev device : Option (List ℕ) → ℕ → Device
device bytes failures = record { bytes = bytes; failures = failures; holds_back = false }

pub is_untried : {bytes known : Option (List ℕ)} {failures : ℕ} → bytes ≡ known → failures ≡ 0 → device bytes failures ≡ untried known
is_untried {bytes} {known} {failures} e none = ap (λ b. device b failures) e ∙ ap (device known) none
