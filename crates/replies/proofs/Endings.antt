-- How an answer ends: with what was put and passed on, or with the line for a fault.
use Rattle.replies.proofs.Common.{◌≡◌, ℕ, ◌<◌, List, refl, sym, subst, inl, inr, arith, Keeps-refl, Record, Device, Change, ◌⇝◌, IsUntouched, WasGiven, IsWellNested, message, status_of, IsAnswered}
use Rattle.trace.specs.declared.faults.Fault.{Fault}
use Rattle.trace.specs.Endings.{OfTrace, ReadsWhole, IsRefused}
use Rattle.trace.proofs.Feedings.{at_limits}
use Rattle.audit.specs.declared.answers.Confirm.{Confirm}
use Rattle.audit.specs.declared.answers.Confirm.TheVariants.{Yes, No}
use Rattle.texts.specs.Sinks.{EndsAnswer}

-- a device that nothing was done to
pub untouched : (d : Device) → IsUntouched (d ⇝ d)
untouched d = record { bytes = Keeps-refl d.bytes; steady = refl }

-- what is said of a trace within the limits of its reading, said within these
pub says_so : {records depths : ℕ} {c : Change} {P Q : List Record → Type 0} (limit depth : ℕ) → records ≡ limit → depths ≡ depth → ((w : List Record) → P w → Q w) → OfTrace records depths c P → OfTrace limit depth c Q
says_so {records} {depths} {c} limit depth e f so run =
    let At : ℕ → ℕ → Type 0 = λ r d. ReadsWhole r d c run.trace in
    record { trace = run.trace; read = at_limits At records limit depths depth e f run.read; says = so run.trace run.says }

-- the same, said of a trace that is well nested, as the one that was read is
pub says_of_nested : {records depths : ℕ} {c : Change} {P Q : List Record → Type 0} (limit depth : ℕ) → records ≡ limit → depths ≡ depth → ((w : List Record) → IsWellNested w records depths → P w → Q w) → OfTrace records depths c P
    → OfTrace limit depth c Q
says_of_nested {records} {depths} {c} limit depth e f so run =
    let At : ℕ → ℕ → Type 0 = λ r d. ReadsWhole r d c run.trace in
    record { trace = run.trace; read = at_limits At records limit depths depth e f run.read; says = so run.trace run.read.whole.well_nested run.says }

module _ {IsWant : Fault → Type 0} {records depths : ℕ} {Says : List Record → List ℕ → ℕ → Type 0} {trace out err : Change} where
  -- what was put and passed on is the answer
  pub answered : (result status : ℕ) (text : List ℕ) → status < 2 → OfTrace records depths trace (λ w. Says w text status) → EndsAnswer result status text out err → IsAnswered IsWant records depths Says trace out err result
  answered result status text low run (inl whole) =
      let P : ℕ → Type 0 = λ s. OfTrace records depths trace (λ w. Says w text s) in
      record {
        low = omega (arith, whole.0, low);
        answered = λ _. record { text = text; read = subst P (sym whole.0) run; took = whole.1; passed = whole.3; silent = whole.2 };
        failed = λ two. absurd (omega (arith, whole.0, low, two));
      }
  answered result status text low run (inr front) = record {
    low = omega (arith, front.0);
    answered = λ less. absurd (omega (arith, front.0, less));
    failed = λ _. inr (record { text = text; status = status; read = run; took = front.1; said = front.2 });
  }

  -- a fault whose line was written is why there is no answer
  pub refused : {limit depth : ℕ} {f : Fault} {status : ℕ} → limit ≡ records → depth ≡ depths → IsRefused IsWant limit depth trace f → IsUntouched out → status ≡ 2 → WasGiven (message f) err → IsAnswered IsWant records depths Says trace out err status
  refused {limit} {depth} {f} e e' why untouched two given =
      let At : ℕ → ℕ → Type 0 = λ r d. IsRefused IsWant r d trace f in
      record {
        low = omega (arith, two);
        answered = λ less. absurd (omega (arith, two, less));
        failed = λ _. inl (record { fault = f; refused = at_limits At limit records depth depths e e' why; untouched = untouched; said = given });
      }

pub status_low : (answer : Confirm) → status_of answer < 2
status_low Yes = omega arith
status_low (No entry) = omega arith
