-- Of a source that shows its bytes: what is reported is said of the trace that they are the text of, and the fault is the
-- first of these bytes.
use Rattle.detect.proofs.Common.{◌≡◌, ℕ, List, ◌++◌, false, Option, Some, None, ◌⊎◌, inl, inr, sym, ◌∙◌, ap, subst, arith, Result, Ok, Err, IfErr, MatchResult, append-nil, Record, Fault, Text, Nest, Read, NoMemory, NoThread, IsWellNested, Device, Change, ◌⇝◌, HasFailed, IsFaultThen, IsFaultFed, ReadsWhole, IsRefused, EndsReading}
use Rattle.std.specs.Io.KnownBytes.{Consumes, IsAtEnd}
use Rattle.dag.specs.declared.records.Version.{Version}
use Rattle.trace.specs.Text.{text, AllFit}
use Rattle.trace.specs.Faults.{IsFirstFault, IsFaultOfAll}
use Rattle.trace.specs.Faults.IsFaultOfAll.{before_end}
use Rattle.trace.proofs.Readability.{text_injective}
use Rattle.trace.proofs.Cuttings.{first_fault_more}

-- a source that shows its bytes, and never fails
abbrev pub holding : List ℕ → Device
holding bytes = record { bytes = Some bytes; failures = 0; holds_back = false }

never_failed : (bytes left : List ℕ) → HasFailed (holding bytes ⇝ holding left) → ⊥
never_failed bytes left e = absurd (omega (arith, e))

-- the trace that was read whole is the one whose text the bytes are
pub same_trace : (records depths : ℕ) (c : Change) (u : List Record) (v : Version) (w : List Record) → c.old.bytes ≡ Some (text v w) → AllFit v w
    → ReadsWhole records depths c u → u ≡ w
same_trace records depths c u v w is fit read = let P : Option (List ℕ) → Type 0 = λ o. Consumes o c.new.bytes read.came in go c.new.bytes read.whole.used_up (subst P is read.gave)
  where
    go : (after : Option (List ℕ)) → IsAtEnd after → Consumes (Some (text v w)) after read.came → u ≡ w
    go None end consumed = absurd consumed
    go (Some left) end consumed =
        let all : text v w ≡ read.came = consumed ∙ ap (λ l. read.came ++ l) end ∙ append-nil read.came in
        text_injective read.whole.version v u w read.whole.fits fit (sym read.whole.bytes_are ∙ sym all)

module _ (records depths : ℕ) (bytes left : List ℕ) where
  fault_then : (came : List ℕ) (f : Fault) → bytes ≡ came ++ left → IsFaultThen records depths came (holding bytes ⇝ holding left) f → IsFaultOfAll records depths bytes f
  fault_then came f consumed (inl first) =
      let P : List ℕ → Type 0 = λ b. IsFirstFault records depths b f in
      before_end f (subst P (sym consumed) (first_fault_more records depths came left f first))
  fault_then came f consumed (inr (end, all)) =
      let P : List ℕ → Type 0 = λ b. IsFaultOfAll records depths b f in
      subst P (sym (consumed ∙ ap (λ l. came ++ l) end ∙ append-nil came)) all

  fault_fed : (came : List ℕ) (f : Fault) → bytes ≡ came ++ left → IsFaultFed records depths came (holding bytes ⇝ holding left) f → IsFaultOfAll records depths bytes f
  fault_fed came (Text f) consumed fed = fault_then came (Text f) consumed fed.0
  fault_fed came (Nest f) consumed fed = fault_then came (Nest f) consumed fed.0
  fault_fed came Read consumed fed = absurd (never_failed bytes left fed.1)
  fault_fed came NoMemory consumed fed = absurd fed
  fault_fed came NoThread consumed fed = absurd fed

  -- what is wanting, or the first fault of the bytes
  pub known_fault : (IsWant : Fault → Type 0) (f : Fault) → IsRefused IsWant records depths (holding bytes ⇝ holding left) f → IsWant f ⊎ IsFaultOfAll records depths bytes f
  known_fault IsWant f refused = go refused.first
    where
      go : IsWant f ⊎ ((came : List ℕ) × (bytes ≡ came ++ left) × IsFaultFed records depths came (holding bytes ⇝ holding left) f) → IsWant f ⊎ IsFaultOfAll records depths bytes f
      go (inl want) = inl want
      go (inr (came, consumed, fed)) = inr (fault_fed came f consumed fed)

  module _ {T : Type 0} (IsWant : Fault → Type 0) (Says : T → List Record → Type 0) where
    -- what a reading says of the trace that the bytes are the text of, and what is wanting where it says nothing
    pub known_answer : (r : Result T Fault) → EndsReading IsWant records depths (holding bytes ⇝ holding left) Says r
        → (v : Version) (w : List Record) → bytes ≡ text v w → AllFit v w → IsWellNested w records depths → MatchResult r (λ answer. Says answer w) IsWant
    known_answer (Ok answer) ends v w is fit nested = subst (Says answer) (same_trace records depths (holding bytes ⇝ holding left) ends.trace v w (ap Some is) fit ends.read) ends.says
    known_answer (Err f) ends v w is fit nested = ends.honest w (record { version = v; is_text = ap Some is; fits = fit; well_nested = nested; never_failed = never_failed bytes left })

    pub known_refusal : (r : Result T Fault) → EndsReading IsWant records depths (holding bytes ⇝ holding left) Says r → IfErr r (λ f. IsWant f ⊎ IsFaultOfAll records depths bytes f)
    known_refusal (Ok answer) ends = tt
    known_refusal (Err f) ends = known_fault IsWant f ends
