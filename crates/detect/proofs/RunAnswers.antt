-- How a run's end is answered.
use Rattle.detect.proofs.Common.{◌≡◌, ℕ, List, Bool, true, false, IsTrue, IsFalse, Result, Ok, Err, OnOk, IsErrAnd, inl, refl, sym, subst, ◌∙◌, Record, Part, Fault, NoMemory, placed, records_of, Device, Change, ◌⇝◌, OfTrace, IsRefused, EndsReading, IsWantOfMemoryOrThread, ends_refused, refused_for_want, Done, Run, IsFinished, IsDone, RunFindsPart}
use Rattle.detect.proofs.Endings.{trace_of, refusal_of}

same_err : (r : Result (Unit {0}) Fault) (a b : Fault) → r ≡ Err a → r ≡ Err b → a ≡ b
same_err r a b p q = let e = sym p ∙ q in cc

not_both : (r : Result (Unit {0}) Fault) (v : Unit {0}) (e : Fault) → r ≡ Ok v → r ≡ Err e → ⊥
not_both r v e p q = let x = sym p ∙ q in absurd cc

-- why there is no answer, of the same refusal and the same outcome
pub trouble_of : (b refused : Bool) (o outcome r : Result (Unit {0}) Fault) → b ≡ refused → o ≡ outcome → (IsTrue b → r ≡ Err NoMemory) → (IsFalse b → r ≡ o) → (IsTrue refused → r ≡ Err NoMemory) × (IsFalse refused → r ≡ outcome)
trouble_of b refused o outcome r same is memory none =
    let P : Bool → Type 0 = λ x. IsTrue x → r ≡ Err NoMemory in
    let Q : Bool → Type 0 = λ x. IsFalse x → r ≡ o in
    (subst P same memory, λ f. subst Q same none f ∙ is)

-- nothing was refused, and the trace was read whole
good_outcome : (refused : Bool) (outcome r : Result (Unit {0}) Fault) (v : Unit {0}) → r ≡ Ok v → (IsTrue refused → r ≡ Err NoMemory) → (IsFalse refused → r ≡ outcome) → (refused ≡ false) × (outcome ≡ Ok v)
good_outcome true outcome r v is memory none = absurd (not_both r v NoMemory is (memory refl))
good_outcome false outcome r v is memory none = (refl, sym (none refl) ∙ is)

pub none_refused : (refused : Bool) (outcome r : Result (Unit {0}) Fault) (v : Unit {0}) → r ≡ Ok v → (IsTrue refused → r ≡ Err NoMemory) → (IsFalse refused → r ≡ outcome) → refused ≡ false
none_refused refused outcome r v is memory none = (good_outcome refused outcome r v is memory none).0

-- what holds of a good outcome
pub of_good : (P : Type 0) (refused : Bool) (outcome r : Result (Unit {0}) Fault) (v : Unit {0}) → r ≡ Ok v → (IsTrue refused → r ≡ Err NoMemory) → (IsFalse refused → r ≡ outcome) → OnOk outcome P → P
of_good P refused outcome r v is memory none h =
    let Q : Result (Unit {0}) Fault → Type 0 = λ o. OnOk o P in
    subst Q (good_outcome refused outcome r v is memory none).1 h

module _ {S H : Type 0} where
  -- want of memory, a refused start, or a fault
  pub failed_run : (part : Part) (n records depths : ℕ) (change : Change) (done : Done S H) (refused : Bool) (r : Result (Unit {0}) Fault) (answer : Result Run Fault) (e : Fault) → r ≡ Err e → IsErrAnd answer (λ f. f ≡ e)
      → (IsTrue refused → r ≡ Err NoMemory) → (IsFalse refused → r ≡ done.outcome) → IsDone part n records depths change done → EndsReading IsWantOfMemoryOrThread records depths change (RunFindsPart part n) answer
  failed_run part n records depths change done refused r answer e is answers memory none h =
      ends_refused IsWantOfMemoryOrThread records depths change (RunFindsPart part n) answer e answers (go refused memory none)
    where
      go : (b : Bool) → (IsTrue b → r ≡ Err NoMemory) → (IsFalse b → r ≡ done.outcome) → IsRefused IsWantOfMemoryOrThread records depths change e
      go true m k = refused_for_want IsWantOfMemoryOrThread records depths change e (inl (same_err r e NoMemory is (m refl)))
      go false m k = refusal_of IsWantOfMemoryOrThread records depths change (λ (v : Unit {0}) (w : List Record). IsFinished n done (records_of part (placed w))) done.outcome h e (sym (k refl) ∙ is)

  pub finished_of : (part : Part) (n records depths : ℕ) (change : Change) (done : Done S H) (refused : Bool) (r : Result (Unit {0}) Fault) (v : Unit {0}) → r ≡ Ok v → (IsTrue refused → r ≡ Err NoMemory) → (IsFalse refused → r ≡ done.outcome)
      → IsDone part n records depths change done → OfTrace records depths change (λ w. IsFinished n done (records_of part (placed w)))
  finished_of part n records depths change done refused r v is memory none h =
      trace_of IsWantOfMemoryOrThread records depths change (λ (v : Unit {0}) (w : List Record). IsFinished n done (records_of part (placed w))) done.outcome h v (good_outcome refused done.outcome r v is memory none).1

-- the same of as many shards, where the source is the same at last
pub run_ends : {X : Type 0} (part : Part) (state : X → Device) (n m records depths : ℕ) (before : Device) (x x' : X) (r : Result Run Fault) → n ≡ m → x' ≡ x
    → EndsReading IsWantOfMemoryOrThread records depths (before ⇝ state x) (RunFindsPart part n) r → EndsReading IsWantOfMemoryOrThread records depths (before ⇝ state x') (RunFindsPart part m) r
run_ends {X = X} part state n m records depths before x x' r same end h =
    let P : ℕ → Type 0 = λ k. EndsReading IsWantOfMemoryOrThread records depths (before ⇝ state x) (RunFindsPart part k) r in
    let Q : X → Type 0 = λ y. EndsReading IsWantOfMemoryOrThread records depths (before ⇝ state y) (RunFindsPart part m) r in
    subst Q (sym end) (subst P same h)
