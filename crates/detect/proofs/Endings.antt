-- How readings that stand on one another end.
use Rattle.detect.proofs.Common.{◌≡◌, ℕ, List, Result, Ok, Err, ⊎_elim, subst, Record, Fault, NoThread, Change, OfTrace, IsRefused, EndsReading, IsWantOfMemory, refused_also}

module _ {T : Type 0} (IsWant : Fault → Type 0) (records depths : ℕ) (c : Change) (Says : T → List Record → Type 0) (r : Result T Fault) (ends : EndsReading IsWant records depths c Says r) where
  pub trace_of : (answer : T) → r ≡ Ok answer → OfTrace records depths c (Says answer)
  trace_of answer is = let P : Result T Fault → Type 0 = EndsReading IsWant records depths c Says in subst P is ends

  pub refusal_of : (f : Fault) → r ≡ Err f → IsRefused IsWant records depths c f
  refusal_of f is = let P : Result T Fault → Type 0 = EndsReading IsWant records depths c Says in subst P is ends

-- a reading in one thread never lacks a thread
pub lacks_no_thread : {T : Type 0} (records depths : ℕ) (c : Change) (Says : T → List Record → Type 0) (r : Result T Fault) → EndsReading IsWantOfMemory records depths c Says r → r ≡ Err NoThread → ⊥
lacks_no_thread records depths c Says r ends is =
    let why = refusal_of IsWantOfMemory records depths c Says r ends NoThread is in
    ⊎_elim (λ e. absurd cc) (λ fault. fault.2) why.first

-- more may be wanting, and other things are said of the same trace
pub ends_with : {T : Type 0} (A B : Fault → Type 0) (records depths : ℕ) (c : Change) (Says Also : T → List Record → Type 0) (r : Result T Fault) → ((f : Fault) → A f → B f) → ((answer : T) (w : List Record) → Says answer w → Also answer w)
    → EndsReading A records depths c Says r → EndsReading B records depths c Also r
ends_with A B records depths c Says Also (Ok answer) more also ends = record { trace = ends.trace; read = ends.read; says = also answer ends.trace ends.says }
ends_with A B records depths c Says Also (Err f) more also ends = refused_also A B more records depths c f ends
