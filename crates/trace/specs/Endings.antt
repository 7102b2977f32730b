-- Promised: how the reading of a trace ends: with the trace that was read, or with a fault.
use Rattle.std.specs.Prelude.{◌≡◌, ℕ, List, Some, ◌⊎◌, Result, MatchResult}
use Rattle.dag.specs.declared.records.Version.{Version}
use Rattle.dag.specs.declared.records.Record.{Record}
use Rattle.trace.specs.declared.faults.Fault.{Fault}
use Rattle.trace.specs.declared.faults.Fault.TheVariants.{NoMemory, NoThread}
use Rattle.dag.specs.Traces.{IsWellNested}
use Rattle.trace.specs.Text.{text, AllFit}
use Rattle.trace.specs.Devices.{Change, Gave, HasFailed}
use Rattle.trace.specs.Feeding.{IsWhole, IsFaultFed}

-- the bytes that came are the text of w in a version, w is well nested within the limits, and they are all that the
-- source had
pub record ReadsWhole (records depths : ℕ) (c : Change) (w : List Record) : Type 0 where
  pub came : List ℕ
  pub gave : Gave c came
  pub whole : IsWhole records depths w came c.new

-- what is said of the trace that was read whole
pub record OfTrace (records depths : ℕ) (c : Change) (Says : List Record → Type 0) : Type 0 where
  pub trace : List Record
  pub read : ReadsWhole records depths c trace
  pub says : Says trace

-- a source that shows its bytes and doesn't fail: they are the text of w in a version, and w is well nested within
-- the limits
pub record HoldsTrace (records depths : ℕ) (c : Change) (w : List Record) : Type 0 where
  pub version : Version
  pub is_text : c.old.bytes ≡ Some (text version w)
  pub fits : AllFit version w
  pub well_nested : IsWellNested w records depths
  pub never_failed : HasFailed c → ⊥

-- what a reading in one thread may lack
abbrev pub IsWantOfMemory : Fault → Type 0
IsWantOfMemory f = f ≡ NoMemory

-- what a reading with threads may lack
abbrev pub IsWantOfMemoryOrThread : Fault → Type 0
IsWantOfMemoryOrThread f = (f ≡ NoMemory) ⊎ (f ≡ NoThread)

-- Why a reading gives no answer. Memory or a thread was lacking; or the fault is the first of the bytes that came, or
-- the source failed before any. A source that holds a trace and doesn't fail is refused only for such a lack.
pub record IsRefused (IsWant : Fault → Type 0) (records depths : ℕ) (c : Change) (f : Fault) : Type 0 where
  pub first : IsWant f ⊎ ((came : List ℕ) × Gave c came × IsFaultFed records depths came c f)
  pub honest : (w : List Record) → HoldsTrace records depths c w → IsWant f

-- the answer is one to the trace that was read, or the fault is why there is none
abbrev pub EndsReading : {T : Type 0} → (Fault → Type 0) → ℕ → ℕ → Change → (T → List Record → Type 0)
    → Result T Fault → Type 0
EndsReading IsWant records depths c Says r =
    MatchResult r (λ answer. OfTrace records depths c (Says answer)) (IsRefused IsWant records depths c)
