-- Promised: what a name on the command line stands for.
use Rattle.std.specs.Prelude.{◌≡◌, ◌≢◌, ◌↔◌, ℕ, ⊤, false, List, Option, None, Result, Ok, Err, codes}
use Rattle.trace.specs.declared.faults.Fault.TheVariants.{Read}
use Rattle.trace.specs.Devices.{Device, Change}
use Rattle.trace.specs.Writers.{IsUntouched, WasGiven}
use Rattle.texts.specs.Messages.{message}
use Rattle.replies.specs.declared.input.Input.{Input}
use Rattle.replies.specs.declared.input.Input.TheVariants.{File, Standard}

-- standard input
abbrev pub IsStandard : {F : Type 0} → Input F → Type 0
IsStandard (File f) = ⊥
IsStandard (Standard s) = ⊤

-- a file is what an opening gave
abbrev pub IsOpened : {F E : Type 0} → (Result F E → Type 0) → Input F → Type 0
IsOpened Gives (File f) = Gives (Ok f)
IsOpened Gives (Standard s) = ⊤

-- what the name stands for: standard input exactly if it is `-`, otherwise the file that opening this name gave
pub record StandsFor {F E : Type 0} (Gives : List ℕ → Result F E → Type 0) (name : List ℕ) (input : Input F)
    : Type 0 where
  pub standard : IsStandard input ↔ (name ≡ codes "-")
  pub opened : IsOpened (Gives name) input

-- it isn't standard input, and opening this name gave an error
pub record CannotOpen {F E : Type 0} (Gives : List ℕ → Result F E → Type 0) (name : List ℕ) : Type 0 where
  pub no_standard : name ≢ codes "-"
  pub error : E
  pub given : Gives name (Err error)

-- A name that can't be opened counts as a failed read: standard error has the line for that, and nothing of an answer
-- was written.
pub record HasNotOpened {F E : Type 0} (Gives : List ℕ → Result F E → Type 0) (name : List ℕ) (out err : Change)
    (status : ℕ) : Type 0 where
  pub cannot : CannotOpen Gives name
  pub untouched : IsUntouched out
  pub said : WasGiven (message Read) err
  pub is_two : status ≡ 2

-- the bytes that are still to come, if the file shows them
abbrev pub known_bytes : {F : Type 0} → (F → Option (List ℕ)) → Input F → Option (List ℕ)
known_bytes remaining (File f) = remaining f
known_bytes remaining (Standard s) = None

-- a device with these bytes, which no call has failed of
abbrev pub untried : Option (List ℕ) → Device
untried bytes = record { bytes = bytes; failures = 0; holds_back = false }
