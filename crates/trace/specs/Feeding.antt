-- Promised: what a feed has read of its source, and what its answers say.
use Rattle.std.specs.Prelude.{◌≡◌, ℕ, ◌+◌, List, [], ◌∷◌, ◌++◌, length, Option, Some, None, Result, Ok, Err, ◌⊎◌}
use Rattle.dag.specs.declared.records.Version.{Version}
use Rattle.dag.specs.declared.records.Record.{Record}
use Rattle.dag.specs.declared.records.Placed.{Placed}
use Rattle.trace.specs.declared.faults.Fault.{Fault}
use Rattle.trace.specs.declared.faults.Fault.TheVariants as faults
use Rattle.trace.specs.declared.intake.Ending.{Ending}
use Rattle.trace.specs.declared.intake.Ending.TheVariants.{Running, Good, Bad}
use Rattle.dag.specs.Traces.{IsWellNested}
use Rattle.trace.specs.Text.{text, AllFit}
use Rattle.trace.specs.Faults.{IsFirstFault, IsFaultOfAll}
use Rattle.trace.specs.Devices.{Device, Change, IsSteady, HasFailed, Gave, IsUsedUp}
use Rattle.trace.specs.Reading.{Reading, at_first_byte, HasRead}
use Rattle.trace.specs.Nesting.{Nesting, at_first_place, HasNested}

-- a feed: its reader and its nest, the bytes that have come and aren't used yet, and how it has ended
pub record Feeding : Type 0 where
  pub reading : Reading
  pub nesting : Nesting
  pub coming : List ℕ
  pub ending : Ending

abbrev pub before_all : ℕ → ℕ → Feeding
before_all records depths =
    record { reading = at_first_byte records; nesting = at_first_place depths; coming = []; ending = Running }

-- of the bytes that have come those in front were used, and gave the records w
pub record HasUsed (w : List Record) (bytes : List ℕ) (s : Feeding) : Type 0 where
  pub used : List ℕ
  pub bytes_are : bytes ≡ used ++ s.coming
  pub has_read : HasRead w used s.reading

-- from these bytes the feed has given the records w, and it hasn't ended
pub record HasFed (w : List Record) (bytes : List ℕ) (s : Feeding) : Type 0 where
  pub has_used : HasUsed w bytes s
  pub has_nested : HasNested w s.nesting
  pub running : s.ending ≡ Running

-- a fault of the text or the nesting is the first fault of the bytes so far, or at the end of the input
-- that of all bytes
abbrev pub IsFaultThen : ℕ → ℕ → List ℕ → Change → Fault → Type 0
IsFaultThen records depths bytes c f = IsFirstFault records depths bytes f
    ⊎ (IsUsedUp c.new × IsFaultOfAll records depths bytes f)

-- What a fault says of the bytes that have come, and of what their source went through. `Read` comes only if the
-- source failed, and the bytes before that hold no fault.
abbrev pub IsFaultFed : ℕ → ℕ → List ℕ → Change → Fault → Type 0
IsFaultFed records depths bytes c (faults.Text f) = IsFaultThen records depths bytes c (faults.Text f) × IsSteady c
IsFaultFed records depths bytes c (faults.Nest f) = IsFaultThen records depths bytes c (faults.Nest f) × IsSteady c
IsFaultFed records depths bytes c faults.Read = ((g : Fault) → IsFirstFault records depths bytes g → ⊥) × HasFailed c
IsFaultFed records depths bytes c faults.NoMemory = ⊥
IsFaultFed records depths bytes c faults.NoThread = ⊥

-- the end of the input: the bytes are the text of w in a version, and w is well nested within the limits
pub record IsWhole (records depths : ℕ) (w : List Record) (bytes : List ℕ) (source : Device) : Type 0 where
  pub used_up : IsUsedUp source
  pub version : Version
  pub bytes_are : bytes ≡ text version w
  pub fits : AllFit version w
  pub well_nested : IsWellNested w records depths

-- What a feed's answer says that had given the records w: the next record in its place, the end, or a fault.
abbrev pub IsFed : ℕ → ℕ → List Record → List ℕ → Change → Feeding → Result (Option Placed) Fault → Type 0
IsFed records depths w bytes c new (Ok (Some p)) = (p.place ≡ length w + 1) × HasFed (w ++ p.what ∷ []) bytes new
    × IsSteady c
IsFed records depths w bytes c new (Ok None) = IsWhole records depths w bytes c.new × (new.ending ≡ Good) × IsSteady c
IsFed records depths w bytes c new (Err f) = IsFaultFed records depths bytes c f × (new.ending ≡ Bad f)

-- What comes next from a source, after any records w that were given of these bytes.
abbrev pub GivesNext : Feeding → Feeding → Change → Result (Option Placed) Fault → Type 0
GivesNext old new c result = (w : List Record) (bytes : List ℕ) → HasFed w bytes old
    → (came : List ℕ) × Gave c came × IsFed old.reading.limit old.nesting.max_depth w (bytes ++ came) c new result

-- The feed has ended only as it answered.
pub record EndsAsAnswered (new : Feeding) (result : Result (Option Placed) Fault) : Type 0 where
  pub good : new.ending ≡ Good → result ≡ Ok None
  pub bad : (f : Fault) → new.ending ≡ Bad f → result ≡ Err f

pub record HasSameLimits (old new : Feeding) : Type 0 where
  pub records : new.reading.limit ≡ old.reading.limit
  pub depths : new.nesting.max_depth ≡ old.nesting.max_depth

-- The answer of a feed that is asked for the next record. Whatever it had read, it answers `Read` only if the source
-- failed meanwhile, or if it had ended with `Read`. Once it has ended it gives that answer again, and stays as it is.
pub record IsNext (old new : Feeding) (c : Change) (result : Result (Option Placed) Fault) : Type 0 where
  pub fed : GivesNext old new c result
  pub read : result ≡ Err faults.Read → HasFailed c ⊎ (old.ending ≡ Bad faults.Read)
  pub answered : EndsAsAnswered new result
  pub good : old.ending ≡ Good → (result ≡ Ok None) × (new ≡ old)
  pub bad : (f : Fault) → old.ending ≡ Bad f → (result ≡ Err f) × (new ≡ old)
  pub limits : HasSameLimits old new
