-- Promised: what a device goes through: the bytes of a source or of a sink, and how often it failed.
use Rattle.std.specs.Prelude.{◌≡◌, ℕ, ◌+◌, ◌-◌, ◌^◌, min, Bool, false, List, Option, Result, MatchResult}
use Rattle.std.specs.Io.KnownBytes.{Consumes, IsAtEnd}

-- a device at a moment: the bytes that a source still has, or that a sink has taken, if it shows them; how often it has
-- failed; and whether a sink may hold back some of them
pub record Device : Type 0 where
  pub bytes : Option (List ℕ)
  pub failures : ℕ
  pub holds_back : Bool

-- a device at a moment, and at a later one
pub record Change : Type 0 where
  pub old : Device
  pub new : Device

infixl 20 ◌⇝◌
abbrev pub ◌⇝◌ : Device → Device → Change
old ⇝ new = record { old = old; new = new }

-- it didn't fail
abbrev pub IsSteady : Change → Type 0
IsSteady c = c.new.failures ≡ c.old.failures

-- it failed once more; at the greatest number the count stays, and counts as risen
abbrev pub HasFailed : Change → Type 0
HasFailed c = c.new.failures ≡ min (c.old.failures + 1) (2 ^ 64 - 1)

-- a call that answers Err has failed, and any other hasn't
abbrev pub Counts : {T E : Type 0} → Result T E → Change → Type 0
Counts r c = MatchResult r (λ _. IsSteady c) (λ _. HasFailed c)

-- a sink has passed on all that it took
abbrev pub HasPassedOn : Device → Type 0
HasPassedOn sink = sink.holds_back ≡ false

-- these bytes came from a source
abbrev pub Gave : Change → List ℕ → Type 0
Gave c came = Consumes c.old.bytes c.new.bytes came

-- a source has no more bytes
abbrev pub IsUsedUp : Device → Type 0
IsUsedUp source = IsAtEnd source.bytes
