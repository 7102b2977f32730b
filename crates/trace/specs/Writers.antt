-- Promised: what a sink got: bytes, a prefix of them, or nothing.
use Rattle.std.specs.Prelude.{◌≡◌, ℕ, List, ◌++◌, ◌⊎◌, Option, Result, MatchResult}
use Rattle.std.specs.Io.KnownBytes.{Keeps, Appends}
use Rattle.trace.specs.Devices.{Change, IsSteady, HasFailed}

-- it got nothing
pub record IsUntouched (c : Change) : Type 0 where
  pub bytes : Keeps c.old.bytes c.new.bytes
  pub steady : IsSteady c

-- it took these bytes
pub record Took (whole : List ℕ) (c : Change) : Type 0 where
  pub bytes : Appends c.old.bytes c.new.bytes whole
  pub steady : IsSteady c

-- a prefix of the bytes was appended, and nothing else
pub record AppendsFront (old new : Option (List ℕ)) (bytes : List ℕ) : Type 0 where
  pub front : List ℕ
  pub back : List ℕ
  pub split : front ++ back ≡ bytes
  pub appended : Appends old new front

-- it failed, and took a prefix of these bytes
pub record TookFront (whole : List ℕ) (c : Change) : Type 0 where
  pub bytes : AppendsFront c.old.bytes c.new.bytes whole
  pub failed : HasFailed c

-- it was given these bytes, and may have failed
abbrev pub WasGiven : List ℕ → Change → Type 0
WasGiven bytes c = Took bytes c ⊎ TookFront bytes c

-- Ok if it took these bytes, and Err if it failed
abbrev pub Puts : {T E : Type 0} → Result T E → List ℕ → Change → Type 0
Puts r bytes c = MatchResult r (λ _. Took bytes c) (λ _. TookFront bytes c)
