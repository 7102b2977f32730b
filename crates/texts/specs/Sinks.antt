-- Promised: what the end of an answer says, by its status.
use Rattle.std.specs.Prelude.{◌≡◌, ℕ, List, ◌⊎◌}
use Rattle.trace.specs.Devices.{Change, HasPassedOn}
use Rattle.trace.specs.Writers.{IsUntouched, Took, TookFront, WasGiven}
use Rattle.texts.specs.Messages.{cannot_write}

-- The end of an answer with this status: it was written whole and passed on, and this is the status; or writing it
-- failed, the status is 2, and standard error has the line for that.
abbrev pub EndsAnswer : ℕ → ℕ → List ℕ → Change → Change → Type 0
EndsAnswer result status text out err = ((result ≡ status) × Took text out × IsUntouched err × HasPassedOn out.new)
    ⊎ ((result ≡ 2) × TookFront text out × WasGiven cannot_write err)
