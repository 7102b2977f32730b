-- Private: an active procedure, as it is held.
use Rattle.std.specs.Prelude.{ℕ, Bool}
use Rattle.bags.specs.Words.{number_in, flag_in}

-- an active procedure: where its stretches begin, its number, and whether it was called
pub record Nested : Type 0 where
  pub begins : ℕ
  pub number : ℕ
  pub is_called : Bool

abbrev pub nested_of : ℕ → ℕ → Nested
nested_of begins word = record { begins = begins; number = number_in word; is_called = flag_in word }
