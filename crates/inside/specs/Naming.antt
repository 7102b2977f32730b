-- Private: how a session's loop reads a record.
use Rattle.std.specs.Prelude.{ℕ, ◌/◌, ◌%◌, bit_or}

-- the kind and the location of a record in one number, if all locations have these bits besides their own
abbrev pub named_with : ℕ → ℕ → ℕ × ℕ
named_with bits r = (r % 8, bit_or bits (r / 8))
