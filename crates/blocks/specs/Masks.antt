-- Promised: masks of the 64 units of a block.
use Rattle.std.specs.Prelude.{ℕ, zero, suc, ◌+◌, Bool, nat_eq}
use Rattle.std.specs.Int.{bit_at}

-- whether the mask has this unit
abbrev pub has : ℕ → ℕ → Bool
has mask unit = nat_eq (bit_at mask unit) 1

-- how many units of the mask stand before this one
abbrev pub units_before : ℕ → ℕ → ℕ
units_before mask zero = 0
units_before mask (suc unit) = units_before mask unit + bit_at mask unit
