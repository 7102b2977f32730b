-- Promised: how many binary digits a number has, and so how many probes a look-up takes at most.
use Rattle.std.specs.Prelude.{ℕ, length}
use Rattle.std.specs.Int.Digits.{digits_of}

abbrev pub digits : ℕ → ℕ
digits n = length (digits_of 2 n)
