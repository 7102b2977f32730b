-- The digits of a number in a line.
use Rattle.trace.proofs.Common.{ℕ, ◌^◌, ◌<◌, ◌≤◌, length, decimal, arith, length-decimal-le}

-- a number of 64 bits has at most 20 digits
pub length-decimal-20 : (n : ℕ) → n < 2 ^ 64 → length (decimal n) ≤ 20
length-decimal-20 n h = length-decimal-le 20 n (omega arith) (omega arith) h
