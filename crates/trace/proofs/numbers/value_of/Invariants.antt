use Rattle.trace.proofs.Common.{◌≡◌, ◌<◌, ◌^◌, take, AllDigits, digits_value}
use Rattle.trace.proofs.numbers.value_of.Given as goal

abbrev pub invariant-loop-digit : goal.invariant-loop-digit
invariant-loop-digit l = record {
  digits : AllDigits 10 (take l.digit-index l.digits);
  value : digits_value 10 (take l.digit-index l.digits) ≡ l.value;
  small : l.value < 2 ^ 64;
}
