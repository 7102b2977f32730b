use Rattle.std.proofs.Common.{◌<◌, length, arith}
use Rattle.trace.proofs.Decimals.{decimal_has_digits, first_of_decimal, decimal_zero, found_value, no_value}
use Rattle.trace.proofs.numbers.decimal_of.Goals as goal

pub returns-then-is_empty-clause-none : goal.returns-then-is_empty-clause-none
returns-then-is_empty-clause-none c n small e = let some : 0 < length c.args.digits.now = decimal_has_digits _ n small e in absurd (grind (arith, c.if-is_empty.ensures))

pub returns-then-digits-eq1-clause-found : goal.returns-then-digits-eq1-clause-found
returns-then-digits-eq1-clause-found c = decimal_zero _ c.if-digits-eq1.true c.if-digits-eq48.true

pub returns-else-digits-eq1-clause-none : goal.returns-else-digits-eq1-clause-none
returns-else-digits-eq1-clause-none c n small e = c.if-digits-eq1.false (first_of_decimal _ n small e c.if-digits-eq48.true)

pub returns-clause-found : goal.returns-clause-found
returns-clause-found c =
    let some : 0 < length c.args.digits.now = grind (arith, c.if-is_empty.ensures) in
    found_value _ _ c.value_of.ensures.digits c.value_of.ensures.value c.value_of.ensures.small some c.if-digits-eq48.false

pub returns-clause-none : goal.returns-clause-none
returns-clause-none c = no_value _ _ c.value_of.ensures.none
