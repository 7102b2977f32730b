use Rattle.trace.proofs.Common.{◌*◌, get_or, arith, ◌≡◌, ◌+◌, take, ◌-◌, IsInRange, digits_value, AllDigits, digit_at}
use Rattle.trace.proofs.Decimals.{one_more_digit, value_at_least}
use Rattle.trace.proofs.numbers.value_of.Goals as goal

pub returns-then-not-is_ascii_digit-clause-none : goal.returns-then-not-is_ascii_digit-clause-none
returns-then-not-is_ascii_digit-clause-none c all =
    let range : IsInRange 48 57 (get_or c.args.digits.now c.loop-digit.digit-index 0) = digit_at _ _ all c.loop-digit-test.true in
    absurd (omega (arith, range.0, range.1, c.if-not-is_ascii_digit.ensures.cases))

pub returns-in_default-clause-none : goal.returns-in_default-clause-none
returns-in_default-clause-none c all =
    let range : IsInRange 48 57 (get_or c.args.digits.now c.loop-digit.digit-index 0) = digit_at _ _ all c.loop-digit-test.true in
    let more : AllDigits 10 (take (c.loop-digit.digit-index + 1) c.args.digits.now) × (digits_value 10 (take (c.loop-digit.digit-index + 1) c.args.digits.now) ≡ c.loop-digit.value * 10 + (get_or c.args.digits.now c.loop-digit.digit-index 0 - 48)) =
    one_more_digit _ _ _ c.loop-digit-test.true c.loop-digit.invariant.digits c.loop-digit.invariant.value range in
    omega (arith, value_at_least c.args.digits.now (c.loop-digit.digit-index + 1) _ more.1, c.in_default.ensures)

pub returns-in_default-checked_add-clause-none : goal.returns-in_default-checked_add-clause-none
returns-in_default-checked_add-clause-none c all =
    let range : IsInRange 48 57 (get_or c.args.digits.now c.loop-digit.digit-index 0) = digit_at _ _ all c.loop-digit-test.true in
    let more : AllDigits 10 (take (c.loop-digit.digit-index + 1) c.args.digits.now) × (digits_value 10 (take (c.loop-digit.digit-index + 1) c.args.digits.now) ≡ c.loop-digit.value * 10 + (get_or c.args.digits.now c.loop-digit.digit-index 0 - 48)) =
    one_more_digit _ _ _ c.loop-digit-test.true c.loop-digit.invariant.digits c.loop-digit.invariant.value range in
    omega (arith, value_at_least c.args.digits.now (c.loop-digit.digit-index + 1) _ more.1, c.in_default-checked_add.ensures, c.in-Some.ensures, c.from.ensures)

pub loop-digit-preserved : goal.loop-digit-preserved
loop-digit-preserved c =
    let range : IsInRange 48 57 (get_or c.args.digits.now c.loop-digit.digit-index 0) = c.if-not-is_ascii_digit.ensures.cases in
    let more : AllDigits 10 (take (c.loop-digit.digit-index + 1) c.args.digits.now) × (digits_value 10 (take (c.loop-digit.digit-index + 1) c.args.digits.now) ≡ c.loop-digit.value * 10 + (get_or c.args.digits.now c.loop-digit.digit-index 0 - 48)) =
    one_more_digit _ _ _ c.loop-digit-test.true c.loop-digit.invariant.digits c.loop-digit.invariant.value range in
    record { digits = more.0; value = omega (arith, more.1, c.in-Some-checked_add.ensures, c.in-Some.ensures, c.from.ensures); small = omega (arith, c.in-Some-checked_add.ensures) }
