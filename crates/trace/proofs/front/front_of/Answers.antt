use Rattle.std.proofs.Common.{arith, refl, codes}
use Rattle.trace.proofs.Fronts.{word_and_digits}
use Rattle.trace.proofs.front.front_of.Goals as goal

pub returns-in_ok-number : goal.returns-in_ok-number
returns-in_ok-number c v is =
    let number = c.in_ok-number.number in
    let spelled = c.in_ok-number.ensures in
    let begins = c.begins_with.ensures c.if-begins_with.true in
    let is_line = word_and_digits c.args.piece.now (codes "read ") _ 5 number.digits number.value begins refl spelled.within (omega arith) spelled.spelled spelled.ended in
    record { within = omega (arith, spelled.within); is_line = is_line; fits = omega arith }

pub returns-in_ok-number-2 : goal.returns-in_ok-number-2
returns-in_ok-number-2 c v is =
    let number = c.in_ok-number-2.number in
    let spelled = c.in_ok-number-2.ensures in
    let begins = c.begins_with-else-begins_with.ensures c.if-begins_with-2.true in
    let is_line = word_and_digits c.args.piece.now (codes "write ") _ 6 number.digits number.value begins refl spelled.within (omega arith) spelled.spelled spelled.ended in
    record { within = omega (arith, spelled.within); is_line = is_line; fits = omega arith }
