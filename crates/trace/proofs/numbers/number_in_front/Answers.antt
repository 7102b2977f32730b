use Rattle.trace.proofs.Common.{ap, ◌∙◌, arith, number_from_digits}
use Rattle.trace.proofs.Sixteens.{front_spelled, some_digit}
use Rattle.trace.proofs.numbers.number_in_front.Goals as goal

pub returns-clause-spelled : goal.returns-clause-spelled
returns-clause-spelled c =
    front_spelled c.args.bytes.now c.in_ok-digits.digits c.number_from.result c.requires c.type_inv.bytes c.in_ok-digits.ensures.within c.in_ok-digits.ensures.digits
    (c.number_from.ensures ∙ ap (number_from_digits 10) c.moved_back.ensures) (omega arith) (some_digit c.args.bytes.now c.in_ok-digits.digits (omega arith) (omega arith))
