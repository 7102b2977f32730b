use Rattle.std.proofs.Common.{decimal}
use Rattle.collect.proofs.Fronts.{no_stop, front_is_number}
use Rattle.collect.proofs.readers.number_until.Goals as goal

pub returns-in_default-clause-none : goal.returns-in_default-clause-none
returns-in_default-clause-none c n more small e = no_stop c.args.stop c.args.bytes.now (decimal n) more c.in_default.ensures.none e

pub returns-in_default-decimal_of-clause-none : goal.returns-in_default-decimal_of-clause-none
returns-in_default-decimal_of-clause-none c n more small e =
    c.in_default-decimal_of.ensures.none n small
    (front_is_number c.args.stop c.args.bytes.now c.in-Some.end n more c.requires small c.in-Some.ensures.within c.in-Some.ensures.here c.in-Some.ensures.before e)
