use Rattle.trace.proofs.Sixteens.{first_is, none_is}
use Rattle.trace.proofs.digits.first_other.Goals as goal

pub returns-clause-within : goal.returns-clause-within
returns-clause-within c = (first_is c.args.values c.fits-values.0 c.if-others-eq0.false).0

pub returns-clause-digits : goal.returns-clause-digits
returns-clause-digits c = (first_is c.args.values c.fits-values.0 c.if-others-eq0.false).1

pub returns-clause-other : goal.returns-clause-other
returns-clause-other c = (first_is c.args.values c.fits-values.0 c.if-others-eq0.false).2

pub returns-then-others-eq0-clause-none : goal.returns-then-others-eq0-clause-none
returns-then-others-eq0-clause-none c = none_is c.args.values c.fits-values.0 c.if-others-eq0.true
