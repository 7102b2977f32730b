use Rattle.trace.proofs.Common.{subst, sym, arith, AllBelowBase}
use Rattle.trace.proofs.Sixteens.{twos_are, paired_below}
use Rattle.trace.proofs.digits.twos.Goals as goal

pub returns-clause-below : goal.returns-clause-below
returns-clause-below c = subst (AllBelowBase 100) (sym (twos_are c.args.digits c.fits-digits.0 c.requires)) (paired_below 10 (omega arith) c.args.digits c.requires)

pub returns-clause-paired : goal.returns-clause-paired
returns-clause-paired c = twos_are c.args.digits c.fits-digits.0 c.requires
