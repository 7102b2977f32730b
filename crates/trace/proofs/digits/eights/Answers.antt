use Rattle.trace.proofs.Common.{subst, sym, arith, AllBelowBase}
use Rattle.trace.proofs.Sixteens.{eights_are, paired_below}
use Rattle.trace.proofs.digits.eights.Goals as goal

pub returns-clause-below : goal.returns-clause-below
returns-clause-below c = subst (AllBelowBase 100000000) (sym (eights_are c.args.fours c.fits-fours.0 c.requires)) (paired_below 10000 (omega arith) c.args.fours c.requires)

pub returns-clause-paired : goal.returns-clause-paired
returns-clause-paired c = eights_are c.args.fours c.fits-fours.0 c.requires
