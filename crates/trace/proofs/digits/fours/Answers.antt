use Rattle.trace.proofs.Common.{subst, sym, arith, AllBelowBase}
use Rattle.trace.proofs.Sixteens.{fours_are, paired_below}
use Rattle.trace.proofs.digits.fours.Goals as goal

pub returns-clause-below : goal.returns-clause-below
returns-clause-below c = subst (AllBelowBase 10000) (sym (fours_are c.args.twos c.fits-twos.0 c.requires)) (paired_below 100 (omega arith) c.args.twos c.requires)

pub returns-clause-paired : goal.returns-clause-paired
returns-clause-paired c = fours_are c.args.twos c.fits-twos.0 c.requires
