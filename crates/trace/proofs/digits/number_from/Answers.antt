use Rattle.trace.proofs.Common.{ap, ◌∙◌, paired}
use Rattle.trace.proofs.Sixteens.{number_is}
use Rattle.trace.proofs.digits.number_from.Goals as goal

pub returns : goal.returns
returns c =
    let is = c.eights.ensures.paired ∙ ap (paired 10000) (c.fours.ensures.paired ∙ ap (paired 100) c.twos.ensures.paired) in
    rw is (number_is c.args.digits c.fits-digits.0)
