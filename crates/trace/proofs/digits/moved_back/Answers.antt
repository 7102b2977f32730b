use Rattle.trace.proofs.Sixteens.{moved}
use Rattle.trace.proofs.digits.moved_back.Goals as goal

pub swizzle : goal.swizzle
swizzle c = (moved c.args.count c.requires c.args.values c.fits-values.0).0

pub returns : goal.returns
returns c = (moved c.args.count c.requires c.args.values c.fits-values.0).1
