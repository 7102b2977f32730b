use Rattle.blocks.proofs.Common.{◌∙◌, ◌&&◌, ap, has}
use Rattle.blocks.proofs.Bits.{has_and, has_not}
use Rattle.blocks.proofs.masks.without.Goals as goal

pub returns : goal.returns
returns c i h = has_and c.args.units _ i ∙ ap (λ b. has c.args.units i && b) (has_not c.args.others i c.ranges.others.fits h)
