use Rattle.shadow.proofs.Parted.{found-part}
use Rattle.detect_plain.proofs.laws.parts.Goals as goal

pub returns : goal.returns
returns c part u = found-part part u
