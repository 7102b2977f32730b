use Rattle.detect.proofs.LanesBack.{gathers_mark, gathers_item}
use Rattle.detect.proofs.gathering.Gathering.keep_item.Goals as goal

pub returns-in-One-clause-gathers : goal.returns-in-One-clause-gathers
returns-in-One-clause-gathers c lists k lt h = gathers_item lists k c.args.item c.in-One.back _ _ c.in-One.is lt c.keep.ensures.given c.keep.ensures.refused h

pub returns-in-Finish-clause-gathers : goal.returns-in-Finish-clause-gathers
returns-in-Finish-clause-gathers c lists k lt h = gathers_mark lists k c.args.item _ c.in-Finish.is h
