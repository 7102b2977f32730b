use Rattle.detect.proofs.PartReports.{whole_ends}
use Rattle.detect.proofs.sharded.detect.Goals as goal

pub returns-clause-ends : goal.returns-clause-ends
returns-clause-ends g c = whole_ends _ c.whole.result _ _ _ _ c.detect_part.result c.whole.ensures c.detect_part.ensures.ends
