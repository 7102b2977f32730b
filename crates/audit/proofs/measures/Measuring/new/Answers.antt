use Rattle.std.proofs.Common.{refl}
use Rattle.audit.proofs.Measured.{measured_none}
use Rattle.audit.proofs.measures.Measuring.new.Goals as goal

pub returns : goal.returns
returns c = measured_none _ refl c.new.ensures.items refl refl refl refl
