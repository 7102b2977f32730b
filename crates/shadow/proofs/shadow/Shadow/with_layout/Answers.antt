use Rattle.shadow.proofs.CellLemmas.{none_kept}
use Rattle.shadow.proofs.shadow.Shadow.with_layout.Goals as goal

pub returns-clause-kept : goal.returns-clause-kept
returns-clause-kept g c l = rw c.new-2.ensures (none_kept l)
