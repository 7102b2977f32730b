use Rattle.shadow.proofs.Sharing.{found-share}
use Rattle.verdict.proofs.laws.shares.Goals as goal

pub returns : goal.returns
returns c k n u = found-share k n u
