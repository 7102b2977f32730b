use Rattle.online.proofs.Common.{sym, subst, IsAfter}
use Rattle.online.proofs.Reported.{race_count}
use Rattle.online.proofs.detector.Detector.race_count.Goals as goal

pub returns : goal.returns
returns g c u lives h = race_count u lives _ _ (subst (IsAfter u lives) (sym c.self.view_is) h).met c.count.ensures.count c.count.ensures.report
