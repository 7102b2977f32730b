use Rattle.online.proofs.Common.{sym, subst, placed, first_lives, HasTakenPlaced, IsAfter, report_of}
use Rattle.std.proofs.lemmas.Result.{IfOk-weaker}
use Rattle.online.proofs.Reported.{reported_lives, reported_first, reported_once, lives_racy}
use Rattle.online.proofs.detector.Detector.finish.Goals as goal

pub returns-clause-races : goal.returns-clause-races
returns-clause-races g c = IfOk-weaker c.finish.result _ _
    (λ rs collected u lives h. reported_lives u lives _ rs (subst (HasTakenPlaced u lives) (sym c.self.view_is) h) collected) c.finish.ensures.ok

pub returns-clause-racy : goal.returns-clause-racy
returns-clause-racy g c = IfOk-weaker c.finish.result _ _
    (λ rs collected u lives records depths h nested l. lives_racy u records depths rs nested (reported_lives (placed u) lives _ rs (subst (IsAfter u lives) (sym c.self.view_is) h).met collected) l) c.finish.ensures.ok

pub returns-clause-first : goal.returns-clause-first
returns-clause-first g c = IfOk-weaker c.finish.result _ _
    (λ rs collected u h. reported_first u _ rs (subst (HasTakenPlaced u first_lives) (sym c.self.view_is) h) collected) c.finish.ensures.ok

pub returns-clause-report : goal.returns-clause-report
returns-clause-report g c = IfOk-weaker c.finish.result _ _
    (λ rs collected u records depths h nested. report_of u rs nested (reported_first (placed u) _ rs (subst (IsAfter u first_lives) (sym c.self.view_is) h).met collected)) c.finish.ensures.ok

pub returns-clause-once : goal.returns-clause-once
returns-clause-once g c = IfOk-weaker c.finish.result _ _
    (λ rs collected u lives h first. reported_once u lives _ rs first (subst (IsAfter u lives) (sym c.self.view_is) h).met collected) c.finish.ensures.ok

pub returns-clause-once_report : goal.returns-clause-once_report
returns-clause-once_report g c = IfOk-weaker c.finish.result _ _
    (λ rs collected u lives records depths h first nested. report_of u rs nested (reported_once u lives _ rs first (subst (IsAfter u lives) (sym c.self.view_is) h).met collected)) c.finish.ensures.ok
