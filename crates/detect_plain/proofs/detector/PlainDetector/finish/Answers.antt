use Rattle.detect_plain.proofs.Common.{report_of}
use Rattle.std.proofs.lemmas.Result.{IfOk-weaker}
use Rattle.detect_plain.proofs.Detected.{reported}
use Rattle.detect_plain.proofs.detector.PlainDetector.finish.Goals as goal

pub returns-clause-races : goal.returns-clause-races
returns-clause-races g c = IfOk-weaker c.finish.result _ _ (λ rs collected u h. reported u _ _ rs h collected) c.finish.ensures.ok

pub returns-clause-report : goal.returns-clause-report
returns-clause-report g c = IfOk-weaker c.finish.result _ _
    (λ rs collected u records depths h nested. report_of u rs nested (reported _ _ _ rs h.detected collected)) c.finish.ensures.ok
