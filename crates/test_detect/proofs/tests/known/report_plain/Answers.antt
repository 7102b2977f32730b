use Rattle.trace.specs.Endings.{IsWantOfMemory}
use Rattle.verdict.specs.Reported.{IsReportOf}
use Rattle.detect.proofs.KnownBytes.{known_answer, known_refusal}
use Rattle.test_detect.proofs.tests.known.report_plain.Goals as goal

pub returns-clause-report : goal.returns-clause-report
returns-clause-report c v w is fit nested = known_answer _ _ _ _ IsWantOfMemory (λ report u. IsReportOf u report) _ c.detect_plain.ensures v w is fit nested

pub returns-clause-fault : goal.returns-clause-fault
returns-clause-fault c = known_refusal _ _ _ _ IsWantOfMemory (λ report u. IsReportOf u report) _ c.detect_plain.ensures
