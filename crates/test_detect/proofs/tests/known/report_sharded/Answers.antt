use Rattle.std.proofs.Common.{Ok}
use Rattle.trace.specs.Endings.{IsWantOfMemoryOrThread}
use Rattle.trace.proofs.Endings.{ends_refused}
use Rattle.verdict.specs.Reported.{IsReportOf}
use Rattle.detect.specs.RunReports.{RunAnswers}
use Rattle.detect.proofs.KnownBytes.{known_answer, known_refusal}
use Rattle.test_detect.proofs.tests.known.report_sharded.Goals as goal

pub returns-in_err-run_from-clause-report : goal.returns-in_err-run_from-clause-report
returns-in_err-run_from-clause-report g c v w is fit nested =
    known_answer _ _ _ _ IsWantOfMemoryOrThread (λ report u. IsReportOf u report) _ (ends_refused _ _ _ _ _ _ _ c.from_residual.ensures.1 c.in_err-run_from.ensures) v w is fit nested

pub returns-in_err-run_from-clause-fault : goal.returns-in_err-run_from-clause-fault
returns-in_err-run_from-clause-fault g c =
    known_refusal _ _ _ _ IsWantOfMemoryOrThread (λ report u. IsReportOf u report) _ (ends_refused _ _ _ _ _ _ _ c.from_residual.ensures.1 c.in_err-run_from.ensures)

pub returns-clause-report : goal.returns-clause-report
returns-clause-report g c v w is fit nested = (known_answer _ _ _ _ IsWantOfMemoryOrThread (RunAnswers c.args.shards) (Ok _) c.in_ok-run_from.ensures v w is fit nested).reported
