use Rattle.replies.proofs.Common.{ap, ◌+◌, FnReturnsAt, known_bytes}
use Rattle.replies.proofs.Merged.{taken_more, first_refused}
use Rattle.replies.proofs.merges.take_reports.Goals as goal

pub returns-in-Err : goal.returns-in-Err
returns-in-Err g c =
    first_refused (FnReturnsAt g.O.Fn c.args.opener.now) (known_bytes g.F.Read.remaining) c.args.names.now c.loop-name.name-index c.loop-name.number c.name-item.result c.loop-name.collector c.in-Err.refusal c.loop-name-test.true c.name-item.is
    c.loop-name.invariant.0 c.loop-name.invariant.1 (rw c.as_str.ensures.value at c.in-Err.ensures)

pub loop-name-preserved : goal.loop-name-preserved
loop-name-preserved g c = (
  ap (λ n. n + 1) c.loop-name.invariant.0,
  taken_more (FnReturnsAt g.O.Fn c.args.opener.now) (known_bytes g.F.Read.remaining) c.args.names.now c.loop-name.name-index c.name-item.result c.loop-name.collector c.take_report.new.collector c.loop-name-test.true c.name-item.is
      c.loop-name.invariant.1 (rw c.as_str.ensures.value at c.in_default.ensures),
)
