use Rattle.replies.proofs.Common.{ap, inl, inr, FnReturnsAt, known_bytes}
use Rattle.replies.proofs.Named.{not_opened, answered_both, is_untried}
use Rattle.replies.proofs.confirm_from_files.Goals as goal

pub returns-in_default : goal.returns-in_default
returns-in_default g c = inl (not_opened _ (rw c.as_str.ensures.value at c.in_default.ensures.cannot) c.no_answer.ensures.two c.no_answer.ensures.said)

pub returns-in_default-open : goal.returns-in_default-open
returns-in_default-open g c = inr (inl (not_opened _ (rw c.as_str-2.ensures.value at c.in_default-open.ensures.cannot) c.no_answer-in_default-open.ensures.two c.no_answer-in_default-open.ensures.said))

pub returns : goal.returns
returns g c =
    let known = known_bytes g.F.Read.remaining in
    let trace = is_untried (ap known c.new-trace.ensures.device) c.new-trace.ensures.none in
    let report = is_untried (ap known c.new-report.ensures.device) c.new-report.ensures.none in
    inr (inr (answered_both (FnReturnsAt g.O.Fn c.args.opener.now) known c.args.confirm.now c.in-Some.trace c.in-Some-open.report c.answer_confirm.result _ _ _ _
    (rw c.as_str.ensures.value at c.in-Some.ensures.opened) (rw c.as_str-2.ensures.value at c.in-Some-open.ensures.opened) trace report c.answer_confirm.ensures))
