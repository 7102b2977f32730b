use Rattle.replies.proofs.Common.{ap, inl, inr, FnReturnsAt, known_bytes}
use Rattle.replies.proofs.Named.{not_opened, answered_alone, is_untried}
use Rattle.replies.proofs.question_from_files.Goals as goal

pub returns-in_default : goal.returns-in_default
returns-in_default g c = inl (not_opened _ (rw c.trace.ensures at c.in_default.ensures.cannot) c.no_answer.ensures.two c.no_answer.ensures.said)

pub returns : goal.returns
returns g c =
    let known = known_bytes g.F.Read.remaining in
    let trace = is_untried (ap known c.new-trace.ensures.device) c.new-trace.ensures.none in
    inr (answered_alone (FnReturnsAt g.O.Fn c.args.opener.now) known c.args.question.now c.in-Some.trace c.answer.result _ _ (rw c.trace.ensures at c.in-Some.ensures.opened) trace c.answer.ensures)
