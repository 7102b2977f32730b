use Rattle.std.proofs.Common.{◌≡◌, Some, ap, subst}
use Rattle.trace.specs.Text.{text}
use Rattle.replies.specs.Questions.{Answers}
use Rattle.detect.proofs.KnownBytes.{same_trace}
use Rattle.test_replies.proofs.tests.known.answer_bytes.Goals as goal

pub returns : goal.returns
returns g c v w is fit low =
    let answered = c.answer.ensures.answered low in
    let bytes : c.new-trace.result.device.now ≡ text v w = rw c.new-trace.ensures.device is in
    let same = same_trace _ _ _ answered.read.trace v w (ap Some bytes) fit answered.read.read in
    (answered.text, subst (λ (u : _). Answers c.args.question.now u answered.text c.answer.result) same answered.read.says, answered.took, answered.silent)
