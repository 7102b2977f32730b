use Rattle.std.proofs.Common.{inr}
use Rattle.replies.proofs.Endings.{untouched}
use Rattle.replies.proofs.merges.answer_merged.Goals as goal

pub returns-in-Err : goal.returns-in-Err
returns-in-Err g c reports kept = inr (c.no_answer.ensures.two, untouched _, c.no_answer.ensures.said)
