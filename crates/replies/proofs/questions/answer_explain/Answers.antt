use Rattle.replies.proofs.Common.{refl, explained_text}
use Rattle.replies.proofs.Statuses.{explain_one}
use Rattle.replies.proofs.Endings.{untouched, says_so, answered, refused}
use Rattle.replies.proofs.questions.answer_explain.Goals as goal

pub returns-in-Ok : goal.returns-in-Ok
returns-in-Ok g c =
    let answer = c.in-Ok.answer in
    let status = c.status_of_explained.result in
    let low = c.status_of_explained.ensures.0 in
    let zero = c.status_of_explained.ensures.1 in
    let run = says_so _ _ c.limits_of.ensures.records c.limits_of.ensures.depth
    (λ w is. record { answer = answer; explains = is; is_text = refl; zero = zero; one = explain_one status w c.args.location answer is low zero }) c.in-Ok.ensures in
    answered _ status (explained_text answer) low run (c.finish.ensures (explained_text answer) _ c.put_explained-put.ensures)

pub returns-in-Err : goal.returns-in-Err
returns-in-Err g c = refused c.limits_of.ensures.records c.limits_of.ensures.depth c.in-Err.ensures (untouched _) c.no_answer.ensures.two c.no_answer.ensures.said
