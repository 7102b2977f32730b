use Rattle.replies.proofs.Common.{◌<◌, arith, refl, confirm_text}
use Rattle.replies.proofs.Endings.{untouched, says_so, answered, refused, status_low}
use Rattle.replies.proofs.confirms.answer_entries.Goals as goal

pub returns-in-Ok : goal.returns-in-Ok
returns-in-Ok g c =
    let answer = c.in-Ok.answer in
    let status = c.status_of.result in
    let low : status < 2 = let own = status_low answer in omega (arith, c.status_of.ensures) in
    let run = says_so _ _ c.limits_of.ensures.records c.limits_of.ensures.depth (λ w confirms. record { answer = answer; confirms = confirms; is_text = refl; is_status = c.status_of.ensures }) c.in-Ok.ensures in
    answered _ status (confirm_text answer) low run (c.finish.ensures (confirm_text answer) _ c.put_confirm-put.ensures)

pub returns-in-Err : goal.returns-in-Err
returns-in-Err g c = refused c.limits_of.ensures.records c.limits_of.ensures.depth c.in-Err.ensures (untouched _) c.no_answer.ensures.two c.no_answer.ensures.said
