use Rattle.replies.proofs.Common.{◌<◌, arith, refl, measure_text}
use Rattle.replies.proofs.Endings.{untouched, says_so, answered, refused}
use Rattle.replies.proofs.questions.answer_measure.Goals as goal

pub returns-in-Ok : goal.returns-in-Ok
returns-in-Ok g c =
    let numbers = c.in-Ok.numbers in
    let low : 0 < 2 = omega arith in
    let run = says_so _ _ c.limits_of.ensures.records c.limits_of.ensures.depth (λ w is. record { numbers = numbers; is_measure = is; is_text = refl; zero = refl }) c.in-Ok.ensures in
    answered _ 0 (measure_text numbers) low run (c.finish.ensures (measure_text numbers) _ c.put_measure-put.ensures)

pub returns-in-Err : goal.returns-in-Err
returns-in-Err g c = refused c.limits_of.ensures.records c.limits_of.ensures.depth c.in-Err.ensures (untouched _) c.no_answer.ensures.two c.no_answer.ensures.said
