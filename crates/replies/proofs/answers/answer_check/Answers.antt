use Rattle.replies.proofs.Common.{◌≡◌, ◌↔◌, List, [], refl, subst, RaceAt, rtext}
use Rattle.replies.proofs.Statuses.{check_answered}
use Rattle.replies.proofs.Endings.{untouched, says_of_nested, answered, refused}
use Rattle.replies.proofs.answers.answer_check.Goals as goal

pub returns-in-Ok : goal.returns-in-Ok
returns-in-Ok g c =
    let report = c.in-Ok.ran.report in
    let status = c.status_of_found.result in
    let zero : (status ≡ 0) ↔ (report ≡ []) = subst (λ (l : List RaceAt). (status ≡ 0) ↔ (l ≡ [])) c.races.ensures.races c.status_of_found.ensures.1 in
    let run = says_of_nested _ _ refl refl (λ w nested answers. check_answered c.args.check.now.part c.args.check.now.shards status c.in-Ok.ran w nested c.status_of_found.ensures.0 zero answers) c.in-Ok.ensures in
    answered _ status (rtext report) c.status_of_found.ensures.0 run (c.finish.ensures (rtext report) _ c.write_report-put.ensures)

pub returns-in-Err : goal.returns-in-Err
returns-in-Err g c = refused refl refl c.in-Err.ensures (untouched _) c.no_answer.ensures.two c.no_answer.ensures.said
