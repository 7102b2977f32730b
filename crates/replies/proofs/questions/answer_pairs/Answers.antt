use Rattle.replies.proofs.Common.{List, refl, sym, subst, Access, ArePairs, pairs_text}
use Rattle.replies.proofs.Statuses.{pairs_one}
use Rattle.replies.proofs.Endings.{untouched, says_so, answered, refused}
use Rattle.replies.proofs.questions.answer_pairs.Goals as goal

pub returns-in-Ok : goal.returns-in-Ok
returns-in-Ok g c =
    let found = c.as_slice-found.result.now in
    let status = c.status_of_found.result in
    let low = c.status_of_found.ensures.0 in
    let zero = c.status_of_found.ensures.1 in
    let run = says_so _ _ c.limits_of.ensures.records c.limits_of.ensures.depth
    (λ w is.
    let Q : List (Access × Access) → Type 0 = ArePairs w c.args.location in
    let are : Q found = subst Q (sym c.as_slice-found.ensures.value) is in
    record { pairs = found; are_pairs = are; is_text = refl; zero = zero; one = pairs_one status w c.args.location found are low zero }) c.in-Ok.ensures in
    answered _ status (pairs_text found) low run (c.finish.ensures (pairs_text found) _ c.put_pairs-put.ensures)

pub returns-in-Err : goal.returns-in-Err
returns-in-Err g c = refused c.limits_of.ensures.records c.limits_of.ensures.depth c.in-Err.ensures (untouched _) c.no_answer.ensures.two c.no_answer.ensures.said
