use Rattle.texts.proofs.Common.{◌≡◌, List, Err, codes, subst, rules, ◌⇝◌, Took, TookFront, Opener, front_more, took_both, took_into, puts_after, side_line}
use Rattle.texts.proofs.explanations.put_reason.Goals as goal

pub returns-in_err-put_race : goal.returns-in_err-put_race
returns-in_err-put_race g c =
    let failed : c.from_residual.result ≡ Err c.in_err-put_race.field-0.0 = search rules in
    rw failed (front_more _ (front_more _ (front_more _ (front_more _ c.in_err-put_race.ensures))))

pub returns-in_err-put_at : goal.returns-in_err-put_at
returns-in_err-put_at g c =
    let failed : c.from_residual-in_err-put_at.result ≡ Err c.in_err-put_at.field-0.0 = search rules in
    rw failed (front_more _ (front_more _ (front_more _ (took_into c.in_ok-put_race.ensures c.in_err-put_at.ensures))))

pub returns-in_err-put_first : goal.returns-in_err-put_first
returns-in_err-put_first g c =
    let failed : c.from_residual-in_err-put_first.result ≡ Err c.in_err-put_first.field-0.0 = search rules in
    let F : List Opener → Type 0 = λ os. TookFront (side_line (codes "first ") os c.args.explained.now.race.first) (g.W.Sink.state c.put_at.new.sink ⇝ g.W.Sink.state c.put_first.new.sink) in
    let first = subst F c.as_slice.ensures.value c.in_err-put_first.ensures in
    rw failed (front_more _ (front_more _ (took_into (took_both c.in_ok-put_race.ensures c.in_ok-put_at.ensures) first)))

pub returns-in_err-put_second : goal.returns-in_err-put_second
returns-in_err-put_second g c =
    let failed : c.from_residual-in_err-put_second.result ≡ Err c.in_err-put_second.field-0.0 = search rules in
    let F : List Opener → Type 0 = λ os. Took (side_line (codes "first ") os c.args.explained.now.race.first) (g.W.Sink.state c.put_at.new.sink ⇝ g.W.Sink.state c.put_first.new.sink) in
    let first = subst F c.as_slice.ensures.value c.in_ok-put_first.ensures in
    let S : List Opener → Type 0 = λ os. TookFront (side_line (codes "second ") os c.args.explained.now.race.second) (g.W.Sink.state c.put_first.new.sink ⇝ g.W.Sink.state c.put_second.new.sink) in
    let second = subst S c.as_slice-2.ensures.value c.in_err-put_second.ensures in
    rw failed (front_more _ (took_into (took_both (took_both c.in_ok-put_race.ensures c.in_ok-put_at.ensures) first) second))

pub returns : goal.returns
returns g c =
    let F : List Opener → Type 0 = λ os. Took (side_line (codes "first ") os c.args.explained.now.race.first) (g.W.Sink.state c.put_at.new.sink ⇝ g.W.Sink.state c.put_first.new.sink) in
    let first = subst F c.as_slice.ensures.value c.in_ok-put_first.ensures in
    let S : List Opener → Type 0 = λ os. Took (side_line (codes "second ") os c.args.explained.now.race.second) (g.W.Sink.state c.put_first.new.sink ⇝ g.W.Sink.state c.put_second.new.sink) in
    let second = subst S c.as_slice-2.ensures.value c.in_ok-put_second.ensures in
    puts_after _ _ c.put_joined.result (took_both (took_both (took_both c.in_ok-put_race.ensures c.in_ok-put_at.ensures) first) second) c.put_joined.ensures
