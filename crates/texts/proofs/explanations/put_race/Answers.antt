use Rattle.texts.proofs.Common.{◌≡◌, ◌++◌, Err, codes, subst, rules, RaceAt, ◌⇝◌, TookFront, Puts, access_text, race_line, front_more, took_both, took_into, puts_after}
use Rattle.texts.proofs.Lines.{front_as, puts_as, race_line_parts}
use Rattle.texts.proofs.explanations.put_race.Goals as goal

pub returns-in_err-put_at : goal.returns-in_err-put_at
returns-in_err-put_at g c =
    let failed : c.from_residual.result ≡ Err c.in_err-put_at.field-0.0 = search rules in
    let race : RaceAt = record { location = c.race.inside.location; first = c.race.inside.first; second = c.race.inside.second } in
    let P : RaceAt → Type 0 = λ r. TookFront (race_line r) (g.W.Sink.state c.args.sink.now ⇝ g.W.Sink.state c.put_at.new.sink) in
    let spaced = front_more (access_text race.first ++ codes " ") c.in_err-put_at.ensures in
    rw failed (subst P c.race.view_is (front_as (race_line_parts race) (front_more (access_text race.second ++ codes "\n") spaced)))

pub returns-in_err-put_access : goal.returns-in_err-put_access
returns-in_err-put_access g c =
    let failed : c.from_residual-in_err-put_access.result ≡ Err c.in_err-put_access.field-0.0 = search rules in
    let race : RaceAt = record { location = c.race.inside.location; first = c.race.inside.first; second = c.race.inside.second } in
    let P : RaceAt → Type 0 = λ r. TookFront (race_line r) (g.W.Sink.state c.args.sink.now ⇝ g.W.Sink.state c.put_access.new.sink) in
    let both = took_into c.in_ok-put_at.ensures c.in_err-put_access.ensures in
    rw failed (subst P c.race.view_is (front_as (race_line_parts race) (front_more (access_text race.second ++ codes "\n") both)))

pub returns : goal.returns
returns g c =
    let race : RaceAt = record { location = c.race.inside.location; first = c.race.inside.first; second = c.race.inside.second } in
    let P : RaceAt → Type 0 = λ r. Puts c.put_access-2.result (race_line r) (g.W.Sink.state c.args.sink.now ⇝ g.W.Sink.state c.put_access-2.new.sink) in
    let both = took_both c.in_ok-put_at.ensures c.in_ok-put_access.ensures in
    subst P c.race.view_is (puts_as _ (race_line_parts race) c.put_access-2.result (puts_after (access_text race.second ++ codes "\n") _ c.put_access-2.result both c.put_access-2.ensures))
