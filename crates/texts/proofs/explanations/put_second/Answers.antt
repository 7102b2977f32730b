use Rattle.texts.proofs.Common.{codes, subst, RaceAt, ◌⇝◌, Puts, side_line}
use Rattle.texts.proofs.explanations.put_second.Goals as goal

pub returns : goal.returns
returns g c =
    let P : RaceAt → Type 0 = λ r. Puts c.put_side.result (side_line (codes "second ") c.args.openers.now r.second) (g.W.Sink.state c.args.sink.now ⇝ g.W.Sink.state c.put_side.new.sink) in
    subst P c.race.view_is c.put_side.ensures
