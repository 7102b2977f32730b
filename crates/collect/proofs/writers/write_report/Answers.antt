use Rattle.collect.proofs.Common.{◌≡◌, Err, length, subst, rules, RaceAt, ◌⇝◌, Took, TookFront, head, race_line, race_lines}
use Rattle.collect.proofs.Takings.{front_more, took_line, front_line}
use Rattle.collect.proofs.writers.write_report.Goals as goal

pub returns-in_err-write_head : goal.returns-in_err-write_head
returns-in_err-write_head g c =
    let failed : c.from_residual.result ≡ Err c.in_err-write_head.field-0.0 = search rules in
    let races = c.races-races.result.now in
    rw (failed, ← c.races-races.ensures.races) (front_more (race_lines races) c.in_err-write_head.ensures)

pub returns-in_err-write_race : goal.returns-in_err-write_race
returns-in_err-write_race g c =
    let failed : c.from_residual-in_err-write_race.result ≡ Err c.in_err-write_race.field-0.0 = search rules in
    let races = c.races-races.result.now in
    let P : RaceAt → Type 0 = λ r. TookFront (race_line r) (g.W.Sink.state c.loop-race.sink ⇝ g.W.Sink.state c.write_race.new.sink) in
    rw (failed, ← c.races-races.ensures.races) (front_line race_line (head (length races)) races c.loop-race.race-index c.race-item.result c.loop-race-test.true c.loop-race.invariant (subst P c.race-item.is c.in_err-write_race.ensures))

pub loop-race-preserved : goal.loop-race-preserved
loop-race-preserved g c =
    let races = c.races-races.result.now in
    let P : RaceAt → Type 0 = λ r. Took (race_line r) (g.W.Sink.state c.loop-race.sink ⇝ g.W.Sink.state c.write_race.new.sink) in
    took_line race_line (head (length races)) races c.loop-race.race-index c.race-item.result c.loop-race-test.true c.loop-race.invariant (subst P c.race-item.is c.in_ok-write_race.ensures)
