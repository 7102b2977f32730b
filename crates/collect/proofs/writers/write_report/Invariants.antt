use Rattle.collect.proofs.Common.{◌++◌, length, take, ◌⇝◌, Took, head, race_lines}
use Rattle.collect.proofs.writers.write_report.Given as goal

abbrev pub invariant-loop-race : goal.invariant-loop-race
invariant-loop-race g l = Took (head (length l.races) ++ race_lines (take l.race-index l.races)) (g.W.Sink.state l.fn.sink ⇝ g.W.Sink.state l.sink)
