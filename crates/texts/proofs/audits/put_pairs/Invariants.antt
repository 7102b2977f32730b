use Rattle.texts.proofs.Common.{◌++◌, codes, length, take, flat_map, ◌⇝◌, Took, number_line, pair_line}
use Rattle.texts.proofs.audits.put_pairs.Given as goal

abbrev pub invariant-loop-pair : goal.invariant-loop-pair
invariant-loop-pair g l = Took (number_line (codes "pairs ") (length l.pairs) ++ flat_map pair_line (take l.pair-index l.pairs)) (g.W.Sink.state l.fn.sink ⇝ g.W.Sink.state l.sink)
