use Rattle.texts.proofs.Common.{◌++◌, take, flat_map, ◌⇝◌, Took, opener_text}
use Rattle.texts.proofs.explanations.put_side.Given as goal

abbrev pub invariant-loop-opener : goal.invariant-loop-opener
invariant-loop-opener g l = Took (l.word ++ flat_map opener_text (take l.opener-index l.openers)) (g.W.Sink.state l.fn.sink ⇝ g.W.Sink.state l.sink)
