use Rattle.trace.proofs.Common.{length, ◌⇝◌, IsSteady, IsPart}
use Rattle.trace.proofs.writers.put_all.Given as goal

abbrev pub invariant-loop-rest : goal.invariant-loop-rest
invariant-loop-rest g l = record {
  part : IsPart (g.W.Sink.state l.initial.sink).bytes (g.W.Sink.state l.sink).bytes l.initial.rest l.rest;
  steady : IsSteady (g.W.Sink.state l.initial.sink ⇝ g.W.Sink.state l.sink);
}

abbrev pub decreases-loop-rest : goal.decreases-loop-rest
decreases-loop-rest g l = length l.rest
