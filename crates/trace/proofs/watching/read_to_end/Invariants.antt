use Rattle.trace.proofs.Common.{◌-◌, ◌≡◌, ℕ, List, Record, ◌⇝◌, Gave, IsSteady, HasFed}
use Rattle.trace.proofs.watching.read_to_end.Given as goal

abbrev pub invariant-records : goal.invariant-records
invariant-records g l = record {
  trace : List Record;
  came : List ℕ;
  gave : Gave (g.R.Source.state l.fn.source ⇝ g.R.Source.state l.source) came;
  fed : HasFed trace came l.intake;
  seen : g.W.Watch.has_seen l.fn.watch trace l.watch;
  steady : IsSteady (g.R.Source.state l.fn.source ⇝ g.R.Source.state l.source);
  records : l.intake.reading.limit ≡ l.fn.limits.records;
  depths : l.intake.nesting.max_depth ≡ l.fn.limits.depth;
}

abbrev pub decreases-records : goal.decreases-records
decreases-records g l = l.fn.limits.records - l.intake.reading.count
