use Rattle.detect.proofs.Common.{◌≡◌, ◌-◌, ℕ, List, Record, placed, records_of, ◌⇝◌, Gave, IsSteady, HasFed, HasSent, MaySend, GoesOn}
use Rattle.detect.proofs.reading_thread.ReadingThread.send_all.Given as goal

abbrev pub invariant-records : goal.invariant-records
invariant-records g l = record {
  trace : List Record;
  came : List ℕ;
  gave : Gave (g.R.Source.state l.fn.source ⇝ g.R.Source.state l.source) came;
  fed : HasFed trace came l.intake;
  sent : HasSent (records_of l.fn.self.part (placed trace)) l.self.router;
  ready : MaySend l.self;
  goes_on : GoesOn l.fn.self l.self;
  steady : IsSteady (g.R.Source.state l.fn.source ⇝ g.R.Source.state l.source);
  records : l.intake.reading.limit ≡ l.fn.limits.records;
  depths : l.intake.nesting.max_depth ≡ l.fn.limits.depth;
}

abbrev pub decreases-records : goal.decreases-records
decreases-records g l = l.fn.limits.records - l.intake.reading.count
