use Rattle.detect.proofs.Common.{◌≡◌, List, None, Placed, HasSent, GoesOn}
use Rattle.detect.proofs.reading_thread.ReadingThread.mark_all.Given as goal

abbrev pub invariant-loop : goal.invariant-loop
invariant-loop g l = record {
  sent : (w : List Placed) → HasSent w l.fn.self.router → HasSent w l.self.router;
  idle : l.self.router.pending ≡ None;
  goes_on : GoesOn l.fn.self l.self;
}
