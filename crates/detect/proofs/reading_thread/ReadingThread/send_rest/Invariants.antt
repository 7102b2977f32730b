use Rattle.detect.proofs.Common.{◌≡◌, List, Some, Placed, sent_whole, HasSent, GoesOn}
use Rattle.detect.proofs.reading_thread.ReadingThread.send_rest.Given as goal

abbrev pub invariant-loop : goal.invariant-loop
invariant-loop g l = record {
  sent : (w : List Placed) (p : Placed) → l.fn.self.router.pending ≡ Some p → HasSent w l.fn.self.router → HasSent (sent_whole w (Some p) l.self.router.pending) l.self.router;
  pending : (p : Placed) → l.self.router.pending ≡ Some p → l.fn.self.router.pending ≡ Some p;
  unmarked : l.self.router.marked ≡ 0;
  goes_on : GoesOn l.fn.self l.self;
}
