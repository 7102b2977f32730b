use Rattle.std.proofs.Common.{◌≡◌, ◌+◌, length}
use Rattle.rtrb.specs.Ring.{received, known_items, SameConsumer}
use Rattle.lane.proofs.taker.pay.Given as goal

abbrev pub invariant-loop : goal.invariant-loop
invariant-loop l = record {
  same : SameConsumer l.fn.units l.units;
  taken : length (received l.units) ≡ length (received l.fn.units) + l.counter;
  known : length (known_items l.units) + l.counter ≡ length (known_items l.fn.units);
  owed : l.owed ≡ l.fn.owed;
}
