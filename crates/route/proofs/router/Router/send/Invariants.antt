use Rattle.route.proofs.Common.{◌≡◌, ◌-◌, ◌<◌, List, Some, None, true, length, Placed, goes_placed, lanes, capacities, puts, refusals, HasSent, lane_count}
use Rattle.route.proofs.Sent.{OnPuts}
use Rattle.route.proofs.router.Router.send.Given as goal

abbrev pub invariant-lanes : goal.invariant-lanes
invariant-lanes l = record {
  within : l.lane < l.count;
  counted : l.count ≡ length (puts l.self-inside.senders.items);
  aimed : goes_placed l.lane l.count l.fn.placed ≡ true;
  sent : (w : List Placed) → HasSent w l.fn.self → OnPuts w l.lane (Some l.fn.placed) 0 (puts l.self-inside.senders.items);
  idle : l.self-inside.pending ≡ None;
  unmarked : l.self-inside.marked ≡ 0;
  none_refused : refusals l.self-inside.senders.items ≡ l.fn.self.refusals;
  same_lanes : lanes l.self-inside.senders.items ≡ l.fn.self.lanes;
  same_capacities : capacities l.self-inside.senders.items ≡ l.fn.self.capacities;
  as_many : length (puts l.self-inside.senders.items) ≡ lane_count l.fn.self;
}

abbrev pub decreases-lanes : goal.decreases-lanes
decreases-lanes l = l.count - l.lane
