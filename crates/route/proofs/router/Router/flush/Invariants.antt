use Rattle.route.proofs.Common.{◌≡◌, ℕ, ◌<◌, [], slice_index_or, vec_len, lanes, capacities, puts, shown, put_on}
use Rattle.route.proofs.router.Router.flush.Given as goal

abbrev pub invariant-loop-lane : goal.invariant-loop-lane
invariant-loop-lane l = record {
  same_puts : puts l.self-inside.senders.items ≡ l.fn.self.puts;
  same_lanes : lanes l.self-inside.senders.items ≡ l.fn.self.lanes;
  same_capacities : capacities l.self-inside.senders.items ≡ l.fn.self.capacities;
  pending : l.self-inside.pending ≡ l.fn.self.pending;
  next : l.self-inside.next ≡ l.fn.self.next;
  marked : l.self-inside.marked ≡ l.fn.self.marked;
  len : vec_len l.self-inside.senders ≡ vec_len l.initial.self-inside.senders;
  all_shown : (k : ℕ) → k < l.lane → slice_index_or (shown l.self-inside.senders.items) k [] ≡ put_on (puts l.self-inside.senders.items) k;
}
