-- Promised: of a list of senders: their lanes, what was put on each and what its taker is shown, how many items each
-- lane holds at most, for how many its sender knows to have room, and how often it refused.
use Rattle.std.specs.Prelude.{ℕ, List, map, slice_index_or, slice_set}
use Rattle.lane.specs.declared.item.Item.{Item}
use Rattle.lane.specs.declared.sender.Sender.{Sender}
use Rattle.lane.specs.Lanes.{LaneId, put_of, one_more}
use Rattle.dag.specs.declared.records.Placed.{Placed}

abbrev pub lanes : List (Sender Placed) → List LaneId
lanes senders = map (λ s. s.lane) senders

abbrev pub puts : List (Sender Placed) → List (List (Item Placed))
puts senders = map put_of senders

abbrev pub shown : List (Sender Placed) → List (List (Item Placed))
shown senders = map (λ s. s.shown) senders

abbrev pub capacities : List (Sender Placed) → List ℕ
capacities senders = map (λ s. s.capacity) senders

abbrev pub rooms : List (Sender Placed) → List ℕ
rooms senders = map (λ s. s.room) senders

abbrev pub refusals : List (Sender Placed) → List ℕ
refusals senders = map (λ s. s.refusals) senders

-- one more refusal on lane k
abbrev pub with_refusal : List ℕ → ℕ → List ℕ
with_refusal counts k = slice_set counts k (one_more (slice_index_or counts k 0))
