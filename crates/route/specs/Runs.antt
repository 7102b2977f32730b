-- Promised: runs of n lanes: what is put on them and taken from them, event by event.
use Rattle.std.specs.Prelude.{◌≡◌, ℕ, ◌<◌, ◌%◌, ◌==◌, false, if◌then◌else◌, List, [], ◌∷◌, ◌++◌, map, fold, drop}
use Rattle.std.specs.List.{range_with_len, flat_map}
use Rattle.lane.specs.declared.item.Item.{Item}
use Rattle.lane.specs.declared.item.Item.TheVariants.{One, Finish}
use Rattle.lane.specs.Items.{has_mark, IsBeginning}
use Rattle.dag.specs.declared.records.Record.{Record}
use Rattle.dag.specs.declared.records.Record.TheVariants.{Spawn, Call, Return, Sync, Read, Write}
use Rattle.dag.specs.declared.records.Placed.{Placed}
use Rattle.route.specs.Routed.{IsRising}

-- an item is put on a lane or taken from it: a record, or the mark
pub data Event : Type 0 where
  put : ℕ → Item Placed → Event
  take : ℕ → Item Placed → Event

-- the items put, each with its lane, and the items taken
abbrev pub puts_in : List Event → List (ℕ × Item Placed)
puts_in [] = []
puts_in (put k x ∷ es) = (k, x) ∷ puts_in es
puts_in (take k x ∷ es) = puts_in es

abbrev pub takes_in : List Event → List (ℕ × Item Placed)
takes_in [] = []
takes_in (put k x ∷ es) = takes_in es
takes_in (take k x ∷ es) = (k, x) ∷ takes_in es

-- those of lane k
abbrev pub of_lane : {X : Type 0} → ℕ → List (ℕ × X) → List X
of_lane k [] = []
of_lane k (e ∷ es) = if e.0 == k then e.1 ∷ of_lane k es else of_lane k es

abbrev pub put_list : List Event → ℕ → List (Item Placed)
put_list es k = of_lane k (puts_in es)

abbrev pub taken_list : List Event → ℕ → List (Item Placed)
taken_list es k = of_lane k (takes_in es)

-- what lane k holds: a put adds at the end, and a take takes the oldest item
abbrev pub items_after : ℕ → List (Item Placed) → Event → List (Item Placed)
items_after k items (put j x) = if j == k then items ++ x ∷ [] else items
items_after k items (take j x) = if j == k then drop 1 items else items

abbrev pub items_on : List Event → ℕ → List (Item Placed)
items_on es k = fold (items_after k) [] es

-- after these events a put is allowed if the lane isn't marked, and a take if it gives the oldest item
abbrev pub IsAllowed : List Event → Event → Type 0
IsAllowed es (put k x) = has_mark (put_list es k) ≡ false
IsAllowed es (take k x) = (rest : List (Item Placed)) × (items_on es k ≡ x ∷ rest)

-- the lanes that a record is sent to, in their order
abbrev pub lanes_for : ℕ → Record → List ℕ
lanes_for n Spawn = range_with_len 0 n
lanes_for n Call = range_with_len 0 n
lanes_for n Return = range_with_len 0 n
lanes_for n Sync = range_with_len 0 n
lanes_for n (Read l) = l % n ∷ []
lanes_for n (Write l) = l % n ∷ []

abbrev pub sending_of : ℕ → Placed → List (ℕ × Item Placed)
sending_of n p = map (λ k. (k, One p)) (lanes_for n p.what)

-- all that is sent of w, put by put: record after record, and then a mark on each lane; that the marks come in the
-- order of the lanes is this product's choice
abbrev pub sending : ℕ → List Placed → List (ℕ × Item Placed)
sending n w = flat_map (sending_of n) w ++ map (λ k. (k, Finish)) (range_with_len 0 n)

-- a put as an event
abbrev pub put_event : ℕ × Item Placed → Event
put_event e = put e.0 e.1

-- a run of n lanes, on which the records w are sent
pub record IsRun (n : ℕ) (w : List Placed) (es : List Event) : Type 0 where
  pub some : 0 < n
  pub rising : IsRising w
  pub allowed : (before after : List Event) (e : Event) → es ≡ before ++ e ∷ after → IsAllowed before e
  pub in_order : IsBeginning (puts_in es) (sending n w)
