use Rattle.std.proofs.Common.{rules, ◌≡◌, ◌+◌, ◌<◌, ap, ◌∙◌, length, drop, length-append}
use Rattle.std.proofs.lemmas.List.{length-drop}
use Rattle.rtrb.specs.Ring.{received}
use Rattle.lane.specs.Slots.{all_items, taken_before}
use Rattle.lane.proofs.Taken.{holds_one, taken_one, owes_more}
use Rattle.lane.proofs.taker.Taker.take_next.Goals as goal

pub invariant_of-self-inside : goal.invariant_of-self-inside
invariant_of-self-inside g c =
    let all = all_items (received c.self.inside.ring) in
    let items = c.self.inside.list.items in
    let lt : c.self.inside.at < length items = search (rules, length-drop) in
    let x = c.index-item.result.now in
    let one : length (taken_before all (drop (c.self.inside.at + 1) items)) ≡ length (taken_before all (drop c.self.inside.at items)) + 1 =
    ap length (taken_one all items c.self.inside.at x lt c.self.inside.hand) ∙ length-append (taken_before all (drop c.self.inside.at items)) _ in
    let owes = owes_more (length (taken_before all (drop c.self.inside.at items))) (length (received c.self.inside.units)) c.self.inside.owed 1
    (length (received c.take_units-self-inside.new.units)) c.take_units-self-inside.result (length (taken_before all (drop (c.self.inside.at + 1) items)))
    c.self.inside.paid c.self.inside.owes c.take_units-self-inside.ensures.more c.take_units-self-inside.ensures.taken one in
    (search rules, (holds_one all items c.self.inside.at x lt c.self.inside.hand, (c.self.inside.memory, (owes.0, (owes.1, (search rules, (c.self.inside.came, (c.self.inside.behind, search rules))))))))
