use Rattle.std.proofs.Common.{rules, ◌++◌, ap, ◌∙◌, sym, drop, append-nil}
use Rattle.rtrb.specs.Ring.{received, known_items}
use Rattle.lane.specs.Given.{items_sent}
use Rattle.lane.specs.Slots.{all_items, taken_before}
use Rattle.lane.proofs.Taken.{all_items_append, whole_is}
use Rattle.lane.proofs.taker.Taker.beside.Goals as goal

pub returns-clause-compared : goal.returns-clause-compared
returns-clause-compared g c =
    let rest = drop c.self.inside.at c.self.inside.list.items in
    let looked = c.look-self-inside in
    let ring = looked.new.ring in
    let same = ap all_items looked.ensures.received_same in
    let hand = same ∙ c.self.inside.hand ∙ ap (λ w. taken_before w rest ++ rest) (sym same) in
    let none = ap (λ s. s.staged) c.sender.view_is ∙ c.flush.ensures.none_staged in
    record {
      lane = search rules;
      taken = search rules;
      put = search rules;
      waiting = whole_is (all_items (received ring)) rest (all_items (known_items ring)) looked.result hand looked.ensures.known
          ∙ sym (all_items_append (received ring) (known_items ring)) ∙ ap all_items looked.ensures.fifo
          ∙ sym (ap (λ l. items_sent looked.new.giving ++ l) none ∙ append-nil (items_sent looked.new.giving));
      knew = search rules;
      last = search rules;
    }
