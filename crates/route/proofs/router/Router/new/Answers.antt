use Rattle.route.proofs.Common.{◌≡◌, List, [], refl, arith, length-map, All-map, Item, put_of, Placed, puts}
use Rattle.route.proofs.Lists.{puts_counted}
use Rattle.route.proofs.Sent.{all_empty}
use Rattle.route.proofs.router.Router.new.Goals as goal

pub invariant_of-result : goal.invariant_of-result
invariant_of-result c =
    let counted = puts_counted c.args.senders in (
      record {
        some = omega (arith, counted, c.requires.some);
        next_within = omega (arith, counted, c.requires.some);
        aimed = λ p e. absurd (cc);
        unmarked = λ p e. refl;
        at_most_all = omega arith;
        marks = (all_empty (puts c.args.senders.items) (λ k h. All-map (λ (l : List (Item Placed)). l ≡ []) put_of c.args.senders.items c.requires.empty k [] h)).0;
      },
      (c.requires.within, (c.in_ok-ends.ensures.len, (omega (arith, c.in_ok-ends.ensures.capacity, c.len.ensures), record {}))),
    )

pub returns : goal.returns
returns c = record {
  lanes = refl;
  capacities = refl;
  count = length-map c.args.senders.items put_of;
  idle = record { none_pending = refl; none_marked = refl };
  sent = (all_empty (puts c.args.senders.items) (λ k h. All-map (λ (l : List (Item Placed)). l ≡ []) put_of c.args.senders.items c.requires.empty k [] h)).1;
}
