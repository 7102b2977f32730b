use Rattle.std.proofs.Common.{rules, ◌<◌, ◌++◌, ◌∷◌, [], arith, length, take, ap, ◌∙◌, refl}
use Rattle.rtrb.specs.Ring.{sent}
use Rattle.lane.specs.declared.item.Slot.TheVariants.{Single}
use Rattle.lane.specs.Items.{has_mark}
use Rattle.lane.specs.Slots.{all_items, have_items}
use Rattle.lane.proofs.Shown.{all_items_more, have_items_more, has_mark_one, no_mark_at, shown_next}
use Rattle.lane.proofs.giving.show_each.Goals as goal

pub push_reserved-requires : goal.push_reserved-requires
push_reserved-requires g c = (
  omega (arith, c.requires.room, c.loop-at.invariant.room, c.loop-at-test.true, c.len-at-end.ensures),
  (
    ap has_mark c.loop-at.invariant.shown ∙ no_mark_at (all_items (sent c.args.ring.now)) c.args.staged.now.items c.loop-at.at c.requires.unmarked,
    (omega arith, has_mark_one c.index.result.now),
  ),
)

pub loop-at-preserved : goal.loop-at-preserved
loop-at-preserved g c =
    let lt : c.loop-at.at < length c.args.staged.now.items = search rules in
    let x = Single c.index.result.now in
    record {
      same = search rules;
      staged = refl;
      shown = ap all_items c.push_reserved.ensures.sent.0 ∙ all_items_more (sent c.loop-at.ring) x
          ∙ ap (λ l. l ++ (c.index.result.now ∷ [])) c.loop-at.invariant.shown
          ∙ ap (λ y. (all_items (sent c.args.ring.now) ++ take c.loop-at.at c.args.staged.now.items) ++ (y ∷ [])) c.index.ensures
          ∙ shown_next (all_items (sent c.args.ring.now)) c.args.staged.now.items c.loop-at.at c.index.result.now lt;
      some = ap have_items c.push_reserved.ensures.sent.0 ∙ have_items_more (sent c.loop-at.ring) x c.loop-at.invariant.some (omega arith);
      room = omega (arith, c.loop-at.invariant.room, c.push_reserved.ensures.sent.1);
    }
