use Rattle.shadow.proofs.Common.{◌+◌, ◌==◌, arith, subst, sym, rules, cell_of, IsCellBefore}
use Rattle.shadow.proofs.SeatLemmas.{lent_cell, kept_by_touch}
use Rattle.shadow.proofs.CellLemmas.{all_later, all_with, kept_here, kept_put}
use Rattle.shadow.proofs.shadow.Shadow.touch.Goals as goal

pub invariant_of-self : goal.invariant_of-self
invariant_of-self g c = rw c.in_err-at.ensures.err c.self.invariant

pub touch-requires-clause-may : goal.touch-requires-clause-may
touch-requires-clause-may g c =
    let n = c.self.inside.layout in
    let l = c.args.location in
    let spot = c.spot_of-spot.result in
    let before = all_later (c.self.inside.last_place + 1) c.args.place c.self.inside.least_count c.args.bags.now.count (cell_of n c.self.inside.pages) (omega (arith, rw (← c.self.view_is) at c.requires.later)) (rw (← c.self.view_is) at c.requires.no_fewer) c.self.invariant l in
    let same = lent_cell n c.self.inside.pages c.find.new.self l spot.page spot.seat c.page_mut-page.result.now c.spot_of-spot.ensures.page c.spot_of-spot.ensures.seat c.find.ensures.kept c.page_mut-page.ensures.value in
    record {
      earlier = subst (IsCellBefore c.args.place c.args.bags.now.count) (sym same) before;
      from_one = omega (arith, c.requires.later);
      to_limit = c.requires.to_limit;
    }

pub invariant_of-self-2 : goal.invariant_of-self-2
invariant_of-self-2 g c =
    let n = c.self.inside.layout in
    let es = c.self.inside.pages in
    let l = c.args.location in
    let spot = c.spot_of-spot.result in
    let new = c.touch.new.self in
    let kept = kept_by_touch n es c.find.new.self _ l spot.page spot.seat c.page_mut-page.result.now new c.self.inside.shards_within c.spot_of-spot.ensures.page c.spot_of-spot.ensures.seat c.find.ensures.kept
    c.page_mut-page.ensures.value (c.page_mut-page.ensures.set new) c.touch.ensures.others c.touch.ensures.touched in
    rw c.count-self-inside.ensures.procedures
    (all_with (c.args.place + 1) c.args.bags.now.count (λ q. q == l) _ (cell_of n es) _ (all_later (c.self.inside.last_place + 1) (c.args.place + 1) c.self.inside.least_count c.args.bags.now.count (cell_of n es) (omega (arith, rw (← c.self.view_is) at c.requires.later)) (rw (← c.self.view_is) at c.requires.no_fewer) c.self.invariant) kept.1 kept.2)

pub returns-clause-race : goal.returns-clause-race
returns-clause-race g c =
    let n = c.self.inside.layout in
    let es = c.self.inside.pages in
    let l = c.args.location in
    let spot = c.spot_of-spot.result in
    let new = c.touch.new.self in
    let kept = kept_by_touch n es c.find.new.self _ l spot.page spot.seat c.page_mut-page.result.now new c.self.inside.shards_within c.spot_of-spot.ensures.page c.spot_of-spot.ensures.seat c.find.ensures.kept
    c.page_mut-page.ensures.value (c.page_mut-page.ensures.set new) c.touch.ensures.others c.touch.ensures.touched in
    rw (← c.self.view_is, kept_here (cell_of n es) l c.ranges.location.fits) kept.0

pub returns-in_err-at-clause-not_there : goal.returns-in_err-at-clause-not_there
returns-in_err-at-clause-not_there g c = rw (← c.self.view_is, kept_here (cell_of c.self.inside.layout c.self.inside.pages) c.args.location c.ranges.location.fits, ← c.spot_of-spot.ensures.page, c.in_err-at.ensures.not_there) (search rules)

pub returns-clause-kept : goal.returns-clause-kept
returns-clause-kept g c =
    let n = c.self.inside.layout in
    let es = c.self.inside.pages in
    let l = c.args.location in
    let spot = c.spot_of-spot.result in
    let new = c.touch.new.self in
    let kept = kept_by_touch n es c.find.new.self _ l spot.page spot.seat c.page_mut-page.result.now new c.self.inside.shards_within c.spot_of-spot.ensures.page c.spot_of-spot.ensures.seat c.find.ensures.kept
    c.page_mut-page.ensures.value (c.page_mut-page.ensures.set new) c.touch.ensures.others c.touch.ensures.touched in
    rw (← c.self.view_is) (rw (kept_here (cell_of n es) l c.ranges.location.fits) (kept_put (cell_of n es) _ l _ c.ranges.location.fits kept.2))
