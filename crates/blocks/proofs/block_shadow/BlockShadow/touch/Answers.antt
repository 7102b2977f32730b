use Rattle.blocks.proofs.Common.{◌≡◌, ◌∙◌, ◌+◌, ◌*◌, ◌/◌, ◌%◌, ◌++◌, List, ap, sym, subst, arith, count_ones, RaceAt, IsCellBefore, unit_cell, touched_at, races_up_to, cell_in_blocks, block_of, first_of, location_of, all_later}
use Rattle.shadow.proofs.StateLemmas.{map_OnOk}
use Rattle.blocks.proofs.Kept.{at_unit, all_after, kept_after, races_of_same}
use Rattle.blocks.proofs.block_shadow.BlockShadow.touch.Goals as goal

pub invariant_of-self : goal.invariant_of-self
invariant_of-self g c = rw c.in_err-at.ensures.err c.self.invariant

pub touch-requires-clause-before : goal.touch-requires-clause-before
touch-requires-clause-before g c i h =
    let es = c.self.inside.pages in
    let page = block_of c.args.location in
    let before = all_later c.self.inside.next_place c.args.place c.self.inside.least_count c.args.bags.now.count (cell_in_blocks es) (rw (← c.self.view_is) at c.requires.later) (rw (← c.self.view_is) at c.requires.no_fewer) c.self.invariant in
    subst (IsCellBefore c.args.place c.args.bags.now.count) (sym (at_unit es c.find.new.self _ page c.page_mut-page.result.now c.page_mut-page.result.now c.find.ensures.kept c.page_mut-page.ensures.value (c.page_mut-page.ensures.set c.page_mut-page.result.now) i h)) (before (location_of (first_of page) i))

pub invariant_of-self-2 : goal.invariant_of-self-2
invariant_of-self-2 g c =
    let es = c.self.inside.pages in
    let before = all_later c.self.inside.next_place c.args.place c.self.inside.least_count c.args.bags.now.count (cell_in_blocks es) (rw (← c.self.view_is) at c.requires.later) (rw (← c.self.view_is) at c.requires.no_fewer) c.self.invariant in
    rw (c.from.ensures, c.count-self-inside.ensures.procedures) (all_after es c.find.new.self _ (block_of c.args.location) c.page_mut-page.result.now c.touch.new.self c.find.ensures.kept c.page_mut-page.ensures.value (c.page_mut-page.ensures.set c.touch.new.self)
    c.args.place (c.args.place + count_ones c.args.units) c.args.bags.now.count before (omega arith) c.touch.ensures.earlier)

pub returns-clause-races : goal.returns-clause-races
returns-clause-races g c =
    let es = c.self.inside.pages in
    let page = block_of c.args.location in
    let first : c.args.location / 128 * 128 + c.args.location % 2 ≡ first_of page = omega arith in
    rw (← c.self.view_is) (map_OnOk c.touch.result _ _ (λ is. is ∙ ap (λ (rs : List RaceAt). c.args.races.now.items ++ rs)
    (ap (λ f. races_up_to c.args.bags.now.active f c.args.kind c.args.place c.args.units (unit_cell c.page_mut-page.result.now) 64) first
    ∙ races_of_same c.args.bags.now.active (first_of page) c.args.kind c.args.place c.args.units (unit_cell c.page_mut-page.result.now) (λ i. cell_in_blocks es (location_of (first_of page) i)) 64
    (at_unit es c.find.new.self _ page c.page_mut-page.result.now c.touch.new.self c.find.ensures.kept c.page_mut-page.ensures.value (c.page_mut-page.ensures.set c.touch.new.self)))) c.touch.ensures.races)

pub returns-clause-kept : goal.returns-clause-kept
returns-clause-kept g c =
    rw (← c.self.view_is) (map_OnOk c.touch.result _ _ (kept_after c.self.inside.pages c.find.new.self _ (block_of c.args.location) c.page_mut-page.result.now c.touch.new.self c.find.ensures.kept c.page_mut-page.ensures.value (c.page_mut-page.ensures.set c.touch.new.self)
    (touched_at c.args.bags.now.active c.args.kind c.args.place c.args.units)) c.touch.ensures.kept)
