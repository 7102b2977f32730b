use Rattle.blocks.proofs.Common.{◌≡◌, ◌∙◌, ◌+◌, ◌-◌, get_or, drop, ap, sym, arith, get_or_read, has, names_at, no_group, AreKnown}
use Rattle.blocks.proofs.Bits.{has_and}
use Rattle.blocks.proofs.Renames.{known_here, and_first, and_second, rename_past, rename_stays, rename_changes}
use Rattle.blocks.proofs.groups.follow.Goals as goal

pub stay-requires-clause-reader : goal.stay-requires-clause-reader
stay-requires-clause-reader c =
    let l = c.loop-rest.invariant in
    let is : c.index.result.now ≡ get_or c.loop-rest.groups.items (c.loop-rest.index - 1) no_group = get_or_read c.loop-rest.groups.items (c.loop-rest.index - 1) c.index.result.now (omega (arith, c.if-index-gt0.true, l.within, l.from_within)) c.index.ensures no_group in
    rw is (known_here (AreKnown c.args.bags.now.count) c.args.bags.now.active c.args.kind c.args.step c.args.units c.args.groups.now.items c.loop-rest.index c.loop-rest.from c.loop-rest.rest c.loop-rest.groups.items c.if-index-gt0.true c.loop-rest.auto.rest-fits.fits (rw is at c.if-inside-ne0.true) c.requires.known l).reader

pub rename-requires-clause-inside : goal.rename-requires-clause-inside
rename-requires-clause-inside c i h e =
    let l = c.loop-rest.invariant in
    let is : c.index.result.now ≡ get_or c.loop-rest.groups.items (c.loop-rest.index - 1) no_group = get_or_read c.loop-rest.groups.items (c.loop-rest.index - 1) c.index.result.now (omega (arith, c.if-index-gt0.true, l.within, l.from_within)) c.index.ensures no_group in
    rw (← is) (and_first (has c.index.result.now.units i) (has c.loop-rest.rest i) (sym (has_and c.index.result.now.units c.loop-rest.rest i) ∙ e))

pub rename-requires-clause-last : goal.rename-requires-clause-last
rename-requires-clause-last c i h e =
    let next : c.loop-rest.index ≡ c.loop-rest.index - 1 + 1 = omega (arith, c.if-index-gt0.true) in
    ap (λ n. names_at (drop n c.loop-rest.groups.items) i) (sym next) ∙ c.loop-rest.invariant.none i h (and_second (has c.index.result.now.units i) (has c.loop-rest.rest i) (sym (has_and c.index.result.now.units c.loop-rest.rest i) ∙ e))

pub loop-rest-preserved-then-not-stay : goal.loop-rest-preserved-then-not-stay
loop-rest-preserved-then-not-stay c =
    let l = c.loop-rest.invariant in
    let is : c.index.result.now ≡ get_or c.loop-rest.groups.items (c.loop-rest.index - 1) no_group = get_or_read c.loop-rest.groups.items (c.loop-rest.index - 1) c.index.result.now (omega (arith, c.if-index-gt0.true, l.within, l.from_within)) c.index.ensures no_group in
    rw is (rename_changes c.args.bags.now.active c.args.kind c.args.step c.args.units c.args.groups.now.items c.loop-rest.index c.loop-rest.from c.in_ok-from.from c.loop-rest.rest c.loop-rest.groups.items c.rename.new.groups.items
    c.if-index-gt0.true c.loop-rest.auto.rest-fits.fits (rw is at (sym c.stay.ensures ∙ c.if-not-stay.true)) c.in_ok-from.ensures.within.0 c.in_ok-from.ensures.within.1 c.in_ok-from.ensures.first (rw (c.touched-names.ensures, is) at c.in_ok-from.ensures.names) l)

pub loop-rest-preserved-else-not-stay : goal.loop-rest-preserved-else-not-stay
loop-rest-preserved-else-not-stay c =
    let l = c.loop-rest.invariant in
    let is : c.index.result.now ≡ get_or c.loop-rest.groups.items (c.loop-rest.index - 1) no_group = get_or_read c.loop-rest.groups.items (c.loop-rest.index - 1) c.index.result.now (omega (arith, c.if-index-gt0.true, l.within, l.from_within)) c.index.ensures no_group in
    rw is (rename_stays c.args.bags.now.active c.args.kind c.args.step c.args.units c.args.groups.now.items c.loop-rest.index c.loop-rest.from c.loop-rest.rest c.loop-rest.groups.items c.if-index-gt0.true c.loop-rest.auto.rest-fits.fits (rw is at (sym c.stay.ensures ∙ c.if-not-stay.false)) l)

pub loop-rest-preserved : goal.loop-rest-preserved
loop-rest-preserved c =
    let l = c.loop-rest.invariant in
    let is : c.index.result.now ≡ get_or c.loop-rest.groups.items (c.loop-rest.index - 1) no_group = get_or_read c.loop-rest.groups.items (c.loop-rest.index - 1) c.index.result.now (omega (arith, c.if-index-gt0.true, l.within, l.from_within)) c.index.ensures no_group in
    rename_past c.args.bags.now.active c.args.kind c.args.step c.args.units c.args.groups.now.items c.loop-rest.index c.loop-rest.from c.loop-rest.rest c.loop-rest.groups.items c.if-index-gt0.true (rw is at c.if-inside-ne0.false) l
