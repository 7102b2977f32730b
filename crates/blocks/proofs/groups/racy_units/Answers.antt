use Rattle.blocks.proofs.Common.{◌∙◌, sym, arith, AreKnown}
use Rattle.blocks.proofs.Looks.{look_begins, known_inside, look_racy, look_calm, look_past, look_ends, look_done}
use Rattle.blocks.proofs.groups.racy_units.Goals as goal

pub loop-rest-init : goal.loop-rest-init
loop-rest-init c = look_begins c.args.bags.now.active c.args.kind c.args.units c.args.groups.now

pub bounds-groups-index : goal.bounds-groups-index
bounds-groups-index c = omega (arith, c.loop-rest.invariant.within, c.if-index-gt0.true)

pub has_rival-requires-clause-writer : goal.has_rival-requires-clause-writer
has_rival-requires-clause-writer c =
    let l = c.loop-rest.invariant in
    (known_inside (AreKnown c.args.bags.now.count) c.args.units c.loop-rest.rest c.args.groups.now c.loop-rest.index c.if-index-gt0.true l.within c.loop-rest.auto.rest-fits.fits l.rest_is c.if-inside-ne0.true c.requires.known).writer

pub has_rival-requires-clause-reader : goal.has_rival-requires-clause-reader
has_rival-requires-clause-reader c =
    let l = c.loop-rest.invariant in
    (known_inside (AreKnown c.args.bags.now.count) c.args.units c.loop-rest.rest c.args.groups.now c.loop-rest.index c.if-index-gt0.true l.within c.loop-rest.auto.rest-fits.fits l.rest_is c.if-inside-ne0.true c.requires.known).reader

pub loop-rest-preserved-then-has_rival : goal.loop-rest-preserved-then-has_rival
loop-rest-preserved-then-has_rival c = look_racy c.args.bags.now.active c.args.kind c.args.units c.loop-rest.rest c.loop-rest.racy c.args.groups.now c.loop-rest.index c.if-index-gt0.true c.loop-rest.auto.rest-fits.fits (sym c.has_rival.ensures ∙ c.if-has_rival.true) c.loop-rest.invariant

pub loop-rest-preserved-else-has_rival : goal.loop-rest-preserved-else-has_rival
loop-rest-preserved-else-has_rival c = look_calm c.args.bags.now.active c.args.kind c.args.units c.loop-rest.rest c.loop-rest.racy c.args.groups.now c.loop-rest.index c.if-index-gt0.true c.loop-rest.auto.rest-fits.fits (sym c.has_rival.ensures ∙ c.if-has_rival.false) c.loop-rest.invariant

pub loop-rest-preserved : goal.loop-rest-preserved
loop-rest-preserved c = look_past c.args.bags.now.active c.args.kind c.args.units c.loop-rest.rest c.loop-rest.racy c.args.groups.now c.loop-rest.index c.if-index-gt0.true c.if-inside-ne0.false c.loop-rest.invariant

pub returns-else-index-gt0 : goal.returns-else-index-gt0
returns-else-index-gt0 c = look_ends c.args.bags.now.active c.args.kind c.args.units c.loop-rest.rest c.loop-rest.racy c.args.groups.now c.loop-rest.index c.if-index-gt0.false c.loop-rest.invariant

pub returns-after-loop-rest : goal.returns-after-loop-rest
returns-after-loop-rest c = look_done c.args.bags.now.active c.args.kind c.args.units c.loop-rest.rest c.loop-rest.racy c.args.groups.now c.loop-rest.index c.loop-rest-test.false c.loop-rest.invariant
