use Rattle.blocks.proofs.Common.{◌≡◌, ◌∙◌, ◌+◌, ◌<◌, ◌++◌, ap, sym, subst, append-nil, arith, count_ones, IsCellBefore, has, names_at, names_of, named_cell, Block, unit_cell, AreNew, cell_later}
use Rattle.blocks.proofs.Bits.{has_or}
use Rattle.blocks.proofs.Named.{known_names, cell_after, touched_earlier, partly_earlier}
use Rattle.blocks.proofs.Raced.{new_units, known_racy, no_races}
use Rattle.blocks.proofs.page.Page.touch.Goals as goal
use Rattle.blocks.proofs.page.Page.touch.Goals.{then-racy-ne0+in_ok-report, else-racy-ne0}

pub racy_units-requires-clause-known : goal.racy_units-requires-clause-known
racy_units-requires-clause-known c i h =
    let groups : c.self.inside.groups.items ≡ c.args.self.now.groups = ap (λ (p : Block). p.groups) c.self.view_is in
    rw (c.deref.ensures.value, groups) (known_names c.args.self.now.groups i c.args.place c.args.bags.now.count (has c.args.self.now.reported i) (c.requires.before i h))

pub report-requires-clause-racy : goal.report-requires-clause-racy
report-requires-clause-racy c i h =
    let groups : c.self.inside.groups.items ≡ c.args.self.now.groups = ap (λ (p : Block). p.groups) c.self.view_is in
    let reported : c.self.inside.reported ≡ c.args.self.now.reported = ap (λ (p : Block). p.reported) c.self.view_is in
    rw (← groups, ← reported) (new_units c.racy_units.result c.without-racy.result c.self.inside.reported i _ _ (known_racy c.args.bags.now.active c.args.kind c.args.units c.self.inside.touched c.racy_units.result i c.self.inside.groups.items (c.self.invariant i h) (rw c.deref.ensures.value at c.racy_units.ensures i h)) (c.without-racy.ensures i h))

pub touch-requires-clause-known : goal.touch-requires-clause-known
touch-requires-clause-known c i h =
    let groups : c.self.inside.groups.items ≡ c.args.self.now.groups = ap (λ (p : Block). p.groups) c.self.view_is in
    rw groups (known_names c.args.self.now.groups i c.args.place c.args.bags.now.count (has c.args.self.now.reported i) (c.requires.before i h))

pub returns-clause-races : goal.returns-clause-races
returns-clause-races c =
    let groups : c.self.inside.groups.items ≡ c.args.self.now.groups = ap (λ (p : Block). p.groups) c.self.view_is in
    let reported : c.self.inside.reported ≡ c.args.self.now.reported = ap (λ (p : Block). p.reported) c.self.view_is in
    let new : AreNew c.args.bags.now.active c.args.kind c.args.units c.args.self.now c.without-racy.result
    = λ i h. rw (← groups, ← reported) (new_units c.racy_units.result c.without-racy.result c.self.inside.reported i _ _ (known_racy c.args.bags.now.active c.args.kind c.args.units c.self.inside.touched c.racy_units.result i c.self.inside.groups.items (c.self.invariant i h) (rw c.deref.ensures.value at c.racy_units.ensures i h)) (c.without-racy.ensures i h)) in
    elim c.if-racy-ne0.branch [
      | then-racy-ne0+in_ok-report w ↦ rw w.races-is w.in_ok-report.ensures.races
      | else-racy-ne0 w ↦ rw w.races-is (sym (append-nil c.args.races.now.items)
          ∙ ap (λ rs. c.args.races.now.items ++ rs) (sym (no_races c.args.bags.now.active c.args.first c.args.kind c.args.place c.args.units c.args.self.now c.without-racy.result 64 new w.if-racy-ne0.false (omega arith))))
    ]

pub returns-clause-kept : goal.returns-clause-kept
returns-clause-kept c i h =
    let groups : c.self.inside.groups.items ≡ c.args.self.now.groups = ap (λ (p : Block). p.groups) c.self.view_is in
    let reported : c.self.inside.reported ≡ c.args.self.now.reported = ap (λ (p : Block). p.reported) c.self.view_is in
    rw (← groups, ← reported) (rw (c.in_ok-touch.ensures.kept i h, has_or c.self.inside.reported c.without-racy.result i)
    (cell_after c.args.bags.now.active c.args.kind (record { procedure = c.current-executing.result; place = c.args.place; units = c.args.units }) i (names_at c.self.inside.groups.items i) (has c.self.inside.reported i) (has c.without-racy.result i) c.current-executing.ensures.executes c.requires.from_one
    (new_units c.racy_units.result c.without-racy.result c.self.inside.reported i _ _ (known_racy c.args.bags.now.active c.args.kind c.args.units c.self.inside.touched c.racy_units.result i c.self.inside.groups.items (c.self.invariant i h) (rw c.deref.ensures.value at c.racy_units.ensures i h)) (c.without-racy.ensures i h))))

pub returns-clause-earlier : goal.returns-clause-earlier
returns-clause-earlier c i h =
    subst (IsCellBefore (c.args.place + count_ones c.args.units) c.args.bags.now.count) (sym (returns-clause-kept c i h))
    (touched_earlier c.args.bags.now.active c.args.kind c.args.place c.args.units i c.args.bags.now.count (unit_cell c.args.self.now i) (subst (λ n. n < c.args.bags.now.count) c.current-executing.ensures.executes c.current-executing.ensures.known) c.requires.from_one c.ranges.units.fits h (c.requires.before i h))

pub returns-in_err-report-clause-earlier : goal.returns-in_err-report-clause-earlier
returns-in_err-report-clause-earlier c i h = cell_later c.args.place (c.args.place + count_ones c.args.units) c.args.bags.now.count c.args.bags.now.count (unit_cell c.args.self.now i) (omega arith) (omega arith) (c.requires.before i h)

pub returns-in_err-touch-clause-earlier : goal.returns-in_err-touch-clause-earlier
returns-in_err-touch-clause-earlier c i h =
    let before : IsCellBefore c.args.place c.args.bags.now.count (named_cell (names_of c.self.inside.groups.items i) i (has c.self.inside.reported i)) = subst (λ (p : Block). IsCellBefore c.args.place c.args.bags.now.count (unit_cell p i)) (sym c.self.view_is) (c.requires.before i h) in
    partly_earlier c.args.bags.now.active c.args.kind (record { procedure = c.current-executing.result; place = c.args.place; units = c.args.units }) i c.args.bags.now.count (names_of c.self.inside.groups.items i) (names_of c.touch.new.groups.items i) (has c.self.inside.reported i)
    (c.touch.ensures.partly i h) (subst (λ n. n < c.args.bags.now.count) c.current-executing.ensures.executes c.current-executing.ensures.known) c.current-executing.ensures.executes c.requires.from_one c.ranges.units.fits h before
