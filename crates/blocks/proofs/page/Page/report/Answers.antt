use Rattle.blocks.proofs.Common.{◌≡◌, ◌∙◌, ℕ, ◌+◌, false, List, Option, [], ◌∷◌, ◌++◌, ap, sym, refl, append-nil, append_assoc, add-one, arith, RaceAt, Access, rival, has, names_of, named_cell, Block, unit_cell, location_of, races_up_to, Names, Group}
use Rattle.blocks.proofs.Bits.{has_if, has_unless}
use Rattle.blocks.proofs.Counts.{before_all, one_of_all}
use Rattle.blocks.proofs.Named.{named_later}
use Rattle.blocks.proofs.Raced.{is_accessed, races_begin, races_same, races_more}
use Rattle.blocks.proofs.page.Page.report.Goals as goal
use Rattle.blocks.proofs.page.Page.report.Goals.{then-racy-unit-eq1+in-Some+in_ok-push, then-racy-unit-eq1+in_default, else-racy-unit-eq1}

pub loop-unit-init : goal.loop-unit-init
loop-unit-init c = races_begin c.args.bags.now.active c.args.first c.args.kind c.args.place c.args.units c.args.self.now c.args.races.now.items

pub overflow_add-at : goal.overflow_add-at
overflow_add-at c = omega (arith, c.requires.to_limit, c.count_before.ensures, before_all c.args.units c.loop-unit.unit c.ranges.units.fits (omega (arith, c.loop-unit-test.true)))

pub rival-rival-requires-clause-before : goal.rival-rival-requires-clause-before
rival-rival-requires-clause-before c =
    let groups : c.self.inside.groups.items ≡ c.args.self.now.groups = ap (λ (p : Block). p.groups) c.self.view_is in
    rw (c.names_of.ensures, c.deref.ensures.value, groups)
    (named_later c.args.place (c.args.place + c.count_before.result) c.args.bags.now.count (names_of c.args.self.now.groups c.loop-unit.unit) c.loop-unit.unit (has c.args.self.now.reported c.loop-unit.unit) false (omega arith) (c.requires.before c.loop-unit.unit c.loop-unit-test.true))

pub rival-rival-requires-clause-to_limit : goal.rival-rival-requires-clause-to_limit
rival-rival-requires-clause-to_limit c =
    let accessed = is_accessed c.args.bags.now.active c.args.kind c.args.units c.args.self.now c.args.racy c.loop-unit.unit c.requires.racy c.loop-unit-test.true (has_if c.args.racy c.loop-unit.unit c.if-racy-unit-eq1.true) in
    omega (arith, c.requires.to_limit, c.count_before.ensures, one_of_all c.args.units c.loop-unit.unit c.ranges.units.fits c.loop-unit-test.true accessed)

pub invariant_of-push : goal.invariant_of-push
invariant_of-push c =
    let accessed = is_accessed c.args.bags.now.active c.args.kind c.args.units c.args.self.now c.args.racy c.loop-unit.unit c.requires.racy c.loop-unit-test.true (has_if c.args.racy c.loop-unit.unit c.if-racy-unit-eq1.true) in
    let can = c.rival-rival.ensures.can_race c.in-Some.rival c.in-Some.is in
    record {
      from_one = can.from_one;
      in_order = can.earlier;
      to_limit = omega (arith, c.requires.to_limit, c.count_before.ensures, one_of_all c.args.units c.loop-unit.unit c.ranges.units.fits c.loop-unit-test.true accessed);
      one_writes = can.one_writes;
    }

pub loop-unit-preserved : goal.loop-unit-preserved
loop-unit-preserved c =
    let p = c.args.self.now in
    let unit = c.loop-unit.unit in
    let old = c.args.races.now.items in
    let R : ℕ → List RaceAt = races_up_to c.args.bags.now.active c.args.first c.args.kind c.args.place c.args.units (unit_cell p) in
    let groups : c.self.inside.groups.items ≡ p.groups = ap (λ (q : Block). q.groups) c.self.view_is in
    let rival_is : (o : Option Access) (n : Names) (g : List Group) → o ≡ rival c.args.bags.now.active c.args.kind (named_cell n unit false) → n ≡ names_of g unit → g ≡ c.self.inside.groups.items → o ≡ rival c.args.bags.now.active c.args.kind (named_cell (names_of p.groups unit) unit false)
    = λ o n g e f h. e ∙ ap (λ x. rival c.args.bags.now.active c.args.kind (named_cell x unit false)) (f ∙ ap (λ l. names_of l unit) (h ∙ groups)) in
    rw add-one (elim c.if-racy-unit-eq1.branch [
      | then-racy-unit-eq1+in-Some+in_ok-push w ↦ rw w.races-is (w.in_ok-push.ensures.items ∙ ap (λ rs. rs ++ (record { location = location_of c.args.first unit; first = w.in-Some.rival; second = record { kind = c.args.kind; place = c.args.place + w.count_before.result } }) ∷ []) c.loop-unit.invariant
          ∙ append_assoc old (R unit) _ ∙ ap (λ rs. old ++ rs) (rw (w.in-Some.is, w.count_before.ensures) refl
          ∙ sym (races_more c.args.bags.now.active c.args.first c.args.kind c.args.place c.args.units p c.args.racy unit w.rival-rival.result c.requires.racy c.loop-unit-test.true (has_if c.args.racy unit w.if-racy-unit-eq1.true) (rival_is w.rival-rival.result w.names_of.result w.deref.result.now w.rival-rival.ensures.first w.names_of.ensures w.deref.ensures.value))))
      | then-racy-unit-eq1+in_default w ↦ rw w.races-is (c.loop-unit.invariant ∙ ap (λ rs. old ++ rs) (rw w.in_default.is (sym (append-nil (R unit)))
          ∙ sym (races_more c.args.bags.now.active c.args.first c.args.kind c.args.place c.args.units p c.args.racy unit w.rival-rival.result c.requires.racy c.loop-unit-test.true (has_if c.args.racy unit w.if-racy-unit-eq1.true) (rival_is w.rival-rival.result w.names_of.result w.deref.result.now w.rival-rival.ensures.first w.names_of.ensures w.deref.ensures.value))))
      | else-racy-unit-eq1 w ↦ rw w.races-is (c.loop-unit.invariant ∙ ap (λ rs. old ++ rs) (sym (races_same c.args.bags.now.active c.args.first c.args.kind c.args.place c.args.units p c.args.racy unit c.requires.racy c.loop-unit-test.true (has_unless c.args.racy unit w.if-racy-unit-eq1.false))))
    ])
