use Rattle.online.proofs.Common.{◌≡◌, ◌∙◌, subst, arith, kept_of, has_if, has_unless}
use Rattle.online.proofs.Forgotten.{AreForgotten, forgets_same, forgets_one, forgets_all}
use Rattle.online.proofs.detector.forget_cells.Goals as goal
use Rattle.online.proofs.detector.forget_cells.Goals.{then-units-unit-eq1, else-units-unit-eq1}

pub loop-unit-preserved : goal.loop-unit-preserved
loop-unit-preserved g c =
    let n = c.loop-unit.unit in
    let old = kept_of c.args.sp_bags.now.shadow in
    let now = kept_of c.loop-unit.sp_bags.shadow in
    let i = c.loop-unit.invariant in
    elim c.if-units-unit-eq1.branch [
      | then-units-unit-eq1 w ↦ rw w.sp_bags-is (record {
        cells = forgets_one c.args.first c.args.units n old now (kept_of w.forget.new.self.shadow) c.requires.odd c.loop-unit-test.true (has_if c.args.units n w.if-units-unit-eq1.true) i.cells w.forget.ensures.kept;
        bags = w.forget.ensures.bags ∙ i.bags;
        last_place = w.forget.ensures.last_place ∙ i.last_place;
        ended = w.forget.ensures.ended ∙ i.ended;
      })
      | else-units-unit-eq1 w ↦ rw w.sp_bags-is (record {
        cells = forgets_same c.args.first c.args.units n old now (has_unless c.args.units n w.if-units-unit-eq1.false) i.cells;
        bags = i.bags;
        last_place = i.last_place;
        ended = i.ended;
      })
    ]

pub returns : goal.returns
returns g c =
    let i = c.loop-unit.invariant in
    let all : c.loop-unit.unit ≡ 64 = omega (arith, c.loop-unit-test.false, c.loop-unit.auto.unit-end) in
    record {
      bags = i.bags;
      kept = forgets_all c.args.first c.args.units (kept_of c.args.sp_bags.now.shadow) (kept_of c.loop-unit.sp_bags.shadow) (subst (λ n. AreForgotten c.args.first c.args.units n (kept_of c.args.sp_bags.now.shadow) (kept_of c.loop-unit.sp_bags.shadow)) all i.cells);
      last_place = i.last_place;
      ended = i.ended;
    }
