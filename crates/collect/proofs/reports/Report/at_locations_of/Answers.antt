use Rattle.collect.proofs.Common.{◌≡◌, ℕ, suc, ◌+◌, ◌<◌, ◌≤◌, ◌^◌, List, length, set, get_or, sym, ap, ap₂, subst, ◌∙◌, arith, RaceAt, location_at, IsReportList, located_at}
use Rattle.collect.proofs.Located.{partly, partly-all, partly-next, partly-set, has_location, list-located}
use Rattle.collect.proofs.reports.Report.at_locations_of.Goals as goal

pub location_at-requires : goal.location_at-requires
location_at-requires c =
    let next : c.loop-index.index < length c.args.self = omega (arith, c.loop-index-test.true, c.len-index-end.ensures, c.self.inside.races.ok.0, ap length c.self.view_is) in
    let d : RaceAt = c.index-race.result.now in
    let P : RaceAt → Type 0 = λ r. location_at c.args.part r.location < 2 ^ 64 in
    let same = c.race.view_is ∙ c.index-race.ensures ∙ ap (λ (l : List RaceAt). get_or l c.loop-index.index d) c.loop-index.invariant ∙ partly-next c.args.part c.loop-index.index c.args.self d next in
    subst P (sym same) (has_location c.args.part c.args.self c.loop-index.index d next c.requires)

pub loop-index-preserved : goal.loop-index-preserved
loop-index-preserved c =
    let i : ℕ = c.loop-index.index in
    let next : i < length c.args.self = omega (arith, c.loop-index-test.true, c.len-index-end.ensures, c.self.inside.races.ok.0, ap length c.self.view_is) in
    let d : RaceAt = c.index-race.result.now in
    let same = c.race.view_is ∙ c.index-race.ensures ∙ ap (λ (l : List RaceAt). get_or l i d) c.loop-index.invariant ∙ partly-next c.args.part i c.args.self d next in
    let moved = ap (λ (m : ℕ). record { location = m; first = c.race.inside.first; second = c.race.inside.second }) c.location_at.ensures ∙ ap (located_at c.args.part) same in
    let e : suc i ≡ i + 1 = omega arith in
    ap₂ (λ (l : List RaceAt) (r : RaceAt). set l i r) c.loop-index.invariant moved ∙ partly-set c.args.part i c.args.self d next ∙ ap (λ (k : ℕ). partly c.args.part k c.args.self) e

pub invariant_of-result : goal.invariant_of-result
invariant_of-result c =
    let past : length c.args.self ≤ c.loop-index.index = omega (arith, c.loop-index-test.false, c.len-index-end.ensures, c.self.inside.races.ok.0, ap length c.self.view_is) in
    subst IsReportList (sym (c.loop-index.invariant ∙ partly-all c.args.part c.loop-index.index c.args.self past))
    (list-located c.args.part c.args.self (subst IsReportList c.self.view_is c.self.invariant) c.requires)

pub returns : goal.returns
returns c =
    let past : length c.args.self ≤ c.loop-index.index = omega (arith, c.loop-index-test.false, c.len-index-end.ensures, c.self.inside.races.ok.0, ap length c.self.view_is) in
    c.loop-index.invariant ∙ partly-all c.args.part c.loop-index.index c.args.self past
