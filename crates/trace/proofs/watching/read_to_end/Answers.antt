use Rattle.trace.proofs.Common.{◌≤◌, ℕ, [], ◌∷◌, ◌++◌, refl, sym, ap, subst, ◌∙◌, arith, length-append, Change, ◌⇝◌, Feeding, HasFed, IsWhole, IsWantOfMemory}
use Rattle.dag.specs.Bounds.{most_records}
use Rattle.trace.proofs.Feedings.{consumes_none, consumes_more, fed_none, at_limits}
use Rattle.trace.proofs.Endings.{refused_by_fault, ends_refused, given_next, given_end}
use Rattle.trace.proofs.watching.read_to_end.Goals as goal

pub records-init : goal.records-init
records-init g c =
    let P : Feeding → Type 0 = HasFed [] [] in
    record {
      trace = [];
      came = [];
      gave = consumes_none _;
      fed = subst P (sym c.new-intake.ensures) (fed_none c.args.limits.records c.args.limits.depth);
      seen = c.requires;
      steady = refl;
      records = ap (λ (s : Feeding). s.reading.limit) c.new-intake.ensures;
      depths = ap (λ (s : Feeding). s.nesting.max_depth) c.new-intake.ensures;
    }

pub returns-in_err-next_from : goal.returns-in_err-next_from
returns-in_err-next_from g c =
    let i = c.records.invariant in
    let fed = c.in_err-next_from.ensures.next.fed i.trace i.came i.fed in
    ends_refused _ _ _ _ _ _ _ c.from_residual.ensures.1
    (refused_by_fault IsWantOfMemory _ _ _ _ (g.R.Source.state c.args.source.now) (g.R.Source.state c.records.source) (g.R.Source.state c.next_from.new.source) i.came fed.0 _ i.records i.depths i.steady i.gave fed.1 fed.2.0)

pub returns-in-None : goal.returns-in-None
returns-in-None g c =
    let i = c.records.invariant in
    let fed = c.in_ok-next_from.ensures.next.fed i.trace i.came i.fed in
    let change : Change = g.R.Source.state c.records.source ⇝ g.R.Source.state c.next_from.new.source in
    let end = given_end _ _ _ _ change _ _ c.in-None.is fed.2 in
    let P : ℕ → ℕ → Type 0 = λ r d. IsWhole r d i.trace (i.came ++ fed.0) (g.R.Source.state c.next_from.new.source) in
    record {
      trace = i.trace;
      read = record { came = i.came ++ fed.0; gave = consumes_more _ _ _ i.came fed.0 i.gave fed.1; whole = at_limits P _ _ _ _ i.records i.depths end };
      says = i.seen;
    }

pub see-requires : goal.see-requires
see-requires g c =
    let i = c.records.invariant in
    let change : Change = g.R.Source.state c.records.source ⇝ g.R.Source.state c.next_from.new.source in
    let next = given_next _ _ _ _ change _ _ _ c.in-Some.is (c.in_ok-next_from.ensures.next.fed i.trace i.came i.fed).2 in
    let limit : c.in-Some.placed.place ≤ most_records = omega (arith, next.0, next.1.has_used.has_read.within, c.next_from.ensures.next.limits.records, i.records, c.args.limits.within, length-append i.trace (c.in-Some.placed.what ∷ [])) in
    (_, i.trace, i.seen, record { place_is = next.0; to_limit = limit })

pub records-smaller : goal.records-smaller
records-smaller g c =
    let i = c.records.invariant in
    let change : Change = g.R.Source.state c.records.source ⇝ g.R.Source.state c.next_from.new.source in
    let next = given_next _ _ _ _ change _ _ _ c.in-Some.is (c.in_ok-next_from.ensures.next.fed i.trace i.came i.fed).2 in
    omega (arith, next.1.has_used.has_read.count_is, next.1.has_used.has_read.within, i.fed.has_used.has_read.count_is, c.next_from.ensures.next.limits.records, i.records, length-append i.trace (c.in-Some.placed.what ∷ []))

pub records-preserved : goal.records-preserved
records-preserved g c =
    let i = c.records.invariant in
    let fed = c.in_ok-next_from.ensures.next.fed i.trace i.came i.fed in
    let change : Change = g.R.Source.state c.records.source ⇝ g.R.Source.state c.next_from.new.source in
    let next = given_next _ _ _ _ change _ _ _ c.in-Some.is fed.2 in
    let limit : c.in-Some.placed.place ≤ most_records = omega (arith, next.0, next.1.has_used.has_read.within, c.next_from.ensures.next.limits.records, i.records, c.args.limits.within, length-append i.trace (c.in-Some.placed.what ∷ [])) in
    record {
      trace = i.trace ++ c.in-Some.placed.what ∷ [];
      came = i.came ++ fed.0;
      gave = consumes_more _ _ _ i.came fed.0 i.gave fed.1;
      fed = next.1;
      seen = c.in_ok-see-in-Some.ensures _ i.trace i.seen (record { place_is = next.0; to_limit = limit });
      steady = next.2 ∙ i.steady;
      records = c.next_from.ensures.next.limits.records ∙ i.records;
      depths = c.next_from.ensures.next.limits.depths ∙ i.depths;
    }
