use Rattle.route.proofs.Common.{◌≡◌, ℕ, true, [], ◌∷◌, ◌++◌, length, Some, None, refl, sym, ap, subst, ◌∙◌, arith, length-set, One, has_mark, Placed, goes_placed, puts, put_on, HasBlocked, HasGoneOn, HasPutNext}
use Rattle.route.proofs.Lists.{puts_counted, put_at, put_ok, put_err}
use Rattle.route.proofs.Sent.{unmarked_at}
use Rattle.route.proofs.Steps.{over_view, for_pending, router_same, router_put, router_aim, aimed_at, unchanged, gone_same, gone_next, gone_last, puts_next, puts_last}
use Rattle.route.proofs.router.Router.step.Goals as goal

pub put-requires-after_bounds : goal.put-requires-after_bounds
put-requires-after_bounds c κs =
    let s = c.self.inside in
    ap has_mark (sym (put_at s.senders.items s.next _ s.kept.next_within c.index_mut.ensures.value))
    ∙ unmarked_at (puts s.senders.items) s.marked s.next (omega (arith, s.kept.unmarked c.in-Some.placed c.in-Some.is)) s.kept.next_within s.kept.marks

pub invariant_of-self-inside : goal.invariant_of-self-inside
invariant_of-self-inside c =
    let s = c.self.inside in
    let none = put_err s.senders.items s.next _ _ c.put.new.self c.in-Some.placed c.put.result c.is_err.result s.kept.next_within refl c.index_mut.ensures.value c.is_err.ensures.value c.if-is_err.true c.put.ensures.full in
    (router_same (puts s.senders.items) _ s.pending s.next s.marked none.same s.kept, (s.within, (s.no_ends, (s.room, record {}))))

pub returns-then-is_err-clause-goes_on : goal.returns-then-is_err-clause-goes_on
returns-then-is_err-clause-goes_on c =
    let s = c.self.inside in
    let none = put_err s.senders.items s.next _ _ c.put.new.self c.in-Some.placed c.put.result c.is_err.result s.kept.next_within refl c.index_mut.ensures.value c.is_err.ensures.value c.if-is_err.true c.put.ensures.full in
    over_view HasGoneOn _ _ _ c.self.view_is (gone_same _ _ (unchanged _ _ none.on none.holds none.same refl refl refl))

pub returns-then-is_err-clause-blocked : goal.returns-then-is_err-clause-blocked
returns-then-is_err-clause-blocked c =
    let s = c.self.inside in
    let none = put_err s.senders.items s.next _ _ c.put.new.self c.in-Some.placed c.put.result c.is_err.result s.kept.next_within refl c.index_mut.ensures.value c.is_err.ensures.value c.if-is_err.true c.put.ensures.full in
    over_view (λ o n. (s.next ≡ o.next) × HasBlocked o n s.next) _ _ _ c.self.view_is (
      refl,
      record {
        within = s.kept.next_within;
        refused = none.counts;
        knew_of_none = none.knew;
        knows_of_none = none.knows;
        full = omega (arith, none.full, none.knew);
        unchanged = (unchanged _ _ none.on none.holds none.same refl refl refl);
      },
    )

pub invariant_of-self-inside-in-Some-lane_after : goal.invariant_of-self-inside-in-Some-lane_after
invariant_of-self-inside-in-Some-lane_after c =
    let s = c.self.inside in
    let was = put_ok s.senders.items s.next _ _ c.put.new.self c.in-Some.placed c.put.result c.is_err.result s.kept.next_within refl c.index_mut.ensures.value c.is_err.ensures.value c.if-is_err.false c.put.ensures.ok in
    let kept = router_put (puts s.senders.items) _ s.pending s.next s.marked s.next c.in-Some.placed was.more s.kept.next_within (omega (arith, s.kept.unmarked c.in-Some.placed c.in-Some.is)) s.kept in
    let old : c.len.result ≡ length (puts s.senders.items) = omega (arith, c.len.ensures, puts_counted s.senders) in
    let count = old ∙ sym was.as_many in (
      router_aim _ s.pending s.pending s.next c.in-Some-lane_after.lane s.marked kept (omega (arith, count, c.in-Some-lane_after.ensures.some.1))
          (aimed_at _ c.in-Some-lane_after.lane s.pending c.in-Some.placed c.in-Some.is (subst (λ (n : ℕ). goes_placed c.in-Some-lane_after.lane n c.in-Some.placed ≡ true) count c.in-Some-lane_after.ensures.some.2)) s.kept.unmarked,
      (s.within, (s.no_ends, (s.room, record {}))),
    )

pub invariant_of-self-inside-in-None : goal.invariant_of-self-inside-in-None
invariant_of-self-inside-in-None c =
    let s = c.self.inside in
    let was = put_ok s.senders.items s.next _ _ c.put.new.self c.in-Some.placed c.put.result c.is_err.result s.kept.next_within refl c.index_mut.ensures.value c.is_err.ensures.value c.if-is_err.false c.put.ensures.ok in
    let kept = router_put (puts s.senders.items) _ s.pending s.next s.marked s.next c.in-Some.placed was.more s.kept.next_within (omega (arith, s.kept.unmarked c.in-Some.placed c.in-Some.is)) s.kept in
    (router_aim _ s.pending None s.next s.next s.marked kept kept.next_within (λ p e. absurd (cc)) (λ p e. absurd (cc)), (s.within, (s.no_ends, (s.room, record {}))))

pub returns-in-Some-lane_after-clause-goes_on : goal.returns-in-Some-lane_after-clause-goes_on
returns-in-Some-lane_after-clause-goes_on c =
    let s = c.self.inside in
    let was = put_ok s.senders.items s.next _ _ c.put.new.self c.in-Some.placed c.put.result c.is_err.result s.kept.next_within refl c.index_mut.ensures.value c.is_err.ensures.value c.if-is_err.false c.put.ensures.ok in
    let old : c.len.result ≡ length (puts s.senders.items) = omega (arith, c.len.ensures, puts_counted s.senders) in
    over_view HasGoneOn _ _ _ c.self.view_is (gone_next _ _ c.in-Some.placed c.len.result c.in-Some.is record { on_lanes = was.on; holds = was.holds; more = was.more } old refl c.in-Some-lane_after.ensures.some.0 refl)

pub returns-in-Some-lane_after-clause-put : goal.returns-in-Some-lane_after-clause-put
returns-in-Some-lane_after-clause-put c =
    let s = c.self.inside in
    let was = put_ok s.senders.items s.next _ _ c.put.new.self c.in-Some.placed c.put.result c.is_err.result s.kept.next_within refl c.index_mut.ensures.value c.is_err.ensures.value c.if-is_err.false c.put.ensures.ok in
    let old : c.len.result ≡ length (puts s.senders.items) = omega (arith, c.len.ensures, puts_counted s.senders) in
    over_view (λ o n. (p : Placed) → o.pending ≡ Some p → HasPutNext o n p) _ _ _ c.self.view_is (for_pending _ _ c.in-Some.placed c.in-Some.is (puts_next _ _ c.in-Some.placed c.len.result c.in-Some.is record { on_lanes = was.on; holds = was.holds; more = was.more } old refl c.in-Some-lane_after.ensures.some.0 refl
    c.in-Some-lane_after.ensures.some.1 c.in-Some-lane_after.ensures.some.2))

pub returns-in-None-clause-goes_on : goal.returns-in-None-clause-goes_on
returns-in-None-clause-goes_on c =
    let s = c.self.inside in
    let was = put_ok s.senders.items s.next _ _ c.put.new.self c.in-Some.placed c.put.result c.is_err.result s.kept.next_within refl c.index_mut.ensures.value c.is_err.ensures.value c.if-is_err.false c.put.ensures.ok in
    let old : c.len.result ≡ length (puts s.senders.items) = omega (arith, c.len.ensures, puts_counted s.senders) in
    over_view HasGoneOn _ _ _ c.self.view_is (gone_last _ _ c.in-Some.placed c.len.result c.in-Some.is record { on_lanes = was.on; holds = was.holds; more = was.more } old refl refl refl c.in-None.ensures.none)

pub returns-in-None-clause-put : goal.returns-in-None-clause-put
returns-in-None-clause-put c =
    let s = c.self.inside in
    let was = put_ok s.senders.items s.next _ _ c.put.new.self c.in-Some.placed c.put.result c.is_err.result s.kept.next_within refl c.index_mut.ensures.value c.is_err.ensures.value c.if-is_err.false c.put.ensures.ok in
    let old : c.len.result ≡ length (puts s.senders.items) = omega (arith, c.len.ensures, puts_counted s.senders) in
    over_view (λ o n. (p : Placed) → o.pending ≡ Some p → HasPutNext o n p) _ _ _ c.self.view_is (for_pending _ _ c.in-Some.placed c.in-Some.is (puts_last _ _ c.in-Some.placed c.len.result c.in-Some.is record { on_lanes = was.on; holds = was.holds; more = was.more } old refl refl refl c.in-None.ensures.none))
