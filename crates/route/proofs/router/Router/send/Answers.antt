use Rattle.route.proofs.Common.{◌≡◌, ℕ, ◌<◌, true, false, List, [], ◌∷◌, ◌++◌, length, slice_index_or, Option, Some, None, refl, sym, ap, subst, ◌∙◌, arith, length-set, One, has_mark, Placed, goes, goes_placed, puts, with_refusal, first_lane, put_on, with_put, RouterState, HasSent}
use Rattle.route.proofs.Lists.{puts_counted, put_at, put_ok, put_err}
use Rattle.route.proofs.Sent.{Items, OnPuts, first_lane_within, goes-first_lane, sent-offer, sent-next, sent-last, unmarked_at}
use Rattle.route.proofs.Steps.{router_same, router_put, router_aim, aimed_at, has_sent_record, has_stuck}
use Rattle.route.proofs.router.Router.send.Goals as goal

pub lanes-init : goal.lanes-init
lanes-init c =
    let s = c.self.inside in
    let v = c.self.view_is in
    let count : c.len-count.result ≡ length (puts s.senders.items) = omega (arith, puts_counted s.senders, c.len-count.ensures) in
    let idle : s.pending ≡ None = ap (λ (o : RouterState). o.pending) v ∙ c.requires.none_pending in
    let unmarked : s.marked ≡ 0 = ap (λ (o : RouterState). o.marked) v ∙ c.requires.none_marked in
    let n = c.len-count.result in let what = c.args.placed.what in let first = c.first_lane-lane.ensures in
    record {
      within = subst (λ (j : ℕ). j < n) (sym first) (first_lane_within n what (omega (arith, count, s.kept.some)));
      counted = count;
      aimed = ap (λ (j : ℕ). goes j n what) first ∙ goes-first_lane n what;
      sent = λ w h.
          let P : RouterState → Type 0 = λ o. HasSent w o in
          let O : Option Placed → Type 0 = λ o. OnPuts w s.next o s.marked (puts s.senders.items) in
          let M : ℕ → Type 0 = λ m. OnPuts w s.next None m (puts s.senders.items) in
          sent-offer (puts s.senders.items) w s.next c.first_lane-lane.result 0 c.args.placed (first ∙ ap (λ (m : ℕ). first_lane m what) count) (subst M unmarked (subst O idle (subst P (sym v) h)));
      idle = idle;
      unmarked = unmarked;
      none_refused = ap (λ (o : RouterState). o.refusals) v;
      same_lanes = ap (λ (o : RouterState). o.lanes) v;
      same_capacities = ap (λ (o : RouterState). o.capacities) v;
      as_many = ap (λ (o : RouterState). length o.puts) v;
    }

pub index_mut-requires : goal.index_mut-requires
index_mut-requires c = omega (arith, c.lanes.invariant.within, c.lanes.invariant.counted, puts_counted c.lanes.self-inside.senders)

pub put-requires-after_bounds : goal.put-requires-after_bounds
put-requires-after_bounds c κs =
    let s = c.lanes.self-inside in
    let i = c.lanes.invariant in
    let among : c.lanes.lane < length (puts s.senders.items) = omega (arith, i.within, i.counted) in
    ap has_mark (sym (put_at s.senders.items c.lanes.lane _ among c.index_mut.ensures.value))
    ∙ unmarked_at (puts s.senders.items) s.marked c.lanes.lane (omega (arith, i.unmarked)) among s.kept.marks

pub invariant_of-self-inside : goal.invariant_of-self-inside
invariant_of-self-inside c =
    let s = c.lanes.self-inside in
    let i = c.lanes.invariant in
    let p = c.args.placed in
    let none = put_err s.senders.items c.lanes.lane _ _ c.put.new.self p c.put.result c.is_err.result i.within i.counted c.index_mut.ensures.value c.is_err.ensures.value c.if-is_err.true c.put.ensures.full in
    let kept = router_same (puts s.senders.items) _ s.pending s.next s.marked none.same s.kept in
    let count = i.counted ∙ sym (ap length none.same) in (
      router_aim _ s.pending (Some p) s.next c.lanes.lane s.marked kept (omega (arith, count, i.within)) (aimed_at _ c.lanes.lane (Some p) p refl (subst (λ (n : ℕ). goes_placed c.lanes.lane n p ≡ true) count i.aimed)) (λ q e. i.unmarked),
      (s.within, (s.no_ends, (s.room, record {}))),
    )

pub returns-then-is_err-clause-on : goal.returns-then-is_err-clause-on
returns-then-is_err-clause-on c =
    let s = c.lanes.self-inside in
    let i = c.lanes.invariant in
    let none = put_err s.senders.items c.lanes.lane _ _ c.put.new.self c.args.placed c.put.result c.is_err.result i.within i.counted c.index_mut.ensures.value c.is_err.ensures.value c.if-is_err.true c.put.ensures.full in
    record { lanes = none.on ∙ i.same_lanes; capacities = none.holds ∙ i.same_capacities; count = ap length none.same ∙ i.as_many }

pub returns-then-is_err-clause-stuck : goal.returns-then-is_err-clause-stuck
returns-then-is_err-clause-stuck c _ =
    let s = c.lanes.self-inside in
    let i = c.lanes.invariant in
    let p = c.args.placed in
    let none = put_err s.senders.items c.lanes.lane _ _ c.put.new.self p c.put.result c.is_err.result i.within i.counted c.index_mut.ensures.value c.is_err.ensures.value c.if-is_err.true c.put.ensures.full in
    has_stuck c.args.self.now _ p c.requires refl i.unmarked (ap length none.same ∙ i.as_many)
    record {
      within = omega (arith, none.among, ap length none.same);
      no_room = none.knows;
      full = omega (arith, none.full, none.knows, ap (λ (l : List ℕ). slice_index_or l c.lanes.lane 0) none.holds, ap (λ (l : List Items). length (put_on l c.lanes.lane)) none.same);
    }
    (none.counts ∙ ap (λ (l : List ℕ). with_refusal l c.lanes.lane) i.none_refused)
    (λ w h.
    let A : List Items → Type 0 = λ l. OnPuts w c.lanes.lane (Some p) s.marked l in
    let M : ℕ → Type 0 = λ m. OnPuts w c.lanes.lane (Some p) m (puts s.senders.items) in
    subst A (sym none.same) (subst M (sym i.unmarked) (i.sent w h)))

pub invariant_of-self-inside-else-is_err : goal.invariant_of-self-inside-else-is_err
invariant_of-self-inside-else-is_err c =
    let s = c.lanes.self-inside in
    let i = c.lanes.invariant in
    let p = c.args.placed in
    let was = put_ok s.senders.items c.lanes.lane _ _ c.put.new.self p c.put.result c.is_err.result i.within i.counted c.index_mut.ensures.value c.is_err.ensures.value c.if-is_err.false c.put.ensures.ok in
    (router_put (puts s.senders.items) _ s.pending s.next s.marked c.lanes.lane p was.more was.among (omega (arith, i.unmarked)) s.kept, (s.within, (s.no_ends, (s.room, record {}))))

pub lane_after-requires-clause-within : goal.lane_after-requires-clause-within
lane_after-requires-clause-within c = c.lanes.invariant.within

pub lane_after-requires-clause-goes : goal.lane_after-requires-clause-goes
lane_after-requires-clause-goes c = c.lanes.invariant.aimed

pub lanes-smaller : goal.lanes-smaller
lanes-smaller c = omega (arith, c.in-Some.ensures.some.0, c.lanes.invariant.within)

pub lanes-preserved : goal.lanes-preserved
lanes-preserved c =
    let s = c.lanes.self-inside in
    let i = c.lanes.invariant in
    let p = c.args.placed in
    let was = put_ok s.senders.items c.lanes.lane _ _ c.put.new.self p c.put.result c.is_err.result i.within i.counted c.index_mut.ensures.value c.is_err.ensures.value c.if-is_err.false c.put.ensures.ok in
    let goes = subst (λ (n : ℕ). goes_placed c.lanes.lane n p ≡ true) i.counted i.aimed in
    record {
      within = c.in-Some.ensures.some.1;
      counted = i.counted ∙ sym was.as_many;
      aimed = c.in-Some.ensures.some.2;
      sent = λ w h.
          let A : List Items → Type 0 = λ l. OnPuts w c.in-Some.next (Some p) 0 l in
          let I : ℕ → Type 0 = λ j. OnPuts w j (Some p) 0 (with_put (puts s.senders.items) c.lanes.lane (One p)) in
          subst A (sym was.more) (subst I (sym c.in-Some.ensures.some.0) (sent-next (puts s.senders.items) w c.lanes.lane p 0 refl was.among goes (i.sent w h)));
      idle = i.idle;
      unmarked = i.unmarked;
      none_refused = was.counts ∙ i.none_refused;
      same_lanes = was.on ∙ i.same_lanes;
      same_capacities = was.holds ∙ i.same_capacities;
      as_many = was.as_many ∙ i.as_many;
    }

pub returns-in-None-clause-on : goal.returns-in-None-clause-on
returns-in-None-clause-on c =
    let s = c.lanes.self-inside in
    let i = c.lanes.invariant in
    let was = put_ok s.senders.items c.lanes.lane _ _ c.put.new.self c.args.placed c.put.result c.is_err.result i.within i.counted c.index_mut.ensures.value c.is_err.ensures.value c.if-is_err.false c.put.ensures.ok in
    record { lanes = was.on ∙ i.same_lanes; capacities = was.holds ∙ i.same_capacities; count = was.as_many ∙ i.as_many }

pub returns-in-None-clause-sent : goal.returns-in-None-clause-sent
returns-in-None-clause-sent c =
    let s = c.lanes.self-inside in
    let i = c.lanes.invariant in
    let p = c.args.placed in
    let was = put_ok s.senders.items c.lanes.lane _ _ c.put.new.self p c.put.result c.is_err.result i.within i.counted c.index_mut.ensures.value c.is_err.ensures.value c.if-is_err.false c.put.ensures.ok in
    let goes = subst (λ (n : ℕ). goes_placed c.lanes.lane n p ≡ true) i.counted i.aimed in
    has_sent_record c.args.self.now _ p c.requires record { none_pending = i.idle; none_marked = i.unmarked } (was.as_many ∙ i.as_many)
    (λ w h.
    let A : List Items → Type 0 = λ l. OnPuts (w ++ p ∷ []) s.next s.pending s.marked l in
    let O : Option Placed → Type 0 = λ o. OnPuts (w ++ p ∷ []) s.next o s.marked (with_put (puts s.senders.items) c.lanes.lane (One p)) in
    let M : ℕ → Type 0 = λ m. OnPuts (w ++ p ∷ []) s.next None m (with_put (puts s.senders.items) c.lanes.lane (One p)) in
    subst A (sym was.more) (subst O (sym i.idle) (subst M (sym i.unmarked) (sent-last (puts s.senders.items) w c.lanes.lane p 0 refl was.among goes (subst (λ (n : ℕ). (k : ℕ) → c.lanes.lane < k → k < n → goes_placed k n p ≡ false) i.counted c.in-None.ensures.none) (i.sent w h)))))
