use Rattle.route.proofs.Common.{◌≡◌, ◌<◌, length, None, Finish, refl, sym, ap, ◌∙◌, arith, has_mark, puts, RouterState, HasBlocked, HasMarkedOn, HasMarkedNext}
use Rattle.route.proofs.Lists.{puts_counted, put_at, has_put, has_refused}
use Rattle.route.proofs.Sent.{unmarked_at}
use Rattle.route.proofs.Steps.{over_view, unchanged, router_same, router_marked, marked_on, marked_same, marks_next}
use Rattle.route.proofs.router.Router.mark_all_step.Goals as goal

pub mark-requires-after_bounds : goal.mark-requires-after_bounds
mark-requires-after_bounds c κs =
    let s = c.self.inside in
    let among : s.marked < length (puts s.senders.items) = omega (arith, puts_counted s.senders, s.kept.at_most_all, c.len.ensures, c.if-self-len.false) in
    ap has_mark (sym (put_at s.senders.items s.marked _ among c.index_mut.ensures.value)) ∙ unmarked_at (puts s.senders.items) s.marked s.marked (omega arith) among s.kept.marks

pub invariant_of-self-inside : goal.invariant_of-self-inside
invariant_of-self-inside c =
    let s = c.self.inside in
    let none = has_refused s.senders.items s.marked _ c.mark.new.self (omega (arith, puts_counted s.senders, s.kept.at_most_all, c.len.ensures, c.if-self-len.false)) c.index_mut.ensures.value (c.mark.ensures.full c.if-not-mark.true) in
    (router_same (puts s.senders.items) _ s.pending s.next s.marked none.same s.kept, (s.within, (s.no_ends, (s.room, record {}))))

pub returns-then-not-mark-clause-goes_on : goal.returns-then-not-mark-clause-goes_on
returns-then-not-mark-clause-goes_on c =
    let s = c.self.inside in
    let none = has_refused s.senders.items s.marked _ c.mark.new.self (omega (arith, puts_counted s.senders, s.kept.at_most_all, c.len.ensures, c.if-self-len.false)) c.index_mut.ensures.value (c.mark.ensures.full c.if-not-mark.true) in
    let idle : s.pending ≡ None = ap (λ (o : RouterState). o.pending) c.self.view_is ∙ c.requires in
    over_view HasMarkedOn _ _ _ c.self.view_is (marked_same _ _ idle (unchanged _ _ none.on none.holds none.same refl refl refl))

pub returns-then-not-mark-clause-blocked : goal.returns-then-not-mark-clause-blocked
returns-then-not-mark-clause-blocked c =
    let s = c.self.inside in
    let none = has_refused s.senders.items s.marked _ c.mark.new.self (omega (arith, puts_counted s.senders, s.kept.at_most_all, c.len.ensures, c.if-self-len.false)) c.index_mut.ensures.value (c.mark.ensures.full c.if-not-mark.true) in
    over_view (λ o n. (s.marked ≡ o.marked) × HasBlocked o n s.marked) _ _ _ c.self.view_is (
      refl,
      record {
        within = none.among;
        refused = none.counts;
        knew_of_none = none.knew;
        knows_of_none = none.knows;
        full = omega (arith, none.full, none.knew);
        unchanged = (unchanged _ _ none.on none.holds none.same refl refl refl);
      },
    )

pub invariant_of-self-inside-2 : goal.invariant_of-self-inside-2
invariant_of-self-inside-2 c =
    let s = c.self.inside in
    let was = has_put s.senders.items s.marked _ c.mark.new.self Finish (omega (arith, puts_counted s.senders, s.kept.at_most_all, c.len.ensures, c.if-self-len.false)) c.index_mut.ensures.value (c.mark.ensures.put c.if-not-mark.false) in
    let idle : s.pending ≡ None = ap (λ (o : RouterState). o.pending) c.self.view_is ∙ c.requires in
    (router_marked (puts s.senders.items) _ s.pending s.next s.marked was.more was.among idle s.kept, (s.within, (s.no_ends, (s.room, record {}))))

pub returns-clause-goes_on : goal.returns-clause-goes_on
returns-clause-goes_on c =
    let s = c.self.inside in
    let was = has_put s.senders.items s.marked _ c.mark.new.self Finish (omega (arith, puts_counted s.senders, s.kept.at_most_all, c.len.ensures, c.if-self-len.false)) c.index_mut.ensures.value (c.mark.ensures.put c.if-not-mark.false) in
    let idle : s.pending ≡ None = ap (λ (o : RouterState). o.pending) c.self.view_is ∙ c.requires in
    over_view HasMarkedOn _ _ _ c.self.view_is (marked_on _ _ idle record { on_lanes = was.on; holds = was.holds; more = was.more } was.among refl refl refl)

pub returns-clause-put : goal.returns-clause-put
returns-clause-put c =
    let s = c.self.inside in
    let was = has_put s.senders.items s.marked _ c.mark.new.self Finish (omega (arith, puts_counted s.senders, s.kept.at_most_all, c.len.ensures, c.if-self-len.false)) c.index_mut.ensures.value (c.mark.ensures.put c.if-not-mark.false) in
    let idle : s.pending ≡ None = ap (λ (o : RouterState). o.pending) c.self.view_is ∙ c.requires in
    over_view HasMarkedNext _ _ _ c.self.view_is (marks_next _ _ idle record { on_lanes = was.on; holds = was.holds; more = was.more } refl refl refl)
