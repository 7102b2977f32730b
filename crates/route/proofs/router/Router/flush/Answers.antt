use Rattle.route.proofs.Common.{◌≡◌, ℕ, ◌<◌, length, refl, ap, ◌∙◌, arith, put_of, puts, RouterState}
use Rattle.route.proofs.Lists.{map-set_like, puts_counted, all_shown}
use Rattle.route.proofs.Steps.{unchanged, router_same}
use Rattle.route.proofs.router.Router.flush.Goals as goal

pub loop-lane-init : goal.loop-lane-init
loop-lane-init c = record {
  same_puts = ap (λ (o : RouterState). o.puts) c.self.view_is;
  same_lanes = ap (λ (o : RouterState). o.lanes) c.self.view_is;
  same_capacities = ap (λ (o : RouterState). o.capacities) c.self.view_is;
  pending = ap (λ (o : RouterState). o.pending) c.self.view_is;
  next = ap (λ (o : RouterState). o.next) c.self.view_is;
  marked = ap (λ (o : RouterState). o.marked) c.self.view_is;
  len = refl;
  all_shown = λ k h. absurd (omega (arith, h));
}

pub invariant_of-self-inside : goal.invariant_of-self-inside
invariant_of-self-inside c =
    let s = c.loop-lane.self-inside in
    let i = c.loop-lane.invariant in
    let within : c.loop-lane.lane < length s.senders.items = omega (arith, c.loop-lane-test.true, c.len-lane-end.ensures, i.len, s.senders.ok.0) in
    let same : puts _ ≡ puts s.senders.items = map-set_like put_of s.senders.items c.loop-lane.lane _ c.flush.new.self c.index_mut.ensures.value c.flush.ensures.put in
    (router_same (puts s.senders.items) _ s.pending s.next s.marked same s.kept, (s.within, (s.no_ends, (s.room, record {}))))

pub loop-lane-preserved : goal.loop-lane-preserved
loop-lane-preserved c =
    let s = c.loop-lane.self-inside in
    let i = c.loop-lane.invariant in
    let within : c.loop-lane.lane < length s.senders.items = omega (arith, c.loop-lane-test.true, c.len-lane-end.ensures, i.len, s.senders.ok.0) in
    let same : puts _ ≡ puts s.senders.items = map-set_like put_of s.senders.items c.loop-lane.lane _ c.flush.new.self c.index_mut.ensures.value c.flush.ensures.put in
    let at : ℕ = c.loop-lane.lane in
    record {
      same_puts = same ∙ i.same_puts;
      same_lanes = map-set_like (λ s. s.lane) s.senders.items at _ c.flush.new.self c.index_mut.ensures.value c.flush.ensures.lane.0 ∙ i.same_lanes;
      same_capacities = map-set_like (λ s. s.capacity) s.senders.items at _ c.flush.new.self c.index_mut.ensures.value c.flush.ensures.lane.1 ∙ i.same_capacities;
      pending = i.pending;
      next = i.next;
      marked = i.marked;
      len = i.len;
      all_shown = all_shown s.senders.items at _ c.flush.new.self within c.index_mut.ensures.value c.flush.ensures.put c.flush.ensures.shown i.all_shown;
    }

pub returns-clause-shown : goal.returns-clause-shown
returns-clause-shown c = λ k h. c.loop-lane.invariant.all_shown k (omega (arith, h, puts_counted c.loop-lane.self-inside.senders, c.loop-lane.invariant.len, c.len-lane-end.ensures, c.loop-lane.auto.lane-end, c.loop-lane-test.false))

pub returns-clause-unchanged : goal.returns-clause-unchanged
returns-clause-unchanged c =
    let i = c.loop-lane.invariant in
    unchanged c.args.self.now _ i.same_lanes i.same_capacities i.same_puts i.pending i.next i.marked
