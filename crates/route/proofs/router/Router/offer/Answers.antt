use Rattle.route.proofs.Common.{◌≡◌, ℕ, length, Option, refl, subst, ap, ◌∙◌, arith, Placed, puts, first_lane, IsIdle, HasOffered}
use Rattle.route.proofs.Lists.{puts_counted}
use Rattle.route.proofs.Sent.{OnPuts, sent-offer}
use Rattle.route.proofs.SentSoFar.{step_event-offer}
use Rattle.route.proofs.Steps.{over_view}
use Rattle.route.proofs.router.Router.offer.Goals as goal

pub returns : goal.returns
returns c =
    let s = c.self.inside in
    let p = c.args.placed in
    let count : c.len.result ≡ length (puts s.senders.items) = omega (arith, puts_counted s.senders, c.len.ensures) in
    let next = c.first_lane-self-inside.ensures ∙ ap (λ (n : ℕ). first_lane n p.what) count in
    over_view (λ o n. IsIdle o → HasOffered p o n) _ _ _ c.self.view_is (λ idle. record {
      on = record { lanes = refl; capacities = refl; count = refl };
      puts = refl;
      pending = refl;
      next = next;
      marked = idle.none_marked;
      sent = λ w h.
          let O : Option Placed → Type 0 = λ o. OnPuts w s.next o s.marked (puts s.senders.items) in
          sent-offer (puts s.senders.items) w s.next c.first_lane-self-inside.result s.marked p next (subst O idle.none_pending h);
      run = λ w. step_event-offer (length (puts s.senders.items)) w s.pending p s.next c.first_lane-self-inside.result s.marked idle.none_pending next;
    }) c.requires
