use Rattle.route.proofs.Common.{◌≡◌, [], List, ⊎_elim, sym, ap, subst, ◌∙◌, append-nil, Placed, RouterState, put_on, IsRising, in_hand, lane_count, HasSent}
use Rattle.route.proofs.Headline.{takes_share}
use Rattle.route.proofs.LaneShares.{IsUnderWay, Outcome, outcome, routes_of, has_routed, list_of}
use Rattle.route.proofs.RouterRuns.{router_run, router_puts, router_still}
use Rattle.route.proofs.RunTakes.{router_takes}
use Rattle.route.proofs.laws.routers.Goals as goal

under_way : (r : RouterState) (w : List Placed) → HasSent w r → IsRising (in_hand w r.pending) → IsUnderWay (lane_count r) (put_on r.puts) w r.next r.pending r.marked
under_way r w sent rising = record {
  some = r.kept.some;
  rising = rising;
  within = λ p e. r.kept.next_within;
  aimed = r.kept.aimed;
  unmarked = r.kept.unmarked;
  sent = sent;
}

of_router : (r : RouterState) (w : List Placed) → HasSent w r → IsRising (in_hand w r.pending) → Outcome (lane_count r) (put_on r.puts) w r.pending
of_router r w sent rising = outcome (lane_count r) (put_on r.puts) w r.next r.pending r.marked (under_way r w sent rising)

pub returns-clause-routed : goal.returns-clause-routed
returns-clause-routed c = λ r w sent rising. has_routed (lane_count r) (put_on r.puts) w (in_hand w r.pending) r.pending (of_router r w sent rising) ([], sym (append-nil (in_hand w r.pending)))

pub returns-clause-list : goal.returns-clause-list
returns-clause-list c = λ r w sent rising u routed. list_of (lane_count r) (put_on r.puts) w u r.pending (of_router r w sent rising) routed

pub returns-clause-whole : goal.returns-clause-whole
returns-clause-whole c = λ r w u sent rising none routed.
    let at_rest : IsRising (in_hand w r.pending) = subst IsRising (sym (ap (in_hand w) none ∙ append-nil w)) rising in
    let at_once : in_hand w r.pending ≡ w = ap (in_hand w) none ∙ append-nil w in
    ⊎_elim (λ (h : u ≡ w). h) (λ (h : u ≡ in_hand w r.pending). h ∙ at_once) (list_of (lane_count r) (put_on r.puts) w u r.pending (of_router r w sent at_rest) routed)

pub returns-clause-shares : goal.returns-clause-shares
returns-clause-shares c = λ r w sent rising k u routed l. (routes_of (lane_count r) (put_on r.puts) w u r.pending (of_router r w sent rising) routed).shares k l

pub returns-clause-headline : goal.returns-clause-headline
returns-clause-headline c = λ r w sent rising k u routed l taken front. takes_share (lane_count r) (put_on r.puts) u k taken l (routes_of (lane_count r) (put_on r.puts) w u r.pending (of_router r w sent rising) routed) front

pub returns-clause-marks : goal.returns-clause-marks
returns-clause-marks c = λ r w sent rising k u routed l h. (routes_of (lane_count r) (put_on r.puts) w u r.pending (of_router r w sent rising) routed).marks k l h

pub returns-clause-run : goal.returns-clause-run
returns-clause-run c = router_run

pub returns-clause-puts : goal.returns-clause-puts
returns-clause-puts c = router_puts

pub returns-clause-still : goal.returns-clause-still
returns-clause-still c = router_still

pub returns-clause-takes : goal.returns-clause-takes
returns-clause-takes c = router_takes
