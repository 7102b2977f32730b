-- The run of a router: where it stands, what stands on the lanes, and what was taken.
use Rattle.route.proofs.Common.{◌≡◌, ℕ, ◌<◌, ⊎_elim, true, List, [], ◌∷◌, ◌++◌, map, Option, Some, None, refl, sym, ap, ◌∙◌, append-nil, arith, ltb-true, Item, One, Finish, has_mark, IsBeginning, Placed, share, RouterState, put_on, IsRising, in_hand, lane_count, HasSent, IsUnchanged, Event, IsRun, of_lane, put_list, sent_so_far, run_of}
use Rattle.route.proofs.Headline.{mark_of_front, takes_share}
use Rattle.route.proofs.LaneShares.{has_mark-sent}
use Rattle.route.proofs.RunLists.{puts_in-events, front_of, outcome_of, front_run}
use Rattle.route.proofs.SentSoFar.{sent_front, sent_on, events-same}

pub router_run : (r : RouterState) (w : List Placed) → IsRising (in_hand w r.pending) → IsRun (lane_count r) (in_hand w r.pending) (run_of w r)
router_run r w rising =
    let front = sent_front (lane_count r) w r.pending r.next r.marked (omega (arith, r.kept.next_within)) r.kept.at_most_all r.kept.unmarked in
    front_run (lane_count r) (in_hand w r.pending) (sent_so_far (lane_count r) w r.pending r.next r.marked) r.kept.some rising front

pub router_puts : (r : RouterState) (w : List Placed) → HasSent w r → (k : ℕ) → k < lane_count r → put_list (run_of w r) k ≡ put_on r.puts k
router_puts r w sent k l =
    ap (of_lane k) (puts_in-events (sent_so_far (lane_count r) w r.pending r.next r.marked))
    ∙ sent_on (lane_count r) k w r.pending r.next r.marked l ∙ sym (sent k l)

pub router_still : (old new : RouterState) (w : List Placed) → IsUnchanged old new → run_of w new ≡ run_of w old
router_still old new w same =
    events-same w (lane_count new) (lane_count old) new.pending old.pending new.next old.next new.marked old.marked same.on.count same.pending same.next same.marked

none_pending : (pending : Option Placed) (marked : ℕ) → ((p : Placed) → pending ≡ Some p → marked ≡ 0) → 0 < marked → pending ≡ None
none_pending None marked unmarked h = refl
none_pending (Some p) marked unmarked h = absurd (omega (arith, unmarked p refl))

-- In a run whose lane k has its mark, all records were sent; so what was taken of it with the mark is its share of them all.
pub run_took : (n k : ℕ) (w : List Placed) (es : List Event) (taken : List (Item Placed)) → IsRun n w es → k < n → IsBeginning taken (put_list es k) → has_mark taken ≡ true → taken ≡ map One (share k n w) ++ Finish ∷ []
run_took n k w es taken run l front marked =
    let f = front_of n w es run in
    let o = outcome_of n w es run f in
    let among : k < f.marked = ltb-true k f.marked (sym (has_mark-sent n (put_list es) f.v f.next f.pending f.marked f.sent k l) ∙ mark_of_front taken (put_list es k) front marked) in
    let none : f.pending ≡ None = none_pending f.pending f.marked f.unmarked (omega arith) in
    let whole : w ≡ in_hand f.v f.pending = f.whole ∙ ap (λ (r : List Placed). in_hand f.v f.pending ++ r) (f.ended (omega arith)) ∙ append-nil (in_hand f.v f.pending) in
    let all : o.list ≡ w = ⊎_elim (λ (h : o.list ≡ f.v). h ∙ sym (whole ∙ ap (in_hand f.v) none ∙ append-nil f.v)) (λ (h : o.list ≡ in_hand f.v f.pending). h ∙ sym whole) o.either in
    (takes_share n (put_list es) o.list k taken l o.routes front).whole marked ∙ ap (λ (u : List Placed). map One (share k n u) ++ Finish ∷ []) all
