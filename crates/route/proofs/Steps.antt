-- What a router's state is after a call, from what was put on its lanes.
use Rattle.route.proofs.Common.{◌≡◌, ℕ, ◌+◌, ◌<◌, ◌≤◌, true, false, List, [], ◌∷◌, ◌++◌, length, map, sym, refl, ap, subst, ◌∙◌, Option, Some, None, arith, length-set, Item, One, Finish, Placed, goes_placed, put_on, with_put, sent_whole, HaveMarks, RouterState, IsRouter, lane_count, HasSent, IsOnLanes, IsUnchanged, IsStuck, WasRefused, put, put_event, sending_of, begun, run_of, IsIdle, HasGoneOn, HasPutNext, HasSentRecord, HasStuck, HasMarkedOn, HasMarkedNext}
use Rattle.std.specs.Option.{ForSome}
use Rattle.route.proofs.Sent.{Items, OnPuts, step-next, step-last, sent-mark, marks-one, marks-finish, unmarked_at}
use Rattle.route.proofs.SentSoFar.{events_so_far, step_event-next, step_event-last, step_event-mark, all_events, begun_events, events-same}

-- what is shown of the state inside is so of the router
pub over_view : (P : RouterState → RouterState → Type 0) (v o n : RouterState) → v ≡ o → P v n → P o n
over_view P v o n e h = let Q : RouterState → Type 0 = λ x. P x n in subst Q e h

-- one item more was put on a lane
pub record PutOn (old new : RouterState) (k : ℕ) (x : Item Placed) : Type 0 where
  pub on_lanes : new.lanes ≡ old.lanes
  pub holds : new.capacities ≡ old.capacities
  pub more : new.puts ≡ with_put old.puts k x

pub on_lanes : (old new : RouterState) (k : ℕ) (x : Item Placed) → PutOn old new k x → IsOnLanes old new
on_lanes old new k x was = record {
  lanes = was.on_lanes;
  capacities = was.holds;
  count = ap length was.more ∙ length-set old.puts k (put_on old.puts k ++ x ∷ []);
}

-- nothing was put
pub unchanged : (old new : RouterState) → new.lanes ≡ old.lanes → new.capacities ≡ old.capacities → new.puts ≡ old.puts → new.pending ≡ old.pending → new.next ≡ old.next → new.marked ≡ old.marked → IsUnchanged old new
unchanged old new lanes capacities puts pending next marked = record {
  on = record { lanes = lanes; capacities = capacities; count = ap length puts };
  puts = puts;
  pending = pending;
  next = next;
  marked = marked;
  sent = λ w h.
      let A : List Items → Type 0 = λ x. OnPuts w new.next new.pending new.marked x in
      let B : Option Placed → Type 0 = λ x. OnPuts w new.next x new.marked old.puts in
      let C : ℕ → Type 0 = λ x. OnPuts w x old.pending new.marked old.puts in
      let D : ℕ → Type 0 = λ x. OnPuts w old.next old.pending x old.puts in
      subst A (sym puts) (subst B (sym pending) (subst C (sym next) (subst D (sym marked) h)));
}

sent_whole-same : (w : List Placed) (o : Option Placed) → sent_whole w o o ≡ w
sent_whole-same w None = refl
sent_whole-same w (Some p) = refl

pub gone_same : (old new : RouterState) → IsUnchanged old new → HasGoneOn old new
gone_same old new same = record {
  on = same.on;
  marked = same.marked;
  sent = λ w h.
      let P : List Placed → Type 0 = λ v. HasSent v new in
      subst P (sym (ap (sent_whole w old.pending) same.pending ∙ sent_whole-same w old.pending)) (same.sent w h);
}

-- what every router keeps, after the puts have changed, and after what is pending has
pub router_same : (ps qs : List Items) (o : Option Placed) (i m : ℕ) → qs ≡ ps → IsRouter ps o i m → IsRouter qs o i m
router_same ps qs o i m same old = let P : List Items → Type 0 = λ l. IsRouter l o i m in subst P (sym same) old

pub router_put : (ps qs : List Items) (o : Option Placed) (i m k : ℕ) (p : Placed) → qs ≡ with_put ps k (One p) → k < length ps → m ≤ k → IsRouter ps o i m → IsRouter qs o i m
router_put ps qs o i m k p more within le old =
    let n : length qs ≡ length ps = ap length more ∙ length-set ps k (put_on ps k ++ One p ∷ []) in
    record {
      some = omega (arith, n, old.some);
      next_within = omega (arith, n, old.next_within);
      aimed = λ q e. let N : ℕ → Type 0 = λ x. goes_placed i x q ≡ true in subst N (sym n) (old.aimed q e);
      unmarked = old.unmarked;
      at_most_all = omega (arith, n, old.at_most_all);
      marks = subst (HaveMarks m) (sym more) (marks-one ps k p m within (unmarked_at ps m k le within old.marks) old.marks);
    }

pub router_marked : (ps qs : List Items) (o : Option Placed) (i m : ℕ) → qs ≡ with_put ps m Finish → m < length ps → o ≡ None → IsRouter ps o i m → IsRouter qs o i (m + 1)
router_marked ps qs o i m more within none old =
    let n : length qs ≡ length ps = ap length more ∙ length-set ps m (put_on ps m ++ Finish ∷ []) in
    record {
      some = omega (arith, n, old.some);
      next_within = omega (arith, n, old.next_within);
      aimed = λ q e. absurd (let f = sym none ∙ e in cc);
      unmarked = λ q e. absurd (let f = sym none ∙ e in cc);
      at_most_all = omega (arith, n, within);
      marks = subst (HaveMarks (m + 1)) (sym more) (marks-finish ps m within old.marks);
    }

pub router_aim : (ps : List Items) (o q : Option Placed) (i j m : ℕ) → IsRouter ps o i m → j < length ps → ForSome q (λ p. goes_placed j (length ps) p ≡ true) → ForSome q (λ p. m ≡ 0) → IsRouter ps q j m
router_aim ps o q i j m old within aimed unmarked = record {
  some = old.some;
  next_within = within;
  aimed = aimed;
  unmarked = unmarked;
  at_most_all = old.at_most_all;
  marks = old.marks;
}

pub aimed_at : (n j : ℕ) (o : Option Placed) (p : Placed) → o ≡ Some p → goes_placed j n p ≡ true → ForSome o (λ q. goes_placed j n q ≡ true)
aimed_at n j o p some goes = λ q e.
    let G : Placed → Type 0 = λ x. goes_placed j n x ≡ true in
    let same : p ≡ q = let f = sym some ∙ e in cc in
    subst G same goes

-- the record was put, and another lane is next
goes_next : (old : RouterState) (p : Placed) (n : ℕ) → old.pending ≡ Some p → n ≡ lane_count old → goes_placed old.next n p ≡ true
goes_next old p n some count = let G : ℕ → Type 0 = λ x. goes_placed old.next x p ≡ true in subst G (sym count) (old.kept.aimed p some)

pub gone_next : (old new : RouterState) (p : Placed) (n : ℕ) → old.pending ≡ Some p → PutOn old new old.next (One p) → n ≡ lane_count old → new.pending ≡ old.pending → new.next ≡ old.next + 1 → new.marked ≡ old.marked → HasGoneOn old new
gone_next old new p n some was count pending next marked = record {
  on = on_lanes old new old.next (One p) was;
  marked = marked;
  sent = λ w h.
      let A : Option Placed → Type 0 = λ o. OnPuts (sent_whole w old.pending o) new.next o new.marked new.puts in
      let B : ℕ → Type 0 = λ m. OnPuts (sent_whole w old.pending old.pending) new.next old.pending m new.puts in
      subst A (sym pending) (subst B (sym marked) (step-next old.puts new.puts w old.pending p n old.next new.next old.marked some was.more count next (old.kept.unmarked p some) (omega (arith, count, old.kept.next_within)) (goes_next old p n some count) h));
}

pub puts_next : (old new : RouterState) (p : Placed) (n : ℕ) → old.pending ≡ Some p → PutOn old new old.next (One p) → n ≡ lane_count old → new.pending ≡ old.pending → new.next ≡ old.next + 1 → new.marked ≡ old.marked
    → new.next < n → goes_placed new.next n p ≡ true → HasPutNext old new p
puts_next old new p n some was count pending next marked within there = record {
  puts = was.more;
  next = λ q e. (sym pending ∙ e, next);
  last = (
    λ (e : new.pending ≡ None). absurd (let f = sym some ∙ sym pending ∙ e in cc),
    λ none. absurd (let N : ℕ → Type 0 = λ x. goes_placed new.next x p ≡ true in let e = sym (none new.next (omega (arith, next)) (omega (arith, count, within))) ∙ subst N count there in cc),
  );
  event = λ w.
      let A : Option Placed → Type 0 = λ o. events_so_far (lane_count new) (sent_whole w old.pending o) o new.next new.marked ≡ run_of w old ++ put old.next (One p) ∷ [] in
      let B : ℕ → Type 0 = λ m. events_so_far (lane_count new) (sent_whole w old.pending old.pending) old.pending new.next m ≡ run_of w old ++ put old.next (One p) ∷ [] in
      subst A (sym pending) (subst B (sym marked) (step_event-next (lane_count old) (lane_count new) n w old.pending p old.next new.next old.marked some ((on_lanes old new old.next (One p) was).count ∙ sym count) (sym count) next (old.kept.unmarked p some) within (goes_next old p n some count) there));
}

-- the record was put on its last lane
pub gone_last : (old new : RouterState) (p : Placed) (n : ℕ) → old.pending ≡ Some p → PutOn old new old.next (One p) → n ≡ lane_count old → new.pending ≡ None → new.next ≡ old.next → new.marked ≡ old.marked
    → ((k : ℕ) → old.next < k → k < n → goes_placed k n p ≡ false) → HasGoneOn old new
gone_last old new p n some was count pending next marked last = record {
  on = on_lanes old new old.next (One p) was;
  marked = marked;
  sent = λ w h.
      let A : Option Placed → Type 0 = λ o. OnPuts (sent_whole w old.pending o) new.next o new.marked new.puts in
      let B : ℕ → Type 0 = λ i. OnPuts (sent_whole w old.pending None) i None new.marked new.puts in
      let C : ℕ → Type 0 = λ m. OnPuts (sent_whole w old.pending None) old.next None m new.puts in
      subst A (sym pending) (subst B (sym next) (subst C (sym marked) (step-last old.puts new.puts w old.pending p n old.next old.marked some was.more count (old.kept.unmarked p some) (omega (arith, count, old.kept.next_within)) (goes_next old p n some count) last h)));
}

pub puts_last : (old new : RouterState) (p : Placed) (n : ℕ) → old.pending ≡ Some p → PutOn old new old.next (One p) → n ≡ lane_count old → new.pending ≡ None → new.next ≡ old.next → new.marked ≡ old.marked
    → ((k : ℕ) → old.next < k → k < n → goes_placed k n p ≡ false) → HasPutNext old new p
puts_last old new p n some was count pending next marked last = record {
  puts = was.more;
  next = λ q e. absurd (let f = sym pending ∙ e in cc);
  last = (λ (e : new.pending ≡ None). let N : ℕ → Type 0 = λ x. (k : ℕ) → old.next < k → k < x → goes_placed k x p ≡ false in subst N count last, λ none. pending);
  event = λ w.
      let A : Option Placed → Type 0 = λ o. events_so_far (lane_count new) (sent_whole w old.pending o) o new.next new.marked ≡ run_of w old ++ put old.next (One p) ∷ [] in
      let B : ℕ → Type 0 = λ i. events_so_far (lane_count new) (sent_whole w old.pending None) None i new.marked ≡ run_of w old ++ put old.next (One p) ∷ [] in
      let C : ℕ → Type 0 = λ m. events_so_far (lane_count new) (sent_whole w old.pending None) None old.next m ≡ run_of w old ++ put old.next (One p) ∷ [] in
      subst A (sym pending) (subst B (sym next) (subst C (sym marked) (step_event-last (lane_count old) (lane_count new) n w old.pending p old.next old.marked some ((on_lanes old new old.next (One p) was).count ∙ sym count) (sym count) (old.kept.unmarked p some) (omega (arith, count, old.kept.next_within)) (goes_next old p n some count) last)));
}

pub for_pending : (old new : RouterState) (q : Placed) → old.pending ≡ Some q → HasPutNext old new q → (p : Placed) → old.pending ≡ Some p → HasPutNext old new p
for_pending old new q is h p some =
    let P : Placed → Type 0 = λ x. HasPutNext old new x in
    let same : q ≡ p = let e = sym is ∙ some in cc in
    subst P same h

-- a mark was put
pub marked_on : (old new : RouterState) → old.pending ≡ None → PutOn old new old.marked Finish → old.marked < lane_count old → new.pending ≡ old.pending → new.next ≡ old.next → new.marked ≡ old.marked + 1 → HasMarkedOn old new
marked_on old new none was within pending next marked = record {
  on = on_lanes old new old.marked Finish was;
  pending = pending ∙ none;
  sent = λ w h.
      let O : Option Placed → Type 0 = λ o. OnPuts w old.next o old.marked old.puts in
      let A : List Items → Type 0 = λ x. OnPuts w new.next new.pending new.marked x in
      let B : Option Placed → Type 0 = λ o. OnPuts w new.next o new.marked (with_put old.puts old.marked Finish) in
      let C : ℕ → Type 0 = λ i. OnPuts w i None new.marked (with_put old.puts old.marked Finish) in
      let D : ℕ → Type 0 = λ m. OnPuts w old.next None m (with_put old.puts old.marked Finish) in
      subst A (sym was.more) (subst B (sym (pending ∙ none)) (subst C (sym next) (subst D (sym marked) (sent-mark old.puts w old.next old.marked within (subst O none h)))));
}

pub marked_same : (old new : RouterState) → old.pending ≡ None → IsUnchanged old new → HasMarkedOn old new
marked_same old new none same = record { on = same.on; pending = same.pending ∙ none; sent = same.sent }

pub marks_next : (old new : RouterState) → old.pending ≡ None → PutOn old new old.marked Finish → new.pending ≡ old.pending → new.next ≡ old.next → new.marked ≡ old.marked + 1 → HasMarkedNext old new
marks_next old new none was pending next marked = record {
  puts = was.more;
  marked = marked;
  event = λ w.
      let A : Option Placed → Type 0 = λ o. events_so_far (lane_count new) w o new.next new.marked ≡ run_of w old ++ put old.marked Finish ∷ [] in
      let B : ℕ → Type 0 = λ i. events_so_far (lane_count new) w old.pending i new.marked ≡ run_of w old ++ put old.marked Finish ∷ [] in
      let C : ℕ → Type 0 = λ m. events_so_far (lane_count new) w old.pending old.next m ≡ run_of w old ++ put old.marked Finish ∷ [] in
      subst A (sym pending) (subst B (sym next) (subst C (sym marked) (step_event-mark (lane_count old) (lane_count new) w old.pending old.next old.marked none (on_lanes old new old.marked Finish was).count)));
}

-- a record was sent whole, or is pending
pub has_sent_record : (old new : RouterState) (p : Placed) → IsIdle old → IsIdle new → lane_count new ≡ lane_count old → ((w : List Placed) → HasSent w old → HasSent (w ++ p ∷ []) new) → HasSentRecord p old new
has_sent_record old new p was is count sent = record {
  idle = is;
  sent = sent;
  events = λ w.
      events-same (w ++ p ∷ []) (lane_count new) (lane_count old) new.pending None new.next new.next new.marked 0 count is.none_pending refl is.none_marked
      ∙ all_events (lane_count old) w p new.next old.next
      ∙ ap (λ l. l ++ map put_event (sending_of (lane_count old) p)) (events-same w (lane_count old) (lane_count old) None old.pending old.next old.next 0 old.marked refl (sym was.none_pending) refl (sym was.none_marked));
}

pub has_stuck : (old new : RouterState) (p : Placed) → IsIdle old → new.pending ≡ Some p → new.marked ≡ 0 → lane_count new ≡ lane_count old → IsStuck new new.next → WasRefused old new new.next
    → ((w : List Placed) → HasSent w old → HasSent w new) → HasStuck p old new
has_stuck old new p was pending marked count stuck refused sent = record {
  pending = pending;
  marked = marked;
  stuck = stuck;
  refused = refused;
  sent = sent;
  events = λ w.
      events-same w (lane_count new) (lane_count old) new.pending (Some p) new.next new.next new.marked 0 count pending refl marked
      ∙ begun_events (lane_count old) w p new.next old.next
      ∙ ap (λ l. l ++ map put_event (begun (lane_count old) (Some p) new.next)) (events-same w (lane_count old) (lane_count old) None old.pending old.next old.next 0 old.marked refl (sym was.none_pending) refl (sym was.none_marked));
}
