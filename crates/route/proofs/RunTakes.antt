-- A run goes on by takes: of each lane what its taker took.
use Rattle.route.proofs.Common.{◌≡◌, ℕ, zero, suc, ◌<◌, ◌≤◌, ◌==◌, ◌⊎◌, inl, inr, ⊎_elim, Bool, true, false, cond, nat_lt, ◌≢◌, List, [], ◌∷◌, ◌++◌, length, map, refl, sym, ap, ap₂, subst, ◌∙◌, append_assoc, append-nil, arith, eq-eqb, lt-ltb, le-ltb, cond-true, cond-false, nat_tests, eqb_tells, length-append, append_cancel_left, Item, IsBeginning, Placed, in_hand, lane_count, sent_so_far, run_of, OfRouters, AreTakesOfRun, Event, puts_in, takes_in, of_lane, put_list, taken_list, items_on, IsAllowed, IsRun}
use Rattle.route.specs.Runs.{take}
use Rattle.route.proofs.RunFronts.{Sends, of_lane-append}
use Rattle.route.proofs.RunLists.{puts_in-append, takes_in-append, takes_in-events, kept_along}
use Rattle.route.proofs.RouterRuns.{router_run, router_puts}

-- an event of a list with one more at its end is that one, or stands in the list
last_or_before : (before after es : List Event) (e last : Event) → es ++ last ∷ [] ≡ before ++ e ∷ after → ((before ≡ es) × (e ≡ last)) ⊎ ((rest : List Event) × (es ≡ before ++ e ∷ rest))
last_or_before [] after [] e last same = inl (refl, cc)
last_or_before [] after (y ∷ es) e last same = let head : y ≡ e = cc in inr (es, ap (λ v. v ∷ es) head)
last_or_before (b ∷ bs) after [] e last same =
    let long : length (bs ++ e ∷ after) ≡ 0 = let tail : bs ++ e ∷ after ≡ [] = cc in ap length tail in absurd (omega (arith, length-append bs (e ∷ after)))
last_or_before (b ∷ bs) after (y ∷ es) e last same =
    let head : y ≡ b = cc in
    let tail : es ++ last ∷ [] ≡ bs ++ e ∷ after = cc in
    ⊎_elim (λ (h : (bs ≡ es) × (e ≡ last)). inl (ap₂ (λ v l. v ∷ l) (sym head) h.0, h.1))
    (λ (h : (rest : List Event) × (es ≡ bs ++ e ∷ rest)). inr (h.0, ap₂ (λ v l. v ∷ l) head h.1)) (last_or_before bs after es e last tail)

-- the oldest item may be taken
with_take : (n k : ℕ) (w : List Placed) (es : List Event) (x : Item Placed) (rest : List (Item Placed)) → IsRun n w es → items_on es k ≡ x ∷ rest → IsRun n w (es ++ take k x ∷ [])
with_take n k w es x rest run holds = record {
  some = run.some;
  rising = run.rising;
  allowed = λ before after e split.
      ⊎_elim (λ (h : (before ≡ es) × (e ≡ take k x)). subst (λ (v : Event). IsAllowed before v) (sym h.1) (subst (λ (l : List Event). IsAllowed l (take k x)) (sym h.0) (rest, holds)))
      (λ (h : (more : List Event) × (es ≡ before ++ e ∷ more)). run.allowed before h.0 e h.1) (last_or_before before after es e (take k x) split);
  in_order = (run.in_order.0, run.in_order.1 ∙ ap (λ (l : Sends). l ++ run.in_order.0) (sym (puts_in-append es (take k x ∷ []) ∙ append-nil (puts_in es))));
}

-- the takes of these items of lane k
abbrev takes_of : ℕ → List (Item Placed) → List Event
takes_of k xs = map (take k) xs

one_taken : (k : ℕ) (x : Item Placed) (xs : List (Item Placed)) → cond (k == k) (x ∷ xs) xs ≡ x ∷ xs
one_taken k x xs = ap (λ (b : Bool). cond b (x ∷ xs) xs) (eq-eqb k k refl)

-- and so may all that was put, one item after the other
with_takes : (n k : ℕ) (w : List Placed) (es : List Event) (xs : List (Item Placed)) → IsRun n w es → IsBeginning (taken_list es k ++ xs) (put_list es k) → IsRun n w (es ++ takes_of k xs)
with_takes n k w es [] run front = subst (IsRun n w) (sym (append-nil es)) run
with_takes n k w es (x ∷ xs) run (rest, is) =
    let kept : put_list es k ≡ taken_list es k ++ items_on es k = kept_along k es [] es run.allowed refl refl in
    let holds : items_on es k ≡ x ∷ (xs ++ rest) = append_cancel_left (taken_list es k) (items_on es k) (x ∷ (xs ++ rest)) (sym kept ∙ is ∙ append_assoc (taken_list es k) (x ∷ xs) rest) in
    let next = with_take n k w es x (xs ++ rest) run holds in
    let put : put_list (es ++ take k x ∷ []) k ≡ put_list es k = ap (of_lane k) (puts_in-append es (take k x ∷ []) ∙ append-nil (puts_in es)) in
    let taken : taken_list (es ++ take k x ∷ []) k ≡ taken_list es k ++ x ∷ [] =
    ap (of_lane k) (takes_in-append es (take k x ∷ [])) ∙ of_lane-append k (takes_in es) ((k, x) ∷ []) ∙ ap (λ (l : List (Item Placed)). taken_list es k ++ l) (one_taken k x []) in
    let front : IsBeginning (taken_list (es ++ take k x ∷ []) k ++ xs) (put_list (es ++ take k x ∷ []) k) =
    (rest, put ∙ is ∙ ap (λ (l : List (Item Placed)). l ++ rest) (sym (append_assoc (taken_list es k) (x ∷ []) xs) ∙ ap (λ (l : List (Item Placed)). l ++ xs) (sym taken))) in
    subst (IsRun n w) (append_assoc es (take k x ∷ []) (takes_of k xs)) (with_takes n k w (es ++ take k x ∷ []) xs next front)

none_put : (k : ℕ) (xs : List (Item Placed)) → puts_in (takes_of k xs) ≡ []
none_put k [] = refl
none_put k (x ∷ xs) = none_put k xs

on_lane : (j k : ℕ) (xs : List (Item Placed)) → of_lane j (takes_in (takes_of k xs)) ≡ cond (k == j) xs []
on_lane j k [] = either (k == j) []
  where
    either : (b : Bool) (l : List (Item Placed)) → l ≡ cond b l l
    either true l = refl
    either false l = refl
on_lane j k (x ∷ xs) = ap (λ (l : List (Item Placed)). cond (k == j) (x ∷ l) l) (on_lane j k xs) ∙ both (k == j)
  where
    both : (b : Bool) → cond b (x ∷ cond b xs []) (cond b xs []) ≡ cond b (x ∷ xs) []
    both true = refl
    both false = refl

-- after the puts es the first m lanes have given what their takers took, and no other lane has given an item
pub record HasGiven (n : ℕ) (w : List Placed) (es : List Event) (taken : ℕ → List (Item Placed)) (m : ℕ) : Type 0 where
  pub more : List Event
  pub run : IsRun n w (es ++ more)
  pub no_puts : puts_in more ≡ []
  pub given : (k : ℕ) → of_lane k (takes_in more) ≡ cond (nat_lt k m) (taken k) []

one_lane_more : (taken : ℕ → List (Item Placed)) (k m : ℕ) → cond (nat_lt k m) (taken k) [] ++ cond (m == k) (taken m) [] ≡ cond (nat_lt k (suc m)) (taken k) []
one_lane_more taken k m = ⊎_elim
    (λ (h : ((m == k) ≡ true) × (m ≡ k)).
    let P : ℕ → Type 0 = λ j. cond (nat_lt k j) (taken k) [] ++ cond (j == k) (taken j) [] ≡ cond (nat_lt k (suc j)) (taken k) [] in
    subst P (sym h.1)
    (ap₂ (λ (a b : List (Item Placed)). a ++ b) (cond-false (nat_lt k k) (taken k) [] (le-ltb k k (omega arith))) (cond-true (k == k) (taken k) [] (eq-eqb k k refl))
    ∙ sym (cond-true (nat_lt k (suc k)) (taken k) [] (lt-ltb k (suc k) (omega arith)))))
    (λ (h : ((m == k) ≡ false) × (m ≢ k)).
    let tests : nat_lt k m ≡ nat_lt k (suc m) = grind (arith, nat_tests, h.1) in
    ap (λ (l : List (Item Placed)). cond (nat_lt k m) (taken k) [] ++ l) (cond-false (m == k) (taken m) [] h.0) ∙ append-nil (cond (nat_lt k m) (taken k) [])
    ∙ ap (λ (b : Bool). cond b (taken k) []) tests)
    (eqb_tells m k)

first_lanes : (n : ℕ) (w : List Placed) (es : List Event) (taken : ℕ → List (Item Placed)) (m : ℕ) → IsRun n w es → takes_in es ≡ [] → ((k : ℕ) → k < n → IsBeginning (taken k) (put_list es k)) → m ≤ n → HasGiven n w es taken m
first_lanes n w es taken zero run none front within = record { more = []; run = subst (IsRun n w) (sym (append-nil es)) run; no_puts = refl; given = λ k. sym (cond-false (nat_lt k 0) (taken k) [] (le-ltb k 0 (omega arith))) }
first_lanes n w es taken (suc m) run none front within =
    let h = first_lanes n w es taken m run none front (omega (arith, within)) in
    let more = h.more ++ takes_of m (taken m) in
    let put : put_list (es ++ h.more) m ≡ put_list es m = ap (of_lane m) (puts_in-append es h.more ∙ ap (λ (l : Sends). puts_in es ++ l) h.no_puts ∙ append-nil (puts_in es)) in
    let none_yet : taken_list (es ++ h.more) m ≡ [] =
    ap (of_lane m) (takes_in-append es h.more ∙ ap (λ (l : Sends). l ++ takes_in h.more) none) ∙ h.given m ∙ cond-false (nat_lt m m) (taken m) [] (le-ltb m m (omega arith)) in
    let begins = front m (omega (arith, within)) in
    let next = with_takes n m w (es ++ h.more) (taken m) h.run (begins.0, put ∙ begins.1 ∙ ap (λ (l : List (Item Placed)). (l ++ taken m) ++ begins.0) (sym none_yet)) in
    record {
      more = more;
      run = subst (IsRun n w) (append_assoc es h.more (takes_of m (taken m))) next;
      no_puts = puts_in-append h.more (takes_of m (taken m)) ∙ ap₂ (λ (a b : Sends). a ++ b) h.no_puts (none_put m (taken m));
      given = λ k. ap (of_lane k) (takes_in-append h.more (takes_of m (taken m))) ∙ of_lane-append k (takes_in h.more) (takes_in (takes_of m (taken m)))
          ∙ ap₂ (λ (a b : List (Item Placed)). a ++ b) (h.given k) (on_lane k m (taken m)) ∙ one_lane_more taken k m;
    }

-- what the takers of a router's lanes took
pub router_takes : OfRouters AreTakesOfRun
router_takes r w sent rising taken front =
    let n = lane_count r in
    let es = run_of w r in
    let none : takes_in es ≡ [] = takes_in-events (sent_so_far n w r.pending r.next r.marked) in
    let begins : (k : ℕ) → k < n → IsBeginning (taken k) (put_list es k) = λ k l. let f = front k l in (f.0, router_puts r w sent k l ∙ f.1) in
    let h = first_lanes n (in_hand w r.pending) es taken n (router_run r w rising) none begins (omega arith) in
    record {
      events = es ++ h.more;
      run = h.run;
      puts = λ k l. ap (of_lane k) (puts_in-append es h.more ∙ ap (λ (s : Sends). puts_in es ++ s) h.no_puts ∙ append-nil (puts_in es)) ∙ router_puts r w sent k l;
      takes = λ k l. ap (of_lane k) (takes_in-append es h.more ∙ ap (λ (s : Sends). s ++ takes_in h.more) none) ∙ h.given k ∙ cond-true (nat_lt k n) (taken k) [] (lt-ltb k n l);
    }
