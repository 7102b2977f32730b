-- Along a run: what was taken from a lane and what it holds is what was put on it.
use Rattle.route.proofs.Common.{◌≡◌, ℕ, ◌==◌, Bool, true, false, cond, List, [], ◌∷◌, ◌++◌, length, map, drop, ◌<◌, arith, refl, sym, ap, ap₂, subst, ◌∙◌, append_assoc, append-nil, range_with_len, flat_map, eqb-true, length-append, map-append, Item, Finish, has_mark, IsBeginning, Placed, IsRising, Event, put, puts_in, takes_in, of_lane, put_list, taken_list, items_after, items_on, IsAllowed, IsRun, put_event, sending_of, sending}
use Rattle.std.proofs.lemmas.List.Sums.{fold-append}
use Rattle.route.specs.Runs.{take}
use Rattle.route.proofs.LaneShares.{Outcome, outcome}
use Rattle.route.proofs.Rising.{rising_front}
use Rattle.route.proofs.RunFronts.{Sends, of_lane-append, Front, front}
use Rattle.route.proofs.MarksLast.{Unmarked, never_marked, unmarked_sending}

pub puts_in-append : (es fs : List Event) → puts_in (es ++ fs) ≡ puts_in es ++ puts_in fs
puts_in-append [] fs = refl
puts_in-append (put k x ∷ es) fs = ap (λ (l : List (ℕ × Item Placed)). (k, x) ∷ l) (puts_in-append es fs)
puts_in-append (take k x ∷ es) fs = puts_in-append es fs

pub takes_in-append : (es fs : List Event) → takes_in (es ++ fs) ≡ takes_in es ++ takes_in fs
takes_in-append [] fs = refl
takes_in-append (put k x ∷ es) fs = takes_in-append es fs
takes_in-append (take k x ∷ es) fs = ap (λ (l : List (ℕ × Item Placed)). (k, x) ∷ l) (takes_in-append es fs)

put_list-push : (es : List Event) (e : Event) (k : ℕ) → put_list (es ++ e ∷ []) k ≡ put_list es k ++ of_lane k (puts_in (e ∷ []))
put_list-push es e k = ap (of_lane k) (puts_in-append es (e ∷ [])) ∙ of_lane-append k (puts_in es) (puts_in (e ∷ []))

taken_list-push : (es : List Event) (e : Event) (k : ℕ) → taken_list (es ++ e ∷ []) k ≡ taken_list es k ++ of_lane k (takes_in (e ∷ []))
taken_list-push es e k = ap (of_lane k) (takes_in-append es (e ∷ [])) ∙ of_lane-append k (takes_in es) (takes_in (e ∷ []))

items_on-push : (es : List Event) (e : Event) (k : ℕ) → items_on (es ++ e ∷ []) k ≡ items_after k (items_on es k) e
items_on-push es e k = fold-append (items_after k) [] es (e ∷ [])

-- what was put is what was taken and what is on the lane
abbrev pub Kept : ℕ → List Event → Type 0
Kept k es = put_list es k ≡ taken_list es k ++ items_on es k

after_put : (b : Bool) (p t h : List (Item Placed)) (x : Item Placed) → p ≡ t ++ h → p ++ cond b (x ∷ []) [] ≡ (t ++ []) ++ cond b (h ++ x ∷ []) h
after_put true p t h x e = ap (λ (l : List (Item Placed)). l ++ x ∷ []) e ∙ append_assoc t h (x ∷ []) ∙ ap (λ (l : List (Item Placed)). l ++ (h ++ x ∷ [])) (sym (append-nil t))
after_put false p t h x e = append-nil p ∙ e ∙ ap (λ (l : List (Item Placed)). l ++ h) (sym (append-nil t))

after_take : (b : Bool) (p t h rest : List (Item Placed)) (x : Item Placed) → (b ≡ true → h ≡ x ∷ rest) → p ≡ t ++ h → p ++ [] ≡ (t ++ cond b (x ∷ []) []) ++ cond b (drop 1 h) h
after_take true p t h rest x oldest e =
    append-nil p ∙ e ∙ ap (λ (l : List (Item Placed)). t ++ l) (oldest refl) ∙ sym (append_assoc t (x ∷ []) rest) ∙ ap (λ (l : List (Item Placed)). (t ++ x ∷ []) ++ drop 1 l) (sym (oldest refl))
after_take false p t h rest x oldest e = append-nil p ∙ e ∙ ap (λ (l : List (Item Placed)). l ++ h) (sym (append-nil t))

kept-push : (k : ℕ) (es : List Event) (e : Event) → IsAllowed es e → Kept k es → Kept k (es ++ e ∷ [])
kept-push k es (put j x) allowed h =
    put_list-push es (put j x) k ∙ after_put (j == k) (put_list es k) (taken_list es k) (items_on es k) x h ∙ sym (ap₂ (λ (a b : List (Item Placed)). a ++ b) (taken_list-push es (put j x) k) (items_on-push es (put j x) k))
kept-push k es (take j x) allowed h =
    put_list-push es (take j x) k
    ∙ after_take (j == k) (put_list es k) (taken_list es k) (items_on es k) allowed.0 x (λ b. let P : ℕ → Type 0 = λ i. items_on es i ≡ x ∷ allowed.0 in subst P (eqb-true j k b) allowed.1) h
    ∙ sym (ap₂ (λ (a b : List (Item Placed)). a ++ b) (taken_list-push es (take j x) k) (items_on-push es (take j x) k))

-- each event is allowed after those before it
abbrev pub AllAllowed : List Event → Type 0
AllAllowed es = (before after : List Event) (e : Event) → es ≡ before ++ e ∷ after → IsAllowed before e

pub kept_along : (k : ℕ) (es before after : List Event) → AllAllowed es → es ≡ before ++ after → Kept k before → Kept k es
kept_along k es before [] allowed split h = subst (Kept k) (sym (split ∙ append-nil before)) h
kept_along k es before (e ∷ after) allowed split h = kept_along k es (before ++ e ∷ []) after allowed (split ∙ sym (append_assoc before (e ∷ []) after)) (kept-push k before e (allowed before after e split) h)

pub taken_front : (k : ℕ) (es : List Event) → AllAllowed es → IsBeginning (taken_list es k) (put_list es k)
taken_front k es allowed = (items_on es k, kept_along k es [] es allowed refl refl)

-- what was taken up to an earlier point
pub taken_before : (k : ℕ) (before after : List Event) → AllAllowed (before ++ after) → IsBeginning (taken_list before k) (put_list (before ++ after) k)
taken_before k before after allowed =
    let front = taken_front k (before ++ after) allowed in
    let more : taken_list (before ++ after) k ≡ taken_list before k ++ of_lane k (takes_in after) = ap (of_lane k) (takes_in-append before after) ∙ of_lane-append k (takes_in before) (takes_in after) in
    (of_lane k (takes_in after) ++ front.0, front.1 ∙ ap (λ (l : List (Item Placed)). l ++ front.0) more ∙ append_assoc (taken_list before k) (of_lane k (takes_in after)) front.0)

pub allowed_earlier : (before after : List Event) → AllAllowed (before ++ after) → AllAllowed before
allowed_earlier before after allowed = λ b a e split. allowed b (a ++ after) e (ap (λ (l : List Event). l ++ after) split ∙ append_assoc b (e ∷ a) after)

pub order_earlier : (s : Sends) (before after : List Event) → IsBeginning (puts_in (before ++ after)) s → IsBeginning (puts_in before) s
order_earlier s before after (rest, e) = (puts_in after ++ rest, e ∙ ap (λ (l : Sends). l ++ rest) (puts_in-append before after) ∙ append_assoc (puts_in before) (puts_in after) rest)

-- a beginning of a run is a run
pub earlier : (n : ℕ) (w : List Placed) (before after : List Event) → IsRun n w (before ++ after) → IsRun n w before
earlier n w before after run = record {
  some = run.some;
  rising = run.rising;
  allowed = allowed_earlier before after run.allowed;
  in_order = order_earlier (sending n w) before after run.in_order;
}

-- where a run stands
pub front_of : (n : ℕ) (w : List Placed) (es : List Event) → IsRun n w es → Front n w (puts_in es)
front_of n w es run = front n w (puts_in es) run.in_order.0 run.some (sym run.in_order.1)

pub outcome_of : (n : ℕ) (w : List Placed) (es : List Event) → IsRun n w es → (f : Front n w (puts_in es)) → Outcome n (put_list es) f.v f.pending
outcome_of n w es run f =
    outcome n (put_list es) f.v f.next f.pending f.marked
    (record { some = run.some; rising = rising_front _ f.rest (subst IsRising f.whole run.rising); within = f.within; aimed = f.aimed; unmarked = f.unmarked; sent = f.sent })

-- the puts, one event each
pub puts_in-events : (s : List (ℕ × Item Placed)) → puts_in (map put_event s) ≡ s
puts_in-events [] = refl
puts_in-events (e ∷ s) = ap (λ (l : List (ℕ × Item Placed)). e ∷ l) (puts_in-events s)

pub takes_in-events : (s : List (ℕ × Item Placed)) → takes_in (map put_event s) ≡ []
takes_in-events [] = refl
takes_in-events (e ∷ s) = takes_in-events s

-- puts are allowed where nothing is sent to a lane after its mark
allowed_put : (s : Sends) → ((k : ℕ) (x : Item Placed) (t r : Sends) → t ++ (k, x) ∷ r ≡ s → has_mark (of_lane k t) ≡ false) → (before after : List Event) (e : Event) → map put_event s ≡ before ++ e ∷ after → IsAllowed before e
allowed_put s never before after (put k x) split = never k x (puts_in before) (puts_in after) (sym (puts_in-append before (put k x ∷ after)) ∙ ap puts_in (sym split) ∙ puts_in-events s)
allowed_put s never before after (take k x) split =
    let none : takes_in before ++ (k, x) ∷ takes_in after ≡ [] = sym (takes_in-append before (take k x ∷ after)) ∙ ap takes_in (sym split) ∙ takes_in-events s in
    let long : length (takes_in before ++ (k, x) ∷ takes_in after) ≡ 0 = ap length none in absurd (omega (arith, length-append (takes_in before) ((k, x) ∷ takes_in after)))

-- where the marks come last, the puts one by one are allowed and in order
pub allowed_puts : (n : ℕ) (a : Sends) → Unmarked a → AllAllowed (map put_event (a ++ map (λ k. (k, Finish)) (range_with_len 0 n)))
allowed_puts n a none = λ before after e split. allowed_put (a ++ map (λ k. (k, Finish)) (range_with_len 0 n)) (λ k x t r is. never_marked n k x a t r none is) before after e split

pub order_puts : (s : Sends) → IsBeginning (puts_in (map put_event s)) s
order_puts s = ([], sym (append-nil (puts_in (map put_event s)) ∙ puts_in-events s))

-- all that is sent, put by put, is a run
pub whole_run : (n : ℕ) (w : List Placed) → 0 < n → IsRising w → IsRun n w (map put_event (sending n w))
whole_run n w some rising = record {
  some = some;
  rising = rising;
  allowed = allowed_puts n (flat_map (sending_of n) w) (unmarked_sending n w);
  in_order = order_puts (sending n w);
}

-- and so is a beginning of it
pub front_run : (n : ℕ) (w : List Placed) (s : Sends) → 0 < n → IsRising w → IsBeginning s (sending n w) → IsRun n w (map put_event s)
front_run n w s some rising (rest, e) = earlier n w (map put_event s) (map put_event rest) (subst (IsRun n w) (ap (map put_event) e ∙ map-append put_event s rest) (whole_run n w some rising))
