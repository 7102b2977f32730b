-- Each point of a run stands between two records, or inside one, or among the marks.
use Rattle.route.proofs.Common.{◌≡◌, ℕ, zero, suc, ◌+◌, ◌<◌, ◌≤◌, ◌%◌, ◌==◌, ◌⊎◌, inl, inr, ⊎_elim, Bool, true, false, cond, ◌&&◌, nat_lt, nat_le, List, [], ◌∷◌, ◌++◌, length, take, map, Option, Some, None, refl, sym, ap, ap₂, subst, ◌∙◌, append_assoc, append-nil, arith, range_with_len, flat_map, lt-ltb, le-ltb, cond-true, cond-false, eq-eqb, nat_tests, nil_from_length, take_at, length-append, take-map-range_with_len, length-map-range_with_len, Item, One, Finish, Record, Spawn, Call, Return, Sync, Read, Write, Placed, goes, goes_placed, share, portion, mark_of, AllSent, in_hand, of_lane, sending_of, sending}

abbrev pub Sends : Type 0
Sends = List (ℕ × Item Placed)

out : {X : Type 0} (b : Bool) (x : X) (l m : List X) → cond b (x ∷ (l ++ m)) (l ++ m) ≡ cond b (x ∷ l) l ++ m
out true x l m = refl
out false x l m = refl

pub of_lane-append : {X : Type 0} (k : ℕ) (s t : List (ℕ × X)) → of_lane k (s ++ t) ≡ of_lane k s ++ of_lane k t
of_lane-append k [] t = refl
of_lane-append {X} k (e ∷ s) t = ap (λ (l : List X). cond (e.0 == k) (e.1 ∷ l) l) (of_lane-append k s t) ∙ out (e.0 == k) e.1 (of_lane k s) (of_lane k t)

one_more : (x : Item Placed) (k a m : ℕ) → cond (a == k) (x ∷ cond (nat_le (a + 1) k && nat_lt k (a + 1 + m)) (x ∷ []) []) (cond (nat_le (a + 1) k && nat_lt k (a + 1 + m)) (x ∷ []) []) ≡ cond (nat_le a k && nat_lt k (a + suc m)) (x ∷ []) []
one_more x k a m = grind (arith, nat_tests)

-- the same item on m lanes from a on
on_range : (x : Item Placed) (k a m : ℕ) → of_lane k (map (λ j. (j, x)) (range_with_len a m)) ≡ cond (nat_le a k && nat_lt k (a + m)) (x ∷ []) []
on_range x k a zero = grind (arith, nat_tests)
on_range x k a (suc m) = ap (λ (l : List (Item Placed)). cond (a == k) (x ∷ l) l) (on_range x k (a + 1) m) ∙ one_more x k a m

from_zero : (x : Item Placed) (k m : ℕ) → cond (nat_le 0 k && nat_lt k (0 + m)) (x ∷ []) [] ≡ cond (nat_lt k m) (x ∷ []) []
from_zero x k m = grind (arith, nat_tests)

pub on_first : (x : Item Placed) (k m : ℕ) → of_lane k (map (λ j. (j, x)) (range_with_len 0 m)) ≡ cond (nat_lt k m) (x ∷ []) []
on_first x k m = on_range x k 0 m ∙ from_zero x k m

-- where a list is cut: within the first list, or behind it
pub split_front : {X : Type 0} (s r a b : List X) → s ++ r ≡ a ++ b → ((s ≡ take (length s) a) × (length s < length a)) ⊎ ((t : List X) × (s ≡ a ++ t) × (t ++ r ≡ b))
split_front s r [] b e = inr (s, refl, e)
split_front [] r (x ∷ a) b e = inl (refl, omega arith)
split_front (y ∷ s) r (x ∷ a) b e =
    let head : y ≡ x = cc in
    let tail : s ++ r ≡ a ++ b = cc in
    ⊎_elim (λ (h : (s ≡ take (length s) a) × (length s < length a)). inl (ap₂ (λ z l. z ∷ l) head h.0, omega (arith, h.1))) (λ (h : (t : _) × (s ≡ a ++ t) × (t ++ r ≡ b)). inr (h.0, ap₂ (λ z l. z ∷ l) head h.1, h.2)) (split_front s r a b tail)

-- what of a list of items was sent when it was cut within a record, or among the marks
pub on_cut : (x : Item Placed) (k n : ℕ) (s : Sends) → s ≡ take (length s) (map (λ j. (j, x)) (range_with_len 0 n)) → length s ≤ n → of_lane k s ≡ cond (nat_lt k (length s)) (x ∷ []) []
on_cut x k n s e l = ap (of_lane k) (e ∙ take-map-range_with_len (λ j. (j, x)) 0 n (length s) l) ∙ on_first x k (length s)

-- a whole record on a lane
pub of_sending : (n k : ℕ) (place : ℕ) (r : Record) → k < n → of_lane k (sending_of n (record { place = place; what = r })) ≡ cond (goes k n r) (One (record { place = place; what = r }) ∷ []) []
of_sending n k place Spawn l = on_first (One (record { place = place; what = Spawn })) k n ∙ cond-true (nat_lt k n) (One (record { place = place; what = Spawn }) ∷ []) [] (lt-ltb k n l)
of_sending n k place Call l = on_first (One (record { place = place; what = Call })) k n ∙ cond-true (nat_lt k n) (One (record { place = place; what = Call }) ∷ []) [] (lt-ltb k n l)
of_sending n k place Return l = on_first (One (record { place = place; what = Return })) k n ∙ cond-true (nat_lt k n) (One (record { place = place; what = Return }) ∷ []) [] (lt-ltb k n l)
of_sending n k place Sync l = on_first (One (record { place = place; what = Sync })) k n ∙ cond-true (nat_lt k n) (One (record { place = place; what = Sync }) ∷ []) [] (lt-ltb k n l)
of_sending n k place (Read j) l = refl
of_sending n k place (Write j) l = refl

-- a record of which some lanes lack it: the next lane, and what stands on the lanes
record PortionSent (n : ℕ) (p : Placed) (s : Sends) : Type 0 where
  next : ℕ
  within : next < n
  aimed : goes_placed next n p ≡ true
  on : (k : ℕ) → of_lane k s ≡ map One (portion k n next (Some p))

both : (a b : Bool) (p : Placed) → b ≡ true → cond a (One p ∷ []) [] ≡ map One (cond (a && b) (p ∷ []) [])
both true true p h = refl
both false true p h = refl
both a false p h = absurd (cc)

portion-all : (k n next : ℕ) (p : Placed) → goes_placed k n p ≡ true → cond (nat_lt k next) (One p ∷ []) [] ≡ map One (portion k n next (Some p))
portion-all k n next p h = both (nat_lt k next) (goes_placed k n p) p h

-- a record that goes to all lanes
of_all : (n : ℕ) (p : Placed) (s : Sends) → ((k : ℕ) → goes_placed k n p ≡ true) → s ≡ take (length s) (map (λ j. (j, One p)) (range_with_len 0 n)) → length s < length {A = ℕ × Item Placed} (map (λ j. (j, One p)) (range_with_len 0 n)) → PortionSent n p s
of_all n p s all e l =
    let within : length s < n = omega (arith, length-map-range_with_len {X = ℕ × Item Placed} (λ j. (j, One p)) 0 n) in record {
      next = length s;
      within = within;
      aimed = all (length s);
      on = λ k. on_cut (One p) k n s e (omega arith) ∙ portion-all k n (length s) p (all k);
    }

not_before : (k j : ℕ) → (nat_lt k j && (j == k)) ≡ false
not_before k j = grind (arith, nat_tests)

-- a record that goes to one lane
of_none : (n j : ℕ) (p : Placed) (s : Sends) → j < n → ((k : ℕ) → goes_placed k n p ≡ (j == k)) → s ≡ take (length s) ((j, One p) ∷ []) → length s < 1 → PortionSent n p s
of_none n j p s within is e l =
    let none : s ≡ [] = nil_from_length s (omega arith) in record {
      next = j;
      within = within;
      aimed = is j ∙ eq-eqb j j refl;
      on = λ k. ap (of_lane k) none ∙ ap (λ (b : Bool). map One (cond b (p ∷ []) [])) (sym (ap (λ (b : Bool). nat_lt k j && b) (is k) ∙ not_before k j));
    }

portion_sent : (n place : ℕ) (r : Record) (s : Sends) → 0 < n → s ≡ take (length s) (sending_of n (record { place = place; what = r })) → length s < length (sending_of n (record { place = place; what = r })) → PortionSent n (record { place = place; what = r }) s
portion_sent n place Spawn s some e l = of_all n (record { place = place; what = Spawn }) s (λ k. refl) e l
portion_sent n place Call s some e l = of_all n (record { place = place; what = Call }) s (λ k. refl) e l
portion_sent n place Return s some e l = of_all n (record { place = place; what = Return }) s (λ k. refl) e l
portion_sent n place Sync s some e l = of_all n (record { place = place; what = Sync }) s (λ k. refl) e l
portion_sent n place (Read j) s some e l = of_none n (j % n) (record { place = place; what = Read j }) s (omega arith) (λ k. refl) e l
portion_sent n place (Write j) s some e l = of_none n (j % n) (record { place = place; what = Write j }) s (omega arith) (λ k. refl) e l

-- where a run stands after the puts s: v was sent whole, and the pending record in portion
pub record Front (n : ℕ) (w : List Placed) (s : Sends) : Type 0 where
  pub v : List Placed
  pub next : ℕ
  pub pending : Option Placed
  pub marked : ℕ
  pub rest : List Placed
  pub whole : w ≡ in_hand v pending ++ rest
  pub within : (p : Placed) → pending ≡ Some p → next < n
  pub aimed : (p : Placed) → pending ≡ Some p → goes_placed next n p ≡ true
  pub unmarked : (p : Placed) → pending ≡ Some p → marked ≡ 0
  pub ended : 0 < marked → rest ≡ []
  pub sent : AllSent n v next pending marked (λ k. of_lane k s)

pub mark_of-none : (k : ℕ) → mark_of k 0 ≡ []
mark_of-none k = cond-false (nat_lt k 0) (Finish ∷ []) [] (le-ltb k 0 (omega arith))

pub cut_front : {X : Type 0} (s r a : List X) (n : ℕ) → length a ≡ n → s ++ r ≡ a → (s ≡ take (length s) a) × (length s ≤ n)
cut_front s r a n count e = (sym (ap (take (length s)) (sym e) ∙ take_at s r (length s) refl), omega (arith, length-append s r, ap length e))

-- among the marks
front_marks : (n : ℕ) (s r : Sends) → s ++ r ≡ map (λ k. (k, Finish)) (range_with_len 0 n) → Front n [] s
front_marks n s r e =
    let cut : (s ≡ take (length s) (map (λ k. (k, Finish)) (range_with_len 0 n))) × (length s ≤ n) = cut_front s r (map (λ k. (k, Finish)) (range_with_len 0 n)) n (length-map-range_with_len {X = ℕ × Item Placed} (λ k. (k, Finish)) 0 n) e in record {
      v = [];
      next = 0;
      pending = None;
      marked = length s;
      rest = [];
      whole = refl;
      within = λ p e. absurd (cc);
      aimed = λ p e. absurd (cc);
      unmarked = λ p e. absurd (cc);
      ended = λ h. refl;
      sent = λ k l. on_cut Finish k n s cut.0 cut.1;
    }

-- inside a record
front_portion : (n : ℕ) (p : Placed) (w : List Placed) (s : Sends) → PortionSent n p s → Front n (p ∷ w) s
front_portion n p w s h = record {
  v = [];
  next = h.next;
  pending = Some p;
  marked = 0;
  rest = w;
  whole = refl;
  within = λ q e. h.within;
  aimed = λ q e. let P : Placed → Type 0 = λ x. goes_placed h.next n x ≡ true in let same : p ≡ q = cc in subst P same h.aimed;
  unmarked = λ q e. refl;
  ended = λ h. absurd (omega arith);
  sent = λ k l. h.on k ∙ sym (ap (λ (ms : List (Item Placed)). map One (portion k n h.next (Some p)) ++ ms) (mark_of-none k) ∙ append-nil (map One (portion k n h.next (Some p))));
}

with_one : (b : Bool) (p : Placed) (xs ys : List Placed) (ms : List (Item Placed)) → cond b (One p ∷ []) [] ++ (map One (xs ++ ys) ++ ms) ≡ map One (cond b (p ∷ xs) xs ++ ys) ++ ms
with_one true p xs ys ms = refl
with_one false p xs ys ms = refl

-- behind a record
front_more : (n : ℕ) (p : Placed) (w : List Placed) (t : Sends) → Front n w t → Front n (p ∷ w) (sending_of n p ++ t)
front_more n p w t h = record {
  v = p ∷ h.v;
  next = h.next;
  pending = h.pending;
  marked = h.marked;
  rest = h.rest;
  whole = ap (λ (l : List Placed). p ∷ l) h.whole;
  within = h.within;
  aimed = h.aimed;
  unmarked = h.unmarked;
  ended = h.ended;
  sent = λ k l.
      of_lane-append k (sending_of n p) t ∙ ap₂ (λ (a b : List (Item Placed)). a ++ b) (of_sending n k p.place p.what l) (h.sent k l)
      ∙ with_one (goes_placed k n p) p (share k n h.v) (portion k n h.next h.pending) (mark_of k h.marked);
}

pub front : (n : ℕ) (w : List Placed) (s r : Sends) → 0 < n → s ++ r ≡ sending n w → Front n w s
front n [] s r some e = front_marks n s r e
front n (p ∷ w) s r some e =
    ⊎_elim (λ (h : (s ≡ take (length s) (sending_of n p)) × (length s < length (sending_of n p))). front_portion n p w s (portion_sent n p.place p.what s some h.0 h.1))
    (λ (h : (t : Sends) × (s ≡ sending_of n p ++ t) × (t ++ r ≡ sending n w)). subst (Front n (p ∷ w)) (sym h.1) (front_more n p w h.0 (front n w h.0 r some h.2)))
    (split_front s r (sending_of n p) (sending n w) (e ∙ append_assoc (sending_of n p) (flat_map (sending_of n) w) (map (λ k. (k, Finish)) (range_with_len 0 n))))
