-- What was routed, from what stands on the lanes.
use Rattle.route.proofs.Common.{◌≡◌, ℕ, zero, suc, ◌<◌, ◌≤◌, ◌%◌, ◌==◌, ◌⊎◌, inl, inr, ⊎_elim, Bool, true, false, true≢false, cond, ◌&&◌, nat_lt, List, [], ◌∷◌, ◌++◌, map, filter, Contains, Option, Some, None, option_to_list, refl, sym, ap, ap₂, subst, ◌∙◌, append_assoc, append-nil, arith, lt-ltb, le-ltb, cond-true, cond-false, and_left, and_from, cases_lt, nat_tests, All-filter, All-contains, All-contains_itself, Contains-append_left, Contains-append_cases, Contains-push, Item, One, Finish, has_mark, records, IsBeginning, Record, Spawn, Call, Return, Sync, Read, Write, Placed, goes, goes_placed, share, Contains-nil, share-push, goes_somewhere, portion, AllSent, IsRising, in_hand, IsOnSome, IsRouted, IsBeingSent, HasShare, HasWholeShare, HasRouted}
use Rattle.route.proofs.Rising.{Contains-here, Contains-later, Contains-cases, Ordered-from_rising, rising_front, last_above, same_records}

-- the records and the mark of a lane
pub records-ones : (xs : List Placed) (b : Bool) → records (map One xs ++ cond b (Finish ∷ []) []) ≡ xs
records-ones [] true = refl
records-ones [] false = refl
records-ones (x ∷ xs) b = ap (λ (l : List Placed). x ∷ l) (records-ones xs b)

pub has_mark-ones : (xs : List Placed) (b : Bool) → has_mark (map One xs ++ cond b (Finish ∷ []) []) ≡ b
has_mark-ones [] true = refl
has_mark-ones [] false = refl
has_mark-ones (x ∷ xs) b = has_mark-ones xs b

module _ (n : ℕ) (on : ℕ → List (Item Placed)) (w : List Placed) (next : ℕ) (pending : Option Placed) (marked : ℕ) where
  pub records-sent : AllSent n w next pending marked on → (k : ℕ) → k < n → records (on k) ≡ share k n w ++ portion k n next pending
  records-sent all k l = ap records (all k l) ∙ records-ones (share k n w ++ portion k n next pending) (nat_lt k marked)

  pub has_mark-sent : AllSent n w next pending marked on → (k : ℕ) → k < n → has_mark (on k) ≡ nat_lt k marked
  has_mark-sent all k l = ap has_mark (all k l) ∙ has_mark-ones (share k n w ++ portion k n next pending) (nat_lt k marked)

-- members of a share
in_either : (b : Bool) (p q : Placed) (l : List Placed) → Contains l q → Contains (cond b (p ∷ l) l) q
in_either true p q l h = Contains-later p q l h
in_either false p q l h = h

pub Contains-filter : (f : Placed → Bool) (u : List Placed) (q : Placed) → Contains u q → f q ≡ true → Contains (filter f u) q
Contains-filter f [] q h g = absurd (Contains-nil q h)
Contains-filter f (p ∷ u) q h g =
    ⊎_elim
    (λ (e : p ≡ q). let P : List Placed → Type 0 = λ l. Contains l q in
    subst P (sym (cond-true (f p) (p ∷ filter f u) (filter f u) (ap f e ∙ g))) (let Q : Placed → Type 0 = λ x. Contains (p ∷ filter f u) x in subst Q e (Contains-here p (filter f u))))
    (λ (m : Contains u q). let rest : Contains (filter f u) q = Contains-filter f u q m g in in_either (f p) p q (filter f u) rest) (Contains-cases p q u h)

pub Contains-unfilter : (f : Placed → Bool) (u : List Placed) (q : Placed) → Contains (filter f u) q → Contains u q
Contains-unfilter f u q h = All-contains (Contains u) (filter f u) q (All-filter f (Contains u) u (All-contains_itself u)) h

-- a record of the list stands on a lane that it goes to, and on each such lane
pub on_its_lane : (n : ℕ) (u : List Placed) (q : Placed) → 0 < n → Contains u q → (k : ℕ) × (k < n) × Contains (share k n u) q
on_its_lane n u q h m = let g = goes_somewhere n q.what h in (g.0, g.1, Contains-filter (goes_placed g.0 n) u q m g.2)

only_one : (n : ℕ) (on : ℕ → List (Item Placed)) (u v : List Placed) → IsRouted n on u → IsRouted n on v → v ≡ u
only_one n on u v iu iv = same_records v u (Ordered-from_rising v iv.rising) (Ordered-from_rising u iu.rising) (λ q m. (iu.exact q).1 ((iv.exact q).0 m)) (λ q m. (iv.exact q).1 ((iu.exact q).0 m))

-- all that the three laws say
pub record Routes (n : ℕ) (on : ℕ → List (Item Placed)) (u : List Placed) : Type 0 where
  pub routed : IsRouted n on u
  pub shares : (k : ℕ) → k < n → HasShare n on u k
  pub marks : (k : ℕ) → k < n → has_mark (on k) ≡ true → HasWholeShare n on u k

-- nothing is being sent
module _ (n : ℕ) (on : ℕ → List (Item Placed)) (w : List Placed) (some : 0 < n) (same : (k : ℕ) → k < n → records (on k) ≡ share k n w) where
  on_from : (q : Placed) → Contains w q → IsOnSome n on q
  on_from q m = let g = on_its_lane n w q some m in let P : List Placed → Type 0 = λ l. Contains l q in (g.0, g.1, subst P (sym (same g.0 g.1)) g.2)

  in_from : (q : Placed) → IsOnSome n on q → Contains w q
  in_from q (k, l, m) = let P : List Placed → Type 0 = λ l. Contains l q in Contains-unfilter (goes_placed k n) w q (subst P (same k l) m)

  pub none_sent : (q : Placed) → IsBeingSent n on q → ⊥
  none_sent q s =
      let P : List Placed → Type 0 = λ l. Contains l q in
      let lane = s.unfinished in
      lane.3 (subst P (sym (same lane.0 lane.1)) (Contains-filter (goes_placed lane.0 n) w q (in_from q s.begun) lane.2))

  routes_whole : IsRising w → ((k : ℕ) → k < n → has_mark (on k) ≡ true → on k ≡ map One (share k n w) ++ Finish ∷ []) → Routes n on w
  routes_whole rising marked = record {
    routed = record { rising = rising; exact = λ q. (on_from q, in_from q) };
    shares = λ k l. inl (same k l);
    marks = λ k l h. record { whole = marked k l h; none_sent = none_sent };
  }

-- a record that goes to all lanes stands on those before the next one
module _ (n : ℕ) (on : ℕ → List (Item Placed)) (w : List Placed) (next : ℕ) (p : Placed) (rising : IsRising (w ++ p ∷ [])) (all : (k : ℕ) → goes_placed k n p ≡ true) (begun : 0 < next) (within : next < n)
    (has : (k : ℕ) → k < next → records (on k) ≡ share k n w ++ p ∷ []) (lacks : (k : ℕ) → next ≤ k → k < n → records (on k) ≡ share k n w) where
  share-all : (k : ℕ) → share k n w ++ p ∷ [] ≡ share k n (w ++ p ∷ [])
  share-all k = sym (share-push k n w p ∙ ap (λ (l : List Placed). share k n w ++ l) (cond-true (goes_placed k n p) (p ∷ []) [] (all k)))

  is_begun : IsOnSome n on p
  is_begun = let P : List Placed → Type 0 = λ l. Contains l p in (0, omega arith, subst P (sym (has 0 begun)) (Contains-push (share 0 n w) p))

  not_before : Contains w p → ⊥
  not_before m = let e : p.place < p.place = last_above w p p (Ordered-from_rising (w ++ p ∷ []) rising) m in omega arith

  is_being_sent : IsBeingSent n on p
  is_being_sent = record {
    begun = is_begun;
    unfinished = (next, within, all next, λ m. let P : List Placed → Type 0 = λ l. Contains l p in not_before (Contains-unfilter (goes_placed next n) w p (subst P (lacks next (omega arith) within) m)));
  }

  to_lane : (q : Placed) → Contains (w ++ p ∷ []) q → IsOnSome n on q
  to_lane q m =
      let P : List Placed → Type 0 = λ l. Contains l q in
      ⊎_elim
      (λ (m : Contains w q). let g = on_its_lane n w q (omega arith) m in
      (g.0, g.1, ⊎_elim (λ (x : g.0 < next). subst P (sym (has g.0 x)) (Contains-append_left (share g.0 n w) (p ∷ []) q g.2)) (λ (x : next ≤ g.0). subst P (sym (lacks g.0 x g.1)) g.2) (cases_lt g.0 next)))
      (λ (m : Contains (p ∷ []) q). ⊎_elim (λ (e : p ≡ q). subst (IsOnSome n on) e is_begun) (λ (m : Contains [] q). absurd (Contains-nil q m)) (Contains-cases p q [] m)) (Contains-append_cases w (p ∷ []) q m)

  from_lane : (q : Placed) → IsOnSome n on q → Contains (w ++ p ∷ []) q
  from_lane q (k, l, m) =
      let P : List Placed → Type 0 = λ l. Contains l q in
      ⊎_elim (λ (x : k < next). Contains-unfilter (goes_placed k n) (w ++ p ∷ []) q (subst P (has k x ∙ share-all k) m))
      (λ (x : next ≤ k). Contains-append_left w (p ∷ []) q (Contains-unfilter (goes_placed k n) w q (subst P (lacks k x l) m))) (cases_lt k next)

  routes_begun : ((k : ℕ) → k < n → has_mark (on k) ≡ false) → Routes n on (w ++ p ∷ [])
  routes_begun unmarked = record {
    routed = record { rising = rising; exact = λ q. (to_lane q, from_lane q) };
    shares = λ k l. ⊎_elim (λ (x : k < next). inl (has k x ∙ share-all k))
        (λ (x : next ≤ k). inr (p, ap (λ (l : List Placed). l ++ p ∷ []) (lacks k x l) ∙ share-all k, is_being_sent)) (cases_lt k next);
    marks = λ k l h. absurd (true≢false (sym h ∙ unmarked k l));
  }

only_next : (k next j : ℕ) → (j == next) ≡ true → (nat_lt k next && (j == k)) ≡ false
only_next k next j h = grind (arith, nat_tests)

-- where the next lane is one that the record goes to: no lane before it gets the record, or all lanes do
early : (n next : ℕ) (r : Record) → goes next n r ≡ true → ((k : ℕ) → (nat_lt k next && goes k n r) ≡ false) ⊎ (((k : ℕ) → goes k n r ≡ true) × (0 < next))
early n zero Spawn h = inl (λ k. and_left (nat_lt k 0) true (le-ltb k 0 (omega arith)))
early n zero Call h = inl (λ k. and_left (nat_lt k 0) true (le-ltb k 0 (omega arith)))
early n (suc t) Spawn h = inr (λ k. refl, omega arith)
early n (suc t) Call h = inr (λ k. refl, omega arith)
early n zero Return h = inl (λ k. and_left (nat_lt k 0) true (le-ltb k 0 (omega arith)))
early n (suc t) Return h = inr (λ k. refl, omega arith)
early n zero Sync h = inl (λ k. and_left (nat_lt k 0) true (le-ltb k 0 (omega arith)))
early n (suc t) Sync h = inr (λ k. refl, omega arith)
early n next (Read l) h = inl (λ k. only_next k next (l % n) h)
early n next (Write l) h = inl (λ k. only_next k next (l % n) h)

-- the records of w were sent whole, and the pending one to the lanes before the next one
pub record IsUnderWay (n : ℕ) (on : ℕ → List (Item Placed)) (w : List Placed) (next : ℕ) (pending : Option Placed) (marked : ℕ) : Type 0 where
  pub some : 0 < n
  pub rising : IsRising (in_hand w pending)
  pub within : (p : Placed) → pending ≡ Some p → next < n
  pub aimed : (p : Placed) → pending ≡ Some p → goes_placed next n p ≡ true
  pub unmarked : (p : Placed) → pending ≡ Some p → marked ≡ 0
  pub sent : AllSent n w next pending marked on

-- the list that was routed
pub record Outcome (n : ℕ) (on : ℕ → List (Item Placed)) (w : List Placed) (pending : Option Placed) : Type 0 where
  pub list : List Placed
  pub routes : Routes n on list
  pub either : (list ≡ w) ⊎ (list ≡ in_hand w pending)

module _ (n : ℕ) (on : ℕ → List (Item Placed)) (w : List Placed) (next marked : ℕ) where
  whole_marked : AllSent n w next None marked on → (k : ℕ) → k < n → has_mark (on k) ≡ true → on k ≡ map One (share k n w) ++ Finish ∷ []
  whole_marked all k l h =
      all k l
      ∙ ap₂ (λ (xs : List Placed) (ms : List (Item Placed)). map One xs ++ ms) (append-nil (share k n w))
      (cond-true (nat_lt k marked) (Finish ∷ []) [] (sym (has_mark-sent n on w next None marked all k l) ∙ h))

  outcome-none : IsUnderWay n on w next None marked → Outcome n on w None
  outcome-none s = record {
    list = w;
    routes = routes_whole n on w s.some (λ k l. records-sent n on w next None marked s.sent k l ∙ append-nil (share k n w)) (subst IsRising (append-nil w) s.rising) (whole_marked s.sent);
    either = inl refl;
  }

  no_mark : (p : Placed) → IsUnderWay n on w next (Some p) marked → (k : ℕ) → k < n → has_mark (on k) ≡ false
  no_mark p s k l = has_mark-sent n on w next (Some p) marked s.sent k l ∙ le-ltb k marked (omega (arith, s.unmarked p refl))

  outcome-some : (p : Placed) → IsUnderWay n on w next (Some p) marked → Outcome n on w (Some p)
  outcome-some p s =
      let sent : (k : ℕ) → k < n → records (on k) ≡ share k n w ++ portion k n next (Some p) = records-sent n on w next (Some p) marked s.sent in
      ⊎_elim
      (λ (none : (k : ℕ) → (nat_lt k next && goes k n p.what) ≡ false). record {
        list = w;
        routes =
            routes_whole n on w s.some
            (λ k l. sent k l ∙ ap (λ (x : List Placed). share k n w ++ x) (cond-false (nat_lt k next && goes_placed k n p) (p ∷ []) [] (none k)) ∙ append-nil (share k n w))
            (rising_front w (p ∷ []) s.rising) (λ k l h. absurd (true≢false (sym h ∙ no_mark p s k l)));
        either = inl refl;
      })
      (λ (all : ((k : ℕ) → goes k n p.what ≡ true) × (0 < next)). record {
        list = w ++ p ∷ [];
        routes =
            routes_begun n on w next p s.rising all.0 all.1 (s.within p refl)
            (λ k x. sent k (omega (arith, s.within p refl)) ∙ ap (λ (x : List Placed). share k n w ++ x) (cond-true (nat_lt k next && goes_placed k n p) (p ∷ []) [] (and_from (nat_lt k next) (goes_placed k n p) (lt-ltb k next x) (all.0 k))))
            (λ k x l. sent k l ∙ ap (λ (x : List Placed). share k n w ++ x) (cond-false (nat_lt k next && goes_placed k n p) (p ∷ []) [] (and_left (nat_lt k next) (goes_placed k n p) (le-ltb k next x))) ∙ append-nil (share k n w))
            (no_mark p s);
        either = inr refl;
      }) (early n next p.what (s.aimed p refl))

pub outcome : (n : ℕ) (on : ℕ → List (Item Placed)) (w : List Placed) (next : ℕ) (pending : Option Placed) (marked : ℕ) → IsUnderWay n on w next pending marked → Outcome n on w pending
outcome n on w next None marked s = outcome-none n on w next marked s
outcome n on w next (Some p) marked s = outcome-some n on w next marked p s

-- of the one list that was routed
pub routes_of : (n : ℕ) (on : ℕ → List (Item Placed)) (w u : List Placed) (pending : Option Placed) → Outcome n on w pending → IsRouted n on u → Routes n on u
routes_of n on w u pending o iu = subst (Routes n on) (sym (only_one n on o.list u o.routes.routed iu)) o.routes

pub has_routed : (n : ℕ) (on : ℕ → List (Item Placed)) (w v : List Placed) (pending : Option Placed) → Outcome n on w pending → IsBeginning (in_hand w pending) v → HasRouted n on v
has_routed n on w v pending o (more, e) = record {
  list = o.list;
  routed = o.routes.routed;
  only = λ u iu. only_one n on o.list u o.routes.routed iu;
  front = let Front : List Placed → Type 0 = λ l. IsBeginning l v in
      ⊎_elim (λ (h : o.list ≡ w). subst Front (sym h) (option_to_list pending ++ more, e ∙ append_assoc w (option_to_list pending) more))
      (λ (h : o.list ≡ in_hand w pending). subst Front (sym h) (more, e)) o.either;
}

-- that list is what was sent whole, or that and the pending record
pub list_of : (n : ℕ) (on : ℕ → List (Item Placed)) (w u : List Placed) (pending : Option Placed) → Outcome n on w pending → IsRouted n on u → (u ≡ w) ⊎ (u ≡ in_hand w pending)
list_of n on w u pending o iu =
    let same : u ≡ o.list = only_one n on o.list u o.routes.routed iu in
    ⊎_elim (λ (h : o.list ≡ w). inl (same ∙ h)) (λ (h : o.list ≡ in_hand w pending). inr (same ∙ h)) o.either
