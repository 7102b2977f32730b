-- What a router has sent so far is a beginning of all that is sent, and a step sends one item more.
use Rattle.route.proofs.Common.{◌≡◌, ℕ, zero, suc, ◌+◌, ◌<◌, ◌≤◌, ◌==◌, ◌⊎◌, inl, inr, ⊎_elim, Bool, true, false, true≢false, cond, ◌&&◌, nat_lt, List, [], ◌∷◌, ◌++◌, drop, map, filter, Option, Some, None, refl, sym, ap, ap₂, subst, ◌∙◌, append_assoc, append-nil, arith, range_with_len, flat_map, lt-ltb, le-ltb, cond-true, cond-false, eqb-true, cases_lt, map-append, take-append-drop, take-map-range_with_len, map-range_with_len_more, Item, One, Finish, IsBeginning, Record, Spawn, Call, Return, Sync, Read, Write, Placed, goes, goes_placed, share, first_lane, portion, mark_of, sent_whole, in_hand, Event, put, of_lane, lanes_for, sending_of, sending, put_event, begun, first_marks, sent_so_far}
use Rattle.std.proofs.lemmas.Grind.{flat_map-append}
use Rattle.route.proofs.RunFronts.{Sends, of_lane-append, of_sending, on_first}

abbrev on_lane : Item Placed → ℕ → ℕ × Item Placed
on_lane x k = (k, x)

-- the puts on the lanes before lane t
abbrev before : ℕ → Sends → Sends
before t s = filter (λ e. nat_lt e.0 t) s

-- of one item on m lanes from a on
none_before : (x : Item Placed) (t a m : ℕ) → t ≤ a → before t (map (on_lane x) (range_with_len a m)) ≡ []
none_before x t a zero h = refl
none_before x t a (suc m) h =
    let rest : Sends = before t (map (on_lane x) (range_with_len (a + 1) m)) in
    cond-false (nat_lt a t) ((a, x) ∷ rest) rest (le-ltb a t h) ∙ none_before x t (a + 1) m (omega arith)

first_before : (x : Item Placed) (a t m : ℕ) → t ≤ m → before (a + t) (map (on_lane x) (range_with_len a m)) ≡ map (on_lane x) (range_with_len a t)
first_before x a zero m h = none_before x (a + 0) a m (omega arith)
first_before x a (suc t) zero h = absurd (omega arith)
first_before x a (suc t) (suc m) h =
    let rest : Sends = before (a + suc t) (map (on_lane x) (range_with_len (a + 1) m)) in
    let next : a + suc t ≡ a + 1 + t = omega arith in
    cond-true (nat_lt a (a + suc t)) ((a, x) ∷ rest) rest (lt-ltb a (a + suc t) (omega arith))
    ∙ ap (λ (l : Sends). (a, x) ∷ l) (ap (λ (i : ℕ). before i (map (on_lane x) (range_with_len (a + 1) m))) next ∙ first_before x (a + 1) t m (omega arith))

before_all : (x : Item Placed) (t n : ℕ) → t ≤ n → before t (map (on_lane x) (range_with_len 0 n)) ≡ map (on_lane x) (range_with_len 0 t)
before_all x t n h =
    let at : t ≡ 0 + t = omega arith in
    ap (λ (i : ℕ). before i (map (on_lane x) (range_with_len 0 n))) at ∙ first_before x 0 t n h

-- one item on n lanes, cut behind the first t
all_cut : (x : Item Placed) (t n : ℕ) → t ≤ n → map (on_lane x) (range_with_len 0 n) ≡ map (on_lane x) (range_with_len 0 t) ++ drop t (map (on_lane x) (range_with_len 0 n))
all_cut x t n h =
    let all : Sends = map (on_lane x) (range_with_len 0 n) in
    sym (take-append-drop t all) ∙ ap (λ (l : Sends). l ++ drop t all) (take-map-range_with_len (on_lane x) 0 n t h)

-- a record goes to all lanes, or to one
abbrev ToAll : ℕ → Record → Type 0
ToAll n r = (lanes_for n r ≡ range_with_len 0 n) × (first_lane n r ≡ 0) × ((k : ℕ) → goes k n r ≡ true)

abbrev ToOne : ℕ → Record → Type 0
ToOne n r = (lanes_for n r ≡ first_lane n r ∷ []) × ((k : ℕ) → goes k n r ≡ (first_lane n r == k))

to_all_or_one : (n : ℕ) (r : Record) → ToAll n r ⊎ ToOne n r
to_all_or_one n Spawn = inl (refl, refl, λ k. refl)
to_all_or_one n Call = inl (refl, refl, λ k. refl)
to_all_or_one n Return = inl (refl, refl, λ k. refl)
to_all_or_one n Sync = inl (refl, refl, λ k. refl)
to_all_or_one n (Read l) = inr (refl, λ k. refl)
to_all_or_one n (Write l) = inr (refl, λ k. refl)

-- nothing was begun where the first lane is the next one
begun_none : (n : ℕ) (p : Placed) → begun n (Some p) (first_lane n p.what) ≡ []
begun_none n p =
    let None : List ℕ → Type 0 = λ ks. before (first_lane n p.what) (map (on_lane (One p)) ks) ≡ [] in
    ⊎_elim (λ (a : ToAll n p.what). subst None (sym a.0) (none_before (One p) (first_lane n p.what) 0 n (omega (arith, a.1))))
    (λ (o : ToOne n p.what). let j : ℕ = first_lane n p.what in subst None (sym o.0) (cond-false (nat_lt j j) ((j, One p) ∷ []) [] (le-ltb j j (omega arith)))) (to_all_or_one n p.what)

either_front : (b : Bool) (e : ℕ × Item Placed) → IsBeginning (cond b (e ∷ []) []) (e ∷ [])
either_front true e = ([], refl)
either_front false e = (e ∷ [], refl)

-- what was begun is a beginning
begun_front : (n t : ℕ) (p : Placed) → t ≤ n → IsBeginning (begun n (Some p) t) (sending_of n p)
begun_front n t p h =
    let Front : List ℕ → Type 0 = λ ks. IsBeginning (before t (map (on_lane (One p)) ks)) (map (on_lane (One p)) ks) in
    ⊎_elim
    (λ (a : ToAll n p.what). let all : Sends = map (on_lane (One p)) (range_with_len 0 n) in
    subst Front (sym a.0) (drop t all, all_cut (One p) t n h ∙ ap (λ (l : Sends). l ++ drop t all) (sym (before_all (One p) t n h))))
    (λ (o : ToOne n p.what). subst Front (sym o.0) (either_front (nat_lt (first_lane n p.what) t) (first_lane n p.what, One p))) (to_all_or_one n p.what)

-- the record goes to lane t and to the next
begun_next : (n t : ℕ) (p : Placed) → t + 1 < n → goes_placed t n p ≡ true → goes_placed (t + 1) n p ≡ true → begun n (Some p) (t + 1) ≡ begun n (Some p) t ++ (t, One p) ∷ []
begun_next n t p h here there =
    let More : List ℕ → Type 0 = λ ks. before (t + 1) (map (on_lane (One p)) ks) ≡ before t (map (on_lane (One p)) ks) ++ (t, One p) ∷ [] in
    ⊎_elim
    (λ (a : ToAll n p.what). subst More (sym a.0)
    (before_all (One p) (t + 1) n (omega arith) ∙ map-range_with_len_more (on_lane (One p)) 0 t t (omega arith) ∙ ap (λ (l : Sends). l ++ (t, One p) ∷ []) (sym (before_all (One p) t n (omega arith)))))
    (λ (o : ToOne n p.what). let a : first_lane n p.what ≡ t = eqb-true (first_lane n p.what) t (sym (o.1 t) ∙ here) in
    let b : first_lane n p.what ≡ t + 1 = eqb-true (first_lane n p.what) (t + 1) (sym (o.1 (t + 1)) ∙ there) in absurd (omega arith)) (to_all_or_one n p.what)

-- lane t is the last that the record goes to
begun_last : (n t : ℕ) (p : Placed) → t < n → goes_placed t n p ≡ true → ((k : ℕ) → t < k → k < n → goes_placed k n p ≡ false) → sending_of n p ≡ begun n (Some p) t ++ (t, One p) ∷ []
begun_last n t p h here last =
    let Last : List ℕ → Type 0 = λ ks. map (on_lane (One p)) ks ≡ before t (map (on_lane (One p)) ks) ++ (t, One p) ∷ [] in
    ⊎_elim
    (λ (a : ToAll n p.what).
    let none : n ≤ t + 1 = ⊎_elim (λ (l : t + 1 < n). absurd (true≢false (sym (a.2 (t + 1)) ∙ last (t + 1) (omega arith) l))) (λ (l : n ≤ t + 1). l) (cases_lt (t + 1) n) in
    let count : n ≡ t + 1 = omega arith in
    subst Last (sym a.0)
    (ap (λ (i : ℕ). map (on_lane (One p)) (range_with_len 0 i)) count ∙ map-range_with_len_more (on_lane (One p)) 0 t t (omega arith) ∙ ap (λ (l : Sends). l ++ (t, One p) ∷ []) (sym (before_all (One p) t n (omega arith)))))
    (λ (o : ToOne n p.what). let j : ℕ = first_lane n p.what in let at : j ≡ t = eqb-true j t (sym (o.1 t) ∙ here) in
    subst Last (sym o.0)
    (ap (λ (i : ℕ). (i, One p) ∷ []) at ∙ ap (λ (l : Sends). l ++ (t, One p) ∷ []) (sym (cond-false (nat_lt j t) ((j, One p) ∷ []) [] (le-ltb j t (omega arith)))))) (to_all_or_one n p.what)

at_none : (S B R F G : Sends) → F ≡ [] → (S ++ (B ++ R)) ++ G ≡ (S ++ (B ++ F)) ++ (R ++ G)
at_none S B R F G none =
    ap (λ (l : Sends). l ++ G) (sym (append_assoc S B R)) ∙ append_assoc (S ++ B) R G
    ∙ ap (λ (l : Sends). (S ++ l) ++ (R ++ G)) (sym (ap (λ (l : Sends). B ++ l) none ∙ append-nil B))

no_marks : (m : ℕ) → m ≡ 0 → first_marks m ≡ []
no_marks m h = ap first_marks h

-- what was sent so far is a beginning of all that is sent
pub sent_front : (n : ℕ) (w : List Placed) (pending : Option Placed) (t m : ℕ) → t ≤ n → m ≤ n → ((p : Placed) → pending ≡ Some p → m ≡ 0) → IsBeginning (sent_so_far n w pending t m) (sending n (in_hand w pending))
sent_front n w None t m next marked none =
    let S : Sends = flat_map (sending_of n) w in
    (drop m (first_marks n), ap (sending n) (append-nil w) ∙ ap (λ (l : Sends). S ++ l) (all_cut Finish m n marked) ∙ sym (append_assoc S (first_marks m) (drop m (first_marks n))))
sent_front n w (Some p) t m next marked none =
    let S : Sends = flat_map (sending_of n) w in
    let f = begun_front n t p next in
    let whole : flat_map (sending_of n) (w ++ p ∷ []) ≡ S ++ (begun n (Some p) t ++ f.0) = flat_map-append (sending_of n) w (p ∷ []) ∙ ap (λ (l : Sends). S ++ l) (append-nil (sending_of n p) ∙ f.1) in
    (f.0 ++ first_marks n, ap (λ (l : Sends). l ++ first_marks n) whole ∙ at_none S (begun n (Some p) t) f.0 (first_marks m) (first_marks n) (no_marks m (none p refl)))

with_first : (b : Bool) (p : Placed) (l : List Placed) → cond b (One p ∷ []) [] ++ map One l ≡ map One (cond b (p ∷ l) l)
with_first true p l = refl
with_first false p l = refl

-- on a lane stands its share of what was sent whole
of_records : (n k : ℕ) (w : List Placed) → k < n → of_lane k (flat_map (sending_of n) w) ≡ map One (share k n w)
of_records n k [] l = refl
of_records n k (p ∷ w) l =
    of_lane-append k (sending_of n p) (flat_map (sending_of n) w) ∙ ap₂ (λ (a b : List (Item Placed)). a ++ b) (of_sending n k p.place p.what l) (of_records n k w l) ∙ with_first (goes_placed k n p) p (share k n w)

put_on_lane : (b : Bool) (k : ℕ) (e : ℕ × Item Placed) (l : Sends) → of_lane k (cond b (e ∷ l) l) ≡ cond (b && (e.0 == k)) (e.1 ∷ of_lane k l) (of_lane k l)
put_on_lane true k e l = refl
put_on_lane false k e l = refl

both_or_none : (b c d : Bool) (x : Item Placed) (l : List (Item Placed)) → (c ≡ true → b ≡ d) → cond (b && c) (x ∷ cond d l []) (cond d l []) ≡ cond d (cond c (x ∷ l) l) []
both_or_none true true true x l h = refl
both_or_none true true false x l h = absurd (true≢false (h refl))
both_or_none false true true x l h = absurd (true≢false (sym (h refl)))
both_or_none false true false x l h = refl
both_or_none true false d x l h = refl
both_or_none false false d x l h = refl

same_both : (b : Bool) → cond {A = List (Item Placed)} b [] [] ≡ []
same_both true = refl
same_both false = refl

-- and of the puts before lane t all or none
of_before : (t k : ℕ) (s : Sends) → of_lane k (before t s) ≡ cond (nat_lt k t) (of_lane k s) []
of_before t k [] = sym (same_both (nat_lt k t))
of_before t k (e ∷ s) =
    put_on_lane (nat_lt e.0 t) k e (before t s)
    ∙ ap (λ (l : List (Item Placed)). cond (nat_lt e.0 t && (e.0 == k)) (e.1 ∷ l) l) (of_before t k s)
    ∙ both_or_none (nat_lt e.0 t) (e.0 == k) (nat_lt k t) e.1 (of_lane k s) (λ h. ap (λ (i : ℕ). nat_lt i t) (eqb-true e.0 k h))

one_portion : (a b : Bool) (p : Placed) → cond a (cond b (One p ∷ []) []) [] ≡ map One (cond (a && b) (p ∷ []) [])
one_portion true true p = refl
one_portion true false p = refl
one_portion false b p = refl

of_begun : (n k t : ℕ) (pending : Option Placed) → k < n → of_lane k (begun n pending t) ≡ map One (portion k n t pending)
of_begun n k t None l = refl
of_begun n k t (Some p) l =
    of_before t k (sending_of n p) ∙ ap (λ (xs : List (Item Placed)). cond (nat_lt k t) xs []) (of_sending n k p.place p.what l) ∙ one_portion (nat_lt k t) (goes_placed k n p) p

three : (a b c : List (Item Placed)) (xs ys : List Placed) (ms : List (Item Placed)) → a ≡ map One xs → b ≡ map One ys → c ≡ ms → a ++ (b ++ c) ≡ map One (xs ++ ys) ++ ms
three a b c xs ys ms ea eb ec =
    ap₂ (λ (l m : List (Item Placed)). l ++ m) ea (ap₂ (λ (l m : List (Item Placed)). l ++ m) eb ec) ∙ sym (append_assoc (map One xs) (map One ys) ms) ∙ ap (λ (l : List (Item Placed)). l ++ ms) (sym (map-append One xs ys))

-- what was sent so far, on a lane
pub sent_on : (n k : ℕ) (w : List Placed) (pending : Option Placed) (t m : ℕ) → k < n → of_lane k (sent_so_far n w pending t m) ≡ map One (share k n w ++ portion k n t pending) ++ mark_of k m
sent_on n k w pending t m l =
    let S : Sends = flat_map (sending_of n) w in
    let B : Sends = begun n pending t in
    of_lane-append k S (B ++ first_marks m) ∙ ap (λ (xs : List (Item Placed)). of_lane k S ++ xs) (of_lane-append k B (first_marks m))
    ∙ three (of_lane k S) (of_lane k B) (of_lane k (first_marks m)) (share k n w) (portion k n t pending) (mark_of k m) (of_records n k w l) (of_begun n k t pending l) (on_first Finish k m)

-- a put of the pending record adds one event at the end
one_event : (S B M : Sends) (k : ℕ) (x : Item Placed) → M ≡ [] → map put_event (S ++ ((B ++ (k, x) ∷ []) ++ M)) ≡ map put_event (S ++ (B ++ M)) ++ put k x ∷ []
one_event S B M k x none =
    ap (λ (l : Sends). map put_event (S ++ ((B ++ (k, x) ∷ []) ++ l))) none ∙ ap (λ (l : Sends). map put_event (S ++ l)) (append-nil (B ++ (k, x) ∷ []))
    ∙ ap (map put_event) (sym (append_assoc S B ((k, x) ∷ []))) ∙ map-append put_event (S ++ B) ((k, x) ∷ [])
    ∙ ap (λ (l : Sends). map put_event (S ++ l) ++ put k x ∷ []) (sym (ap (λ (l : Sends). B ++ l) none ∙ append-nil B))

-- what was sent so far, an event each
abbrev pub events_so_far : ℕ → List Placed → Option Placed → ℕ → ℕ → List Event
events_so_far n w pending t m = map put_event (sent_so_far n w pending t m)

pub event-next : (n : ℕ) (w : List Placed) (p : Placed) (t m : ℕ) → m ≡ 0 → t + 1 < n → goes_placed t n p ≡ true → goes_placed (t + 1) n p ≡ true → events_so_far n w (Some p) (t + 1) m ≡ events_so_far n w (Some p) t m ++ put t (One p) ∷ []
event-next n w p t m none within here there =
    let S : Sends = flat_map (sending_of n) w in
    ap (λ (l : Sends). map put_event (S ++ (l ++ first_marks m))) (begun_next n t p within here there) ∙ one_event S (begun n (Some p) t) (first_marks m) t (One p) (no_marks m none)

pub event-last : (n : ℕ) (w : List Placed) (p : Placed) (t m : ℕ) → m ≡ 0 → t < n → goes_placed t n p ≡ true → ((k : ℕ) → t < k → k < n → goes_placed k n p ≡ false) → events_so_far n (w ++ p ∷ []) None t m ≡ events_so_far n w (Some p) t m ++ put t (One p) ∷ []
event-last n w p t m none within here last =
    let S : Sends = flat_map (sending_of n) w in
    let whole : flat_map (sending_of n) (w ++ p ∷ []) ≡ S ++ (begun n (Some p) t ++ (t, One p) ∷ []) = flat_map-append (sending_of n) w (p ∷ []) ∙ ap (λ (l : Sends). S ++ l) (append-nil (sending_of n p) ∙ begun_last n t p within here last) in
    ap (λ (l : Sends). map put_event (l ++ first_marks m)) whole ∙ ap (map put_event) (append_assoc S (begun n (Some p) t ++ (t, One p) ∷ []) (first_marks m)) ∙ one_event S (begun n (Some p) t) (first_marks m) t (One p) (no_marks m none)

-- a mark adds one event too, and a record that is offered none
pub event-mark : (n : ℕ) (w : List Placed) (t m : ℕ) → events_so_far n w None t (m + 1) ≡ events_so_far n w None t m ++ put m Finish ∷ []
event-mark n w t m =
    let S : Sends = flat_map (sending_of n) w in
    ap (λ (l : Sends). map put_event (S ++ l)) (map-range_with_len_more (on_lane Finish) 0 m m (omega arith)) ∙ ap (map put_event) (sym (append_assoc S (first_marks m) ((m, Finish) ∷ []))) ∙ map-append put_event (S ++ first_marks m) ((m, Finish) ∷ [])

pub event-offer : (n : ℕ) (w : List Placed) (p : Placed) (t m : ℕ) → events_so_far n w (Some p) (first_lane n p.what) m ≡ events_so_far n w None t m
event-offer n w p t m = ap (λ (l : Sends). map put_event (flat_map (sending_of n) w ++ (l ++ first_marks m))) (begun_none n p)

-- a record that is sent whole adds its puts, and a pending one those that were begun
pub all_events : (n : ℕ) (w : List Placed) (p : Placed) (t u : ℕ) → events_so_far n (w ++ p ∷ []) None t 0 ≡ events_so_far n w None u 0 ++ map put_event (sending_of n p)
all_events n w p t u =
    let S : Sends = flat_map (sending_of n) w in
    ap (map put_event) (append-nil (flat_map (sending_of n) (w ++ p ∷ [])) ∙ flat_map-append (sending_of n) w (p ∷ []) ∙ ap (λ (l : Sends). S ++ l) (append-nil (sending_of n p)))
    ∙ map-append put_event S (sending_of n p) ∙ ap (λ (l : Sends). map put_event l ++ map put_event (sending_of n p)) (sym (append-nil S))

pub begun_events : (n : ℕ) (w : List Placed) (p : Placed) (t u : ℕ) → events_so_far n w (Some p) t 0 ≡ events_so_far n w None u 0 ++ map put_event (begun n (Some p) t)
begun_events n w p t u =
    let S : Sends = flat_map (sending_of n) w in
    ap (λ (l : Sends). map put_event (S ++ l)) (append-nil (begun n (Some p) t)) ∙ map-append put_event S (begun n (Some p) t)
    ∙ ap (λ (l : Sends). map put_event l ++ map put_event (begun n (Some p) t)) (sym (append-nil S))

pub events-same : (w : List Placed) (n o : ℕ) (p q : Option Placed) (t u m l : ℕ) → n ≡ o → p ≡ q → t ≡ u → m ≡ l → events_so_far n w p t m ≡ events_so_far o w q u l
events-same w n o p q t u m l count pending next marked =
    ap (λ (x : ℕ). events_so_far x w p t m) count ∙ ap (λ (x : Option Placed). events_so_far o w x t m) pending ∙ ap (λ (x : ℕ). events_so_far o w q x m) next ∙ ap (λ (x : ℕ). events_so_far o w q u x) marked

-- the same, as a step finds them
pub step_event-next : (old new n : ℕ) (w : List Placed) (pending : Option Placed) (p : Placed) (t j m : ℕ) → pending ≡ Some p → new ≡ n → old ≡ n → j ≡ t + 1 → m ≡ 0 → j < n → goes_placed t n p ≡ true → goes_placed j n p ≡ true
    → events_so_far new (sent_whole w pending pending) pending j m ≡ events_so_far old w pending t m ++ put t (One p) ∷ []
step_event-next old new n w pending p t j m some after before next none within here there =
    let P : Option Placed → Type 0 = λ o. events_so_far new (sent_whole w o o) o j m ≡ events_so_far old w o t m ++ put t (One p) ∷ [] in
    let Goes : ℕ → Type 0 = λ k. goes_placed k n p ≡ true in
    subst P (sym some)
    (events-same w new n (Some p) (Some p) j (t + 1) m m after refl next refl ∙ event-next n w p t m none (omega arith) here (subst Goes next there)
    ∙ ap (λ (l : List Event). l ++ put t (One p) ∷ []) (events-same w n old (Some p) (Some p) t t m m (sym before) refl refl refl))

pub step_event-last : (old new n : ℕ) (w : List Placed) (pending : Option Placed) (p : Placed) (t m : ℕ) → pending ≡ Some p → new ≡ n → old ≡ n → m ≡ 0 → t < n → goes_placed t n p ≡ true → ((k : ℕ) → t < k → k < n → goes_placed k n p ≡ false)
    → events_so_far new (sent_whole w pending None) None t m ≡ events_so_far old w pending t m ++ put t (One p) ∷ []
step_event-last old new n w pending p t m some after before none within here last =
    let P : Option Placed → Type 0 = λ o. events_so_far new (sent_whole w o None) None t m ≡ events_so_far old w o t m ++ put t (One p) ∷ [] in
    subst P (sym some)
    (events-same (w ++ p ∷ []) new n None None t t m m after refl refl refl ∙ event-last n w p t m none within here last
    ∙ ap (λ (l : List Event). l ++ put t (One p) ∷ []) (events-same w n old (Some p) (Some p) t t m m (sym before) refl refl refl))

pub step_event-mark : (old new : ℕ) (w : List Placed) (pending : Option Placed) (t m : ℕ) → pending ≡ None → new ≡ old → events_so_far new w pending t (m + 1) ≡ events_so_far old w pending t m ++ put m Finish ∷ []
step_event-mark old new w pending t m none count =
    let P : Option Placed → Type 0 = λ o. events_so_far new w o t (m + 1) ≡ events_so_far old w o t m ++ put m Finish ∷ [] in
    subst P (sym none) (events-same w new old None None t t (m + 1) (m + 1) count refl refl refl ∙ event-mark old w t m)

pub step_event-offer : (n : ℕ) (w : List Placed) (pending : Option Placed) (p : Placed) (t j m : ℕ) → pending ≡ None → j ≡ first_lane n p.what → events_so_far n w (Some p) j m ≡ events_so_far n w pending t m
step_event-offer n w pending p t j m none next =
    events-same w n n (Some p) (Some p) j (first_lane n p.what) m m refl refl next refl ∙ event-offer n w p t m ∙ events-same w n n None pending t t m m refl (sym none) refl refl
