-- What stands on the lanes after a put.
use Rattle.route.proofs.Common.{◌≡◌, ℕ, ◌+◌, ◌%◌, ◌<◌, ◌≤◌, Bool, true, false, cond, ◌&&◌, nat_lt, List, [], ◌∷◌, ◌++◌, length, map, refl, sym, ap, subst, ◌∙◌, Option, Some, None, append-nil, ◌⊎◌, ⊎_elim, arith, cases_eq, cases_order, lt-ltb, le-ltb, eq-eqb, ne_eqb, cond-true, cond-false, and_left, mod-lt, length-set, get_or-set_same, get_or-set_other, map-append, Item, One, Finish, has_mark, has_mark_more, Placed, Record, Spawn, Call, Return, Sync, Read, Write, goes, goes_placed, share, share-push, first_lane, put_on, with_put, portion, mark_of, AllSent, sent_whole, HaveMarks}

abbrev pub Items : Type 0
Items = List (Item Placed)

-- the same of a list of put lists, a lane each
abbrev pub OnPuts : List Placed → ℕ → Option Placed → ℕ → List Items → Type 0
OnPuts w next pending marked puts = AllSent (length puts) w next pending marked (put_on puts)

-- one of two different numbers is the lesser
apart : (k i : ℕ) → (k ≡ i → ⊥) → (k < i) ⊎ (i < k)
apart k i e = ⊎_elim (λ (x : k ≡ i). absurd (e x)) (λ (x : (k < i) ⊎ (i < k)). x) (cases_order k i)

-- every lane holds some fact after one more item on one of them
pub each_after : (P : ℕ → Items → Type 0) (puts : List Items) (i : ℕ) (x : Item Placed) → i < length puts → P i (put_on puts i ++ x ∷ [])
    → ((k : ℕ) → (k ≡ i → ⊥) → k < length puts → P k (put_on puts k)) → (k : ℕ) → k < length (with_put puts i x) → P k (put_on (with_put puts i x) k)
each_after P puts i x h here others k l =
    let within : k < length puts = omega (arith, length-set puts i (put_on puts i ++ x ∷ [])) in
    ⊎_elim
    (λ (e : k ≡ i). let Q : ℕ → Type 0 = λ j. P j (put_on (with_put puts i x) j) in
    subst Q (sym e) (subst (P i) (sym (get_or-set_same puts i (put_on puts i ++ x ∷ []) [] h)) here))
    (λ (e : k ≡ i → ⊥). subst (P k) (sym (get_or-set_other puts i k (put_on puts i ++ x ∷ []) [] e)) (others k e within)) (cases_eq k i)

-- what a lane has of the pending record
portion-before : (k n i : ℕ) (p : Placed) → k < i → portion k n i (Some p) ≡ cond (goes_placed k n p) (p ∷ []) []
portion-before k n i p h = ap (λ (b : Bool). cond (b && goes_placed k n p) (p ∷ []) []) (lt-ltb k i h)

portion-from : (k n i : ℕ) (p : Placed) → i ≤ k → portion k n i (Some p) ≡ []
portion-from k n i p h = cond-false (nat_lt k i && goes_placed k n p) (p ∷ []) [] (and_left (nat_lt k i) (goes_placed k n p) (le-ltb k i h))

pub mark_of-from : (k m : ℕ) → m ≤ k → mark_of k m ≡ []
mark_of-from k m h = cond-false (nat_lt k m) (Finish ∷ []) [] (le-ltb k m h)

-- nor of a record before its first lane
portion-first : (k n i : ℕ) (p : Placed) → ((j : ℕ) → j < i → goes_placed j n p ≡ false) → portion k n i (Some p) ≡ []
portion-first k n i p none = ⊎_elim (λ (e : k ≡ i). portion-from k n i p (omega (arith, e)))
    (λ (x : (k < i) ⊎ (i < k)). ⊎_elim (λ (h : k < i). portion-before k n i p h ∙ cond-false (goes_placed k n p) (p ∷ []) [] (none k h)) (λ (h : i < k). portion-from k n i p (omega (arith, h))) x) (cases_order k i)

mark_of-before : (k m : ℕ) → k < m → mark_of k m ≡ Finish ∷ []
mark_of-before k m h = cond-true (nat_lt k m) (Finish ∷ []) [] (lt-ltb k m h)

-- records join the records where no mark stands
add_all : (xs ys us : List Placed) (marks : Items) → marks ≡ [] → xs ++ us ≡ ys → (map One xs ++ marks) ++ map One us ≡ map One ys ++ marks
add_all xs ys us marks none e =
    let P : Items → Type 0 = λ ms. (map One xs ++ ms) ++ map One us ≡ map One ys ++ ms in
    subst P (sym none) (ap (λ (l : Items). l ++ map One us) (append-nil (map One xs)) ∙ sym (map-append One xs us) ∙ ap (map One) e ∙ sym (append-nil (map One ys)))

same_records : (xs ys : List Placed) (marks : Items) (l : Items) → l ≡ map One xs ++ marks → xs ≡ ys → l ≡ map One ys ++ marks
same_records xs ys marks l h e = h ∙ ap (λ (zs : List Placed). map One zs ++ marks) e

-- the pending record was put on the next lane, and another one is next
pub sent-next : (puts : List Items) (w : List Placed) (i : ℕ) (p : Placed) (m : ℕ) → m ≡ 0 → i < length puts → goes_placed i (length puts) p ≡ true → OnPuts w i (Some p) m puts → OnPuts w (i + 1) (Some p) m (with_put puts i (One p))
sent-next puts w i p m none h goes all =
    let n : ℕ = length puts in
    let P : ℕ → Items → Type 0 = λ k l. l ≡ map One (share k n w ++ portion k n (i + 1) (Some p)) ++ mark_of k m in
    let here : P i (put_on puts i ++ One p ∷ []) =
    ap (λ (l : Items). l ++ One p ∷ []) (all i h)
    ∙ add_all (share i n w ++ portion i n i (Some p)) (share i n w ++ portion i n (i + 1) (Some p)) (p ∷ []) (mark_of i m) (mark_of-from i m (omega arith))
    (ap (λ (l : List Placed). (share i n w ++ l) ++ p ∷ []) (portion-from i n i p (omega arith)) ∙ ap (λ (l : List Placed). l ++ p ∷ []) (append-nil (share i n w))
    ∙ ap (λ (l : List Placed). share i n w ++ l) (sym (portion-before i n (i + 1) p (omega arith) ∙ cond-true (goes_placed i n p) (p ∷ []) [] goes))) in
    let others : (k : ℕ) → (k ≡ i → ⊥) → k < n → P k (put_on puts k) =
    λ k e l. same_records _ _ _ _ (all k l) (ap (λ (x : List Placed). share k n w ++ x) (⊎_elim (λ (x : k < i). portion-before k n i p x ∙ sym (portion-before k n (i + 1) p (omega arith)))
    (λ (x : i < k). portion-from k n i p (omega arith) ∙ sym (portion-from k n (i + 1) p (omega arith))) (apart k i e))) in
    let Q : ℕ → Type 0 = λ j. (k : ℕ) → k < length (with_put puts i (One p)) → put_on (with_put puts i (One p)) k ≡ map One (share k j w ++ portion k j (i + 1) (Some p)) ++ mark_of k m in
    subst Q (sym (length-set puts i (put_on puts i ++ One p ∷ []))) (each_after P puts i (One p) h here others)

-- it was put on the last lane that it goes to
pub sent-last : (puts : List Items) (w : List Placed) (i : ℕ) (p : Placed) (m : ℕ) → m ≡ 0 → i < length puts → goes_placed i (length puts) p ≡ true → ((k : ℕ) → i < k → k < length puts → goes_placed k (length puts) p ≡ false)
    → OnPuts w i (Some p) m puts → OnPuts (w ++ p ∷ []) i None m (with_put puts i (One p))
sent-last puts w i p m none h goes last all =
    let n : ℕ = length puts in
    let P : ℕ → Items → Type 0 = λ k l. l ≡ map One (share k n (w ++ p ∷ []) ++ []) ++ mark_of k m in
    let whole : (k : ℕ) → share k n w ++ cond (goes_placed k n p) (p ∷ []) [] ≡ share k n (w ++ p ∷ []) ++ [] = λ k. sym (append-nil (share k n (w ++ p ∷ [])) ∙ share-push k n w p) in
    let here : P i (put_on puts i ++ One p ∷ []) =
    ap (λ (l : Items). l ++ One p ∷ []) (all i h)
    ∙ add_all (share i n w ++ portion i n i (Some p)) (share i n (w ++ p ∷ []) ++ []) (p ∷ []) (mark_of i m) (mark_of-from i m (omega arith))
    (ap (λ (l : List Placed). (share i n w ++ l) ++ p ∷ []) (portion-from i n i p (omega arith)) ∙ ap (λ (l : List Placed). l ++ p ∷ []) (append-nil (share i n w))
    ∙ ap (λ (l : List Placed). share i n w ++ l) (sym (cond-true (goes_placed i n p) (p ∷ []) [] goes)) ∙ whole i) in
    let others : (k : ℕ) → (k ≡ i → ⊥) → k < n → P k (put_on puts k) =
    λ k e l. same_records _ _ _ _ (all k l) (ap (λ (x : List Placed). share k n w ++ x) (⊎_elim (λ (x : k < i). portion-before k n i p x)
    (λ (x : i < k). portion-from k n i p (omega arith) ∙ sym (cond-false (goes_placed k n p) (p ∷ []) [] (last k x l))) (apart k i e)) ∙ whole k) in
    let Q : ℕ → Type 0 = λ j. (k : ℕ) → k < length (with_put puts i (One p)) → put_on (with_put puts i (One p)) k ≡ map One (share k j (w ++ p ∷ []) ++ []) ++ mark_of k m in
    subst Q (sym (length-set puts i (put_on puts i ++ One p ∷ []))) (each_after P puts i (One p) h here others)

-- the first lane that a record goes to is one of them, and no lane before it gets the record
pub first_lane_within : (n : ℕ) (r : Record) → 1 ≤ n → first_lane n r < n
first_lane_within n Spawn some = some
first_lane_within n Call some = some
first_lane_within n Return some = some
first_lane_within n Sync some = some
first_lane_within n (Read l) some = mod-lt l some
first_lane_within n (Write l) some = mod-lt l some

pub goes-first_lane : (n : ℕ) (r : Record) → goes (first_lane n r) n r ≡ true
goes-first_lane n Spawn = refl
goes-first_lane n Call = refl
goes-first_lane n Return = refl
goes-first_lane n Sync = refl
goes-first_lane n (Read l) = eq-eqb (l % n) (l % n) refl
goes-first_lane n (Write l) = eq-eqb (l % n) (l % n) refl

goes-before : (n j : ℕ) (r : Record) → j < first_lane n r → goes j n r ≡ false
goes-before n j (Read l) before = ne_eqb (l % n) j (λ e. omega arith)
goes-before n j (Write l) before = ne_eqb (l % n) j (λ e. omega arith)
goes-before n j Spawn before = absurd (omega arith)
goes-before n j Call before = absurd (omega arith)
goes-before n j Return before = absurd (omega arith)
goes-before n j Sync before = absurd (omega arith)

-- a record was offered
pub sent-offer : (puts : List Items) (w : List Placed) (t i m : ℕ) (p : Placed) → i ≡ first_lane (length puts) p.what → OnPuts w t None m puts → OnPuts w i (Some p) m puts
sent-offer puts w t i m p first all =
    let none : (j : ℕ) → j < i → goes_placed j (length puts) p ≡ false = λ j before. goes-before (length puts) j p.what (omega (arith, first, before)) in
    λ k l. all k l ∙ ap (λ (x : List Placed). map One (share k (length puts) w ++ x) ++ mark_of k m) (sym (portion-first k (length puts) i p none))

-- a mark was put
pub sent-mark : (puts : List Items) (w : List Placed) (t m : ℕ) → m < length puts → OnPuts w t None m puts → OnPuts w t None (m + 1) (with_put puts m Finish)
sent-mark puts w t m h all =
    let n : ℕ = length puts in
    let P : ℕ → Items → Type 0 = λ k l. l ≡ map One (share k n w ++ []) ++ mark_of k (m + 1) in
    let here : P m (put_on puts m ++ Finish ∷ []) =
    ap (λ (l : Items). l ++ Finish ∷ []) (all m h ∙ ap (λ (l : Items). map One (share m n w ++ []) ++ l) (mark_of-from m m (omega arith)) ∙ append-nil (map One (share m n w ++ [])))
    ∙ ap (λ (l : Items). map One (share m n w ++ []) ++ l) (sym (mark_of-before m (m + 1) (omega arith))) in
    let others : (k : ℕ) → (k ≡ m → ⊥) → k < n → P k (put_on puts k) =
    λ k e l. all k l ∙ ap (λ (x : Items). map One (share k n w ++ []) ++ x) (⊎_elim (λ (x : k < m). mark_of-before k m x ∙ sym (mark_of-before k (m + 1) (omega (arith, x))))
    (λ (x : m < k). mark_of-from k m (omega (arith, x)) ∙ sym (mark_of-from k (m + 1) (omega (arith, x)))) (apart k m e)) in
    let Q : ℕ → Type 0 = λ j. (k : ℕ) → k < length (with_put puts m Finish) → put_on (with_put puts m Finish) k ≡ map One (share k j w ++ []) ++ mark_of k (m + 1) in
    subst Q (sym (length-set puts m (put_on puts m ++ Finish ∷ []))) (each_after P puts m Finish h here others)

-- the marks after a record was put, and after a mark was
pub marks-one : (puts : List Items) (i : ℕ) (p : Placed) (m : ℕ) → i < length puts → has_mark (put_on puts i) ≡ false → HaveMarks m puts → HaveMarks m (with_put puts i (One p))
marks-one puts i p m h none all =
    let P : ℕ → Items → Type 0 = λ k l. has_mark l ≡ nat_lt k m in
    each_after P puts i (One p) h (has_mark_more (put_on puts i) (One p) none ∙ sym none ∙ all i h) (λ k e l. all k l)

pub marks-finish : (puts : List Items) (m : ℕ) → m < length puts → HaveMarks m puts → HaveMarks (m + 1) (with_put puts m Finish)
marks-finish puts m h all =
    let P : ℕ → Items → Type 0 = λ k l. has_mark l ≡ nat_lt k (m + 1) in
    each_after P puts m Finish h (has_mark_more (put_on puts m) Finish (all m h ∙ le-ltb m m (omega arith)) ∙ sym (lt-ltb m (m + 1) (omega arith)))
    (λ k e l. all k l ∙ ⊎_elim (λ (x : k < m). lt-ltb k m x ∙ sym (lt-ltb k (m + 1) (omega arith))) (λ (x : m < k). le-ltb k m (omega arith) ∙ sym (le-ltb k (m + 1) (omega arith))) (apart k m e))

pub unmarked_at : (puts : List Items) (m k : ℕ) → m ≤ k → k < length puts → HaveMarks m puts → has_mark (put_on puts k) ≡ false
unmarked_at puts m k le h all = all k h ∙ le-ltb k m le

-- the same two, as a step finds them
pub step-next : (old new : List Items) (w : List Placed) (pending : Option Placed) (p : Placed) (n i j m : ℕ) → pending ≡ Some p → new ≡ with_put old i (One p) → n ≡ length old → j ≡ i + 1 → m ≡ 0 → i < n → goes_placed i n p ≡ true
    → OnPuts w i pending m old → OnPuts (sent_whole w pending pending) j pending m new
step-next old new w pending p n i j m some put count after none h goes all =
    let N : ℕ → Type 0 = λ x. goes_placed i x p ≡ true in
    let P : Option Placed → Type 0 = λ o. OnPuts w i o m old → OnPuts (sent_whole w o o) j o m new in
    let Q : ℕ → Type 0 = λ x. OnPuts w x (Some p) m new in
    let R : List Items → Type 0 = λ ps. OnPuts w (i + 1) (Some p) m ps in
    subst P (sym some) (λ a. subst Q (sym after) (subst R (sym put) (sent-next old w i p m none (omega arith) (subst N count goes) a))) all

pub step-last : (old new : List Items) (w : List Placed) (pending : Option Placed) (p : Placed) (n i m : ℕ) → pending ≡ Some p → new ≡ with_put old i (One p) → n ≡ length old → m ≡ 0 → i < n → goes_placed i n p ≡ true
    → ((k : ℕ) → i < k → k < n → goes_placed k n p ≡ false) → OnPuts w i pending m old → OnPuts (sent_whole w pending None) i None m new
step-last old new w pending p n i m some put count none h goes last all =
    let N : ℕ → Type 0 = λ x. goes_placed i x p ≡ true in
    let L : ℕ → Type 0 = λ x. (k : ℕ) → i < k → k < x → goes_placed k x p ≡ false in
    let P : Option Placed → Type 0 = λ o. OnPuts w i o m old → OnPuts (sent_whole w o None) i None m new in
    let R : List Items → Type 0 = λ ps. OnPuts (w ++ p ∷ []) i None m ps in
    subst P (sym some) (λ a. subst R (sym put) (sent-last old w i p m none (omega arith) (subst N count goes) (subst L count last) a)) all

-- nothing was put
pub all_empty : (puts : List Items) → ((k : ℕ) → k < length puts → put_on puts k ≡ []) → HaveMarks 0 puts × OnPuts [] 0 None 0 puts
all_empty puts none = (λ k h. ap has_mark (none k h) ∙ sym (le-ltb k 0 (omega arith)), λ k h. none k h ∙ sym (mark_of-from k 0 (omega arith)))
