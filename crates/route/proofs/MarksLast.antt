-- Nothing is sent to a lane after its mark.
use Rattle.route.proofs.Common.{◌≡◌, ℕ, ◌<◌, ◌==◌, ⊎_elim, Bool, true, false, cond, nat_lt, List, [], ◌∷◌, ◌++◌, length, get_or, take, drop, map, refl, sym, ap, ◌∙◌, arith, range_with_len, flat_map, le-ltb, cond-false, length-append, get_or_at, take-append-drop, length-map-range_with_len, get_or-map-range_with_len, Item, One, Finish, has_mark, Placed, of_lane, lanes_for, sending_of}
use Rattle.route.proofs.RunFronts.{Sends, of_lane-append, split_front, cut_front, on_cut}

either_one : (b : Bool) (p : Placed) (l : List (Item Placed)) → has_mark l ≡ false → has_mark (cond b (One p ∷ l) l) ≡ false
either_one true p l h = h
either_one false p l h = h

-- the items of a record carry no mark
ones_alone : (p : Placed) (k : ℕ) (js : List ℕ) → has_mark (of_lane k (map (λ j. (j, One p)) js)) ≡ false
ones_alone p k [] = refl
ones_alone p k (j ∷ js) = either_one (j == k) p (of_lane k (map (λ i. (i, One p)) js)) (ones_alone p k js)

no_mark-append : (xs ys : List (Item Placed)) → has_mark xs ≡ false → has_mark (xs ++ ys) ≡ has_mark ys
no_mark-append [] ys h = refl
no_mark-append (One x ∷ xs) ys h = no_mark-append xs ys h
no_mark-append (Finish ∷ xs) ys h = absurd (cc)

no_mark-front : (xs ys : List (Item Placed)) → has_mark (xs ++ ys) ≡ false → has_mark xs ≡ false
no_mark-front [] ys h = refl
no_mark-front (One x ∷ xs) ys h = no_mark-front xs ys h
no_mark-front (Finish ∷ xs) ys h = h

-- no mark stands among these, on any lane
abbrev pub Unmarked : Sends → Type 0
Unmarked s = (k : ℕ) → has_mark (of_lane k s) ≡ false

-- the mark that is sent after m marks goes on lane m
next_mark : (n k : ℕ) (x : Item Placed) (s r : List (ℕ × Item Placed)) → s ++ (k, x) ∷ r ≡ map (λ j. (j, Finish)) (range_with_len 0 n) → has_mark (of_lane k s) ≡ false
next_mark n k x s r e =
    let marks : List (ℕ × Item Placed) = map (λ j. (j, Finish)) (range_with_len 0 n) in
    let long : length s < n = omega (arith, length-append s ((k, x) ∷ r), ap length e, length-map-range_with_len {X = ℕ × Item Placed} (λ j. (j, Finish)) 0 n) in
    let cut = cut_front s ((k, x) ∷ r) marks n (length-map-range_with_len {X = ℕ × Item Placed} (λ j. (j, Finish)) 0 n) e in
    let lane : k ≡ length s = ap (λ (y : ℕ × Item Placed). y.0)
    (sym (get_or_at s (k, x) r (k, x) (length s) refl) ∙ ap (λ (l : List (ℕ × Item Placed)). get_or l (length s) (k, x)) e
    ∙ get_or-map-range_with_len {X = ℕ × Item Placed} (λ j. (j, Finish)) 0 n (length s) (length s) (k, x) long (omega arith)) in
    ap has_mark (on_cut Finish k n s cut.0 cut.1 ∙ cond-false (nat_lt k (length s)) (Finish ∷ []) [] (le-ltb k (length s) (omega arith)))

-- lists without a mark, one after another
pub unmarked-portions : {X : Type 0} (f : X → Sends) → ((x : X) → Unmarked (f x)) → (xs : List X) → Unmarked (flat_map f xs)
unmarked-portions f none [] k = refl
unmarked-portions f none (x ∷ xs) k = ap has_mark (of_lane-append k (f x) (flat_map f xs)) ∙ no_mark-append (of_lane k (f x)) (of_lane k (flat_map f xs)) (none x k) ∙ unmarked-portions f none xs k

-- where the marks come last, nothing is sent to a lane after its mark
pub never_marked : (n k : ℕ) (x : Item Placed) (a s r : Sends) → Unmarked a → s ++ (k, x) ∷ r ≡ a ++ map (λ j. (j, Finish)) (range_with_len 0 n) → has_mark (of_lane k s) ≡ false
never_marked n k x a s r none e =
    let marks : Sends = map (λ j. (j, Finish)) (range_with_len 0 n) in
    ⊎_elim
    (λ (h : (s ≡ take (length s) a) × (length s < length a)).
    no_mark-front (of_lane k s) (of_lane k (drop (length s) a))
    (ap has_mark (sym (of_lane-append k s (drop (length s) a)) ∙ ap (of_lane k) (ap (λ (l : Sends). l ++ drop (length s) a) h.0 ∙ take-append-drop (length s) a)) ∙ none k))
    (λ (h : (t : Sends) × (s ≡ a ++ t) × (t ++ (k, x) ∷ r ≡ marks)).
    ap (λ (l : Sends). has_mark (of_lane k l)) h.1 ∙ ap has_mark (of_lane-append k a h.0)
    ∙ no_mark-append (of_lane k a) (of_lane k h.0) (none k) ∙ next_mark n k x h.0 r h.2)
    (split_front s ((k, x) ∷ r) a marks e)

-- the records that are sent carry no mark
pub unmarked_sending : (n : ℕ) (w : List Placed) → Unmarked (flat_map (sending_of n) w)
unmarked_sending n w = unmarked-portions (sending_of n) (λ p k. ones_alone p k (lanes_for n p.what)) w
