-- Lists of records whose places rise.
use Rattle.route.proofs.Common.{◌≡◌, ℕ, zero, suc, ◌+◌, ◌<◌, ◌⊎◌, inl, inr, ⊎_elim, List, [], ◌∷◌, ◌++◌, get_or, map, Contains, refl, sym, ap, ap₂, subst, ◌∙◌, arith, AllPairs, get_or-map, get_or_append_left, map-append, length-append, length-map, Contains-push, Placed, Contains-nil, IsRising}
use Rattle.std.specs.List.Sorted.{IsStrictlyIncreasing}
use Rattle.std.proofs.lemmas.List.Kept.{AllPairs-from_increasing}

pub Contains-here : {A : Type 0} (p : A) (u : List A) → Contains (p ∷ u) p
Contains-here p u = (0, omega arith, refl)

pub Contains-later : {A : Type 0} (p q : A) (u : List A) → Contains u q → Contains (p ∷ u) q
Contains-later p q u (k, l, e) = (suc k, omega arith, e)

pub Contains-cases : {A : Type 0} (p q : A) (u : List A) → Contains (p ∷ u) q → (p ≡ q) ⊎ Contains u q
Contains-cases p q u (zero, l, e) = inl e
Contains-cases p q u (suc k, l, e) = inr (k, omega arith, e)

-- each place is below all later ones
abbrev pub Ordered : List Placed → Type 0
Ordered [] = Unit {0}
Ordered (p ∷ u) = ((q : Placed) → Contains u q → p.place < q.place) × Ordered u

abbrev place_of : Placed → ℕ
place_of p = p.place

Ordered-from_pairs : (u : List Placed) → AllPairs (λ i j. i < j) (map place_of u) → Ordered u
Ordered-from_pairs [] h = tt
Ordered-from_pairs (p ∷ u) h = (
  λ q (k, l, e). let below : p.place < get_or (map place_of u) k q.place = h 0 (suc k) q.place (omega arith) (omega (arith, length-map u place_of)) in
      let same : get_or (map place_of u) k q.place ≡ q.place = get_or-map place_of u k q q.place l ∙ ap place_of e in omega arith,
  Ordered-from_pairs u (λ i j d l m. h (suc i) (suc j) d (omega arith) (omega arith)),
)

pub Ordered-from_rising : (u : List Placed) → IsRising u → Ordered u
Ordered-from_rising u h = Ordered-from_pairs u (AllPairs-from_increasing (map place_of u) h)

-- a beginning of such a list is one
pub rising_front : (u v : List Placed) → IsRising (u ++ v) → IsRising u
rising_front u v h = λ k l.
    let P : List ℕ → Type 0 = IsStrictlyIncreasing in
    let joined : IsStrictlyIncreasing (map place_of u ++ map place_of v) = subst P (map-append place_of u v) h in
    let below : get_or (map place_of u ++ map place_of v) k 0 < get_or (map place_of u ++ map place_of v) (k + 1) 0 = joined k (omega (arith, length-append (map place_of u) (map place_of v))) in
    omega (arith, get_or_append_left (map place_of u) (map place_of v) 0 k (omega arith), get_or_append_left (map place_of u) (map place_of v) 0 (k + 1) l)

-- the last record stands above the others
pub last_above : (u : List Placed) (p q : Placed) → Ordered (u ++ p ∷ []) → Contains u q → q.place < p.place
last_above [] p q o h = absurd (Contains-nil q h)
last_above (x ∷ u) p q o h =
    ⊎_elim (λ (e : x ≡ q). let P : Placed → Type 0 = λ y. y.place < p.place in subst P e (o.0 p (Contains-push u p))) (λ (m : Contains u q). last_above u p q o.1 m) (Contains-cases x q u h)

-- two such lists with the same records are one
pub same_records : (u v : List Placed) → Ordered u → Ordered v → ((q : Placed) → Contains u q → Contains v q) → ((q : Placed) → Contains v q → Contains u q) → u ≡ v
same_records [] [] ou ov f g = refl
same_records [] (y ∷ v) ou ov f g = absurd (Contains-nil y (g y (Contains-here y v)))
same_records (x ∷ u) [] ou ov f g = absurd (Contains-nil x (f x (Contains-here x u)))
same_records (x ∷ u) (y ∷ v) ou ov f g =
    let same : x ≡ y = ⊎_elim (λ (e : y ≡ x). sym e)
    (λ (m : Contains v x). ⊎_elim (λ (e : x ≡ y). e) (λ (m' : Contains u y). let a : y.place < x.place = ov.0 x m in let b : x.place < y.place = ou.0 y m' in absurd (omega arith)) (Contains-cases x y u (g y (Contains-here y v))))
    (Contains-cases y x v (f x (Contains-here x u))) in
    ap₂ (λ (p : Placed) (l : List Placed). p ∷ l) same
    (same_records u v ou.1 ov.1
    (λ q m. ⊎_elim (λ (e : y ≡ q). let a : x.place < q.place = ou.0 q m in let b : x.place ≡ q.place = ap place_of (same ∙ e) in absurd (omega arith)) (λ (m' : Contains v q). m') (Contains-cases y q v (f q (Contains-later x q u m))))
    (λ q m. ⊎_elim (λ (e : x ≡ q). let a : y.place < q.place = ov.0 q m in let b : y.place ≡ q.place = ap place_of (sym same ∙ e) in absurd (omega arith)) (λ (m' : Contains u q). m') (Contains-cases x q u (g q (Contains-later y q v m)))))
