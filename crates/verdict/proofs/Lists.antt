-- Where the records stand of which some go: their places, and the records before them.
use Rattle.verdict.proofs.Common.{◌≡◌, ℕ, zero, suc, ◌+◌, ◌<◌, ◌≤◌, Bool, true, false, cond, List, [], ◌∷◌, length, take, slice_get, Some, inl, inr, refl, sym, ap, subst, ◌∙◌, arith, cases_Bool, take-length, take-nil, Record, rest_from, is_structure}
use Rattle.verdict.proofs.Structure.{structure, get-put, get-first, take-put, take-none, le-put, lt-put, lt-first}

-- how many of the first t records stay
abbrev pub passed : (ℕ → Bool) → ℕ → ℕ → List Record → ℕ
passed stays i t w = length (rest_from stays i (take t w))

-- one record in front, which stays or not

le-one : (b : Bool) (x : Record) (v : List Record) → length (cond b (x ∷ v) v) ≤ suc (length v)
le-one true x v = omega arith
le-one false x v = omega arith

next-put : (b : Bool) (x : Record) (u v : List Record) → length u ≤ suc (length v) → length (cond b (x ∷ u) u) ≤ suc (length (cond b (x ∷ v) v))
next-put true x u v h = omega arith
next-put false x u v h = h

length-true : (b : Bool) (x : Record) (v : List Record) → b ≡ true → length (cond b (x ∷ v) v) ≡ suc (length v)
length-true true x v e = refl
length-true false x v e = absurd (cc)

length-false : (b : Bool) (x : Record) (v : List Record) → b ≡ false → length (cond b (x ∷ v) v) ≡ length v
length-false true x v e = absurd (cc)
length-false false x v e = refl

-- a record that stays, and the records before it

pub rest-at : (stays : ℕ → Bool) (i t m : ℕ) (w : List Record) (r : Record) → m ≡ i + t → stays m ≡ true → slice_get w t ≡ Some r → slice_get (rest_from stays i w) (passed stays i t w) ≡ Some r
rest-at stays i t m [] r e s h = absurd (cc)
rest-at stays i zero m (x ∷ w) r e s h =
    let f : m ≡ i = omega arith in
    get-first (stays i) x (rest_from stays (suc i) w) (subst (λ (z : ℕ). stays z ≡ true) f s) ∙ h
rest-at stays i (suc t) m (x ∷ w) r e s h =
    get-put (stays i) x r (rest_from stays (suc i) w) (rest_from stays (suc i) (take t w)) (rest-at stays (suc i) t m w r (omega arith) s h)

pub rest-take : (stays : ℕ → Bool) (i t : ℕ) (w : List Record) → take (passed stays i t w) (rest_from stays i w) ≡ rest_from stays i (take t w)
rest-take stays i zero w = simp take-none
rest-take stays i (suc t) [] = refl
rest-take stays i (suc t) (x ∷ w) = take-put (stays i) x (rest_from stays (suc i) w) (rest_from stays (suc i) (take t w)) (rest-take stays (suc i) t w)

-- what stands at index j of the rest is the record at some index t, which stays
pub record ComesFrom (stays : ℕ → Bool) (i : ℕ) (w : List Record) (j : ℕ) (r : Record) : Type 0 where
  pub t : ℕ
  pub there : slice_get w t ≡ Some r
  pub stayed : stays (i + t) ≡ true
  pub counts : passed stays i t w ≡ j

from_later : (stays : ℕ → Bool) (i j k : ℕ) (x r : Record) (w : List Record) → ((v : List Record) → length (cond (stays i) (x ∷ v) v) ≡ k + length v) → ComesFrom stays (suc i) w j r → ComesFrom stays i (x ∷ w) (k + j) r
from_later stays i j k x r w f c =
    let e : suc i + c.t ≡ i + suc c.t = omega arith in
    record {
      t = suc c.t;
      there = c.there;
      stayed = subst (λ (z : ℕ). stays z ≡ true) e c.stayed;
      counts = f (rest_from stays (suc i) (take c.t w)) ∙ ap (λ (z : ℕ). k + z) c.counts;
    }

from_this : (stays : ℕ → Bool) (i j : ℕ) (x r : Record) (w : List Record) → stays i ≡ true → ((k : ℕ) → slice_get (rest_from stays (suc i) w) k ≡ Some r → ComesFrom stays (suc i) w k r)
    → slice_get (x ∷ rest_from stays (suc i) w) j ≡ Some r → ComesFrom stays i (x ∷ w) j r
from_this stays i zero x r w y f g =
    let e : i ≡ i + 0 = omega arith in
    record { t = 0; there = g; stayed = subst (λ (z : ℕ). stays z ≡ true) e y; counts = refl }
from_this stays i (suc k) x r w y f g =
    let e : 1 + k ≡ suc k = omega arith in
    subst (λ (z : ℕ). ComesFrom stays i (x ∷ w) z r) e (from_later stays i k 1 x r w (λ v. length-true (stays i) x v y ∙ omega arith) (f k g))

pub comes_from : (stays : ℕ → Bool) (i : ℕ) (w : List Record) (j : ℕ) (r : Record) → slice_get (rest_from stays i w) j ≡ Some r → ComesFrom stays i w j r
comes_from stays i [] j r h = absurd (cc)
comes_from stays i (x ∷ w) j r h =
    let is = λ (b : Bool) (e : stays i ≡ b). subst (λ (c : Bool). slice_get (cond c (x ∷ rest_from stays (suc i) w) (rest_from stays (suc i) w)) j ≡ Some r) e h in
    let e : 0 + j ≡ j = omega arith in
    elim (cases_Bool (stays i)) [
      | inl y ↦ from_this stays i j x r w y (λ k g. comes_from stays (suc i) w k r g) (is true y)
      | inr n ↦
          subst (λ (z : ℕ). ComesFrom stays i (x ∷ w) z r) e
          (from_later stays i j 0 x r w (λ v. length-false (stays i) x v n ∙ omega arith) (comes_from stays (suc i) w j r (is false n)))
    ]

-- how many stay of more records

pub passed-le : (stays : ℕ → Bool) (i s t : ℕ) (w : List Record) → s ≤ t → passed stays i s w ≤ passed stays i t w
passed-le stays i s t [] h = simp take-nil (omega arith)
passed-le stays i zero t (x ∷ w) h = omega arith
passed-le stays i (suc s) zero (x ∷ w) h = absurd (omega arith)
passed-le stays i (suc s) (suc t) (x ∷ w) h = le-put (stays i) x (rest_from stays (suc i) (take s w)) (rest_from stays (suc i) (take t w)) (passed-le stays (suc i) s t w (omega arith))

pub passed-lt : (stays : ℕ → Bool) (i s t m : ℕ) (w : List Record) (r : Record) → s < t → m ≡ i + s → stays m ≡ true → slice_get w s ≡ Some r → passed stays i s w < passed stays i t w
passed-lt stays i s t m [] r h e y g = absurd (cc)
passed-lt stays i s zero m (x ∷ w) r h e y g = absurd (omega arith)
passed-lt stays i zero (suc t) m (x ∷ w) r h e y g =
    let f : m ≡ i = omega arith in
    lt-first (stays i) x (rest_from stays (suc i) (take t w)) (subst (λ (z : ℕ). stays z ≡ true) f y)
passed-lt stays i (suc s) (suc t) m (x ∷ w) r h e y g = lt-put (stays i) x (rest_from stays (suc i) (take s w)) (rest_from stays (suc i) (take t w)) (passed-lt stays (suc i) s t m w r (omega arith) (omega arith) y g)

pub passed-next : (stays : ℕ → Bool) (i t : ℕ) (w : List Record) → passed stays i (suc t) w ≤ suc (passed stays i t w)
passed-next stays i t [] = simp take-nil (omega arith)
passed-next stays i zero (x ∷ w) = subst (λ (u : List Record). length (rest_from stays i (x ∷ u)) ≤ 1) (sym (take-none w)) (le-one (stays i) x [])
passed-next stays i (suc t) (x ∷ w) = next-put (stays i) x (rest_from stays (suc i) (take (suc t) w)) (rest_from stays (suc i) (take t w)) (passed-next stays (suc i) t w)

pub passed-all : (stays : ℕ → Bool) (i : ℕ) (w : List Record) → passed stays i (length w) w ≡ length (rest_from stays i w)
passed-all stays i w = ap (λ (u : List Record). length (rest_from stays i u)) (take-length w)

pub rest-shorter : (stays : ℕ → Bool) (i : ℕ) (w : List Record) → length (rest_from stays i w) ≤ length w
rest-shorter stays i [] = omega arith
rest-shorter stays i (x ∷ w) = omega (arith, le-one (stays i) x (rest_from stays (suc i) w), rest-shorter stays (suc i) w)

-- every record that goes is an access
abbrev pub AccessesGo : (ℕ → Bool) → ℕ → List Record → Type 0
AccessesGo stays i [] = Unit {0}
AccessesGo stays i (r ∷ w) = (stays i ≡ false → is_structure r ≡ false) × AccessesGo stays (suc i) w

pub accesses_go : (stays : ℕ → Bool) (i : ℕ) (w : List Record) → ((t : ℕ) (r : Record) → slice_get w t ≡ Some r → stays (i + t) ≡ false → is_structure r ≡ false) → AccessesGo stays i w
accesses_go stays i [] f = tt
accesses_go stays i (x ∷ w) f = (
  (λ n. let e : i ≡ i + 0 = omega arith in f 0 x refl (subst (λ (z : ℕ). stays z ≡ false) e n)),
  accesses_go stays (suc i) w (λ t r g n. let e : suc i + t ≡ i + suc t = omega arith in f (suc t) r g (subst (λ (z : ℕ). stays z ≡ false) e n)),
)

accesses-take : (stays : ℕ → Bool) (i t : ℕ) (w : List Record) → AccessesGo stays i w → AccessesGo stays i (take t w)
accesses-take stays i zero w h = subst (AccessesGo stays i) (sym (take-none w)) tt
accesses-take stays i (suc t) [] h = tt
accesses-take stays i (suc t) (x ∷ w) h = (h.0, accesses-take stays (suc i) t w h.1)

structure-put : (b : Bool) (x : Record) (u v : List Record) → (b ≡ false → is_structure x ≡ false) → structure u ≡ structure v → structure (cond b (x ∷ u) u) ≡ structure (x ∷ v)
structure-put true x u v n h = ap (λ (z : List Record). cond (is_structure x) (x ∷ z) z) h
structure-put false x u v n h = h ∙ sym (ap (λ (c : Bool). cond c (x ∷ structure v) (structure v)) (n refl))

rest-structure : (stays : ℕ → Bool) (i : ℕ) (w : List Record) → AccessesGo stays i w → structure (rest_from stays i w) ≡ structure w
rest-structure stays i [] h = refl
rest-structure stays i (x ∷ w) h = structure-put (stays i) x (rest_from stays (suc i) w) w h.0 (rest-structure stays (suc i) w h.1)

-- the same structure records stand among the first t records, and among those of them that stay
pub passed-structure : (stays : ℕ → Bool) (i t : ℕ) (w : List Record) → AccessesGo stays i w → structure (take (passed stays i t w) (rest_from stays i w)) ≡ structure (take t w)
passed-structure stays i t w h = ap structure (rest-take stays i t w) ∙ rest-structure stays i (take t w) (accesses-take stays i t w h)
