-- What is reported of a location is unique, and so is the report of a trace.
use Rattle.dag.proofs.Common.{◌≡◌, ◌≢◌, ℕ, zero, suc, ◌<◌, ◌≤◌, List, [], ◌∷◌, map, Option, Some, ◌⊎◌, Contains, inl, inr, ⊎_elim, refl, sym, ap, subst, ◌∙◌, arith, add-one, AllByRecursion, cases_order, Record, Kind, IsAccess, IsSecond, IsLastWrite, IsKeptReader, IsFirst, IsReported, IsReport, last_write, kept_reader, IsRead, IsWrite}
use Rattle.std.specs.List.Sorted.{IsStrictlyIncreasing}
use Rattle.dag.specs.declared.records.Kind.TheVariants.{Read, Write}
use Rattle.dag.specs.declared.records.Access.{Access}
use Rattle.dag.specs.Accesses.{RaceAt}
use Rattle.dag.proofs.Readers.{kept_once, after_zero}

-- no race of the list is of l
abbrev pub NoneOn : ℕ → List RaceAt → Type 0
NoneOn l rs = AllByRecursion (λ r. l ≢ r.location) rs

-- no two races of the list are of one location
abbrev pub AreApart : List RaceAt → Type 0
AreApart [] = Unit {0}
AreApart (r ∷ rs) = NoneOn r.location rs × AreApart rs

pub second_once : (w : List Record) (l i j : ℕ) → IsSecond w l i → IsSecond w l j → i ≡ j
second_once w l i j a b =
    let x = a.least b.race.0 j b.race.1 in
    let y = b.least a.race.0 i a.race.1 in
    omega arith

pub last_write_once : (w : List Record) (l j h i : ℕ) → IsLastWrite w l j h → IsLastWrite w l j i → h ≡ i
last_write_once w l j h i a b =
    ⊎_elim (λ e. e) (λ c. ⊎_elim (λ s. absurd (a.none_between i s b.before b.a_write)) (λ s. absurd (b.none_between h s a.before a.a_write)) c) (cases_order h i)

kept_once_at : (w : List Record) (l j : ℕ) (o p : Option ℕ) → IsKeptReader w l j o → IsKeptReader w l j p → o ≡ p
kept_once_at w l zero o p a b = let h = after_zero w l a in absurd (omega arith)
kept_once_at w l (suc t) o p a b = kept_once w l t o p a b

pub first_once : (w : List Record) (l j h i : ℕ) → IsFirst w l j h → IsFirst w l j i → h ≡ i
first_once w l j h i (last_write a p) (last_write b q) = last_write_once w l j h i a b
first_once w l j h i (last_write a p) (kept_reader f b) = absurd (f h a p)
first_once w l j h i (kept_reader f a) (last_write b q) = absurd (f i b q)
first_once w l j h i (kept_reader f a) (kept_reader g b) = let e = kept_once_at w l j (Some h) (Some i) a b in cc

pub kind_once : (w : List Record) (l i : ℕ) (j k : Kind) → IsAccess w l i j → IsAccess w l i k → j ≡ k
kind_once w l i Read Read a b = refl
kind_once w l i Read Write a b = absurd (cc)
kind_once w l i Write Read a b = absurd (cc)
kind_once w l i Write Write a b = refl

pub read_no_write : (w : List Record) (l j : ℕ) → IsRead w l j → IsWrite w l j → ⊥
read_no_write w l j a b = absurd (cc)

pub same_access : (a b : Access) → a.kind ≡ b.kind → a.place ≡ b.place → a ≡ b
same_access a b e f = λ i. record { kind = e i; place = f i }

pub same_race : (r s : RaceAt) → r.location ≡ s.location → r.first ≡ s.first → r.second ≡ s.second → r ≡ s
same_race r s e f g = λ i. record { location = e i; first = f i; second = g i }

-- one race is reported of a location
pub reported_once : (w : List Record) (r s : RaceAt) → IsReported w r → IsReported w s → r.location ≡ s.location → r ≡ s
reported_once w r s a b e =
    let l = s.location in
    let two : r.second.place ≡ s.second.place = second_once w l _ _ (subst (λ (z : ℕ). IsSecond w z r.second.place) e a.second) b.second in
    let one : r.first.place ≡ s.first.place = first_once w l s.second.place _ _ (subst (λ (z : ℕ). IsFirst w l z r.first.place) two (subst (λ (z : ℕ). IsFirst w z r.second.place r.first.place) e a.first)) b.first in
    let kind1 : r.first.kind ≡ s.first.kind = kind_once w l s.first.place _ _ (subst (λ (z : ℕ). IsAccess w l z r.first.kind) one (subst (λ (z : ℕ). IsAccess w z r.first.place r.first.kind) e a.first_kind)) b.first_kind in
    let kind2 : r.second.kind ≡ s.second.kind = kind_once w l s.second.place _ _ (subst (λ (z : ℕ). IsAccess w l z r.second.kind) two (subst (λ (z : ℕ). IsAccess w z r.second.place r.second.kind) e a.second_kind)) b.second_kind in
    same_race r s e (same_access r.first s.first kind1 one) (same_access r.second s.second kind2 two)

-- each element's key lies above a number
abbrev pub AllAbove : {X : Type 0} → (X → ℕ) → ℕ → List X → Type 0
AllAbove n m [] = Unit {0}
AllAbove n m (x ∷ xs) = (m < n x) × AllAbove n m xs

-- the keys rise
abbrev pub Rises : {X : Type 0} → (X → ℕ) → List X → Type 0
Rises n [] = Unit {0}
Rises n (x ∷ xs) = AllAbove n (n x) xs × Rises n xs

-- an element stands in a list
abbrev pub In : {X : Type 0} → X → List X → Type 0
In x [] = ⊥
In x (y ∷ ys) = (y ≡ x) ⊎ In x ys

pub In_from : {X : Type 0} (xs : List X) (x : X) → Contains xs x → In x xs
In_from [] x (k, h, e) = absurd (omega arith)
In_from (y ∷ ys) x (zero, h, e) = inl e
In_from (y ∷ ys) x (suc k, h, e) = inr (In_from ys x (k, omega arith, e))

pub Contains_from : {X : Type 0} (xs : List X) (x : X) → In x xs → Contains xs x
Contains_from [] x h = absurd h
Contains_from (y ∷ ys) x (inl e) = (zero, omega arith, e)
Contains_from (y ∷ ys) x (inr h) = let c = Contains_from ys x h in (suc c.0, omega (arith, c.1), c.2)

pub above-In : {X : Type 0} (n : X → ℕ) (m : ℕ) (xs : List X) (x : X) → AllAbove n m xs → In x xs → m < n x
above-In n m [] x a h = absurd h
above-In n m (y ∷ ys) x a (inl e) = subst (λ z. m < n z) e a.0
above-In n m (y ∷ ys) x a (inr h) = above-In n m ys x a.1 h

pub AllAbove-lower : {X : Type 0} (n : X → ℕ) (m k : ℕ) (xs : List X) → m ≤ k → AllAbove n k xs → AllAbove n m xs
AllAbove-lower n m k [] h a = tt
AllAbove-lower n m k (y ∷ ys) h a = let z = a.0 in (omega arith, AllAbove-lower n m k ys h a.1)

head_step : {X : Type 0} (n : X → ℕ) (x y : X) (xs : List X) → IsStrictlyIncreasing (map n (x ∷ y ∷ xs)) → n x < n y
head_step n x y xs h = h 0 (omega arith)

tail_step : {X : Type 0} (n : X → ℕ) (x : X) (xs : List X) → IsStrictlyIncreasing (map n (x ∷ xs)) → IsStrictlyIncreasing (map n xs)
tail_step n x xs h k s = rw add-one (rw add-one at (h (suc k) (omega arith)))

pub Rises-from : {X : Type 0} (n : X → ℕ) (xs : List X) → IsStrictlyIncreasing (map n xs) → Rises n xs
Rises-from n [] h = tt
Rises-from n (x ∷ []) h = (tt, tt)
Rises-from n (x ∷ y ∷ xs) h =
    let r : Rises n (y ∷ xs) = Rises-from n (y ∷ xs) (tail_step n x (y ∷ xs) h) in
    let z : n x < n y = head_step n x y xs h in
    ((z, AllAbove-lower n (n x) (n y) xs (omega arith) r.0), r)

same_head : {X : Type 0} (n : X → ℕ) (x y : X) (xs ys : List X) → Rises n (x ∷ xs) → Rises n (y ∷ ys) → (y ≡ x) ⊎ In x ys → (x ≡ y) ⊎ In y xs → x ≡ y
same_head n x y xs ys a b (inl e) q = sym e
same_head n x y xs ys a b (inr h) (inl e) = e
same_head n x y xs ys a b (inr h) (inr k) = let s = above-In n (n x) xs y a.0 k in let t = above-In n (n y) ys x b.0 h in absurd (omega arith)

in_tail : {X : Type 0} (n : X → ℕ) (x y z : X) (xs ys : List X) → Rises n (x ∷ xs) → x ≡ y → In z xs → (y ≡ z) ⊎ In z ys → In z ys
in_tail n x y z xs ys a e h (inr k) = k
in_tail n x y z xs ys a e h (inl k) = let s = above-In n (n x) xs z a.0 h in let q : n x ≡ n z = ap n (e ∙ k) in absurd (omega arith)

pub increasing-from_rises : {X : Type 0} (n : X → ℕ) (xs : List X) → Rises n xs → IsStrictlyIncreasing (map n xs)
increasing-from_rises n [] r k h = absurd (omega arith)
increasing-from_rises n (x ∷ []) r k h = absurd (omega arith)
increasing-from_rises n (x ∷ y ∷ xs) r zero h = r.0.0
increasing-from_rises n (x ∷ y ∷ xs) r (suc k) h =
    let e : IsStrictlyIncreasing (map n (y ∷ xs)) = increasing-from_rises n (y ∷ xs) r.1 in
    rw add-one (rw add-one at (e k (omega arith)))

-- two lists with rising keys and the same elements are one
pub same_from_elements : {X : Type 0} (n : X → ℕ) (xs ys : List X) → Rises n xs → Rises n ys → ((x : X) → In x xs → In x ys) → ((x : X) → In x ys → In x xs) → xs ≡ ys
same_from_elements n [] [] a b f g = refl
same_from_elements n [] (y ∷ ys) a b f g = absurd (g y (inl refl))
same_from_elements n (x ∷ xs) [] a b f g = absurd (f x (inl refl))
same_from_elements n (x ∷ xs) (y ∷ ys) a b f g =
    let e : x ≡ y = same_head n x y xs ys a b (f x (inl refl)) (g y (inl refl)) in
    let t : xs ≡ ys = same_from_elements n xs ys a.1 b.1
    (λ z h. in_tail n x y z xs ys a e h (f z (inr h)))
    (λ z h. in_tail n y x z ys xs b (sym e) h (g z (inr h))) in
    cc

-- the report of a trace is one list
pub report_once : (w : List Record) (rs qs : List RaceAt) → IsReport w rs → IsReport w qs → rs ≡ qs
report_once w rs qs a b =
    same_from_elements (λ r. r.location) rs qs (Rises-from (λ (r : RaceAt). r.location) rs a.ascending) (Rises-from (λ (r : RaceAt). r.location) qs b.ascending)
    (λ r h. In_from qs r ((b.exactly r).1 ((a.exactly r).0 (Contains_from rs r h))))
    (λ r h. In_from rs r ((a.exactly r).1 ((b.exactly r).0 (Contains_from qs r h))))
