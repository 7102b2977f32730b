-- The structure records of a trace: they alone say which bags there are, how deep a place lies and which strand it
-- belongs to.
use Rattle.verdict.proofs.Common.{◌≡◌, ℕ, zero, suc, ◌-◌, ◌<◌, ◌≤◌, Bool, true, false, cond, List, [], ◌∷◌, length, take, slice_get, Some, refl, sym, ap, subst, ◌∙◌, arith, sum_by, take-nil, Record, Spawn, Call, Return, Sync, Read, Write, opens, closes, depth, placed, placed_from, Procedures, event, bags_from, bags_after, at_start, is_structure, filter}
use Rattle.std.proofs.lemmas.List.Sums.{sum_by-append}

-- one record in front, which stays or not

pub get-put : (b : Bool) (x r : Record) (u v : List Record) → slice_get u (length v) ≡ Some r → slice_get (cond b (x ∷ u) u) (length (cond b (x ∷ v) v)) ≡ Some r
get-put true x r u v h = h
get-put false x r u v h = h

pub get-first : (b : Bool) (x : Record) (u : List Record) → b ≡ true → slice_get (cond b (x ∷ u) u) 0 ≡ Some x
get-first true x u e = refl
get-first false x u e = absurd (cc)

pub take-put : (b : Bool) (x : Record) (u v : List Record) → take (length v) u ≡ v → take (length (cond b (x ∷ v) v)) (cond b (x ∷ u) u) ≡ cond b (x ∷ v) v
take-put true x u v h = ap (λ (z : List Record). x ∷ z) h
take-put false x u v h = h

pub take-none : (u : List Record) → take 0 u ≡ []
take-none [] = refl
take-none (x ∷ u) = refl

pub le-put : (b : Bool) (x : Record) (u v : List Record) → length u ≤ length v → length (cond b (x ∷ u) u) ≤ length (cond b (x ∷ v) v)
le-put true x u v h = omega arith
le-put false x u v h = h

pub lt-put : (b : Bool) (x : Record) (u v : List Record) → length u < length v → length (cond b (x ∷ u) u) < length (cond b (x ∷ v) v)
lt-put true x u v h = omega arith
lt-put false x u v h = h

pub lt-first : (b : Bool) (x : Record) (v : List Record) → b ≡ true → 0 < length (cond b (x ∷ v) v)
lt-first true x v e = omega arith
lt-first false x v e = absurd (cc)

-- the structure records

abbrev pub structure : List Record → List Record
structure w = filter is_structure w

-- how many of the first t records are structure records
abbrev pub number : List Record → ℕ → ℕ
number w t = length (structure (take t w))

-- these records are the first structure records
take-structure : (w : List Record) (t : ℕ) → take (number w t) (structure w) ≡ structure (take t w)
take-structure w zero = simp take-none
take-structure [] (suc t) = refl
take-structure (x ∷ w) (suc t) = take-put (is_structure x) x (structure w) (structure (take t w)) (take-structure w t)

pub number-structure : (w : List Record) (s t : ℕ) → number w s ≡ number w t → structure (take s w) ≡ structure (take t w)
number-structure w s t e = sym (take-structure w s) ∙ (ap (λ (n : ℕ). take n (structure w)) e ∙ take-structure w t)

pub number-le : (w : List Record) (s t : ℕ) → s ≤ t → number w s ≤ number w t
number-le [] s t h = simp take-nil (omega arith)
number-le (x ∷ w) zero t h = omega arith
number-le (x ∷ w) (suc s) zero h = absurd (omega arith)
number-le (x ∷ w) (suc s) (suc t) h = le-put (is_structure x) x (structure (take s w)) (structure (take t w)) (number-le w s t (omega arith))

pub number-lt : (w : List Record) (s t : ℕ) (r : Record) → s < t → slice_get w s ≡ Some r → is_structure r ≡ true → number w s < number w t
number-lt [] s t r h g y = absurd (cc)
number-lt (x ∷ w) s zero r h g y = absurd (omega arith)
number-lt (x ∷ w) zero (suc t) r h g y =
    let f : r ≡ x = cc in
    lt-first (is_structure x) x (structure (take t w)) (subst (λ (z : Record). is_structure z ≡ true) f y)
number-lt (x ∷ w) (suc s) (suc t) r h g y = lt-put (is_structure x) x (structure (take s w)) (structure (take t w)) (number-lt w s t r (omega arith) g y)

-- an access is none of them
first-access : (x r : Record) (w : List Record) → Some x ≡ Some r → is_structure r ≡ false → structure (take 1 (x ∷ w)) ≡ []
first-access x r w g n =
    let f : r ≡ x = cc in
    let e : is_structure x ≡ false = subst (λ (z : Record). is_structure z ≡ false) f n in
    subst (λ (u : List Record). structure (x ∷ u) ≡ []) (sym (take-none w)) (ap (λ (c : Bool). cond c (x ∷ []) []) e)

pub access-structure : (w : List Record) (t : ℕ) (r : Record) → slice_get w t ≡ Some r → is_structure r ≡ false → structure (take (suc t) w) ≡ structure (take t w)
access-structure [] t r g n = absurd (cc)
access-structure (x ∷ w) zero r g n = first-access x r w g n
access-structure (x ∷ w) (suc t) r g n = ap (λ (u : List Record). cond (is_structure x) (x ∷ u) u) (access-structure w t r g n)

-- an access moves no bag and changes no depth
record IsStill (r : Record) : Type 0 where
  opens_none : opens r ≡ 0
  closes_none : closes r ≡ 0
  moves_none : (s : Procedures) → event s r ≡ s

still : (r : Record) → is_structure r ≡ false → IsStill r
still Spawn e = absurd (cc)
still Call e = absurd (cc)
still Return e = absurd (cc)
still Sync e = absurd (cc)
still (Read l) e = record { opens_none = refl; closes_none = refl; moves_none = λ s. refl }
still (Write l) e = record { opens_none = refl; closes_none = refl; moves_none = λ s. refl }

sum-put : (f : Record → ℕ) (b : Bool) (x : Record) (u v : List Record) → (b ≡ false → f x ≡ 0) → sum_by f u ≡ sum_by f v → sum_by f (cond b (x ∷ u) u) ≡ sum_by f (x ∷ v)
sum-put f true x u v n h = omega (arith, sum_by-append f (x ∷ []) u, sum_by-append f (x ∷ []) v)
sum-put f false x u v n h = let e : f x ≡ 0 = n refl in omega (arith, sum_by-append f (x ∷ []) v)

structure-opens : (w : List Record) → sum_by opens (structure w) ≡ sum_by opens w
structure-opens [] = refl
structure-opens (x ∷ w) = sum-put opens (is_structure x) x (structure w) w (λ n. (still x n).opens_none) (structure-opens w)

structure-closes : (w : List Record) → sum_by closes (structure w) ≡ sum_by closes w
structure-closes [] = refl
structure-closes (x ∷ w) = sum-put closes (is_structure x) x (structure w) w (λ n. (still x n).closes_none) (structure-closes w)

depth-structure : (w : List Record) (t : ℕ) → depth w (suc t) ≡ sum_by opens (structure (take t w)) - sum_by closes (structure (take t w))
depth-structure w t = λ i. sym (structure-opens (take t w)) i - sym (structure-closes (take t w)) i

pub same_depth : (w v : List Record) (s t : ℕ) → structure (take s w) ≡ structure (take t v) → depth w (suc s) ≡ depth v (suc t)
same_depth w v s t e = depth-structure w s ∙ (ap (λ (u : List Record). sum_by opens u - sum_by closes u) e ∙ sym (depth-structure v t))

-- the bags after records, whatever their places
events : Procedures → List Record → Procedures
events s [] = s
events s (r ∷ w) = events (event s r) w

bags-events : (s : Procedures) (i t : ℕ) (w : List Record) → bags_from s (take t (placed_from i w)) ≡ events s (take t w)
unfolding events
bags-events s i zero [] = refl
bags-events s i zero (x ∷ w) = refl
bags-events s i (suc t) [] = refl
bags-events s i (suc t) (x ∷ w) = bags-events (event s x) (suc i) t w

events-put : (b : Bool) (s : Procedures) (x : Record) (u v : List Record) → (b ≡ false → event s x ≡ s) → ((z : Procedures) → events z u ≡ events z v) → events s (cond b (x ∷ u) u) ≡ events s (x ∷ v)
unfolding events
events-put true s x u v n h = h (event s x)
events-put false s x u v n h = h s ∙ ap (λ (z : Procedures). events z v) (sym (n refl))

structure-events : (w : List Record) (s : Procedures) → events s (structure w) ≡ events s w
structure-events [] s = refl
structure-events (x ∷ w) s = events-put (is_structure x) s x (structure w) w (λ n. (still x n).moves_none s) (structure-events w)

-- the bags after the first t records
abbrev pub bags_at : List Record → ℕ → Procedures
bags_at w t = bags_after (take t (placed w))

bags-structure : (w : List Record) (t : ℕ) → bags_at w t ≡ events at_start (structure (take t w))
bags-structure w t = bags-events at_start 1 t w ∙ sym (structure-events (take t w) at_start)

pub same_bags : (w v : List Record) (s t : ℕ) → structure (take s w) ≡ structure (take t v) → bags_at w s ≡ bags_at v t
same_bags w v s t e = bags-structure w s ∙ (ap (events at_start) e ∙ sym (bags-structure v t))
