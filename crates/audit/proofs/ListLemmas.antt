-- Lists that are longer by one, and the records behind others.
use Rattle.audit.proofs.Common.{◌≡◌, ℕ, zero, suc, ◌<◌, ◌≤◌, List, [], ◌∷◌, ◌++◌, length, take, slice_get, Some, ◌⊎◌, inl, inr, refl, ◌∙◌, ap, arith, length-append, Record, at}
use Rattle.trace.proofs.Places.{at-front, at-seam}

pub slice_get-push : {A : Type 0} (xs : List A) (x : A) (k : ℕ) (f : A) → slice_get (xs ++ x ∷ []) k ≡ Some f → (slice_get xs k ≡ Some f) ⊎ ((k ≡ length xs) × (x ≡ f))
slice_get-push [] x zero f e = inr (refl, cc)
slice_get-push [] x (suc k) f e = absurd (cc)
slice_get-push (y ∷ xs) x zero f e = inl e
slice_get-push (y ∷ xs) x (suc k) f e = elim (slice_get-push xs x k f e) [ inl q ↦ inl q | inr q ↦ inr (ap suc q.0, q.1) ]

-- what stands in front
pub slice_get-take : {A : Type 0} (n : ℕ) (xs : List A) (k : ℕ) (x : A) → slice_get (take n xs) k ≡ Some x → (k < n) × (slice_get xs k ≡ Some x)
slice_get-take zero xs k x e = absurd (cc)
slice_get-take (suc n) [] k x e = absurd (cc)
slice_get-take (suc n) (y ∷ xs) zero x e = (omega arith, e)
slice_get-take (suc n) (y ∷ xs) (suc k) x e = let q = slice_get-take n xs k x e in (omega (arith, q.0), q.1)

pub take-slice_get : {A : Type 0} (n : ℕ) (xs : List A) (k : ℕ) (x : A) → k < n → slice_get xs k ≡ Some x → slice_get (take n xs) k ≡ Some x
take-slice_get zero xs k x l e = absurd (omega arith)
take-slice_get (suc n) [] k x l e = absurd (cc)
take-slice_get (suc n) (y ∷ xs) zero x l e = e
take-slice_get (suc n) (y ∷ xs) (suc k) x l e = take-slice_get n xs k x (omega arith) e

-- the record that comes after u, in a trace that begins with both
pub place_there : (w u rest : List Record) (r : Record) → w ≡ (u ++ r ∷ []) ++ rest → suc (length u) ≤ length w
place_there w u rest r is = omega (arith, ap length is, length-append (u ++ r ∷ []) rest, length-append u (r ∷ []))

pub record_there : (w u rest : List Record) (r : Record) → w ≡ (u ++ r ∷ []) ++ rest → at w (suc (length u)) ≡ Some r
record_there w u rest r is =
    ap (λ (z : List Record). at z (suc (length u))) is ∙ at-front (u ++ r ∷ []) rest (suc (length u)) (omega (arith, length-append u (r ∷ []))) ∙ at-seam u r
