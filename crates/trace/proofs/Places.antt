-- Records, depths and root returns of a list of records that is extended at its end.
use Rattle.trace.proofs.Common.{◌≡◌, ℕ, zero, suc, ◌+◌, ◌-◌, ◌≤◌, List, [], ◌∷◌, ◌++◌, length, Some, ◌⊎◌, inl, inr, arith, refl, sym, ◌∙◌, ap, length-append, sum_by, take-append-le, sum_by-append, take-length, Record, Return, at, depth, opens, closes, HasEnded, element_at, slice_get-front, slice_get-last}
use native.Mathlib.Decide.{dec_le}

pub at-front : (u v : List Record) (i : ℕ) → i ≤ length u → at (u ++ v) i ≡ at u i
at-front u v zero h = refl
at-front u v (suc i) h = let f = element_at u i (omega arith) in slice_get-front u v i f.0 f.1 ∙ sym f.1

pub at-seam : (u : List Record) (r : Record) → at (u ++ r ∷ []) (suc (length u)) ≡ Some r
at-seam u r = slice_get-last u r

pub depth-front : (u v : List Record) (i : ℕ) → i ≤ suc (length u) → depth (u ++ v) i ≡ depth u i
depth-front u v zero h = refl
depth-front u v (suc i) h = ap (λ x. sum_by opens x - sum_by closes x) (take-append-le i u v (omega arith))

pub depth-next : (u : List Record) → depth u (suc (length u)) ≡ sum_by opens u - sum_by closes u
depth-next u = ap (λ x. sum_by opens x - sum_by closes x) (take-length u)

pub depth-pushed : (u : List Record) (r : Record) → depth (u ++ r ∷ []) (suc (length (u ++ r ∷ []))) ≡ (sum_by opens u + opens r) - (sum_by closes u + closes r)
depth-pushed u r = depth-next (u ++ r ∷ []) ∙ omega (arith, sum_by-append opens u (r ∷ []), sum_by-append closes u (r ∷ []))

-- the root has returned where it had, or where the last record is its return
pub ended_before : (u : List Record) (r : Record) → HasEnded u → HasEnded (u ++ r ∷ [])
ended_before u r (i, p, e) =
    let le : i ≤ length u = p.1 in
    (i, (p.0, omega (arith, le, length-append u (r ∷ []))), record { a_return = at-front u (r ∷ []) i le ∙ e.a_return; at_zero = depth-front u (r ∷ []) i (omega arith) ∙ e.at_zero })

pub ended_by : (u : List Record) → depth u (suc (length u)) ≡ 0 → HasEnded (u ++ Return ∷ [])
ended_by u zero_deep =
    (suc (length u), (omega arith, omega (arith, length-append u (Return ∷ []))), record { a_return = at-seam u Return; at_zero = depth-front u (Return ∷ []) (suc (length u)) (omega arith) ∙ zero_deep })

pub ended_after : (u : List Record) (r : Record) → HasEnded (u ++ r ∷ []) → HasEnded u ⊎ ((r ≡ Return) × (depth u (suc (length u)) ≡ 0))
ended_after u r (i, p, e) = go (dec_le i (length u))
  where
    go : Dec (i ≤ length u) → HasEnded u ⊎ ((r ≡ Return) × (depth u (suc (length u)) ≡ 0))
    go (yes le) = inl (i, (p.0, le), record { a_return = sym (at-front u (r ∷ []) i le) ∙ e.a_return; at_zero = sym (depth-front u (r ∷ []) i (omega arith)) ∙ e.at_zero })
    go (no gt) =
        let is : i ≡ suc (length u) = omega (arith, p.1, length-append u (r ∷ [])) in
        let same : Some r ≡ Some Return = sym (at-seam u r) ∙ ap (at (u ++ r ∷ [])) (sym is) ∙ e.a_return in
        inr (cc, sym (depth-front u (r ∷ []) (suc (length u)) (omega arith)) ∙ ap (depth (u ++ r ∷ [])) (sym is) ∙ e.at_zero)
