-- Records are in order exactly where they may follow the start of a run.
use Rattle.shard.proofs.Common.{◌≡◌, ℕ, zero, suc, ◌+◌, ◌-◌, ◌<◌, ◌≤◌, List, [], ◌∷◌, length, take, Some, slice_get, ◌⊎◌, inl, inr, ◌↔◌, ⊎_elim, refl, sym, ap, subst, arith, length-map, Record, Spawn, Call, Return, Sync, Read, Write, Placed, opens, closes, depth, IsRootReturn, whats, RiseFrom, Follow, AreInOrder}
use native.Mathlib.Decide.{dec_le}
use Rattle.std.specs.List.{sum_by}
use Rattle.std.proofs.lemmas.List.Sums.{sum_by-cons}
use Rattle.std.proofs.lemmas.Option.{same_Some}

-- from a depth on, only the last record is a return at depth 0
abbrev pub EndsLast : ℕ → List Record → Type 0
EndsLast d v = (j : ℕ) → slice_get v j ≡ Some Return → d + sum_by opens (take j v) ≤ sum_by closes (take j v) → suc j ≡ length v

within : (v : List Record) (j : ℕ) (r : Record) → slice_get v j ≡ Some r → j < length v
within [] j r e = absurd (cc)
within (x ∷ v) zero r e = omega arith
within (x ∷ v) (suc j) r e = let h = within v j r e in omega arith

-- where no earlier record is the root's return
pub ends_last : (v : List Record) → ((i : ℕ) → i < length v → IsRootReturn v i → ⊥) → EndsLast 0 v
ends_last v none_earlier j at few = go (dec_le (suc (suc j)) (length v))
  where
    go : Dec (suc j < length v) → suc j ≡ length v
    go (yes lt) = absurd (none_earlier (suc j) lt (record { a_return = at; at_zero = omega arith }))
    go (no last) = let lt = within v j Return at in omega arith

none_earlier : (v : List Record) → EndsLast 0 v → (i : ℕ) → i < length v → IsRootReturn v i → ⊥
none_earlier v last zero lt r = let e = r.a_return in absurd (cc)
none_earlier v last (suc j) lt r =
    let flat : depth v (suc j) ≡ 0 = r.at_zero in
    let e = last j r.a_return (omega arith) in
    omega arith

ends_rest : (d e : ℕ) (r : Record) (v : List Record) → d + opens r ≤ e + closes r → EndsLast d (r ∷ v) → EndsLast e v
ends_rest d e r v le last j at few =
    let few' : d + sum_by opens (r ∷ take j v) ≤ sum_by closes (r ∷ take j v) = omega (arith, sum_by-cons opens r (take j v), sum_by-cons closes r (take j v)) in
    let h : suc (suc j) ≡ suc (length v) = last (suc j) at few' in
    omega arith

none_left : (u : List Placed) → 0 ≡ length (whats u) → u ≡ []
none_left [] e = refl
none_left (p ∷ u) e = absurd (omega arith)

return_or_not : (r : Record) → (r ≡ Return) ⊎ (closes r ≡ 0)
return_or_not Spawn = inr refl
return_or_not Call = inr refl
return_or_not Return = inl refl
return_or_not Sync = inr refl
return_or_not (Read l) = inr refl
return_or_not (Write l) = inr refl

closes_one : (r : Record) → closes r ≤ 1
closes_one Spawn = omega arith
closes_one Call = omega arith
closes_one Return = omega arith
closes_one Sync = omega arith
closes_one (Read l) = omega arith
closes_one (Write l) = omega arith

empty_after : (d : ℕ) (p : Placed) (u : List Placed) → d ≡ 0 → EndsLast d (whats (p ∷ u)) → p.what ≡ Return → u ≡ []
empty_after d p u flat last is = none_left u (let e = last 0 (ap Some is) (omega arith) in omega arith)

pub to_follow : (m n d : ℕ) (u : List Placed) → n ≡ suc d → RiseFrom m u → EndsLast d (whats u) → Follow m n u
to_follow m n d [] is rise last = tt
to_follow m n zero (p ∷ u) is rise last = (
  rise.0,
  rise.1,
  (λ ret one. empty_after 0 p u refl last ret),
  ⊎_elim
      (λ ret. let P : List Placed → Type 0 = Follow p.place ((n + opens p.what) - closes p.what) in subst P (sym (empty_after 0 p u refl last ret)) tt)
      (λ none. to_follow p.place _ (opens p.what) u (omega arith) rise.2 (ends_rest 0 (opens p.what) p.what (whats u) (omega arith) last))
      (return_or_not p.what),
)
to_follow m n (suc d) (p ∷ u) is rise last =
    let few = closes_one p.what in
    (rise.0, rise.1, (λ ret one. absurd (omega arith)), to_follow p.place _ ((suc d + opens p.what) - closes p.what) u (omega arith) rise.2 (ends_rest (suc d) ((suc d + opens p.what) - closes p.what) p.what (whats u) (omega arith) last))

pub rising : (m n : ℕ) (u : List Placed) → Follow m n u → RiseFrom m u
rising m n [] h = tt
rising m n (p ∷ u) h = (h.0, h.1, rising p.place _ u h.3)

none_at : (u : List Placed) (j : ℕ) {X : Type 0} → u ≡ [] → slice_get (whats u) j ≡ Some Return → X
none_at u j {X} is at =
    let P : List Placed → Type 0 = λ x. slice_get (whats x) j ≡ Some Return in
    let e : P [] = subst P is at in
    absurd (cc)

ends : (m n d : ℕ) (u : List Placed) → n ≡ suc d → Follow m n u → EndsLast d (whats u)
ends m n d [] is h j at few = absurd (cc)
ends m n d (p ∷ u) is h zero at few =
    let flat : n ≡ 1 = omega arith in
    let P : List Placed → Type 0 = λ x. 1 ≡ suc (length (whats x)) in
    subst P (sym (h.2 (same_Some p.what Return at) flat)) refl
ends m n zero (p ∷ u) is h (suc j) at few = ⊎_elim
    (λ ret. none_at u j (h.2 ret is) at)
    (λ none.
    let few' : opens p.what + sum_by opens (take j (whats u)) ≤ sum_by closes (take j (whats u)) = omega (arith, sum_by-cons opens p.what (take j (whats u)), sum_by-cons closes p.what (take j (whats u))) in
    ap suc (ends p.place _ (opens p.what) u (omega arith) h.3 j at few'))
    (return_or_not p.what)
ends m n (suc d) (p ∷ u) is h (suc j) at few =
    let one = closes_one p.what in
    let few' : ((suc d + opens p.what) - closes p.what) + sum_by opens (take j (whats u)) ≤ sum_by closes (take j (whats u)) = omega (arith, sum_by-cons opens p.what (take j (whats u)), sum_by-cons closes p.what (take j (whats u))) in
    ap suc (ends p.place _ ((suc d + opens p.what) - closes p.what) u (omega arith) h.3 j at few')

-- in order, and following the start of a run
pub following : (u : List Placed) → AreInOrder u ↔ Follow 0 1 u
following u =
    let same : length (whats u) ≡ length u = length-map u (λ (p : Placed). p.what) in (
      (λ h. to_follow 0 1 0 u refl h.rising (ends_last (whats u) (λ i lt. h.ended_last i (omega arith)))),
      (λ h. record { rising = rising 0 1 u h; ended_last = λ i lt. none_earlier (whats u) (ends 0 1 0 u refl h) i (omega arith) }),
    )
