-- Accesses to none of the units of a block, and to one.
use Rattle.online.proofs.Common.{◌≡◌, ◌≢◌, ℕ, zero, suc, ◌+◌, ◌^◌, ◌<◌, ◌≤◌, true, false, List, [], ◌∷◌, ◌++◌, cond, nat_eq, refl, sym, ap, ◌∙◌, ⊎_elim, arith, append-nil, bit_at, count_ones, bit_at-pow_same, bit_at-pow_other, pow_below, cases_lt, Kind, Placed, access, has, units_before, location_of, block_of, unit_of, first_of, access_of, accesses, has_zero, all_units}
use Rattle.online.specs.Accesses.{accesses_up_to}

none_up_to : (first : ℕ) (kind : Kind) (place n : ℕ) → accesses_up_to first kind place 0 n ≡ []
unfolding accesses_up_to
none_up_to first kind place zero = refl
none_up_to first kind place (suc n) =
    ap (λ b. accesses_up_to first kind place 0 n ++ cond b (access_of first kind place 0 n ∷ []) []) (has_zero n)
    ∙ append-nil (accesses_up_to first kind place 0 n) ∙ none_up_to first kind place n

pub none_accessed : (location : ℕ) (kind : Kind) (place units : ℕ) → units ≡ 0 → accesses location kind place units ≡ []
none_accessed location kind place units e = ap (accesses location kind place) e ∙ none_up_to (first_of (block_of location)) kind place 64

-- a mask of one unit

other_unit : (k i : ℕ) → i ≢ k → has (2 ^ k) i ≡ false
other_unit k i h = ap (λ x. nat_eq x 1) (bit_at-pow_other k i h)

own_unit : (k : ℕ) → has (2 ^ k) k ≡ true
own_unit k = ap (λ x. nat_eq x 1) (bit_at-pow_same k)

before_own : (k n : ℕ) → n ≤ k → units_before (2 ^ k) n ≡ 0
before_own k zero h = refl
before_own k (suc n) h = omega (arith, before_own k n (omega (arith, h)), bit_at-pow_other k n (λ e. omega (arith, h, e)))

before_past : (k n : ℕ) → k < n → units_before (2 ^ k) n ≡ 1
before_past k zero h = absurd (omega (arith, h))
before_past k (suc n) h = ⊎_elim
    (λ (later : k < n). omega (arith, before_past k n later, bit_at-pow_other k n (λ e. omega (arith, later, e))))
    (λ (here : n ≤ k). let same : n ≡ k = omega (arith, here, h) in omega (arith, before_own k n here, ap (bit_at (2 ^ k)) same ∙ bit_at-pow_same k))
    (cases_lt k n)

pub one_unit : (k : ℕ) → k < 64 → count_ones (2 ^ k) ≡ 1
one_unit k h = sym (all_units (2 ^ k) (pow_below k 64 h)) ∙ before_past k 64 h

before_it : (first : ℕ) (kind : Kind) (place k n : ℕ) → n ≤ k → accesses_up_to first kind place (2 ^ k) n ≡ []
unfolding accesses_up_to
before_it first kind place k zero h = refl
before_it first kind place k (suc n) h =
    ap (λ b. accesses_up_to first kind place (2 ^ k) n ++ cond b (access_of first kind place (2 ^ k) n ∷ []) []) (other_unit k n (λ e. omega (arith, h, e)))
    ∙ append-nil (accesses_up_to first kind place (2 ^ k) n) ∙ before_it first kind place k n (omega (arith, h))

past_it : (first : ℕ) (kind : Kind) (place k n : ℕ) → k < n → accesses_up_to first kind place (2 ^ k) n ≡ record { place = place; what = access kind (location_of first k) } ∷ []
unfolding accesses_up_to
past_it first kind place k zero h = absurd (omega (arith, h))
past_it first kind place k (suc n) h = ⊎_elim
    (λ (later : k < n).
    ap (λ b. accesses_up_to first kind place (2 ^ k) n ++ cond b (access_of first kind place (2 ^ k) n ∷ []) []) (other_unit k n (λ e. omega (arith, later, e)))
    ∙ append-nil (accesses_up_to first kind place (2 ^ k) n) ∙ past_it first kind place k n later)
    (λ (here : n ≤ k).
    let same : n ≡ k = omega (arith, here, h) in
    let its : place + units_before (2 ^ k) n ≡ place = omega (arith, before_own k n here) in
    ap (λ b. accesses_up_to first kind place (2 ^ k) n ++ cond b (access_of first kind place (2 ^ k) n ∷ []) []) (ap (has (2 ^ k)) same ∙ own_unit k)
    ∙ ap (λ (l : List Placed). l ++ access_of first kind place (2 ^ k) n ∷ []) (before_it first kind place k n here)
    ∙ ap (λ p. record { place = p; what = access kind (location_of first n) } ∷ []) its
    ∙ ap (λ m. record { place = place; what = access kind (location_of first m) } ∷ []) same)
    (cases_lt k n)

pub one_accessed : (location : ℕ) (kind : Kind) (place units : ℕ) → units ≡ 2 ^ unit_of location → accesses location kind place units ≡ record { place = place; what = access kind location } ∷ []
one_accessed location kind place units e =
    let is : location_of (first_of (block_of location)) (unit_of location) ≡ location = omega arith in
    ap (accesses location kind place) e ∙ past_it (first_of (block_of location)) kind place (unit_of location) 64 (omega arith)
    ∙ ap (λ l. record { place = place; what = access kind l } ∷ []) is
