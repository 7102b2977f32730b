-- The units of masks that the code makes.
use Rattle.blocks.proofs.Common.{◌≡◌, ◌≢◌, ℕ, zero, suc, ◌-◌, ◌/◌, ◌^◌, ◌<◌, min, max, true, false, not, ◌&&◌, ◌||◌, refl, sym, ap, ◌∙◌, arith, nat_eq, bit_at, bit_not, w64, trailing_zeros, bit_and, bit_or, bit_at_and, bit_at_or, bit_at_not, bit_at-lt, bit_at-zero, bit_at-trailing_zeros, shr_and_one, ne_eqb, has}

both : (x y : ℕ) → x < 2 → y < 2 → nat_eq (min x y) 1 ≡ (nat_eq x 1 && nat_eq y 1)
both zero zero a b = refl
both zero (suc zero) a b = refl
both (suc zero) zero a b = refl
both (suc zero) (suc zero) a b = refl
both (suc (suc x)) y a b = absurd (omega arith)
both x (suc (suc y)) a b = absurd (omega arith)

one : (x y : ℕ) → x < 2 → y < 2 → nat_eq (max x y) 1 ≡ (nat_eq x 1 || nat_eq y 1)
one zero zero a b = refl
one zero (suc zero) a b = refl
one (suc zero) zero a b = refl
one (suc zero) (suc zero) a b = refl
one (suc (suc x)) y a b = absurd (omega arith)
one x (suc (suc y)) a b = absurd (omega arith)

other : (x : ℕ) → x < 2 → nat_eq (1 - x) 1 ≡ not (nat_eq x 1)
other zero a = refl
other (suc zero) a = refl
other (suc (suc x)) a = absurd (omega arith)

pub has_and : (a b i : ℕ) → has (bit_and a b) i ≡ (has a i && has b i)
has_and a b i = ap (λ x. nat_eq x 1) (bit_at_and a b i) ∙ both (bit_at a i) (bit_at b i) (bit_at-lt a i) (bit_at-lt b i)

pub has_or : (a b i : ℕ) → has (bit_or a b) i ≡ (has a i || has b i)
has_or a b i = ap (λ x. nat_eq x 1) (bit_at_or a b i) ∙ one (bit_at a i) (bit_at b i) (bit_at-lt a i) (bit_at-lt b i)

pub has_not : (m i : ℕ) → m < 2 ^ 64 → i < 64 → has (bit_not w64 m) i ≡ not (has m i)
has_not m i h k = ap (λ x. nat_eq x 1) (bit_at_not w64 m i h k) ∙ other (bit_at m i) (bit_at-lt m i)

pub has_zero : (i : ℕ) → has 0 i ≡ false
has_zero i = ap (λ x. nat_eq x 1) (bit_at-zero i)

-- a mask with a unit, and one of its units
pub has_some : (m : ℕ) → m ≢ 0 → m < 2 ^ 64 → (i : ℕ) × (i < 64) × (has m i ≡ true)
has_some m h k =
    let t = bit_at-trailing_zeros w64 m (omega (arith, h)) k in
    (trailing_zeros w64 m, t.0, ap (λ x. nat_eq x 1) t.1)

-- the test `mask >> unit & 1 == 1`
pub has_if : (m i : ℕ) → bit_and (m / 2 ^ i) 1 ≡ 1 → has m i ≡ true
has_if m i e = ap (λ x. nat_eq x 1) (sym (shr_and_one m i) ∙ e)

pub has_unless : (m i : ℕ) → bit_and (m / 2 ^ i) 1 ≢ 1 → has m i ≡ false
has_unless m i h = ne_eqb (bit_at m i) 1 (λ e. h (shr_and_one m i ∙ e))
