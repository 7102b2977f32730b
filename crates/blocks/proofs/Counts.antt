-- How many units of a mask stand before one.
use Rattle.blocks.proofs.Common.{◌≡◌, ℕ, zero, suc, ◌+◌, ◌*◌, ◌%◌, ◌^◌, ◌<◌, ◌≤◌, true, refl, sym, ap, ◌∙◌, ⊎_elim, subst, arith, bit_at, bit_at-lt, pow_pos, mod-pow-add, ones_cat, eqb-true, cases_lt, has, units_before}
use Rattle.std.specs.Int.RustNames.{count_ones}
use Rattle.std.proofs.Math.Nat.{mod-lt, mod-eq_of_lt, add_comm}

pub before-le : (m i : ℕ) → units_before m i ≤ i
before-le m zero = omega arith
before-le m (suc i) = omega (arith, before-le m i, bit_at-lt m i)

pub before-grows : (m i j : ℕ) → i ≤ j → units_before m i ≤ units_before m j
before-grows m i zero h = let e : 0 ≡ i = omega (arith, h) in subst (λ k. units_before m k ≤ 0) e (omega arith)
before-grows m i (suc j) h = ⊎_elim (λ (k : i < suc j). omega (arith, before-grows m i j (omega (arith, k)))) (λ (k : suc j ≤ i). let e : suc j ≡ i = omega (arith, h, k) in subst (λ n. units_before m n ≤ units_before m (suc j)) e (omega arith)) (cases_lt i (suc j))

-- a unit of the mask counts before each later one
pub before-one : (m i j : ℕ) → has m i ≡ true → i < j → units_before m i + 1 ≤ units_before m j
before-one m i j e h =
    let one : bit_at m i ≡ 1 = eqb-true (bit_at m i) 1 e in
    omega (arith, before-grows m (suc i) j (omega (arith, h)), one)

ones_of_bit : (b : ℕ) → b < 2 → b ≡ count_ones b
unfolding count_ones
ones_of_bit zero h = refl
ones_of_bit (suc zero) h = refl
ones_of_bit (suc (suc b)) h = absurd (omega (arith, h))

before_ones : (m i : ℕ) → units_before m i ≡ count_ones (m % 2 ^ i)
unfolding count_ones
before_ones m zero = let e : 0 ≡ m % 1 = omega arith in ap count_ones e
before_ones m (suc i) =
    let step : suc i ≡ 1 + i = omega arith in
    let parts : m % 2 ^ suc i ≡ bit_at m i * 2 ^ i + m % 2 ^ i = ap (λ k. m % 2 ^ k) step ∙ mod-pow-add m 1 i in
    sym (ap count_ones parts ∙ ones_cat i (bit_at m i) (m % 2 ^ i) (mod-lt m (pow_pos i)) ∙ ap (λ b. b + count_ones (m % 2 ^ i)) (sym (ones_of_bit (bit_at m i) (bit_at-lt m i))) ∙ ap (λ n. bit_at m i + n) (sym (before_ones m i)) ∙ add_comm (bit_at m i) (units_before m i))

-- all units of a mask
pub all_units : (m : ℕ) → m < 2 ^ 64 → units_before m 64 ≡ count_ones m
all_units m h = before_ones m 64 ∙ ap count_ones (mod-eq_of_lt h)

-- a unit counts before the end
pub one_of_all : (m i : ℕ) → m < 2 ^ 64 → i < 64 → has m i ≡ true → units_before m i + 1 ≤ count_ones m
one_of_all m i h k e = subst (λ n. units_before m i + 1 ≤ n) (all_units m h) (before-one m i 64 e k)

pub before_all : (m i : ℕ) → m < 2 ^ 64 → i ≤ 64 → units_before m i ≤ count_ones m
before_all m i h k = subst (λ n. units_before m i ≤ n) (all_units m h) (before-grows m i 64 k)
