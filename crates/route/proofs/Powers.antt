-- Powers of two, and the number below each.
use Rattle.route.proofs.Common.{◌≡◌, ℕ, suc, ◌<◌, ◌+◌, ◌-◌, ◌*◌, ◌%◌, ◌^◌, ap₂, subst, ◌∙◌, inl, inr, arith, two-pow-succ, cases_lt}
use Rattle.std.proofs.lemmas.Nat.{and_mask, and_block, leading_top, pow_pos}
use lib.Bits.{bit_and}

-- a number between two powers of two has a bit in common with the one below it
shares_a_bit : (n j : ℕ) → 2 ^ j < n → n < 2 ^ suc j → bit_and n (n - 1) ≡ 0 → ⊥
shares_a_bit n j more less none =
    let r : ℕ = n - 2 ^ j - 1 in
    let is : n ≡ 1 * 2 ^ j + suc r = omega (arith, more) in
    let below : n - 1 ≡ 1 * 2 ^ j + r = omega (arith, more) in
    let fits : suc r < 2 ^ j = omega (arith, less, two-pow-succ j) in
    let both : bit_and n (n - 1) ≡ bit_and 1 1 * 2 ^ j + bit_and (suc r) r = ap₂ bit_and is below ∙ and_block j 1 1 (suc r) r fits (omega (arith, fits)) in
    omega (arith, none, both, pow_pos j)

-- if a number has no bit in common with the one below it, that one has the bits of each remainder
pub remainder_of_power : (l n : ℕ) → 0 < n → n < 2 ^ 64 → bit_and n (n - 1) ≡ 0 → bit_and l (n - 1) ≡ l % n
remainder_of_power l n some small none =
    let top = leading_top 64 n some small in
    let j = top.0 in
    elim (cases_lt (2 ^ j) n) [
      | inl more ↦ absurd (shares_a_bit n j more top.3 none)
      | inr most ↦ (let is : 2 ^ j ≡ n = omega (arith, most, top.2) in subst (λ (m : ℕ). bit_and l (m - 1) ≡ l % m) is (and_mask l j))
    ]
