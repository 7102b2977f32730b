-- Odd locations of a block that are forgotten one after another.
use Rattle.online.proofs.Common.{◌≡◌, ◌≢◌, ℕ, ◌+◌, ◌*◌, ◌%◌, ◌<◌, ◌≤◌, Bool, true, false, ◌&&◌, cond, refl, sym, ap, ◌∙◌, ⊎_elim, arith, cases_lt, eq-eqb, ne_eqb, eqb_tells, Cell, untouched, with_cell, has, block_of, unit_of, is_unit}

-- of these units those before unit n are forgotten, and all else is kept as it was
pub record AreForgotten (first units n : ℕ) (old new : ℕ → Cell) : Type 0 where
  pub done : (l : ℕ) → block_of l ≡ block_of first → unit_of l < n → has units (unit_of l) ≡ true → new l ≡ untouched
  pub left : (l : ℕ) → (block_of l ≡ block_of first → unit_of l < n → has units (unit_of l) ≡ true → ⊥) → new l ≡ old l

pub forgets_same : (first units n : ℕ) (old new : ℕ → Cell) → has units n ≡ false → AreForgotten first units n old new → AreForgotten first units (n + 1) old new
forgets_same first units n old new e a = record {
  done = λ l p k h. ⊎_elim (λ (j : unit_of l < n). a.done l p j h) (λ (j : n ≤ unit_of l). let same : unit_of l ≡ n = omega (arith, j, k) in absurd (not_both (sym e ∙ ap (has units) (sym same) ∙ h))) (cases_lt (unit_of l) n);
  left = λ l f. a.left l (λ p k h. f p (omega (arith, k)) h);
}
  where
    not_both : false ≡ true → ⊥
    not_both e = cc

module _ (first units n : ℕ) (old new after : ℕ → Cell) (odd : first % 128 ≡ 1) (within : n < 64) (e : has units n ≡ true) (a : AreForgotten first units n old new)
    (forgot : (l : ℕ) → after l ≡ with_cell (first + 2 * n) untouched new l) where
  abbrev x : ℕ
  x = first + 2 * n

  here : (l : ℕ) → l ≡ x → after l ≡ untouched
  here l s = forgot l ∙ ap (λ b. cond b untouched (new l)) (eq-eqb l x s)

  elsewhere : (l : ℕ) → l ≢ x → after l ≡ new l
  elsewhere l s = forgot l ∙ ap (λ b. cond b untouched (new l)) (ne_eqb l x s)

  unit_is : unit_of x ≡ n
  unit_is = omega (arith, odd, within)

  pub forgets_one : AreForgotten first units (n + 1) old after
  forgets_one = record {
    done = λ l p k h. ⊎_elim
        (λ (j : unit_of l < n). elsewhere l (λ s. omega (arith, j, unit_is, ap unit_of s)) ∙ a.done l p j h)
        (λ (j : n ≤ unit_of l). here l (omega (arith, p, j, k, odd, within)))
        (cases_lt (unit_of l) n);
    left = λ l f. elsewhere l (λ s. f (ap block_of s ∙ omega (arith, odd, within)) (omega (arith, ap unit_of s, unit_is)) (ap (has units) (ap unit_of s ∙ unit_is) ∙ e)) ∙ a.left l (λ p k h. f p (omega (arith, k)) h);
  }

pub forgets_all : (first units : ℕ) (old new : ℕ → Cell) → AreForgotten first units 64 old new → (l : ℕ) → new l ≡ cond (is_unit first units l) untouched (old l)
forgets_all first units old new a l = ⊎_elim
    (λ p. go p.1 (has units (unit_of l)) refl ∙ sym (ap (λ b. cond (b && has units (unit_of l)) untouched (old l)) p.0))
    (λ p. a.left l (λ q k h. p.1 q) ∙ sym (ap (λ b. cond (b && has units (unit_of l)) untouched (old l)) p.0))
    (eqb_tells (block_of l) (block_of first))
  where
    go : block_of l ≡ block_of first → (b : Bool) → has units (unit_of l) ≡ b → new l ≡ cond (has units (unit_of l)) untouched (old l)
    go p true h = a.done l p (omega arith) h ∙ sym (ap (λ b. cond b untouched (old l)) h)
    go p false h = a.left l (λ q k j. absurd (not_both (sym h ∙ j))) ∙ sym (ap (λ b. cond b untouched (old l)) h)
      where
        not_both : false ≡ true → ⊥
        not_both e = cc
