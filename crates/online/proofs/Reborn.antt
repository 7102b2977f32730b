-- Locations that begin a new life.
use Rattle.online.proofs.Common.{◌≡◌, ◌≢◌, ℕ, ◌+◌, ◌*◌, ◌/◌, ◌%◌, ◌^◌, ◌<◌, Bool, true, false, ◌&&◌, List, length, cond, nat_eq, sym, ap, ◌∙◌, subst, ⊎_elim, arith, ne_eqb, Record, Placed, placed, Procedures, Cell, untouched, Shadow, kept_of, state_after, KeepsBest, has, Blocks, block_of, unit_of, is_unit, kept_in_blocks, named, lives_after, HasOnlyAccessed, Online, kept_in_both, HasTakenPlaced, IsRunning, IsAfter}
use Rattle.online.proofs.Found.{odd_cell, even_cell, parity}

module _ (u : List Placed) (lives : ℕ → ℕ) (location units : ℕ) (d e : Online) (h : HasTakenPlaced u lives d) (bags : e.sp_bags.bags ≡ d.sp_bags.bags) (kept : e.kept ≡ d.kept)
    (forgot : (l : ℕ) → kept_in_both e.sp_bags.shadow e.blocks l ≡ cond (is_unit location units l) untouched (kept_in_both d.sp_bags.shadow d.blocks l)) where
  abbrev t : ℕ → Cell
  t = (state_after u).kept

  life : (l : ℕ) → l < 2 ^ 64 → (b : Bool) → cond b untouched (kept_in_both d.sp_bags.shadow d.blocks l) ≡ t (named l (cond b (lives l + 1) (lives l)))
  life l f true = sym (h.later l (lives l + 1) f (omega arith))
  life l f false = h.cells_are l f

  older : (n k : ℕ) (b : Bool) → cond b (n + 1) n < k → n < k
  older n k true j = omega (arith, j)
  older n k false j = j

  pub taken_reborn : HasTakenPlaced u (lives_after location units lives) e
  taken_reborn = record {
    bags_are = bags ∙ h.bags_are;
    cells_are = λ l f. forgot l ∙ life l f (is_unit location units l);
    later = λ l k f j. h.later l k f (older (lives l) k (is_unit location units l) j);
    given = h.given;
    holds = subst (KeepsBest h.given) (sym kept) h.holds;
    none_failed = h.none_failed;
    races = h.races;
  }

pub after_reborn : (u : List Record) (lives : ℕ → ℕ) (location units : ℕ) (d e : Online) → IsAfter u lives d → HasOnlyAccessed d e → e.kept ≡ d.kept → e.sp_bags.last_place ≡ d.sp_bags.last_place
    → ((l : ℕ) → kept_in_both e.sp_bags.shadow e.blocks l ≡ cond (is_unit location units l) untouched (kept_in_both d.sp_bags.shadow d.blocks l)) → IsAfter u (lives_after location units lives) e
after_reborn u lives location units d e h only kept last forgot = record {
  met = taken_reborn (placed u) lives location units d e h.met only.bags kept forgot;
  last = last ∙ h.last;
  within = h.within;
  runs = subst (λ b. IsRunning u b (length e.sp_bags.bags.active)) (sym only.ended) (subst (λ (b : Procedures). IsRunning u d.sp_bags.ended (length b.active)) (sym only.bags) h.runs);
  going = only.going ∙ h.going;
}

-- no unit of a block of another parity is among the units
not_unit : (location units l : ℕ) → location % 2 ≢ l % 2 → is_unit location units l ≡ false
not_unit location units l ne = ap (λ b. b && has units (unit_of l)) (ne_eqb (block_of l) (block_of location) (λ e. ne (omega (arith, e))))

pub even_forgotten : (cells : Shadow) (old new : Blocks) (location units : ℕ) → location % 2 ≡ 0 → ((l : ℕ) → kept_in_blocks new l ≡ cond (is_unit location units l) untouched (kept_in_blocks old l))
    → (l : ℕ) → kept_in_both cells new l ≡ cond (is_unit location units l) untouched (kept_in_both cells old l)
even_forgotten cells old new location units is forgot l = ⊎_elim
    (λ (e : l % 2 ≡ 0). even_cell cells new l e ∙ forgot l ∙ ap (cond (is_unit location units l) untouched) (sym (even_cell cells old l e)))
    (λ (o : l % 2 ≢ 0). odd_cell cells new l o ∙ sym (odd_cell cells old l o) ∙ sym (ap (λ b. cond b untouched (kept_in_both cells old l)) (not_unit location units l (λ x. o (sym x ∙ is)))))
    (parity l)

pub odd_forgotten : (old new : Shadow) (blocks : Blocks) (location units : ℕ) → location % 2 ≢ 0 → ((l : ℕ) → kept_of new l ≡ cond (is_unit (location / 128 * 128 + 1) units l) untouched (kept_of old l))
    → (l : ℕ) → kept_in_both new blocks l ≡ cond (is_unit location units l) untouched (kept_in_both old blocks l)
odd_forgotten old new blocks location units odd forgot l = ⊎_elim
    (λ (e : l % 2 ≡ 0). even_cell new blocks l e ∙ sym (even_cell old blocks l e) ∙ sym (ap (λ b. cond b untouched (kept_in_both old blocks l)) (not_unit location units l (λ x. odd (x ∙ e)))))
    (λ (o : l % 2 ≢ 0). odd_cell new blocks l o ∙ forgot l
    ∙ ap (λ k. cond (nat_eq (block_of l) k && has units (unit_of l)) untouched (kept_of old l)) same ∙ ap (cond (is_unit location units l) untouched) (sym (odd_cell old blocks l o)))
    (parity l)
  where
    same : block_of (location / 128 * 128 + 1) ≡ block_of location
    same = omega (arith, odd)
