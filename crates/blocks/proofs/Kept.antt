-- What is kept of all locations, after an access to units of one page.
use Rattle.blocks.proofs.Common.{◌≡◌, ◌≢◌, ℕ, zero, suc, ◌<◌, ◌≤◌, ◌/◌, ◌==◌, Bool, true, false, List, ◌++◌, if◌then◌else◌, Some, nat_eq, refl, sym, ap, ◌∙◌, subst, ⊎_elim, arith, eqb_tells, option_to_list, lookup, Kind, Active, Cell, IsCellBefore, AreBefore, Block, location_of, unit_cell, block_cell, cell_in, race_at_unit, HasSameCells, HasSetPage, block_of, unit_of, first_of, cell_in_blocks, cell_later, page_after}
use Rattle.blocks.specs.Pages.{races_up_to}

-- the races at the same cells
pub races_of_same : (fs : List Active) (first : ℕ) (kind : Kind) (place units : ℕ) (c d : ℕ → Cell) (n : ℕ) → ((k : ℕ) → k < n → c k ≡ d k) → races_up_to fs first kind place units c n ≡ races_up_to fs first kind place units d n
unfolding races_up_to
races_of_same fs first kind place units c d zero h = refl
races_of_same fs first kind place units c d (suc n) h =
    ap (λ rs. rs ++ option_to_list (race_at_unit fs first kind place units n (c n))) (races_of_same fs first kind place units c d n (λ k l. h k (omega (arith, l))))
    ∙ ap (λ x. races_up_to fs first kind place units d n ++ option_to_list (race_at_unit fs first kind place units n x)) (h n (omega arith))

-- the locations of a page
pub location_page : (page n : ℕ) → n < 64 → block_of (location_of (first_of page) n) ≡ page
location_page page n h = omega (arith, h)

pub location_unit : (page n : ℕ) → n < 64 → unit_of (location_of (first_of page) n) ≡ n
location_unit page n h = omega (arith, h)

-- what is kept of the locations, once the page is back that was lent for an access; es are the pages before it was found
module _ (es ps fs : List (ℕ × Block)) (page : ℕ) (old new : Block) (same : HasSameCells block_cell es ps) (is : Some old ≡ lookup (nat_eq page) ps) (set : HasSetPage page new ps fs) where
  in_page : (l : ℕ) → block_of l ≡ page → unit_cell old (unit_of l) ≡ cell_in_blocks es l
  in_page l e = ap (λ o. block_cell o (l / 2)) is ∙ same page (l / 2) ∙ ap (λ q. cell_in block_cell es q (l / 2)) (sym e)

  -- a unit of the page is one of its locations
  pub at_unit : (i : ℕ) → i < 64 → unit_cell old i ≡ cell_in_blocks es (location_of (first_of page) i)
  at_unit i h = ap (unit_cell old) (sym (location_unit page i h)) ∙ in_page (location_of (first_of page) i) (location_page page i h)

  pub kept_after : (f : ℕ → Cell → Cell) → ((i : ℕ) → i < 64 → unit_cell new i ≡ f i (unit_cell old i)) → (l : ℕ) → cell_in_blocks fs l ≡ (if block_of l == page then f (unit_of l) (cell_in_blocks es l) else cell_in_blocks es l)
  kept_after f kept l = page_after block_cell ps fs page new set (block_of l) (l / 2) ∙ ⊎_elim here there (eqb_tells (block_of l) page)
    where
      Goal : Type 0
      Goal = (if block_of l == page then unit_cell new (unit_of l) else cell_in_blocks ps l) ≡ (if block_of l == page then f (unit_of l) (cell_in_blocks es l) else cell_in_blocks es l)

      here : (nat_eq (block_of l) page ≡ true) × (block_of l ≡ page) → Goal
      here (t, e) = rw t (kept (unit_of l) (omega arith) ∙ ap (f (unit_of l)) (in_page l e))

      there : (nat_eq (block_of l) page ≡ false) × (block_of l ≢ page) → Goal
      there (t, n) = rw t (same (block_of l) (l / 2))

  -- they are of places before the next one
  pub all_after : (place next count : ℕ) → AreBefore place count (cell_in_blocks es) → place ≤ next → ((i : ℕ) → i < 64 → IsCellBefore next count (unit_cell new i)) → AreBefore next count (cell_in_blocks fs)
  all_after place next count before h own l = subst (IsCellBefore next count) (sym (page_after block_cell ps fs page new set (block_of l) (l / 2))) (go (block_of l == page))
    where
      go : (b : Bool) → IsCellBefore next count (if b then unit_cell new (unit_of l) else cell_in_blocks ps l)
      go true = own (unit_of l) (omega arith)
      go false = subst (IsCellBefore next count) (sym (same (block_of l) (l / 2))) (cell_later place next count count (cell_in_blocks es l) h (omega arith) (before l))
