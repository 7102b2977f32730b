-- Pages in a list by their numbers: their indices, and what is kept after one of them changed.
use Rattle.shadow.proofs.Common.{◌≡◌, ◌≢◌, ℕ, zero, suc, ◌<◌, ⊎_elim, List, [], ◌∷◌, ◌++◌, Bool, true, false, cond, ◌==◌, ◌&&◌, if◌then◌else◌, Option, Some, refl, sym, ap, ◌∙◌, subst, arith, nat_eq, slice_get, option_map, position, get_or, length, eqb-true, eq-eqb, ne_eqb, lookup, keys_of, values_of, slice_get-last, Cell, untouched, IsPageAt, HasSetPage, HasSameCells, cell_in}
use Rattle.std.proofs.lemmas.Bool.Decides.{eqb_tells}
use Rattle.std.proofs.lemmas.List.Quantifiers.{position-Some}

module _ {P : Type 0} where
  -- a number at the place that its look-up gives
  pub at_its_index : (es : List (ℕ × P)) (i page : ℕ) → position (nat_eq page) (keys_of es) ≡ Some i → IsPageAt es i page
  at_its_index es i page is =
      let first = position-Some (nat_eq page) (keys_of es) i 0 is in
      there es i first.1 first.0 first.2
    where
      there : (es : List (ℕ × P)) (i : ℕ) → nat_eq page (get_or (keys_of es) i 0) ≡ true → i < length (keys_of es) → ((k : ℕ) → k < i → nat_eq page (get_or (keys_of es) k 0) ≡ false) → IsPageAt es i page
      there [] i at within before = absurd (omega arith)
      there ((n, b) ∷ es) zero at within before = record { kept = b; found = rw at refl; at = ap (λ m. Some (m, b)) (sym (eqb-true page n at)) }
      there (e ∷ es) (suc i) at within before =
          let later = there es i at (omega arith) (λ k lt. before (suc k) (omega arith)) in
          record { kept = later.kept; found = rw (before 0 (omega arith)) later.found; at = later.at }

  -- a page that was added last
  pub at_the_end : (es fs : List (ℕ × P)) (page : ℕ) (b : P) → fs ≡ es ++ (page, b) ∷ [] → ((q : ℕ) → lookup (nat_eq q) fs ≡ cond (nat_eq page q) (Some b) (lookup (nat_eq q) es)) → IsPageAt fs (length es) page
  at_the_end es fs page b last looks = record {
    kept = b;
    found = looks page ∙ ap (λ t. cond t (Some b) (lookup (nat_eq page) es)) (eq-eqb page page refl);
    at = ap (λ xs. slice_get xs (length es)) last ∙ slice_get-last es (page, b);
  }

  -- the value at a page's index is the page
  pub value_there : (es : List (ℕ × P)) (i page : ℕ) (b : P) → (there : IsPageAt es i page) → Some b ≡ slice_get (values_of es) i → Some b ≡ Some there.kept
  value_there es i page b there is = is ∙ value_at es i there.kept there.at
    where
      value_at : (es : List (ℕ × P)) (i : ℕ) (c : P) → slice_get es i ≡ Some (page, c) → slice_get (values_of es) i ≡ Some c
      value_at [] i c e = ap (λ (o : Option (ℕ × P)). option_map (λ p. p.1) o) e
      value_at ((n, d) ∷ es) zero c e = ap (λ (o : Option (ℕ × P)). option_map (λ p. p.1) o) e
      value_at (d ∷ es) (suc i) c e = value_at es i c e

module _ {P : Type 0} (cell : Option P → ℕ → Cell) (es fs : List (ℕ × P)) (page : ℕ) where
  -- where a page came or went that keeps nothing, all is kept as it was
  pub same_cells : (o : Option P) → ((q : ℕ) → lookup (nat_eq q) fs ≡ cond (nat_eq page q) o (lookup (nat_eq q) es)) → ((k : ℕ) → cell o k ≡ untouched) → ((k : ℕ) → cell_in cell es page k ≡ untouched) → HasSameCells cell es fs
  same_cells o looks new old q k = ap (λ x. cell x k) (looks q) ∙ ⊎_elim same other (eqb_tells page q)
    where
      same : (nat_eq page q ≡ true) × (page ≡ q) → cell (cond (nat_eq page q) o (lookup (nat_eq q) es)) k ≡ cell_in cell es q k
      same (is, e) = rw is (new k ∙ sym (subst (λ n. cell_in cell es n k ≡ untouched) e (old k)))

      other : (nat_eq page q ≡ false) × (page ≢ q) → cell (cond (nat_eq page q) o (lookup (nat_eq q) es)) k ≡ cell_in cell es q k
      other (is, ne) = rw is refl

  -- what is kept after a page was set
  pub page_after : (new : P) → HasSetPage page new es fs → (q k : ℕ) → cell_in cell fs q k ≡ (if q == page then cell (Some new) k else cell_in cell es q k)
  page_after new set q k = ap (λ x. cell x k) (set q) ∙ ⊎_elim same other (eqb_tells page q)
    where
      After : Type 0
      After = cell (if page == q then Some new else lookup (nat_eq q) es) k ≡ (if q == page then cell (Some new) k else cell_in cell es q k)

      same : (nat_eq page q ≡ true) × (page ≡ q) → After
      same (t, e) = rw (t, eq-eqb q page (sym e)) refl

      other : (nat_eq page q ≡ false) × (page ≢ q) → After
      other (t, ne) = rw (t, ne_eqb q page (λ e. ne (sym e))) refl

  -- and of that page
  pub set_here : (new : P) → HasSetPage page new es fs → (k : ℕ) → cell_in cell fs page k ≡ cell (Some new) k
  set_here new set k = page_after new set page k ∙ ap (λ t. if t then cell (Some new) k else cell_in cell es page k) (eq-eqb page page refl)

  -- and where it differs in some seats
  pub put_changed : (c : Cell) (has : ℕ → Bool) (old new : P) → Some old ≡ lookup (nat_eq page) es → HasSetPage page new es fs → ((k : ℕ) → cell (Some new) k ≡ (if has k then c else cell (Some old) k))
      → (q k : ℕ) → cell_in cell fs q k ≡ (if q == page && has k then c else cell_in cell es q k)
  put_changed c has old new is set seats q k = page_after new set q k ∙ ⊎_elim same other (eqb_tells q page)
    where
      Changed : Type 0
      Changed = (if q == page then cell (Some new) k else cell_in cell es q k) ≡ (if q == page && has k then c else cell_in cell es q k)

      same : (nat_eq q page ≡ true) × (q ≡ page) → Changed
      same (t, e) = rw t (seats k ∙ ap (λ x. if has k then c else cell x k) (is ∙ ap (λ n. lookup (nat_eq n) es) (sym e)))

      other : (nat_eq q page ≡ false) × (q ≢ page) → Changed
      other (t, ne) = rw t refl
