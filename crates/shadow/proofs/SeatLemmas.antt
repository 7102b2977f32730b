-- A location's cell is a seat of its own.
use Rattle.shadow.proofs.Common.{◌≡◌, ◌≢◌, ◌≤◌, ◌+◌, ◌/◌, ◌%◌, ◌*◌, ℕ, ◌⊎◌, inl, inr, arith, ⊎_elim, List, Option, Some, true, false, if◌then◌else◌, ◌==◌, ◌&&◌, nat_eq, refl, sym, subst, ap, ◌∙◌, lookup, cases_eq, eq-eqb, ne_eqb, div-add-mod', div-mul-add, mod-mul-add, mod-lt, RaceAt, Kind, Procedures, IsCellBefore, HasTouched, Cell, touched, race_at, cell_in, cell_of, page_of, seat_of, HasSetPage, HasSameCells, Page, cell_at, shards_of, apart_of, own_page_of, with_cell}
use Rattle.std.proofs.lemmas.Bool.Decides.{eqb_tells}
use Rattle.shadow.proofs.PageLemmas.{put_changed}
use Rattle.shadow.specs.declared.spot.Layout.{Layout}
use Rattle.shadow.specs.declared.spot.Layout.TheVariants.{Program, Shards}

-- two numbers of a shard's locations that have one page there have seats of their own
one_number : (y : Layout) (a b : ℕ) → own_page_of (apart_of y) a ≡ own_page_of (apart_of y) b → a / apart_of y % 8 ≡ b / apart_of y % 8 → a ≡ b
one_number Program a b pages seats = omega (arith, pages, seats)
one_number (Shards n) a b pages seats = omega (arith, pages, seats)

-- two locations of one page have seats of their own
one_seat : (y : Layout) (l q : ℕ) → 1 ≤ shards_of y → page_of y l ≡ page_of y q → seat_of y l ≡ seat_of y q → l ≡ q
one_seat y l q some pages seats = sym (div-add-mod' l n) ∙ ap (λ x. x * n + l % n) numbers ∙ ap (λ x. q / n * n + x) shards ∙ div-add-mod' q n
  where
    n : ℕ
    n = shards_of y

    own : ℕ → ℕ
    own x = own_page_of (apart_of y) x

    shards : l % n ≡ q % n
    shards = sym (mod-mul-add (own (l / n)) n (l % n) (mod-lt l some)) ∙ ap (λ x. x % n) pages ∙ mod-mul-add (own (q / n)) n (q % n) (mod-lt q some)

    owns : own (l / n) ≡ own (q / n)
    owns = sym (div-mul-add (own (l / n)) n (l % n) (mod-lt l some)) ∙ ap (λ x. x / n) pages ∙ div-mul-add (own (q / n)) n (q % n) (mod-lt q some)

    numbers : l / n ≡ q / n
    numbers = one_number y (l / n) (q / n) owns seats

-- so a put there changes what is kept of no other location
pub put_is_of : (n : Layout) (es fs : List (ℕ × Page)) (l : ℕ) (c : Cell) → 1 ≤ shards_of n → ((q k : ℕ) → cell_in cell_at fs q k ≡ (if q == page_of n l && k == seat_of n l then c else cell_in cell_at es q k))
    → (q : ℕ) → cell_of n fs q ≡ with_cell l c (cell_of n es) q
put_is_of n es fs l c some put q = put (page_of n q) (seat_of n q) ∙ ap (λ t. if t then c else cell_of n es q) (⊎_elim same other (eqb_tells q l))
  where
    One : Type 0
    One = (page_of n q == page_of n l && seat_of n q == seat_of n l) ≡ (q == l)

    same : (nat_eq q l ≡ true) × (q ≡ l) → One
    same (is, e) = rw (is, eq-eqb (page_of n q) (page_of n l) (ap (page_of n) e), eq-eqb (seat_of n q) (seat_of n l) (ap (seat_of n) e)) refl

    other : (nat_eq q l ≡ false) × (q ≢ l) → One
    other (is, ne) = rw is (not_both (eqb_tells (page_of n q) (page_of n l)) (eqb_tells (seat_of n q) (seat_of n l)))
      where
        not_both : ((nat_eq (page_of n q) (page_of n l) ≡ true) × (page_of n q ≡ page_of n l)) ⊎ ((nat_eq (page_of n q) (page_of n l) ≡ false) × (page_of n q ≢ page_of n l))
            → ((nat_eq (seat_of n q) (seat_of n l) ≡ true) × (seat_of n q ≡ seat_of n l)) ⊎ ((nat_eq (seat_of n q) (seat_of n l) ≡ false) × (seat_of n q ≢ seat_of n l))
            → (page_of n q == page_of n l && seat_of n q == seat_of n l) ≡ false
        not_both (inl (p, pages)) (inl (s, seats)) = absurd (ne (one_seat n q l some pages seats))
        not_both (inl (p, pages)) (inr (s, seats)) = rw (p, s) refl
        not_both (inr (p, pages)) s = rw p refl

-- what is kept of a location stands in the page that is lent for it; es are the pages before it was found
pub lent_cell : (n : Layout) (es ps : List (ℕ × Page)) (l page seat : ℕ) (old : Page) → page ≡ page_of n l → seat ≡ seat_of n l → HasSameCells cell_at es ps → Some old ≡ lookup (nat_eq page) ps → cell_at (Some old) seat ≡ cell_of n es l
lent_cell n es ps l page seat old page_is seat_is same is = ap (λ p. cell_at p seat) is ∙ same page seat ∙ ap (λ p. cell_in cell_at es p seat) page_is ∙ ap (λ k. cell_in cell_at es (page_of n l) k) seat_is

-- the race of an access, and what each location keeps once the page is back that was lent for it
pub kept_by_touch : {s : Procedures} {place : ℕ} {kind : Kind} {race : Option RaceAt} (n : Layout) (es ps fs : List (ℕ × Page)) (l page seat : ℕ) (old new : Page)
    → 1 ≤ shards_of n → page ≡ page_of n l → seat ≡ seat_of n l → HasSameCells cell_at es ps → Some old ≡ lookup (nat_eq page) ps → HasSetPage page new ps fs
    → ((k : ℕ) → k ≢ seat → cell_at (Some new) k ≡ cell_at (Some old) k) → HasTouched s l kind place (cell_at (Some old) seat) (cell_at (Some new) seat) race
    → (race ≡ race_at s.active l kind place (cell_of n es l)) × IsCellBefore (place + 1) s.count (touched s.active kind place (cell_of n es l)) × ((q : ℕ) → cell_of n fs q ≡ with_cell l (touched s.active kind place (cell_of n es l)) (cell_of n es) q)
kept_by_touch {s = s} {place = place} {kind = kind} n es ps fs l page seat old new some page_is seat_is same is set others t =
    (t.race_is ∙ ap (race_at s.active l kind place) before, subst (IsCellBefore (place + 1) s.count) now t.earlier, put_is_of n es fs l cell some put)
  where
    cell : Cell
    cell = touched s.active kind place (cell_of n es l)

    before : cell_at (Some old) seat ≡ cell_of n es l
    before = lent_cell n es ps l page seat old page_is seat_is same is

    now : cell_at (Some new) seat ≡ cell
    now = t.kept ∙ ap (touched s.active kind place) before

    seats : (k : ℕ) → cell_at (Some new) k ≡ (if k == seat then cell else cell_at (Some old) k)
    seats k = elim (cases_eq k seat) [
      | inl here ↦ rw (eq-eqb k seat here) (ap (cell_at (Some new)) here ∙ now)
      | inr there ↦ rw (ne_eqb k seat there) (others k there)
    ]

    put : (q k : ℕ) → cell_in cell_at fs q k ≡ (if q == page_of n l && k == seat_of n l then cell else cell_in cell_at es q k)
    put q k = subst (λ p. cell_in cell_at fs q k ≡ (if q == p && k == seat_of n l then cell else cell_in cell_at es q k)) page_is (subst (λ i. cell_in cell_at fs q k ≡ (if q == page && k == i then cell else cell_in cell_at es q k)) seat_is
        (put_changed cell_at ps fs page cell (λ i. i == seat) old new is set seats q k ∙ ap (λ d. if q == page && k == seat then cell else d) (same q k)))
