-- Promised: pages by their numbers, and what is kept in their seats.
use Rattle.std.specs.Prelude.{◌≡◌, ℕ, ◌==◌, ◌&&◌, if◌then◌else◌, Bool, List, Option, Some, None, nat_eq, slice_get}
use Rattle.std.specs.Map.{lookup}
use Rattle.shadow.specs.Cells.{Cell, untouched}

module _ {P : Type 0} where
  -- the page of this number stands at this index of the list
  pub record IsPageAt (pages : List (ℕ × P)) (index page : ℕ) : Type 0 where
    pub kept : P
    pub found : lookup (nat_eq page) pages ≡ Some kept
    pub at : slice_get pages index ≡ Some (page, kept)

  -- the index of the page of this number, or that there is none
  abbrev pub IsLookedUp : List (ℕ × P) → ℕ → Option ℕ → Type 0
  IsLookedUp pages page (Some index) = IsPageAt pages index page
  IsLookedUp pages page None = lookup (nat_eq page) pages ≡ None

  -- this is the page of this number, and all others are as they were
  abbrev pub HasSetPage : ℕ → P → List (ℕ × P) → List (ℕ × P) → Type 0
  HasSetPage page p old new =
      (q : ℕ) → lookup (nat_eq q) new ≡ (if page == q then Some p else lookup (nat_eq q) old)

module _ {P : Type 0} (cell : Option P → ℕ → Cell) where
  -- what is kept in a seat of the page of this number
  abbrev pub cell_in : List (ℕ × P) → ℕ → ℕ → Cell
  cell_in pages page seat = cell (lookup (nat_eq page) pages) seat

  -- all is kept as it was
  abbrev pub HasSameCells : List (ℕ × P) → List (ℕ × P) → Type 0
  HasSameCells old new = (q k : ℕ) → cell_in new q k ≡ cell_in old q k

  -- nothing is kept in these seats of one page, and all else as it was
  abbrev pub ForgetsSeats : ℕ → (ℕ → Bool) → List (ℕ × P) → List (ℕ × P) → Type 0
  ForgetsSeats page has old new =
      (q k : ℕ) → cell_in new q k ≡ (if q == page && has k then untouched else cell_in old q k)
