-- Private: the cells of the locations: a page has eight of them.
use Rattle.std.specs.Prelude.{ℕ, ◌+◌, ◌*◌, ◌/◌, ◌%◌, ◌^◌, Bool, false, List, Option, Some, None, map, slice_index_or}
use Rattle.std.specs.List.{range_with_len}
use Rattle.shadow.specs.Cells.{Name, Cell, untouched}
use Rattle.shadow.specs.Pages.{cell_in}
use Rattle.shadow.specs.declared.spot.Layout.{Layout}
use Rattle.shadow.specs.declared.spot.Layout.TheVariants.{Program, Shards}

-- the kept writer and the kept reader of a location
pub record Names : Type 0 where
  pub writer : Option Name
  pub reader : Option Name

abbrev pub no_names : Names
no_names = record { writer = None; reader = None }

-- what is kept of a location with these names
abbrev pub cell_with : Names → Bool → Cell
cell_with n reported = record { writer = n.writer; reader = n.reader; reported = reported }

-- the names in the seats of a page, and whether the races of their locations were reported
pub record Page : Type 0 where
  pub names : List Names
  pub reported : List Bool

-- what is kept in a seat of a page, or if there is no page
abbrev pub cell_at : Option Page → ℕ → Cell
cell_at None seat = untouched
cell_at (Some p) seat = cell_with (slice_index_or p.names seat no_names) (slice_index_or p.reported seat false)

-- the number of shards
abbrev pub shards_of : Layout → ℕ
shards_of Program = 1
shards_of (Shards n) = n

-- how far apart the locations of one page are, among those of their shard
abbrev pub apart_of : Layout → ℕ
apart_of Program = 2
apart_of (Shards n) = 8

-- the number of a shard's page, by the number of one of its locations among those of the shard, where those of the
-- page are a apart
abbrev pub own_page_of : ℕ → ℕ → ℕ
own_page_of a number = number / a / 8 * a + number % a

-- The number of a location's page. With n shards a shard's locations are n apart, and the index of location l
-- among them is l / n.
abbrev pub page_of : Layout → ℕ → ℕ
page_of y l = own_page_of (apart_of y) (l / shards_of y) * shards_of y + l % shards_of y

-- the seat of a location in its page
abbrev pub seat_of : Layout → ℕ → ℕ
seat_of y l = l / shards_of y / apart_of y % 8

-- what is kept of a location
abbrev pub cell_of : Layout → List (ℕ × Page) → ℕ → Cell
cell_of y pages l = cell_in cell_at pages (page_of y l) (seat_of y l)

-- what is kept of all locations, by their numbers
unfoldable pub cells_of : (ℕ → Cell) → List Cell
cells_of kept = map kept (range_with_len 0 (2 ^ 64))
