-- Promised: shadow memory by blocks: what is kept of each location, and how far the run has come.
use Rattle.std.specs.Prelude.{ℕ, ◌+◌, ◌*◌, ◌/◌, ◌%◌, ◌==◌, ◌&&◌, Bool, List, if◌then◌else◌}
use Rattle.dag.specs.declared.records.Kind.{Kind}
use Rattle.dag.specs.Accesses.{RaceAt}
use Rattle.bags.specs.Procedures.{Active}
use Rattle.shadow.specs.Cells.{Cell}
use Rattle.shadow.specs.Pages.{cell_in}
use Rattle.blocks.specs.Masks.{has}
use Rattle.blocks.specs.Pages.{Block, block_cell, location_of, touched_at, races_up_to}

-- the pages of the locations that were touched, the place from which the next access may come, and the count of the
-- bags at the last one
pub record Blocks : Type 0 where
  pub pages : List (ℕ × Block)
  pub next_place : ℕ
  pub least_count : ℕ

-- The number of a location's page, and its unit there: the locations of a page are two apart.
abbrev pub block_of : ℕ → ℕ
block_of l = l / 128 * 2 + l % 2

abbrev pub unit_of : ℕ → ℕ
unit_of l = l / 2 % 64

-- whether it is the location of one of these units of another location's block
abbrev pub is_unit : ℕ → ℕ → ℕ → Bool
is_unit location units l = block_of l == block_of location && has units (unit_of l)

-- the location of a page's unit 0
abbrev pub first_of : ℕ → ℕ
first_of page = page / 2 * 128 + page % 2

-- what is kept of a location
abbrev pub cell_in_blocks : List (ℕ × Block) → ℕ → Cell
cell_in_blocks pages l = cell_in block_cell pages (block_of l) (l / 2)

abbrev pub kept_in_blocks : Blocks → ℕ → Cell
kept_in_blocks m l = cell_in_blocks m.pages l

abbrev pub next_place_of : Blocks → ℕ
next_place_of m = m.next_place

abbrev pub count_of_blocks : Blocks → ℕ
count_of_blocks m = m.least_count

-- what is kept of a location after an access to these units of a block, the first of them at this place
abbrev pub kept_after_units : List Active → Kind → ℕ → ℕ → ℕ → (ℕ → Cell) → ℕ → Cell
kept_after_units fs kind place units block kept l =
    if block_of l == block then touched_at fs kind place units (unit_of l) (kept l) else kept l

-- the races that such an access reports, by ascending locations
abbrev pub races_in_block : List Active → Kind → ℕ → ℕ → ℕ → (ℕ → Cell) → List RaceAt
races_in_block fs kind place units block kept =
    races_up_to fs (first_of block) kind place units (λ unit. kept (location_of (first_of block) unit)) 64
