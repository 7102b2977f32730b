-- Promised: what a page keeps of its 64 units, and what an access to some of them does.
use Rattle.std.specs.Prelude.{ℕ, zero, suc, ◌+◌, Option, None, Some, List, if◌then◌else◌, [], ◌∷◌, unwrap_or, ◌*◌, ◌%◌}
use Rattle.std.specs.Prelude.{◌++◌}
use Rattle.std.specs.Option.{option_or, option_to_list}
use Rattle.dag.specs.declared.records.Kind.{Kind}
use Rattle.dag.specs.Accesses.{RaceAt}
use Rattle.bags.specs.Procedures.{Active}
use Rattle.shadow.specs.Cells.{Cell, untouched, touched, race_at}
use Rattle.blocks.specs.Masks.{units_before, has}
use Rattle.blocks.specs.Steps.{no_steps, named_cell}
use Rattle.blocks.specs.declared.groups.Group.{Group}
use Rattle.blocks.specs.declared.step.Names.{Names}

-- the names that are kept of a unit: those of the last group that has it
abbrev pub names_at : List Group → ℕ → Option Names
names_at [] unit = None
names_at (g ∷ gs) unit = option_or (names_at gs unit) (if has g.units unit then Some g.names else None)

abbrev pub names_of : List Group → ℕ → Names
names_of gs unit = unwrap_or (names_at gs unit) no_steps

-- the groups, and the units whose race was reported
pub record Block : Type 0 where
  pub groups : List Group
  pub reported : ℕ

-- what is kept of a unit
abbrev pub unit_cell : Block → ℕ → Cell
unit_cell p unit = named_cell (names_of p.groups unit) unit (has p.reported unit)

-- what a page keeps of a unit, or what is kept if there is no page
abbrev pub block_cell : Option Block → ℕ → Cell
block_cell None i = untouched
block_cell (Some p) i = unit_cell p (i % 64)

-- what is kept of a unit after an access to these units, the first of them at this place
abbrev pub touched_at : List Active → Kind → ℕ → ℕ → ℕ → Cell → Cell
touched_at fs kind place units unit c =
    if has units unit then touched fs kind (place + units_before units unit) c else c

-- the location of a unit, by that of unit 0
abbrev pub location_of : ℕ → ℕ → ℕ
location_of first unit = first + 2 * unit

-- the race that is reported at a unit
abbrev pub race_at_unit : List Active → ℕ → Kind → ℕ → ℕ → ℕ → Cell → Option RaceAt
race_at_unit fs first kind place units unit c =
    if has units unit then race_at fs (location_of first unit) kind (place + units_before units unit) c else None

-- those that are reported at the units up to one, by ascending units
unfoldable pub races_up_to : List Active → ℕ → Kind → ℕ → ℕ → (ℕ → Cell) → ℕ → List RaceAt
races_up_to fs first kind place units cells zero = []
races_up_to fs first kind place units cells (suc unit) =
    races_up_to fs first kind place units cells unit
    ++ option_to_list (race_at_unit fs first kind place units unit (cells unit))
