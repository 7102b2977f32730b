-- Promised: what a step and the names of some units say of each unit.
use Rattle.std.specs.Prelude.{ℕ, zero, suc, ◌+◌, Bool, Option, None, Some}
use Rattle.shadow.specs.Cells.{Name, Cell}
use Rattle.blocks.specs.Masks.{units_before}
use Rattle.blocks.specs.declared.step.Step.{Step}
use Rattle.blocks.specs.declared.step.Names.{Names}

-- the name of a unit before which so many units of its step stand
abbrev pub name_from : ℕ → ℕ → ℕ → Option Name
name_from procedure zero before = None
name_from procedure (suc k) before = Some (record { procedure = procedure; place = suc k + before })

-- the name that a unit has of a step
abbrev pub name_in : Step → ℕ → Option Name
name_in s unit = name_from s.procedure s.place (units_before s.units unit)

abbrev pub no_step : Step
no_step = record { procedure = 0; place = 0; units = 0 }

abbrev pub no_steps : Names
no_steps = record { writer = no_step; reader = no_step }

-- what is kept of a unit that has these names
abbrev pub named_cell : Names → ℕ → Bool → Cell
named_cell n unit reported =
    record { writer = name_in n.writer unit; reader = name_in n.reader unit; reported = reported }
