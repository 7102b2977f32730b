-- Private: the name that two stored numbers stand for.
use Rattle.std.specs.Prelude.{ℕ, zero, suc, Option, None, Some}
use Rattle.shadow.specs.Cells.{Name}

-- place 0 stands for no name
abbrev pub stored_name : ℕ → ℕ → Option Name
stored_name procedure zero = None
stored_name procedure (suc k) = Some (record { procedure = procedure; place = suc k })
