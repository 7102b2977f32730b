-- Promised: the stretches that the bags make up.
use Rattle.std.specs.Prelude.{ℕ, zero, suc, Bool, ◌&&◌, ◌||◌, if◌then◌else◌, List}
use Rattle.std.specs.List.{list_any}
use Rattle.std.specs.FinSet as set
use Rattle.bags.specs.Procedures.{Active, Procedures}

-- whether two procedures stand in one bag
abbrev pub in_one_bag : List Active → ℕ → ℕ → Bool
in_one_bag fs p q = list_any
    (λ f. (set.contains f.serial p && set.contains f.serial q)
    || (set.contains f.parallel p && set.contains f.parallel q))
    fs

-- how many stretches the first n procedures make up: the root begins one, and so does each one that isn't in one
-- bag with the one before it
abbrev pub stretches_of : List Active → ℕ → ℕ
stretches_of fs zero = 0
stretches_of fs (suc zero) = 1
stretches_of fs (suc (suc p)) = if in_one_bag fs p (suc p) then stretches_of fs (suc p)
    else suc (stretches_of fs (suc p))

-- how many stretches there are: a stretch is a longest run of consecutive procedures that stand in one bag
abbrev pub stretches : Procedures → ℕ
stretches s = stretches_of s.active s.count
