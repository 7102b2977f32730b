-- Private: digits taken two at a time.
use Rattle.std.specs.Prelude.{ℕ, ◌+◌, ◌*◌, List, [], ◌∷◌}

-- the digits in base b, of which each two write one digit in base b * b
abbrev pub paired : ℕ → List ℕ → List ℕ
paired b (x ∷ y ∷ zs) = (x * b + y) ∷ paired b zs
paired b (x ∷ []) = x ∷ []
paired b [] = []
