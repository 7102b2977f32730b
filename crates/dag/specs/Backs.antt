-- Promised: what shards hand back.
use Rattle.std.specs.Prelude.{Bool, true, false, List, [], ◌∷◌}
use Rattle.dag.specs.Accesses.{RaceAt}
use Rattle.dag.specs.declared.back.Back.{Back}
use Rattle.dag.specs.declared.back.Back.TheVariants.{Race, NoMemory}

-- the races among what shards handed back, in order
abbrev pub races_of : List Back → List RaceAt
races_of [] = []
races_of (Race r ∷ g) = r ∷ races_of g
races_of (NoMemory ∷ g) = races_of g

-- whether a shard reported that it ran out of memory
abbrev pub fails : List Back → Bool
fails [] = false
fails (Race r ∷ g) = fails g
fails (NoMemory ∷ g) = true
