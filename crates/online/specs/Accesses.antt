-- Promised: the accesses of a strand to units of a block, as records one after another.
use Rattle.std.specs.Prelude.{ℕ, zero, suc, ◌+◌, ◌*◌, ◌/◌, List, [], ◌∷◌, ◌++◌, map, if◌then◌else◌}
use Rattle.dag.specs.declared.records.Kind.{Kind}
use Rattle.dag.specs.declared.records.Kind.TheVariants.{Read, Write}
use Rattle.dag.specs.declared.records.Record.{Record}
use Rattle.dag.specs.declared.records.Placed.{Placed}
use Rattle.dag.specs.Races.{access}
use Rattle.blocks.specs.Masks.{has, units_before}
use Rattle.blocks.specs.Pages.{location_of}
use Rattle.blocks.specs.Blocks.{block_of, first_of}

-- the access to a unit, where the location of unit 0 and the place of the first access are given
abbrev pub access_of : ℕ → Kind → ℕ → ℕ → ℕ → Placed
access_of first kind place units unit =
    record { place = place + units_before units unit; what = access kind (location_of first unit) }

-- the accesses to units of a block up to one, by ascending units
unfoldable pub accesses_up_to : ℕ → Kind → ℕ → ℕ → ℕ → List Placed
accesses_up_to first kind place units zero = []
accesses_up_to first kind place units (suc unit) = accesses_up_to first kind place units unit
    ++ (if has units unit then access_of first kind place units unit ∷ [] else [])

-- those to these units of the location's block
abbrev pub accesses : ℕ → Kind → ℕ → ℕ → List Placed
accesses location kind place units = accesses_up_to (first_of (block_of location)) kind place units 64

-- the even location of a location's pair
abbrev pub even : ℕ → ℕ
even location = location / 2 * 2

-- The records of accesses to units of a block of even locations: the reads, then the writes, each by ascending
-- locations.
abbrev pub block_records : ℕ → ℕ → ℕ → List Record
block_records location reads writes =
    map (λ p. p.what) (accesses (even location) Read 1 reads ++ accesses (even location) Write 1 writes)
