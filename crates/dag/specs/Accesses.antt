-- Promised: accesses of a location, and pairs of them.
use Rattle.std.specs.Prelude.{ℕ, ◌<◌, ◌≤◌, Bool, true, false, ◌||◌, IsTrue}
use Rattle.dag.specs.declared.records.Kind.{Kind}
use Rattle.dag.specs.declared.records.Kind.TheVariants.{Read, Write}
use Rattle.dag.specs.declared.records.Access.{Access}
use Rattle.dag.specs.Bounds.{most_records}

-- whether an access writes
abbrev pub writes : Kind → Bool
writes Read = false
writes Write = true

-- a location, and two accesses of it
pub record RaceAt : Type 0 where
  pub location : ℕ
  pub first : Access
  pub second : Access

-- the first stands before the second, the places are 1 to 2^48, and one of the two writes
pub record IsRaceShape (first second : Access) : Type 0 where
  pub from_one : 1 ≤ first.place
  pub in_order : first.place < second.place
  pub to_limit : second.place ≤ most_records
  pub one_writes : IsTrue (writes first.kind || writes second.kind)
