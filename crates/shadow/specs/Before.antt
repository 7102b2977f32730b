-- Promised: kept names of earlier accesses, and what an access can race with.
use Rattle.std.specs.Prelude.{◌≡◌, ℕ, ◌<◌, ◌≤◌, ◌||◌, false, IsTrue}
use Rattle.std.specs.Option.{ForSome}
use Rattle.dag.specs.declared.records.Kind.{Kind}
use Rattle.dag.specs.declared.records.Access.{Access}
use Rattle.dag.specs.Accesses.{writes}
use Rattle.bags.specs.Procedures.{Procedures, current, in_p}
use Rattle.shadow.specs.Cells.{Name, Cell}

-- a name that was kept before a place; it is one of `count` procedures
pub record IsNameBefore (place count : ℕ) (n : Name) : Type 0 where
  pub from_one : 1 ≤ n.place
  pub earlier : n.place < place
  pub known : n.procedure < count

pub record IsCellBefore (place count : ℕ) (c : Cell) : Type 0 where
  pub writer : ForSome c.writer (IsNameBefore place count)
  pub reader : ForSome c.reader (IsNameBefore place count)

-- what is kept of each location was kept before a place
abbrev pub AreBefore : ℕ → ℕ → (ℕ → Cell) → Type 0
AreBefore place count kept = (l : ℕ) → IsCellBefore place count (kept l)

-- an earlier access that makes a race with one of this kind at this place, if the two are parallel
pub record CanRace (kind : Kind) (place : ℕ) (first : Access) : Type 0 where
  pub from_one : 1 ≤ first.place
  pub earlier : first.place < place
  pub one_writes : IsTrue (writes first.kind || writes kind)

-- the procedure that executes, which stands in no P-bag
pub record Executes (s : Procedures) (procedure : ℕ) : Type 0 where
  pub is : procedure ≡ current s.active
  pub known : procedure < s.count
  pub in_series : in_p s.active procedure ≡ false
