-- Promised: what is kept of a location, and the read rule and the write rule of SP-bags.
use Rattle.std.specs.Prelude.{ℕ, Bool, true, false, ◌||◌, List, Option, Some, None, is_some, if◌then◌else◌}
use Rattle.std.specs.Option.{option_or}
use Rattle.dag.specs.declared.records.Kind.{Kind}
use Rattle.dag.specs.declared.records.Kind.TheVariants.{Read, Write}
use Rattle.dag.specs.declared.records.Access.{Access}
use Rattle.dag.specs.Accesses.{RaceAt}
use Rattle.bags.specs.Procedures.{Active, in_p, current}

-- a procedure, and the place of its access
pub record Name : Type 0 where
  pub procedure : ℕ
  pub place : ℕ

-- the kept writer and the kept reader of a location, and whether its race was reported
pub record Cell : Type 0 where
  pub writer : Option Name
  pub reader : Option Name
  pub reported : Bool

abbrev pub untouched : Cell
untouched = record { writer = None; reader = None; reported = false }

-- whether the kept name stands in a P-bag
abbrev pub stands_in_p : List Active → Option Name → Bool
stands_in_p fs None = false
stands_in_p fs (Some n) = in_p fs n.procedure

-- the kept access, if its procedure is in a P-bag
abbrev pub parallel_access : List Active → Kind → Option Name → Option Access
parallel_access fs k None = None
parallel_access fs k (Some n) = if in_p fs n.procedure then Some (record { kind = k; place = n.place }) else None

-- the first access of a race with an access by the executing procedure: a read races with the kept writer,
-- a write with the kept writer, and otherwise with the kept reader
abbrev pub rival : List Active → Kind → Cell → Option Access
rival fs Read c = parallel_access fs Write c.writer
rival fs Write c = option_or (parallel_access fs Write c.writer) (parallel_access fs Read c.reader)

abbrev pub name_of : List Active → ℕ → Option Name
name_of fs place = Some (record { procedure = current fs; place = place })

-- after a read the reader is the executing procedure, unless the kept one stands in a P-bag
abbrev pub reader_after : List Active → ℕ → Option Name → Option Name
reader_after fs place kept = if stands_in_p fs kept then kept else name_of fs place

-- what is kept of the location after an access of it
abbrev pub touched : List Active → Kind → ℕ → Cell → Cell
touched fs Read place c = record {
  writer = c.writer;
  reader = reader_after fs place c.reader;
  reported = c.reported || is_some (rival fs Read c);
}
touched fs Write place c =
    record { writer = name_of fs place; reader = c.reader; reported = c.reported || is_some (rival fs Write c) }

-- the race that is reported at an access: the first of its location
abbrev pub race_with : ℕ → Kind → ℕ → Bool → Option Access → Option RaceAt
race_with l k place reported None = None
race_with l k place true (Some first) = None
race_with l k place false (Some first) =
    Some (record { location = l; first = first; second = record { kind = k; place = place } })

abbrev pub race_at : List Active → ℕ → Kind → ℕ → Cell → Option RaceAt
race_at fs l k place c = race_with l k place c.reported (rival fs k c)
