-- Private: an access of one location: when it may come, and what it leaves of what is kept.
use Rattle.std.specs.Prelude.{◌≡◌, ℕ, ◌+◌, ◌≤◌, Option}
use Rattle.dag.specs.Bounds.{most_records}
use Rattle.dag.specs.declared.records.Kind.{Kind}
use Rattle.dag.specs.Accesses.{RaceAt}
use Rattle.bags.specs.Procedures.{Procedures}
use Rattle.shadow.specs.Before.{IsCellBefore}
use Rattle.shadow.specs.Cells.{Cell, race_at, touched}

-- the executing procedure may access the location at this place: what is kept of it is of earlier ones
pub record MayTouch (s : Procedures) (place : ℕ) (kept : Cell) : Type 0 where
  pub earlier : IsCellBefore place s.count kept
  pub from_one : 1 ≤ place
  pub to_limit : place ≤ most_records

-- it did so: this is the race that the access reports, if any, and what is kept from then on
pub record HasTouched (s : Procedures) (location : ℕ) (kind : Kind) (place : ℕ) (old new : Cell)
    (race : Option RaceAt) : Type 0 where
  pub race_is : race ≡ race_at s.active location kind place old
  pub kept : new ≡ touched s.active kind place old
  pub earlier : IsCellBefore (place + 1) s.count new
