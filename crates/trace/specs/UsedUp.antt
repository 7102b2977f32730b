-- Private: a feed that has used the bytes that have come, and gave no record.
use Rattle.std.specs.Prelude.{◌≡◌, ℕ, ◌+◌, ◌≤◌, List, [], length}
use Rattle.dag.specs.declared.records.Record.{Record}
use Rattle.trace.specs.declared.intake.Ending.TheVariants.{Running}
use Rattle.dag.specs.Bounds.{longest_line}
use Rattle.trace.specs.Reading.{held_back}
use Rattle.trace.specs.Feeding.{Feeding, HasFed, HasSameLimits}

-- they are in the line that hasn't ended, or in the header, and hold no fault
pub record HasUsedAll (old new : Feeding) : Type 0 where
  pub fed : (w : List Record) (bytes : List ℕ) → HasFed w bytes old → HasFed w bytes new
  pub none_left : new.coming ≡ []
  pub running : new.ending ≡ Running
  pub limits : HasSameLimits old new
  pub held_back : held_back new.reading ≡ held_back old.reading + length old.coming
  pub short : length new.reading.rest ≤ longest_line
