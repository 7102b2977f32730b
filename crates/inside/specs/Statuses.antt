-- Private: the status of what the detector answers.
use Rattle.std.specs.Prelude.{ℕ, Result, Ok, Err}
use Rattle.online.specs.declared.detector.Refusal.{Refusal}
use Rattle.online.specs.declared.detector.Refusal.TheVariants.{AfterEnd, TooMany, NoMemory}
use Rattle.inside.specs.Sessions.{taken, after_end, too_many, no_memory}

abbrev pub answered_status : Result (Unit {0}) Refusal → ℕ
answered_status (Ok _) = taken
answered_status (Err AfterEnd) = after_end
answered_status (Err TooMany) = too_many
answered_status (Err NoMemory) = no_memory
