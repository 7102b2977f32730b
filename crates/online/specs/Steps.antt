-- Promised: what a call of the detector does, and when it refuses.
use Rattle.std.specs.Prelude.{◌≡◌, ◌≢◌, ◌↔◌, ℕ, ◌+◌, ◌<◌, ◌≤◌, List, ◌++◌, length, map, Result, Err, IfErr}
use Rattle.dag.specs.declared.records.Record.{Record}
use Rattle.dag.specs.Bounds.{most_records}
use Rattle.trace.specs.Faults.{HasEnded}
use Rattle.online.specs.Lives.{in_life}
use Rattle.online.specs.Online.{Online, IsAfter, IsStopped}
use Rattle.online.specs.declared.detector.Refusal.{Refusal}
use Rattle.online.specs.declared.detector.Refusal.TheVariants.{AfterEnd, TooMany, NoMemory}

-- it took these records, each of a location in its present life
abbrev pub HasTakenMore : List Record → Online → Online → Type 0
HasTakenMore v old new =
    (u : List Record) (lives : ℕ → ℕ) → IsAfter u lives old → IsAfter (u ++ map (in_life lives) v) lives new

-- So many records were refused where they may not come, which changes nothing; or a growth was refused, and then it is
-- stopped for good.
pub record RefusesRecords (count : ℕ) (old new : Online) (result : Result (Unit {0}) Refusal) : Type 0 where
  pub after_end : (u : List Record) (lives : ℕ → ℕ) → IsAfter u lives old
      → (result ≡ Err AfterEnd) ↔ (HasEnded u × (length u + count ≤ most_records))
  pub too_many : (u : List Record) (lives : ℕ → ℕ) → IsAfter u lives old
      → (result ≡ Err TooMany) ↔ (most_records < length u + count)
  pub unchanged : IfErr result (λ refusal. refusal ≢ NoMemory → new ≡ old)
  pub stops : result ≡ Err NoMemory → IsStopped new
  pub stopped : IsStopped old → result ≡ Err NoMemory
