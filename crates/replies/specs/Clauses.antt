-- Private: what several functions ensure.
use Rattle.std.specs.Prelude.{◌≡◌, ◌<◌, ◌↔◌, ℕ, List}
use Rattle.dag.specs.Bounds.{most_records}
use Rattle.dag.specs.declared.records.Record.{Record}
use Rattle.trace.specs.Devices.{Change}
use Rattle.trace.specs.Endings.{IsWantOfMemory}
use Rattle.replies.specs.Answered.{IsAnswered}

-- how a question of a trace ends for which no thread is started, so that memory alone may be wanting
abbrev pub AnswersAlone : ℕ → (List Record → List ℕ → ℕ → Type 0) → Change → Change → Change → ℕ → Type 0
AnswersAlone = IsAnswered IsWantOfMemory most_records

-- the exit status is 0 if nothing was found, and else 1
abbrev pub SaysWhether : ℕ → (FoundNone : Type 0) → Type 0
SaysWhether status FoundNone = (status < 2) × ((status ≡ 0) ↔ FoundNone)
