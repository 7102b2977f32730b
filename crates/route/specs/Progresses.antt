-- Promised: a fact for one answer of a step.
use Rattle.std.specs.Prelude.{ℕ, ⊤}
use Rattle.route.specs.declared.progress.Progress.{Progress}
use Rattle.route.specs.declared.progress.Progress.TheVariants.{Idle, Moved, Blocked}

abbrev pub OnIdle : Progress → Type 0 → Type 0
OnIdle Idle P = P
OnIdle Moved P = ⊤
OnIdle (Blocked k) P = ⊤

abbrev pub OnMoved : Progress → Type 0 → Type 0
OnMoved Idle P = ⊤
OnMoved Moved P = P
OnMoved (Blocked k) P = ⊤

abbrev pub IfBlocked : Progress → (ℕ → Type 0) → Type 0
IfBlocked Idle P = ⊤
IfBlocked Moved P = ⊤
IfBlocked (Blocked k) P = P k
