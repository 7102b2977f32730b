use Rattle.shadow.proofs.Common.{◌≡◌, ◌<◌, ℕ, slice_index_or, no_names}
use Rattle.shadow.proofs.page.are_none.Given as goal

abbrev pub invariant-loop-names : goal.invariant-loop-names
invariant-loop-names l = (k : ℕ) → k < l.names-index → slice_index_or l.names k no_names ≡ no_names
