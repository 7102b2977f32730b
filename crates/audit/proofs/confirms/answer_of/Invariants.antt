use Rattle.audit.proofs.Common.{◌≡◌, ◌<◌, ℕ, Some, slice_get, Entry, Confirmed}
use Rattle.audit.proofs.confirms.answer_of.Given as goal

abbrev pub invariant-loop-index : goal.invariant-loop-index
invariant-loop-index l = (k : ℕ) (e : Entry) → k < l.index → slice_get l.entries k ≡ Some e → e.standing ≡ Confirmed
