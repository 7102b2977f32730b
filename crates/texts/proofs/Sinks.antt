-- What a sink got in an answer, and then by a flush.
use Rattle.texts.proofs.Common.{ℕ, List, [], Result, Ok, Err, MatchResult, Device, ◌⇝◌, IsUntouched, Took, TookFront, Puts, took_then_none, took_then_failed}

-- a text, and then a flush
pub puts_flushed : {T E : Type 0} {a : List ℕ} {s t : Device} (u : Device) (r : Result T E) → Took a (s ⇝ t)
    → MatchResult r (λ _. IsUntouched (t ⇝ u)) (λ _. TookFront [] (t ⇝ u)) → Puts r a (s ⇝ u)
puts_flushed u (Ok _) p q = took_then_none p q
puts_flushed u (Err _) p q = took_then_failed p q
