-- What a sink took in several calls, one after the other.
use Rattle.collect.proofs.Common.{◌≡◌, ℕ, ◌+◌, ◌<◌, List, [], ◌++◌, length, take, get_or, Result, Ok, Err, ◌∙◌, subst, append-nil, flat_map, Appends-trans, Appends-kept, Device, Change, ◌⇝◌, IsUntouched, Took, TookFront, WasGiven, Puts}
use Rattle.trace.proofs.Endings.{failed_since}
use Rattle.collect.proofs.Written.{AppendsFront-more, AppendsFront-after, Appends-line, AppendsFront-line}

-- a front of a text is a front of any longer text
pub front_more : {a : List ℕ} (b : List ℕ) {c : Change} → TookFront a c → TookFront (a ++ b) c
front_more {a} b p = record { bytes = AppendsFront-more _ _ a b p.bytes; failed = p.failed }

module _ {s t u : Device} where
  -- a text, and then another
  pub took_both : {a b : List ℕ} → Took a (s ⇝ t) → Took b (t ⇝ u) → Took (a ++ b) (s ⇝ u)
  took_both {a} {b} p q = record { bytes = Appends-trans s.bytes t.bytes u.bytes a b p.bytes q.bytes; steady = q.steady ∙ p.steady }

  -- a text, and a front of another
  pub took_into : {a b : List ℕ} → Took a (s ⇝ t) → TookFront b (t ⇝ u) → TookFront (a ++ b) (s ⇝ u)
  took_into {a} {b} p q = record { bytes = AppendsFront-after s.bytes t.bytes u.bytes a b p.bytes q.bytes; failed = failed_since s t u p.steady q.failed }

  -- a text, and then nothing
  pub took_then_none : {a : List ℕ} → Took a (s ⇝ t) → IsUntouched (t ⇝ u) → Took a (s ⇝ u)
  took_then_none p q = record { bytes = Appends-kept _ _ _ _ p.bytes q.bytes; steady = q.steady ∙ p.steady }

  -- a text, and then a failure
  pub took_then_failed : {a : List ℕ} → Took a (s ⇝ t) → TookFront [] (t ⇝ u) → TookFront a (s ⇝ u)
  took_then_failed {a} p q = subst (λ l. TookFront l (s ⇝ u)) (append-nil a) (took_into p q)

  -- a line after a head and the lines before it
  pub took_line : {X : Type 0} (f : X → List ℕ) (head : List ℕ) (xs : List X) (i : ℕ) (d : X) → i < length xs
      → Took (head ++ flat_map f (take i xs)) (s ⇝ t) → Took (f (get_or xs i d)) (t ⇝ u) → Took (head ++ flat_map f (take (i + 1) xs)) (s ⇝ u)
  took_line f head xs i d h p q = record { bytes = Appends-line f s.bytes t.bytes u.bytes head xs i d h p.bytes q.bytes; steady = q.steady ∙ p.steady }

  -- a line that failed after a head and the lines before it
  pub front_line : {X : Type 0} (f : X → List ℕ) (head : List ℕ) (xs : List X) (i : ℕ) (d : X) → i < length xs
      → Took (head ++ flat_map f (take i xs)) (s ⇝ t) → TookFront (f (get_or xs i d)) (t ⇝ u) → TookFront (head ++ flat_map f xs) (s ⇝ u)
  front_line f head xs i d h p q = record { bytes = AppendsFront-line f s.bytes t.bytes u.bytes head xs i d h p.bytes q.bytes; failed = failed_since s t u p.steady q.failed }

-- a text, and then the outcome of another
pub puts_after : {T E : Type 0} {a : List ℕ} (b : List ℕ) {s t : Device} (u : Device) (r : Result T E) → Took a (s ⇝ t) → Puts r b (t ⇝ u) → Puts r (a ++ b) (s ⇝ u)
puts_after b u (Ok _) p q = took_both p q
puts_after b u (Err _) p q = took_into p q

-- a text that is spelled in another way
pub given_as : {a b : List ℕ} {c : Change} → a ≡ b → WasGiven a c → WasGiven b c
given_as {a} {b} {c} e p = subst (λ l. WasGiven l c) e p
