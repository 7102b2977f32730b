-- A line that is put in parts.
use Rattle.texts.proofs.Common.{◌≡◌, ℕ, List, ◌++◌, Result, codes, decimal, subst, append_assoc, RaceAt, Change, TookFront, Puts, access_text, race_line}

-- a beginning of a text that is spelled in another way
pub front_as : {a b : List ℕ} {c : Change} → a ≡ b → TookFront a c → TookFront b c
front_as {a} {b} {c} e p = subst (λ l. TookFront l c) e p

-- the outcome of such a text
pub puts_as : {T E : Type 0} {a b : List ℕ} (c : Change) → a ≡ b → (r : Result T E) → Puts r a c → Puts r b c
puts_as c e r p = let P : List ℕ → Type 0 = λ l. Puts r l c in subst P e p

-- the line of a race in three parts, each of which ends with a space or with the line
pub race_line_parts : (r : RaceAt) → ((codes "race " ++ decimal r.location ++ codes " ") ++ (access_text r.first ++ codes " ")) ++ (access_text r.second ++ codes "\n") ≡ race_line r
race_line_parts r = parts (codes "race ") (decimal r.location) (codes " ") (access_text r.first) (access_text r.second) (codes "\n")
  where
    parts : (a b s c d n : List ℕ) → ((a ++ b ++ s) ++ (c ++ s)) ++ (d ++ n) ≡ (a ++ b ++ (s ++ c) ++ (s ++ d)) ++ n
    parts a b s c d n = simp append_assoc
