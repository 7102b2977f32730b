-- A part of the bytes is written, and the rest is not yet.
use Rattle.std.proofs.Common.{subst, ◌≡◌, ℕ, ◌-◌, List, ◌++◌, Option, length, take, drop, sym, ap, ◌∙◌, append_assoc, take-append-drop}
use Rattle.std.proofs.lemmas.List.{take_rest}
use Rattle.std.specs.Io.KnownBytes.{Appends}
use Rattle.std.proofs.KnownBytes.{Appends-trans}

-- all but the rest was appended
pub record IsPart (old new : Option (List ℕ)) (all rest : List ℕ) : Type 0 where
  pub done : List ℕ
  pub split : done ++ rest ≡ all
  pub appended : Appends old new done

pub IsPart-more : (old mid new : Option (List ℕ)) (all rest : List ℕ) (n : ℕ) → IsPart old mid all rest → Appends mid new (take n rest) → IsPart old new all (drop n rest)
IsPart-more old mid new all rest n p q = record {
  done = p.done ++ take n rest;
  split = append_assoc p.done (take n rest) (drop n rest) ∙ ap (λ l. p.done ++ l) (take-append-drop n rest) ∙ p.split;
  appended = Appends-trans old mid new p.done (take n rest) p.appended q;
}

-- as a range up to the end is spelled
pub IsPart-range : (old mid new : Option (List ℕ)) (all rest : List ℕ) (n : ℕ) → IsPart old mid all rest → Appends mid new (take n rest)
    → IsPart old new all (take (length rest - n) (drop n rest))
IsPart-range old mid new all rest n p q = subst (IsPart old new all) (sym (take_rest rest n)) (IsPart-more old mid new all rest n p q)
