-- Private: a number and a flag in one word.
use Rattle.std.specs.Prelude.{◌≡◌, ℕ, ◌+◌, ◌*◌, ◌/◌, ◌%◌, Bool, eqb, if◌then◌else◌}
use Rattle.std.proofs.Common.{inl, inr, ap, ◌∙◌, arith}
use Rattle.std.proofs.lemmas.Bool.{cases_eq, eq-eqb, ne_eqb}

abbrev pub number_in : ℕ → ℕ
number_in word = word / 2

abbrev pub flag_in : ℕ → Bool
flag_in word = eqb (word % 2) 1

abbrev pub word_with : ℕ → Bool → ℕ
word_with number flag = if flag then number * 2 + 1 else number * 2

-- both give their word back
pub word_back : (w : ℕ) → word_with (number_in w) (flag_in w) ≡ w
word_back w = elim (cases_eq (w % 2) 1) [
  | inl e ↦ ap (λ (b : Bool). word_with (w / 2) b) (eq-eqb (w % 2) 1 e) ∙ omega arith
  | inr n ↦ ap (λ (b : Bool). word_with (w / 2) b) (ne_eqb (w % 2) 1 n) ∙ omega arith
]
