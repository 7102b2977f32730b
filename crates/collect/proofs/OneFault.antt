-- Bytes have one first faulty line at most, and the text of a report has none.
use Rattle.collect.proofs.Common.{◌≡◌, ℕ, ◌<◌, ◌^◌, List, [], ◌∷◌, ◌++◌, length, arith, refl, sym, ap, ◌∙◌, subst, append_assoc, append-nil, RaceAt, IsReportList, head, race_line, race_lines, rtext, no_head, no_race, no_end, OneFault, NoFault}
use Rattle.collect.proofs.Unique.{same_head, goes_on}
use Rattle.collect.proofs.Listed.{IsReportList-front, no_fault}

-- no line that may follow these races stands in front
abbrev NoneAfter : List RaceAt → List ℕ → Type 0
NoneAfter rs rest = (r : RaceAt) (more : List ℕ) → IsReportList (rs ++ r ∷ []) → rest ≡ race_line r ++ more → ⊥

goes_no_further : (rs ss more : List RaceAt) (x y : List ℕ) → IsReportList ss → ss ≡ rs ++ more → length rs < length ss → x ≡ race_lines more ++ y → NoneAfter rs x → ⊥
goes_no_further rs ss [] x y h list lt text none = absurd (omega (arith, ap length (list ∙ append-nil rs)))
goes_no_further rs ss (r ∷ more) x y h list lt text none =
    let whole : rs ++ (r ∷ more) ≡ (rs ++ r ∷ []) ++ more = sym (append_assoc rs (r ∷ []) more) in
    none r (race_lines more ++ y) (IsReportList-front (rs ++ r ∷ []) more (subst IsReportList (list ∙ whole) h)) (text ∙ append_assoc (race_line r) (race_lines more) y)

stuck : (m n : ℕ) (rs ss : List RaceAt) (x y : List ℕ) → m < 2 ^ 64 → n < 2 ^ 64 → IsReportList rs → IsReportList ss → head m ++ (race_lines rs ++ x) ≡ head n ++ (race_lines ss ++ y)
    → NoneAfter rs x → length rs < length ss → ⊥
stuck m n rs ss x y p q h k e none lt =
    let heads = same_head m n (race_lines rs ++ x) (race_lines ss ++ y) p q e in
    let on = goes_on rs ss x y h.entries k.entries (omega arith) heads.1 in
    goes_no_further rs ss on.more x y k on.list lt on.text none

parts : (bs : List ℕ) (rs : List RaceAt) (rest : List ℕ) → bs ≡ rtext rs ++ rest → bs ≡ head (length rs) ++ (race_lines rs ++ rest)
parts bs rs rest e = e ∙ append_assoc (head (length rs)) (race_lines rs) rest

ends_later : (bs : List ℕ) (n : ℕ) (rs ss : List RaceAt) (x y : List ℕ) → n < 2 ^ 64 → length rs < n → IsReportList rs → bs ≡ head n ++ (race_lines rs ++ x) → NoneAfter rs x
    → length ss < 2 ^ 64 → IsReportList ss → bs ≡ rtext ss ++ y → ⊥
ends_later bs n rs ss x y small lt h e none few k is =
    let both = sym e ∙ parts bs ss y is in
    let lengths : n ≡ length ss = (same_head n (length ss) (race_lines rs ++ x) (race_lines ss ++ y) small few both).0 in
    stuck n (length ss) rs ss x y small few h k both none (omega arith)

pub one_fault : OneFault
one_fault bs _ _ (no_head none) (no_head none') = refl
one_fault bs _ _ (no_head none) (no_race n ss y small lt k e none') = absurd (none n (race_lines ss ++ y) small e)
one_fault bs _ _ (no_head none) (no_end ss y few k e left) = absurd (none (length ss) (race_lines ss ++ y) few (parts bs ss y e))
one_fault bs _ _ (no_race n rs x small lt h e none) (no_head none') = absurd (none' n (race_lines rs ++ x) small e)
one_fault bs _ _ (no_race m rs x p lt h e none) (no_race n ss y q lt' k e' none') =
    let both = sym e ∙ e' in
    let not_less : length rs < length ss → ⊥ = stuck m n rs ss x y p q h k both none in
    let not_more : length ss < length rs → ⊥ = stuck n m ss rs y x q p k h (sym both) none' in
    omega arith
one_fault bs _ _ (no_race n rs x small lt h e none) (no_end ss y few k is left) = absurd (ends_later bs n rs ss x y small lt h e none few k is)
one_fault bs _ _ (no_end ss y few k is left) (no_head none) = absurd (none (length ss) (race_lines ss ++ y) few (parts bs ss y is))
one_fault bs _ _ (no_end ss y few k is left) (no_race n rs x small lt h e none) = absurd (ends_later bs n rs ss x y small lt h e none few k is)
one_fault bs _ _ (no_end rs x some h e left) (no_end ss y few k is left') =
    let lengths : length rs ≡ length ss = (same_head (length rs) (length ss) (race_lines rs ++ x) (race_lines ss ++ y) some few (sym (parts bs rs x e) ∙ parts bs ss y is)).0 in
    omega arith

pub no_fault_of_text : NoFault
no_fault_of_text rs line h few bad = no_fault (rtext rs) rs line few h refl bad
