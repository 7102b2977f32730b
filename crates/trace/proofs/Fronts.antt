-- Lines at the front of a piece.
use Rattle.trace.proofs.Common.{◌≡◌, ℕ, ◌+◌, ◌<◌, ◌≤◌, List, [], ◌∷◌, ◌++◌, length, take, drop, get_or, arith, sym, ◌∙◌, ap, decimal, take-add, take_more, take-take, newline, ended, length-take, length-drop}

-- a word, and after it digits in front of a line's end
pub word_and_digits : (piece word digits : List ℕ) (k d n : ℕ) → take k piece ≡ word → digits ≡ take 16 (drop k piece) → d < 16 → k + 16 ≤ length piece → take d digits ≡ decimal n → get_or digits d 0 ≡ newline
    → take (d + (k + 1)) piece ≡ word ++ ended (decimal n)
word_and_digits piece word digits k d n front is few room spelled end =
    let within : d < length digits = omega (arith, ap length is, length-take 16 (drop k piece), length-drop k piece) in
    let whole : d + (k + 1) ≡ k + (d + 1) = omega arith in
    ap (λ used. take used piece) whole ∙ take-add k (d + 1) piece ∙ ap (λ x. x ++ take (d + 1) (drop k piece)) front
    ∙ ap (λ x. word ++ x) (sym (ap (take (d + 1)) is ∙ take-take (d + 1) 16 (drop k piece) (omega arith)) ∙ take_more digits d 0 within ∙ ap (λ x. x ++ get_or digits d 0 ∷ []) spelled ∙ ap (λ x. decimal n ++ x ∷ []) end)
