-- Texts of traces: one more record, how long a line is, and bytes that end no line.
use Rattle.trace.proofs.Common.{◌≡◌, ◌≢◌, ℕ, ◌+◌, ◌-◌, ◌<◌, ◌≤◌, List, [], ◌∷◌, ◌++◌, length, take, drop, get_or, arith, refl, sym, ◌∙◌, ap, decimal, append_assoc, length-append, codes, flat_map, flat_map-append, append-nil, take-append-drop, take_more, take-add, take-length, All-append, length-decimal-le, Version, One, Two, Record, Spawn, Call, Return, Sync, Write, newline, header, spell, ended, line, text, IsUnended, length-drop}
use Rattle.dag.specs.declared.records.Record.TheVariants.{Read}
use Rattle.trace.specs.Text.{Fits}

pub text-push : (v : Version) (w : List Record) (r : Record) → text v (w ++ r ∷ []) ≡ text v w ++ line r
text-push v w r = ap (λ x. ended (header v) ++ x) (flat_map-append line w (r ∷ []) ∙ ap (λ x. flat_map line w ++ x) (append-nil (line r))) ∙ sym (append_assoc (ended (header v)) (flat_map line w) (line r))

-- no line has more than 26 bytes
pub length-spell : (v : Version) (r : Record) → Fits v r → length (spell r) ≤ 26
length-spell v Spawn fits = omega arith
length-spell v Call fits = omega arith
length-spell v Return fits = omega arith
length-spell v Sync fits = omega arith
length-spell v (Read l) fits = omega (arith, length-append (codes "read ") (decimal l), length-decimal-le 20 l (omega arith) (omega arith) fits)
length-spell v (Write l) fits = omega (arith, length-append (codes "write ") (decimal l), length-decimal-le 20 l (omega arith) (omega arith) fits)

pub length-header : (v : Version) → length (header v) ≡ 7
length-header One = refl
length-header Two = refl

pub unended-append : (xs ys : List ℕ) → IsUnended xs → IsUnended ys → IsUnended (xs ++ ys)
unended-append xs ys = All-append (λ b. b ≢ newline) xs ys

-- a piece up to its first line end, and that end
pub take-ended : (piece : List ℕ) (k : ℕ) → k < length piece → get_or piece k 0 ≡ newline → take (k + 1) piece ≡ ended (take k piece)
take-ended piece k h e = take_more piece k 0 h ∙ ap (λ x. take k piece ++ x ∷ []) e

pub split-ended : (piece : List ℕ) (k : ℕ) → k < length piece → get_or piece k 0 ≡ newline → piece ≡ ended (take k piece) ++ drop (k + 1) piece
split-ended piece k h e = sym (take-append-drop (k + 1) piece) ∙ ap (λ x. x ++ drop (k + 1) piece) (take-ended piece k h e)

-- what is taken of a piece in two steps
pub take_rest : (bytes piece : List ℕ) (n m : ℕ) → (bytes ++ take n piece) ++ take m (take (length piece - n) (drop n piece)) ≡ bytes ++ take (n + m) piece
take_rest bytes piece n m =
    append_assoc bytes _ _ ∙ ap (λ x. bytes ++ (take n piece ++ take m x)) all ∙ ap (λ x. bytes ++ x) (sym (take-add n m piece))
  where
    all : take (length piece - n) (drop n piece) ≡ drop n piece
    all = ap (λ x. take x (drop n piece)) (sym (length-drop n piece)) ∙ take-length (drop n piece)
