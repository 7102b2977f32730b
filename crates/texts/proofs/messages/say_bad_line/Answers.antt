use Rattle.texts.proofs.Common.{◌≡◌, ℕ, ◌<◌, ◌≤◌, ◌^◌, List, ◌++◌, length, codes, decimal, arith, ap, ◌∙◌, append_assoc, length-append, length-decimal-20, given_as}
use Rattle.texts.proofs.messages.say_bad_line.Goals as goal

-- what follows the number of the report
abbrev ending : ℕ → List ℕ
ending line = codes " line " ++ decimal line ++ codes ": bad\n"

length-ending : (line : ℕ) → line < 2 ^ 64 → length (ending line) ≤ 32
length-ending line h =
    let digits = length-decimal-20 line h in
    omega (arith, length-append (codes " line " ++ decimal line) (codes ": bad\n"), length-append (codes " line ") (decimal line))

in_parts : (head number word line rest : List ℕ) → head ++ number ++ (word ++ line ++ rest) ≡ head ++ number ++ word ++ line ++ rest
in_parts head number word line rest = simp append_assoc

pub say_at-requires-clause-ending : goal.say_at-requires-clause-ending
say_at-requires-clause-ending g c =
    let built : c.as_bytes.result.now ≡ ending c.args.line = c.as_bytes.ensures ∙ c.line_of-ending.ensures in
    omega (arith, ap length built, length-ending c.args.line c.ranges.line.fits)

pub returns : goal.returns
returns g c =
    let built : c.as_bytes.result.now ≡ ending c.args.line = c.as_bytes.ensures ∙ c.line_of-ending.ensures in
    let number = decimal c.args.number in
    let whole = ap (λ l. codes "spbags: report " ++ number ++ l) built ∙ in_parts (codes "spbags: report ") number (codes " line ") (decimal c.args.line) (codes ": bad\n") in
    given_as whole c.say_at.ensures
