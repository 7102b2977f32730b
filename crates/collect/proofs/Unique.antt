-- One text of a report belongs to one list.
use Rattle.collect.proofs.Common.{◌≡◌, ◌≢◌, ℕ, ◌<◌, ◌≤◌, ◌^◌, List, [], ◌∷◌, ◌++◌, length, decimal, arith, refl, sym, ap, ◌∙◌, append_assoc, codes, AllByRecursion, digits_decimal, digits_value-decimal, Access, RaceAt, newline, same_access, same_race, IsEntry, space, word, access_text, head, race_line, race_lines}
use Rattle.std.specs.Int.{IsInRange}
use Rattle.std.specs.Str.Parse.{AllDigits, digits_value}
use Rattle.std.proofs.lemmas.Str.Parse.{digit_from_value}
use Rattle.dag.specs.declared.records.Kind.{Kind}
use Rattle.dag.specs.declared.records.Kind.TheVariants.{Read, Write}
use Rattle.trace.proofs.Decimals.{decimal_numerals}

-- ---- what stands in front of the first stop

-- no byte of these is the stop
abbrev pub HasNo : ℕ → List ℕ → Type 0
HasNo s xs = AllByRecursion (λ x. x ≢ s) xs

pub same_parts : (s : ℕ) (xs ys a b : List ℕ) → HasNo s xs → HasNo s ys → xs ++ s ∷ a ≡ ys ++ s ∷ b → (xs ≡ ys) × (a ≡ b)
same_parts s [] [] a b h k e = (refl, cc)
same_parts s [] (y ∷ ys) a b h k e = let first : s ≡ y = cc in absurd (k.0 (sym first))
same_parts s (x ∷ xs) [] a b h k e = let first : x ≡ s = cc in absurd (h.0 first)
same_parts s (x ∷ xs) (y ∷ ys) a b h k e =
    let rest : xs ++ s ∷ a ≡ ys ++ s ∷ b = cc in
    let first : x ≡ y = cc in
    let both = same_parts s xs ys a b h.1 k.1 rest in
    let front : xs ≡ ys = both.0 in
    (cc, both.1)

HasNo-digits : (s : ℕ) (ds : List ℕ) → s < 48 → AllDigits 10 ds → HasNo s ds
HasNo-digits s [] h all = tt
HasNo-digits s (d ∷ ds) h all = let range : IsInRange 48 57 d = digit_from_value d all.0 in ((λ e. omega (arith, range.0, e)), HasNo-digits s ds h all.1)

pub HasNo-decimal : (s n : ℕ) → s < 48 → n < 2 ^ 64 → HasNo s (decimal n)
HasNo-decimal s n h small = HasNo-digits s (decimal n) h (digits_decimal decimal_numerals n small)

same_decimal : (m n : ℕ) → m < 2 ^ 64 → n < 2 ^ 64 → decimal m ≡ decimal n → m ≡ n
same_decimal m n p q e = sym (digits_value-decimal decimal_numerals m p) ∙ ap (digits_value 10) e ∙ digits_value-decimal decimal_numerals n q

pub same_number : (s m n : ℕ) (a b : List ℕ) → s < 48 → m < 2 ^ 64 → n < 2 ^ 64 → decimal m ++ s ∷ a ≡ decimal n ++ s ∷ b → (m ≡ n) × (a ≡ b)
same_number s m n a b h p q e =
    let both = same_parts s (decimal m) (decimal n) a b (HasNo-decimal s m h p) (HasNo-decimal s n h q) e in
    (same_decimal m n p q both.0, both.1)

-- ---- accesses

-- an access, and what follows it
abbrev pub spelled_before : ℕ → Access → List ℕ → List ℕ
spelled_before s a rest = word a.kind ++ space ∷ (decimal a.place ++ s ∷ rest)

pub spelled-before : (s : ℕ) (a : Access) (rest : List ℕ) → access_text a ++ s ∷ rest ≡ spelled_before s a rest
spelled-before s a rest = append_assoc (word a.kind) (space ∷ decimal a.place) (s ∷ rest)

same_first : (x y : ℕ) (xs ys : List ℕ) → x ∷ xs ≡ y ∷ ys → x ≡ y
same_first x y xs ys e = cc

pub same_kind : (k j : Kind) (a b : List ℕ) → word k ++ space ∷ a ≡ word j ++ space ∷ b → (k ≡ j) × (a ≡ b)
same_kind Read Read a b e = (refl, cc)
same_kind Read Write a b e = absurd (omega (arith, same_first 114 119 _ _ e))
same_kind Write Read a b e = absurd (omega (arith, same_first 119 114 _ _ e))
same_kind Write Write a b e = (refl, cc)

pub same_spelled : (s : ℕ) (a b : Access) (x y : List ℕ) → s < 48 → a.place < 2 ^ 64 → b.place < 2 ^ 64 → access_text a ++ s ∷ x ≡ access_text b ++ s ∷ y → (a ≡ b) × (x ≡ y)
same_spelled s a b x y h p q e =
    let kinds = same_kind a.kind b.kind (decimal a.place ++ s ∷ x) (decimal b.place ++ s ∷ y) (sym (spelled-before s a x) ∙ e ∙ spelled-before s b y) in
    let places = same_number s a.place b.place x y h p q kinds.1 in
    (same_access a b kinds.0 places.0, places.1)

-- ---- lines

-- the parts of a race line after its first word, and what follows it
abbrev pub after_first : RaceAt → List ℕ → List ℕ
after_first r rest = access_text r.second ++ newline ∷ rest

abbrev pub after_location : RaceAt → List ℕ → List ℕ
after_location r rest = access_text r.first ++ space ∷ after_first r rest

abbrev pub after_race : RaceAt → List ℕ → List ℕ
after_race r rest = decimal r.location ++ space ∷ after_location r rest

five : (a b c d e : List ℕ) → (((a ++ b) ++ c) ++ d) ++ e ≡ a ++ (b ++ (c ++ (d ++ e)))
five a b c d e = simp append_assoc

pub race_line-parts : (r : RaceAt) (rest : List ℕ) → race_line r ++ rest ≡ codes "race " ++ after_race r rest
race_line-parts r rest = ap (λ l. codes "race " ++ l) (five (decimal r.location) (space ∷ access_text r.first) (space ∷ access_text r.second) (newline ∷ []) rest)

pub same_line : (r s : RaceAt) (x y : List ℕ) → IsEntry r → IsEntry s → race_line r ++ x ≡ race_line s ++ y → (r ≡ s) × (x ≡ y)
same_line r s x y h k e =
    let lines : codes "race " ++ after_race r x ≡ codes "race " ++ after_race s y = sym (race_line-parts r x) ∙ e ∙ race_line-parts s y in
    let rests : after_race r x ≡ after_race s y = cc in
    let locations = same_number space r.location s.location (after_location r x) (after_location s y) (omega arith) h.fits k.fits rests in
    let firsts = same_spelled space r.first s.first (after_first r x) (after_first s y) (omega arith) (let i = h.shape in omega arith) (let i = k.shape in omega arith) locations.1 in
    let seconds = same_spelled newline r.second s.second x y (omega arith) (let i = h.shape in omega arith) (let i = k.shape in omega arith) firsts.1 in
    (same_race r s locations.0 firsts.0 seconds.0, seconds.1)

pub head-parts : (n : ℕ) (rest : List ℕ) → head n ++ rest ≡ codes "races " ++ (decimal n ++ newline ∷ rest)
head-parts n rest = ap (λ l. codes "races " ++ l) (append_assoc (decimal n) (newline ∷ []) rest)

pub same_head : (m n : ℕ) (x y : List ℕ) → m < 2 ^ 64 → n < 2 ^ 64 → head m ++ x ≡ head n ++ y → (m ≡ n) × (x ≡ y)
same_head m n x y p q e =
    let heads : codes "races " ++ (decimal m ++ newline ∷ x) ≡ codes "races " ++ (decimal n ++ newline ∷ y) = sym (head-parts m x) ∙ e ∙ head-parts n y in
    same_number newline m n x y (omega arith) p q cc

-- ---- lists

-- of two lists of lines in front of one text, the longer goes on where the shorter ends
pub record GoesOn (rs ss : List RaceAt) (x y : List ℕ) : Type 0 where
  pub more : List RaceAt
  pub list : ss ≡ rs ++ more
  pub text : x ≡ race_lines more ++ y

pub goes_on : (rs ss : List RaceAt) (x y : List ℕ) → AllByRecursion IsEntry rs → AllByRecursion IsEntry ss → length rs ≤ length ss → race_lines rs ++ x ≡ race_lines ss ++ y → GoesOn rs ss x y
goes_on [] ss x y h k le e = record { more = ss; list = refl; text = e }
goes_on (r ∷ rs) [] x y h k le e = absurd (omega arith)
goes_on (r ∷ rs) (s ∷ ss) x y h k le e =
    let both = same_line r s (race_lines rs ++ x) (race_lines ss ++ y) h.0 k.0
    (sym (append_assoc (race_line r) (race_lines rs) x) ∙ e ∙ append_assoc (race_line s) (race_lines ss) y) in
    let rest = goes_on rs ss x y h.1 k.1 (omega arith) both.1 in
    let one : r ≡ s = both.0 in
    let list : ss ≡ rs ++ rest.more = rest.list in
    record { more = rest.more; list = cc; text = rest.text }
