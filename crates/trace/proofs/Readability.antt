-- Which trace a text is of, and which faults bytes can have: no two traces have one text, good lines have
-- no fault, and no bytes have two first faults.
use Rattle.trace.proofs.Common.{◌≡◌, ◌≢◌, ℕ, suc, ◌+◌, ◌-◌, ◌%◌, ◌<◌, ◌≤◌, ◌^◌, List, [], ◌∷◌, ◌++◌, length, Some, ◌⊎◌, inl, inr, arith, refl, sym, ◌∙◌, ap, subst, decimal, codes, append_assoc, length-append, get_or, flat_map, sum_by, AllByRecursion, append-nil, append_cancel_left, All-from_recursion, All-nil, All-cons, All-head, All-tail, All-push, decimal_by_steps, decimal_injective, Version, One, Two, Record, Spawn, Call, Return, Sync, Write, TextFault, Line, TooMany, Truncated, NestFault, NestKind, Unfinished, Fault, Text, Nest, at, depth, opens, closes, IsWellNested, newline, header, spell, AllFit, ended, line, text, IsUnended, IsOpen, IsJudged, at_end, at_length, IsNoRecord, IsBadLine, bad_header, bad_line, too_many, IsTruncated, no_header, no_line_end, HasEnded, IsMisplaced, after_end, too_deep, AreNested, none, next, IsBadPlace, bad_place, IsFirstFault, IsFaultOfAll, before_end, truncated, unfinished}
use Rattle.dag.specs.declared.records.Record.TheVariants.{Read}
use Rattle.trace.specs.declared.faults.TextKind.{TextKind}
use Rattle.trace.specs.Text.{Fits}
use Rattle.trace.proofs.Texts.{length-spell, length-header, unended-append}
use Rattle.trace.proofs.Readings.{open_nil}
use Rattle.trace.proofs.Places.{at-front, at-seam, depth-front, depth-next, depth-pushed}
use Rattle.trace.proofs.Nestings.{balanced}

-- the part before a line end is the same where the whole is
pub unended_split : (xs ys A B : List ℕ) → IsUnended xs → IsUnended ys → xs ++ newline ∷ A ≡ ys ++ newline ∷ B → (xs ≡ ys) × (A ≡ B)
unended_split [] [] A B hx hy e = (refl, cc)
unended_split [] (y ∷ ys) A B hx hy e = absurd (All-head (λ b. b ≢ newline) y ys hy (cc))
unended_split (x ∷ xs) [] A B hx hy e = absurd (All-head (λ b. b ≢ newline) x xs hx (cc))
unended_split (x ∷ xs) (y ∷ ys) A B hx hy e =
    let rest : xs ++ newline ∷ A ≡ ys ++ newline ∷ B = cc in
    let same : x ≡ y = cc in
    let r = unended_split xs ys A B (All-tail (λ b. b ≢ newline) x xs hx) (All-tail (λ b. b ≢ newline) y ys hy) rest in
    let front : xs ≡ ys = r.0 in
    (cc, r.1)

-- a line with more bytes than end another isn't in front of that other
not_longer : (xs ys A B : List ℕ) → IsUnended xs → length ys < length xs → xs ++ A ≡ ys ++ newline ∷ B → ⊥
not_longer [] ys A B hx lt e = absurd (omega arith)
not_longer (x ∷ xs) [] A B hx lt e = All-head (λ b. b ≢ newline) x xs hx (cc)
not_longer (x ∷ xs) (y ∷ ys) A B hx lt e =
    let rest : xs ++ A ≡ ys ++ newline ∷ B = cc in
    not_longer xs ys A B (All-tail (λ b. b ≢ newline) x xs hx) (omega arith) rest

-- a line end isn't where there is none
pub unended_no_line : (rest xs A : List ℕ) → IsUnended rest → rest ≡ xs ++ newline ∷ A → ⊥
unended_no_line [] [] A h e = absurd (cc)
unended_no_line [] (x ∷ xs) A h e = absurd (cc)
unended_no_line (z ∷ rest) [] A h e = All-head (λ b. b ≢ newline) z rest h (cc)
unended_no_line (z ∷ rest) (x ∷ xs) A h e = let tail : rest ≡ xs ++ newline ∷ A = cc in unended_no_line rest xs A (All-tail (λ b. b ≢ newline) z rest h) tail

unended-decimal : (n : ℕ) → n < 2 ^ 64 → IsUnended (decimal n)
unended-decimal = decimal_by_steps (λ n ds. IsUnended ds) (λ n low. All-cons (λ b. b ≢ newline) (48 + n) [] (omega arith) (All-nil (λ b. b ≢ newline))) (λ n ds high h. All-push (λ b. b ≢ newline) ds (48 + n % 10) h (omega arith))

-- a word that is given byte by byte
unended_word : (bytes : List ℕ) → AllByRecursion (λ b. b ≢ newline) bytes → IsUnended bytes
unended_word bytes h = All-from_recursion (λ b. b ≢ newline) bytes h

unended-header : (p : Version) → IsUnended (header p)
unended-header One = unended_word (codes "trace 1") (omega arith)
unended-header Two = unended_word (codes "trace 2") (omega arith)

pub unended-spell : (p : Version) (r : Record) → Fits p r → IsUnended (spell r)
unended-spell p Spawn fits = unended_word (codes "spawn") (omega arith)
unended-spell p Call fits = unended_word (codes "call") (omega arith)
unended-spell p Return fits = unended_word (codes "return") (omega arith)
unended-spell p Sync fits = unended_word (codes "sync") (omega arith)
unended-spell p (Read l) fits = unended-append (codes "read ") (decimal l) (unended_word (codes "read ") (omega arith)) (unended-decimal l fits)
unended-spell p (Write l) fits = unended-append (codes "write ") (decimal l) (unended_word (codes "write ") (omega arith)) (unended-decimal l fits)

differ_first : (a b : ℕ) (xs ys : List ℕ) → a ≢ b → a ∷ xs ≡ b ∷ ys → ⊥
differ_first a b xs ys other e = other (cc)

differ_second : (a b c d : ℕ) (xs ys : List ℕ) → b ≢ d → a ∷ b ∷ xs ≡ c ∷ d ∷ ys → ⊥
differ_second a b c d xs ys other e = other (cc)

differ_third : (a b c d e f : ℕ) (xs ys : List ℕ) → c ≢ f → a ∷ b ∷ c ∷ xs ≡ d ∷ e ∷ f ∷ ys → ⊥
differ_third a b c d e f xs ys other eq = other (cc)

-- a version has a header of its own
header_injective : (p q : Version) → header p ≡ header q → p ≡ q
header_injective One One e = refl
header_injective One Two e = let last : 49 ≡ 50 = ap (λ xs. get_or xs 6 0) e in absurd (omega (arith, last))
header_injective Two One e = let last : 50 ≡ 49 = ap (λ xs. get_or xs 6 0) e in absurd (omega (arith, last))
header_injective Two Two e = refl

-- a record has one spelling of its own
pub spell_injective : (p q : Version) (r s : Record) → Fits p r → Fits q s → spell r ≡ spell s → r ≡ s
spell_injective p q Spawn Spawn fr fs e = refl
spell_injective p q Spawn Call fr fs e = absurd (differ_first _ _ _ _ (omega arith) e)
spell_injective p q Spawn Return fr fs e = absurd (differ_first _ _ _ _ (omega arith) e)
spell_injective p q Spawn Sync fr fs e = absurd (differ_second _ _ _ _ _ _ (omega arith) e)
spell_injective p q Spawn (Read m) fr fs e = absurd (differ_first _ _ _ _ (omega arith) e)
spell_injective p q Spawn (Write m) fr fs e = absurd (differ_first _ _ _ _ (omega arith) e)
spell_injective p q Call Spawn fr fs e = absurd (differ_first _ _ _ _ (omega arith) e)
spell_injective p q Call Call fr fs e = refl
spell_injective p q Call Return fr fs e = absurd (differ_first _ _ _ _ (omega arith) e)
spell_injective p q Call Sync fr fs e = absurd (differ_first _ _ _ _ (omega arith) e)
spell_injective p q Call (Read m) fr fs e = absurd (differ_first _ _ _ _ (omega arith) e)
spell_injective p q Call (Write m) fr fs e = absurd (differ_first _ _ _ _ (omega arith) e)
spell_injective p q Return Spawn fr fs e = absurd (differ_first _ _ _ _ (omega arith) e)
spell_injective p q Return Call fr fs e = absurd (differ_first _ _ _ _ (omega arith) e)
spell_injective p q Return Return fr fs e = refl
spell_injective p q Return Sync fr fs e = absurd (differ_first _ _ _ _ (omega arith) e)
spell_injective p q Return (Read m) fr fs e = absurd (differ_third _ _ _ _ _ _ _ _ (omega arith) e)
spell_injective p q Return (Write m) fr fs e = absurd (differ_first _ _ _ _ (omega arith) e)
spell_injective p q Sync Spawn fr fs e = absurd (differ_second _ _ _ _ _ _ (omega arith) e)
spell_injective p q Sync Call fr fs e = absurd (differ_first _ _ _ _ (omega arith) e)
spell_injective p q Sync Return fr fs e = absurd (differ_first _ _ _ _ (omega arith) e)
spell_injective p q Sync Sync fr fs e = refl
spell_injective p q Sync (Read m) fr fs e = absurd (differ_first _ _ _ _ (omega arith) e)
spell_injective p q Sync (Write m) fr fs e = absurd (differ_first _ _ _ _ (omega arith) e)
spell_injective p q (Read l) Spawn fr fs e = absurd (differ_first _ _ _ _ (omega arith) e)
spell_injective p q (Read l) Call fr fs e = absurd (differ_first _ _ _ _ (omega arith) e)
spell_injective p q (Read l) Return fr fs e = absurd (differ_third _ _ _ _ _ _ _ _ (omega arith) e)
spell_injective p q (Read l) Sync fr fs e = absurd (differ_first _ _ _ _ (omega arith) e)
spell_injective p q (Read l) (Read m) fr fs e = ap Read (decimal_injective l m fr fs (append_cancel_left (codes "read ") _ _ e))
spell_injective p q (Read l) (Write m) fr fs e = absurd (differ_first _ _ _ _ (omega arith) e)
spell_injective p q (Write l) Spawn fr fs e = absurd (differ_first _ _ _ _ (omega arith) e)
spell_injective p q (Write l) Call fr fs e = absurd (differ_first _ _ _ _ (omega arith) e)
spell_injective p q (Write l) Return fr fs e = absurd (differ_first _ _ _ _ (omega arith) e)
spell_injective p q (Write l) Sync fr fs e = absurd (differ_first _ _ _ _ (omega arith) e)
spell_injective p q (Write l) (Read m) fr fs e = absurd (differ_first _ _ _ _ (omega arith) e)
spell_injective p q (Write l) (Write m) fr fs e = ap Write (decimal_injective l m fr fs (append_cancel_left (codes "write ") _ _ e))

-- the lines of one record more, with what follows, up to the first line end
pub one_line : (r : Record) (more : List ℕ) → line r ++ more ≡ spell r ++ newline ∷ more
one_line r more = append_assoc (spell r) (newline ∷ []) more

pub lines_open : (r : Record) (v : List Record) (x : List ℕ) → flat_map line (r ∷ v) ++ x ≡ spell r ++ newline ∷ (flat_map line v ++ x)
lines_open r v x = append_assoc (line r) (flat_map line v) x ∙ one_line r (flat_map line v ++ x)

text_open : (p : Version) (w : List Record) (x : List ℕ) → text p w ++ x ≡ header p ++ newline ∷ (flat_map line w ++ x)
text_open p w x = append_assoc (ended (header p)) (flat_map line w) x ∙ append_assoc (header p) (newline ∷ []) (flat_map line w ++ x)

-- the bytes behind the records w go on with lines of a version, where those behind w and more records are x
abbrev pub GoesOn : Version → List Record → List Record → List ℕ → List ℕ → Type 0
GoesOn p u w x y = (v : List Record) × (u ≡ w ++ v) × AllFit p v × (y ≡ flat_map line v ++ x)

pub length_on : (u w v : List Record) → u ≡ w ++ v → length u ≡ length w + length v
length_on u w v on = ap length on ∙ length-append w v

pub same_record : (p q : Version) (r s : Record) (A B : List ℕ) → Fits p r → Fits q s → spell r ++ newline ∷ A ≡ spell s ++ newline ∷ B → (r ≡ s) × (A ≡ B)
same_record p q r s A B fr fs e = let split = unended_split (spell r) (spell s) A B (unended-spell p r fr) (unended-spell q s fs) e in (spell_injective p q r s fr fs split.0, split.1)

cons_front : (p : Version) (r s : Record) (u w : List Record) (x y : List ℕ) → r ≡ s → GoesOn p u w x y ⊎ GoesOn p w u y x → GoesOn p (r ∷ u) (s ∷ w) x y ⊎ GoesOn p (s ∷ w) (r ∷ u) y x
cons_front p r s u w x y same (inl (v, on, fit, is)) = inl (v, ap (λ z. r ∷ z) on ∙ ap (λ z. z ∷ (w ++ v)) same, fit, is)
cons_front p r s u w x y same (inr (v, on, fit, is)) = inr (v, ap (λ z. s ∷ z) on ∙ ap (λ z. z ∷ (u ++ v)) (sym same), fit, is)

same_lines : (p : Version) (u w : List Record) (x y : List ℕ) → AllFit p u → AllFit p w → flat_map line u ++ x ≡ flat_map line w ++ y → GoesOn p u w x y ⊎ GoesOn p w u y x
same_lines p [] w x y hu hw e = inr (w, refl, hw, e)
same_lines p (r ∷ u) [] x y hu hw e = inl (r ∷ u, refl, hu, sym e)
same_lines p (r ∷ u) (s ∷ w) x y hu hw e =
    let both = same_record p p r s (flat_map line u ++ x) (flat_map line w ++ y) hu.0 hw.0 (sym (lines_open r u x) ∙ e ∙ lines_open s w y) in
    cons_front p r s u w x y both.0 (same_lines p u w x y hu.1 hw.1 both.1)

-- two readings of the same bytes: they are of one version, which the header names
same_header : (p q : Version) (u w : List Record) (x y : List ℕ) → text p u ++ x ≡ text q w ++ y → (header p ≡ header q) × (flat_map line u ++ x ≡ flat_map line w ++ y)
same_header p q u w x y e = unended_split (header p) (header q) (flat_map line u ++ x) (flat_map line w ++ y) (unended-header p) (unended-header q) (sym (text_open p u x) ∙ e ∙ text_open q w y)

pub same_version : (p q : Version) (u w : List Record) (x y : List ℕ) → text p u ++ x ≡ text q w ++ y → p ≡ q
same_version p q u w x y e = header_injective p q (same_header p q u w x y e).0

-- and one goes on from the other, with lines of the other's version
pub same_front : (p q : Version) (u w : List Record) (x y : List ℕ) → AllFit p u → AllFit q w → text p u ++ x ≡ text q w ++ y → GoesOn q u w x y ⊎ GoesOn p w u y x
same_front p q u w x y hu hw e =
    let same : p ≡ q = same_version p q u w x y e in
    let P : Version → Type 0 = λ z. AllFit z w in
    let Q : Version → Type 0 = λ z. GoesOn z u w x y ⊎ GoesOn p w u y x in
    subst Q same (same_lines p u w x y hu (subst P (sym same) hw) (same_header p q u w x y e).1)

no_bytes : (r : Record) (v : List Record) (x : List ℕ) → [] ≡ flat_map line (r ∷ v) ++ x → ⊥
no_bytes r v x e = unended_no_line [] (spell r) (flat_map line v ++ x) (All-nil (λ b. b ≢ newline)) (e ∙ lines_open r v x)

-- no two traces have one text
pub text_injective : (p q : Version) (u w : List Record) → AllFit p u → AllFit q w → text p u ≡ text q w → u ≡ w
text_injective p q u w hu hw e = go (same_front p q u w [] [] hu hw (append-nil (text p u) ∙ e ∙ sym (append-nil (text q w))))
  where
    go : GoesOn q u w [] [] ⊎ GoesOn p w u [] [] → u ≡ w
    go (inl ([], on, fit, is)) = on ∙ append-nil w
    go (inl (r ∷ v, on, fit, is)) = absurd (no_bytes r v [] is)
    go (inr ([], on, fit, is)) = sym (on ∙ append-nil u)
    go (inr (r ∷ v, on, fit, is)) = absurd (no_bytes r v [] is)

-- and no two versions have
pub version_of_text : (p q : Version) (u w : List Record) → text p u ≡ text q w → p ≡ q
version_of_text p q u w e = same_version p q u w [] [] (append-nil (text p u) ∙ e ∙ sym (append-nil (text q w)))

-- what is judged of bytes that begin with a line of at most 26 bytes
judged_is : {bytes body : List ℕ} → IsJudged bytes body → (h more : List ℕ) → IsUnended h → length h ≤ 26 → bytes ≡ h ++ newline ∷ more → body ≡ h
judged_is (at_end b rest un) h more hh short e = (unended_split b h rest more un hh (sym (append_assoc b (newline ∷ []) rest) ∙ e)).0
judged_is (at_length b rest un long) h more hh short e = absurd (not_longer b h rest more un (omega arith) e)

pub header_judged : {bytes body : List ℕ} → IsJudged bytes body → (p : Version) (w : List Record) (x : List ℕ) → bytes ≡ text p w ++ x → body ≡ header p
header_judged judged p w x e = judged_is judged (header p) (flat_map line w ++ x) (unended-header p) (omega (arith, length-header p)) (e ∙ text_open p w x)

record_judged : {bytes body : List ℕ} → IsJudged bytes body → (p : Version) → IsNoRecord p body → (r : Record) (more : List ℕ) → Fits p r → bytes ≡ spell r ++ newline ∷ more → ⊥
record_judged judged p no_spelling r more fits e = no_spelling r fits (judged_is judged (spell r) more (unended-spell p r fits) (length-spell p r fits) e)

-- a bad line comes behind all good ones
pub behind_good : (p q : Version) (w u : List Record) (x rest : List ℕ) {body : List ℕ} → AllFit p w → AllFit q u → IsJudged rest body → IsNoRecord q body → text p w ++ x ≡ text q u ++ rest → length w ≤ length u
behind_good p q w u x rest hw hu judged no_spelling e = go (same_front p q w u x rest hw hu e)
  where
    go : GoesOn q w u x rest ⊎ GoesOn p u w rest x → length w ≤ length u
    go (inl ([], on, fit, is)) = omega (arith, length_on w u [] on)
    go (inl (r ∷ v, on, fit, is)) = absurd (record_judged judged q no_spelling r (flat_map line v ++ x) fit.0 (is ∙ lines_open r v x))
    go (inr (v, on, fit, is)) = omega (arith, length_on u w v on)

-- after good lines within the limit a bad line comes later
pub bad_line_after : (records : ℕ) (p : Version) (w : List Record) (x : List ℕ) (f : TextFault) → AllFit p w → length w ≤ records → IsBadLine records (text p w ++ x) f → length w + 2 ≤ f.line
bad_line_after records p w x f hw le (bad_header body judged other) = absurd (other p (header_judged judged p w x refl))
bad_line_after records p w x f hw le (bad_line q u rest body hu le' e judged no_spelling) = omega (arith, behind_good p q w u x rest hw hu judged no_spelling e)
bad_line_after records p w x f hw le (too_many q u r more hu full fits e) = omega arith

-- a list with one more record, seen from a record in it
cons_end : (b a : Record) (u' : List Record) (r' : Record) (u : List Record) (r : Record) → b ≡ a → ((u' ≡ u) × (r' ≡ r)) ⊎ ((v : List Record) × (u' ≡ u ++ r ∷ v)) → ((b ∷ u' ≡ a ∷ u) × (r' ≡ r)) ⊎ ((v : List Record) × (b ∷ u' ≡ (a ∷ u) ++ r ∷ v))
cons_end b a u' r' u r same (inl (on, last)) = inl (cc, last)
cons_end b a u' r' u r same (inr (v, on)) = inr (v, ap (λ z. b ∷ z) on ∙ ap (λ z. z ∷ (u ++ r ∷ v)) same)

last_or_before : (u' : List Record) (r' : Record) (u : List Record) (r : Record) (v : List Record) → u' ++ r' ∷ [] ≡ u ++ r ∷ v → ((u' ≡ u) × (r' ≡ r)) ⊎ ((v' : List Record) × (u' ≡ u ++ r ∷ v'))
last_or_before [] r' [] r v e = inl (refl, cc)
last_or_before [] r' (a ∷ u) r v e = let n : 1 ≡ suc (length (u ++ r ∷ v)) = ap length e in absurd (omega (arith, length-append u (r ∷ v)))
last_or_before (b ∷ u') r' [] r v e = let same : b ≡ r = cc in inr (u', ap (λ z. z ∷ u') same)
last_or_before (b ∷ u') r' (a ∷ u) r v e = let same : b ≡ a = cc in let rest : u' ++ r' ∷ [] ≡ u ++ r ∷ v = cc in cons_end b a u' r' u r same (last_or_before u' r' u r v rest)

-- none of the records that are not misplaced is
nested_fine : (d : ℕ) {w : List Record} → AreNested d w → (u : List Record) (r : Record) (v : List Record) → w ≡ u ++ r ∷ v → (k : NestKind) → IsMisplaced d u r k → ⊥
nested_fine d none u r v e k bad = let n : 0 ≡ length (u ++ r ∷ v) = ap length e in absurd (omega (arith, length-append u (r ∷ v)))
nested_fine d (next {u = u'} {r = r'} before placed) u r v e k bad = go (nested_fine d before) (last_or_before u' r' u r v e)
  where
    go : ((a : List Record) (b : Record) (c : List Record) → u' ≡ a ++ b ∷ c → (j : NestKind) → IsMisplaced d a b j → ⊥) → ((u' ≡ u) × (r' ≡ r)) ⊎ ((v' : List Record) × (u' ≡ u ++ r ∷ v')) → ⊥
    go ih (inl (same, last)) =
        let P : List Record → Type 0 = λ z. IsMisplaced d z r' k in
        let Q : Record → Type 0 = λ z. IsMisplaced d u z k in
        placed k (subst P (sym same) (subst Q (sym last) bad))
    go ih (inr (v', on)) = ih u r v' on k bad

-- the next record after u would be one of those that are not misplaced
fine_next : (d : ℕ) (p q : Version) (w u v : List Record) (r s : Record) (k : NestKind) (more x : List ℕ) → AreNested d w → w ≡ u ++ s ∷ v → Fits p r → Fits q s → line r ++ more ≡ flat_map line (s ∷ v) ++ x → IsMisplaced d u r k → ⊥
fine_next d p q w u v r s k more x nested on fr fs is bad =
    let same = same_record p q r s more (flat_map line v ++ x) fr fs (sym (one_line r more) ∙ is ∙ lines_open s v x) in
    let P : Record → Type 0 = λ z. IsMisplaced d u z k in
    nested_fine d nested u s v on k (subst P same.0 bad)

-- after records that are not misplaced a bad place comes later
pub bad_place_after : (depths : ℕ) (p : Version) (w : List Record) (x : List ℕ) (n : NestFault) → AllFit p w → AreNested depths w → IsBadPlace depths (text p w ++ x) n → length w + 1 ≤ n.place
bad_place_after depths p w x n hw nested (bad_place q u r more k hu fits e nested' bad) = go (same_front p q w u x (line r ++ more) hw hu e)
  where
    go : GoesOn q w u x (line r ++ more) ⊎ GoesOn p u w (line r ++ more) x → length w + 1 ≤ length u + 1
    go (inl ([], on, fit, is)) = omega (arith, length_on w u [] on)
    go (inl (s ∷ v, on, fit, is)) = absurd (fine_next depths q q w u v r s k more x nested on fits fit.0 is bad)
    go (inr (v, on, fit, is)) = omega (arith, length_on u w v on)

-- an unfinished line isn't judged, and holds no whole line
open_not_judged : {bytes body : List ℕ} → IsJudged bytes body → IsOpen bytes → ⊥
open_not_judged (at_end b rest un) h = unended_no_line (ended b ++ rest) b rest h.unended (append_assoc b (newline ∷ []) rest)
open_not_judged (at_length b rest un long) h = absurd (omega (arith, h.short, length-append b rest))

pub open_no_lines : (rest : List ℕ) (r : Record) (v : List Record) (x : List ℕ) → IsOpen rest → rest ≡ flat_map line (r ∷ v) ++ x → ⊥
open_no_lines rest r v x h e = unended_no_line rest (spell r) (flat_map line v ++ x) h.unended (e ∙ lines_open r v x)

open_no_line : (rest : List ℕ) (r : Record) (more : List ℕ) → IsOpen rest → rest ≡ line r ++ more → ⊥
open_no_line rest r more h e = unended_no_line rest (spell r) more h.unended (e ∙ one_line r more)

pub open_no_text : (rest : List ℕ) (p : Version) (w : List Record) (x : List ℕ) → IsOpen rest → rest ≡ text p w ++ x → ⊥
open_no_text rest p w x h e = unended_no_line rest (header p) (flat_map line w ++ x) h.unended (e ∙ text_open p w x)

-- an unfinished line is no fault
pub no_bad_line : (records : ℕ) (p : Version) (w : List Record) (rest : List ℕ) (f : TextFault) → AllFit p w → length w ≤ records → IsOpen rest → IsBadLine records (text p w ++ rest) f → ⊥
no_bad_line records p w rest f hw le h (bad_header body judged other) = other p (header_judged judged p w rest refl)
no_bad_line records p w rest f hw le h (bad_line q u rest' body hu le' e judged no_spelling) = go (same_front p q w u rest rest' hw hu e)
  where
    go : GoesOn q w u rest rest' ⊎ GoesOn p u w rest' rest → ⊥
    go (inl ([], on, fit, is)) = open_not_judged judged (subst IsOpen (sym is) h)
    go (inl (r ∷ v, on, fit, is)) = record_judged judged q no_spelling r (flat_map line v ++ rest) fit.0 (is ∙ lines_open r v rest)
    go (inr ([], on, fit, is)) = open_not_judged judged (subst IsOpen is h)
    go (inr (r ∷ v, on, fit, is)) = open_no_lines rest r v rest' h is
no_bad_line records p w rest f hw le h (too_many q u r more hu full fits e) = go (same_front p q w u rest (line r ++ more) hw hu e)
  where
    go : GoesOn q w u rest (line r ++ more) ⊎ GoesOn p u w (line r ++ more) rest → ⊥
    go (inl ([], on, fit, is)) = open_no_line rest r more h (sym is)
    go (inl (s ∷ v, on, fit, is)) = absurd (omega (arith, length_on w u (s ∷ v) on))
    go (inr ([], on, fit, is)) = open_no_line rest r more h is
    go (inr (s ∷ v, on, fit, is)) = open_no_lines rest s v (line r ++ more) h is

-- and holds no place
pub no_bad_place : (depths : ℕ) (p : Version) (w : List Record) (rest : List ℕ) (n : NestFault) → AllFit p w → IsOpen rest → AreNested depths w → IsBadPlace depths (text p w ++ rest) n → ⊥
no_bad_place depths p w rest n hw h nested (bad_place q u r more k hu fits e nested' bad) = go (same_front p q w u rest (line r ++ more) hw hu e)
  where
    go : GoesOn q w u rest (line r ++ more) ⊎ GoesOn p u w (line r ++ more) rest → ⊥
    go (inl ([], on, fit, is)) = open_no_line rest r more h (sym is)
    go (inl (s ∷ v, on, fit, is)) = fine_next depths q q w u v r s k more rest nested on fits fit.0 is bad
    go (inr ([], on, fit, is)) = open_no_line rest r more h is
    go (inr (s ∷ v, on, fit, is)) = open_no_lines rest s v (line r ++ more) h is

-- the same for a rest of line 1
pub no_bad_line_first : (records : ℕ) (rest : List ℕ) (f : TextFault) → IsOpen rest → IsBadLine records rest f → ⊥
no_bad_line_first records rest f h (bad_header body judged other) = open_not_judged judged h
no_bad_line_first records rest f h (bad_line q u rest' body hu le e judged no_spelling) = open_no_text rest q u rest' h e
no_bad_line_first records rest f h (too_many q u r more hu full fits e) = open_no_text rest q u (line r ++ more) h e

pub no_bad_place_first : (depths : ℕ) (rest : List ℕ) (n : NestFault) → IsOpen rest → IsBadPlace depths rest n → ⊥
no_bad_place_first depths rest n h (bad_place q u r more k hu fits e nested bad) = open_no_text rest q u (line r ++ more) h e

-- so no first fault
pub no_first_fault : (records depths : ℕ) (p : Version) (w : List Record) (rest : List ℕ) (g : Fault) → AllFit p w → length w ≤ records → AreNested depths w → IsOpen rest → IsFirstFault records depths (text p w ++ rest) g → ⊥
no_first_fault records depths p w rest g hw le nested h (bad_line f bad first) = no_bad_line records p w rest f hw le h bad
no_first_fault records depths p w rest g hw le nested h (bad_place n bad first) = no_bad_place depths p w rest n hw h nested bad

pub no_first_fault_first : (records depths : ℕ) (rest : List ℕ) (g : Fault) → IsOpen rest → IsFirstFault records depths rest g → ⊥
no_first_fault_first records depths rest g h (bad_line f bad first) = no_bad_line_first records rest f h bad
no_first_fault_first records depths rest g h (bad_place n bad first) = no_bad_place_first depths rest n h bad

closes_none : (r : Record) → opens r ≡ 1 → closes r ≡ 0
closes_none Spawn e = refl
closes_none Call e = refl
closes_none Return e = absurd (omega arith)
closes_none Sync e = refl
closes_none (Read l) e = refl
closes_none (Write l) e = refl

-- none of the records of a well nested trace is misplaced
well_fine : (records depths : ℕ) (u : List Record) (r : Record) (v : List Record) → IsWellNested (u ++ r ∷ v) records depths → AreNested depths u → (k : NestKind) → IsMisplaced depths u r k → ⊥
well_fine records depths u r v h nested k (after_end (i, p, e)) =
    let le : i ≤ length u = p.1 in
    h.no_earlier i (omega (arith, length-append u (r ∷ v))) (record { a_return = at-front u (r ∷ v) i le ∙ e.a_return; at_zero = depth-front u (r ∷ v) i (omega arith) ∙ e.at_zero })
well_fine records depths u r [] h nested k (too_deep running opening full) =
    let is : length (u ++ r ∷ []) ≡ suc (length u) = omega (arith, length-append u (r ∷ [])) in
    let same : Some r ≡ Some Return = sym (at-seam u r) ∙ ap (at (u ++ r ∷ [])) (sym is) ∙ h.last.a_return in
    let is_return : r ≡ Return = cc in
    let flat : opens r ≡ 0 = ap opens is_return in
    absurd (omega arith)
well_fine records depths u r (s ∷ v) h nested k (too_deep running opening full) =
    let j : ℕ = suc (length (u ++ r ∷ [])) in
    let below : depth (u ++ r ∷ s ∷ v) j ≤ depths = h.not_too_deep j (omega arith, omega (arith, length-append u (r ∷ []), length-append u (r ∷ s ∷ v))) in
    let deep : depth (u ++ r ∷ s ∷ v) j ≡ (sum_by opens u + opens r) - (sum_by closes u + closes r) =
    ap (λ z. depth z j) (sym (append_assoc u (r ∷ []) (s ∷ v))) ∙ depth-front (u ++ r ∷ []) (s ∷ v) j (omega arith) ∙ depth-pushed u r in
    absurd (omega (arith, depth-next u, balanced depths nested running, closes_none r opening))

nested_from : (d : ℕ) (v u : List Record) → AreNested d u → ((u' : List Record) (r : Record) (v' : List Record) → u ++ v ≡ u' ++ r ∷ v' → AreNested d u' → (k : NestKind) → IsMisplaced d u' r k → ⊥) → AreNested d (u ++ v)
nested_from d [] u nested fine = subst (AreNested d) (sym (append-nil u)) nested
nested_from d (r ∷ v) u nested fine =
    subst (AreNested d) (append_assoc u (r ∷ []) v) (nested_from d v (u ++ r ∷ []) (next nested (fine u r v refl nested)) (λ u' r' v' e. fine u' r' v' (sym (append_assoc u (r ∷ []) v) ∙ e)))

pub nested_well : (records depths : ℕ) (w : List Record) → IsWellNested w records depths → AreNested depths w
nested_well records depths w h =
    let P : List Record → Type 0 = λ z. IsWellNested z records depths in
    nested_from depths w [] none (λ u r v e nested k bad. well_fine records depths u r v (subst P e h) nested k bad)

-- whole lines alone are not truncated
pub no_truncated : (records : ℕ) (p : Version) (w : List Record) (f : TextFault) → AllFit p w → IsTruncated records (text p w) f → ⊥
no_truncated records p w f hw (no_header h) = open_no_text (text p w) p w [] h (sym (append-nil (text p w)))
no_truncated records p w f hw (no_line_end q u rest hu le e h some) = go (same_front p q w u [] rest hw hu (append-nil (text p w) ∙ e))
  where
    go : GoesOn q w u [] rest ⊎ GoesOn p u w rest [] → ⊥
    go (inl ([], on, fit, is)) = some is
    go (inl (r ∷ v, on, fit, is)) = open_no_lines rest r v [] h is
    go (inr ([], on, fit, is)) = some (sym is)
    go (inr (r ∷ v, on, fit, is)) = no_bytes r v rest is

no_first_fault_of_text : (records depths : ℕ) (p : Version) (w : List Record) (bytes : List ℕ) (g : Fault) → AllFit p w → length w ≤ records → AreNested depths w → bytes ≡ text p w → IsFirstFault records depths bytes g → ⊥
no_first_fault_of_text records depths p w bytes g hw le nested e fault =
    let P : List ℕ → Type 0 = λ x. IsFirstFault records depths x g in
    no_first_fault records depths p w [] g hw le nested open_nil (subst P (e ∙ sym (append-nil (text p w))) fault)

-- the text of a well nested trace within limits has no fault at all
pub no_fault_of_text : (records depths : ℕ) (p : Version) (w : List Record) (g : Fault) → AllFit p w → IsWellNested w records depths → IsFaultOfAll records depths (text p w) g → ⊥
no_fault_of_text records depths p w g hw h (before_end f fault) = no_first_fault_of_text records depths p w (text p w) f hw h.within (nested_well records depths w h) refl fault
no_fault_of_text records depths p w g hw h (truncated f t clear) = no_truncated records p w f hw t
no_fault_of_text records depths p w g hw h (unfinished q u hu le e nested running) = running (subst HasEnded (text_injective p q w u hw hu e) (length w, (h.some, omega arith), h.last))

abbrev text_fault : ℕ → TextKind → TextFault
text_fault n k = record { line = n; kind = k }

abbrev nest_fault : ℕ → NestKind → NestFault
nest_fault n k = record { place = n; kind = k }

same_text_fault : (n m : ℕ) (k : TextKind) → n ≡ m → text_fault n k ≡ text_fault m k
same_text_fault n m k e = ap (λ z. text_fault z k) e

same_nest_fault : (n m : ℕ) (k j : NestKind) → n ≡ m → k ≡ j → nest_fault n k ≡ nest_fault m j
same_nest_fault n m k j e f = ap (λ z. nest_fault z k) e ∙ ap (nest_fault m) f

-- a line that is no record isn't past the limit
bad_not_past : (records : ℕ) (p q : Version) (w u : List Record) (rest : List ℕ) {body : List ℕ} (r : Record) (more : List ℕ) → AllFit p w → length w ≤ records → IsJudged rest body → IsNoRecord p body → AllFit q u → length u ≡ records → Fits q r
    → text p w ++ rest ≡ text q u ++ (line r ++ more) → ⊥
bad_not_past records p q w u rest r more hw le judged no_spelling hu full fits e = go (same_front p q w u rest (line r ++ more) hw hu e)
  where
    fits' : Fits p r
    fits' = let P : Version → Type 0 = λ z. Fits z r in subst P (sym (same_version p q w u rest (line r ++ more) e)) fits

    go : GoesOn q w u rest (line r ++ more) ⊎ GoesOn p u w (line r ++ more) rest → ⊥
    go (inl ([], on, fit, is)) = record_judged judged p no_spelling r more fits' (sym is ∙ one_line r more)
    go (inl (s ∷ v, on, fit, is)) = absurd (omega (arith, length_on w u (s ∷ v) on))
    go (inr ([], on, fit, is)) = record_judged judged p no_spelling r more fits' (is ∙ one_line r more)
    go (inr (s ∷ v, on, fit, is)) = record_judged judged p no_spelling s (flat_map line v ++ (line r ++ more)) fit.0 (is ∙ lines_open s v (line r ++ more))

-- bytes have one first faulty line
pub one_bad_line : (records : ℕ) (bytes : List ℕ) (f g : TextFault) → IsBadLine records bytes f → IsBadLine records bytes g → f ≡ g
one_bad_line records bytes f g (bad_header body judged other) (bad_header body' judged' other') = refl
one_bad_line records bytes f g (bad_header body judged other) (bad_line q u rest body' hu le e judged' no_spelling) = absurd (other q (header_judged judged q u rest e))
one_bad_line records bytes f g (bad_header body judged other) (too_many q u r more hu full fits e) = absurd (other q (header_judged judged q u (line r ++ more) e))
one_bad_line records bytes f g (bad_line p w rest body hw le e judged no_spelling) (bad_header body' judged' other) = absurd (other p (header_judged judged' p w rest e))
one_bad_line records bytes f g (bad_line p w rest body hw le e judged no_spelling) (bad_line q u rest' body' hu le' e' judged' no_spelling') =
    same_text_fault (length w + 2) (length u + 2) Line (omega (arith, behind_good p q w u rest rest' hw hu judged' no_spelling' (sym e ∙ e'), behind_good q p u w rest' rest hu hw judged no_spelling (sym e' ∙ e)))
one_bad_line records bytes f g (bad_line p w rest body hw le e judged no_spelling) (too_many q u r more hu full fits e') = absurd (bad_not_past records p q w u rest r more hw le judged no_spelling hu full fits (sym e ∙ e'))
one_bad_line records bytes f g (too_many p w r more hw full fits e) (bad_header body judged other) = absurd (other p (header_judged judged p w (line r ++ more) e))
one_bad_line records bytes f g (too_many p w r more hw full fits e) (bad_line q u rest body hu le e' judged no_spelling) = absurd (bad_not_past records q p u w rest r more hu le judged no_spelling hw full fits (sym e' ∙ e))
one_bad_line records bytes f g (too_many p w r more hw full fits e) (too_many q u s more' hu full' fits' e') = same_text_fault (length w + 2) (length u + 2) TooMany (omega arith)

one_kind : (d : ℕ) (u : List Record) (r : Record) (k j : NestKind) → IsMisplaced d u r k → IsMisplaced d u r j → k ≡ j
one_kind d u r k j (after_end e) (after_end e') = refl
one_kind d u r k j (after_end e) (too_deep running opening full) = absurd (running e)
one_kind d u r k j (too_deep running opening full) (after_end e) = absurd (running e)
one_kind d u r k j (too_deep running opening full) (too_deep running' opening' full') = refl

same_place : (d : ℕ) (p q : Version) (u w : List Record) (r s : Record) (k j : NestKind) (more more' : List ℕ) → u ≡ w ++ [] → Fits p r → Fits q s → line s ++ more' ≡ line r ++ more → IsMisplaced d u r k → IsMisplaced d w s j
    → nest_fault (length u + 1) k ≡ nest_fault (length w + 1) j
same_place d p q u w r s k j more more' on fr fs is bad bad' =
    let same = same_record q p s r more' more fs fr (sym (one_line s more') ∙ is ∙ one_line r more) in
    let whole : u ≡ w = on ∙ append-nil w in
    let P : List Record → Type 0 = λ z. IsMisplaced d z s j in
    let Q : Record → Type 0 = λ z. IsMisplaced d u z j in
    same_nest_fault (length u + 1) (length w + 1) k j (ap (λ z. length z + 1) whole) (one_kind d u r k j bad (subst Q same.0 (subst P (sym whole) bad')))

-- bytes have one first faulty place
pub one_bad_place : (depths : ℕ) (bytes : List ℕ) (m n : NestFault) → IsBadPlace depths bytes m → IsBadPlace depths bytes n → m ≡ n
one_bad_place depths bytes m n (bad_place p u r more k hu fr e nested bad) (bad_place q w s more' j hw fs e' nested' bad') = go (same_front p q u w (line r ++ more) (line s ++ more') hu hw (sym e ∙ e'))
  where
    go : GoesOn q u w (line r ++ more) (line s ++ more') ⊎ GoesOn p w u (line s ++ more') (line r ++ more) → nest_fault (length u + 1) k ≡ nest_fault (length w + 1) j
    go (inl ([], on, fit, is)) = same_place depths p q u w r s k j more more' on fr fs is bad bad'
    go (inl (a ∷ v, on, fit, is)) = absurd (fine_next depths q q u w v s a j more' (line r ++ more) nested on fs fit.0 is bad')
    go (inr ([], on, fit, is)) = sym (same_place depths q p w u s r j k more' more on fs fr is bad' bad)
    go (inr (a ∷ v, on, fit, is)) = absurd (fine_next depths p p w u v r a k more (line s ++ more') nested' on fr fit.0 is bad)

-- bytes have one first fault
pub one_first_fault : (records depths : ℕ) (bytes : List ℕ) (f g : Fault) → IsFirstFault records depths bytes f → IsFirstFault records depths bytes g → f ≡ g
one_first_fault records depths bytes f g (bad_line a bad first) (bad_line b bad' first') = ap Text (one_bad_line records bytes a b bad bad')
one_first_fault records depths bytes f g (bad_line a bad first) (bad_place n bad' first') = absurd (omega (arith, first n bad', first' a bad))
one_first_fault records depths bytes f g (bad_place n bad first) (bad_line a bad' first') = absurd (omega (arith, first a bad', first' n bad))
one_first_fault records depths bytes f g (bad_place m bad first) (bad_place n bad' first') = ap Nest (one_bad_place depths bytes m n bad bad')

-- bytes are truncated at one line
pub one_truncated : (records : ℕ) (bytes : List ℕ) (f g : TextFault) → IsTruncated records bytes f → IsTruncated records bytes g → f ≡ g
one_truncated records bytes f g (no_header h) (no_header h') = refl
one_truncated records bytes f g (no_header h) (no_line_end p w rest hw le e h' some) = absurd (open_no_text bytes p w rest h e)
one_truncated records bytes f g (no_line_end p w rest hw le e h some) (no_header h') = absurd (open_no_text bytes p w rest h' e)
one_truncated records bytes f g (no_line_end p w rest hw le e h some) (no_line_end q u rest' hu le' e' h' some') = go (same_front p q w u rest rest' hw hu (sym e ∙ e'))
  where
    go : GoesOn q w u rest rest' ⊎ GoesOn p u w rest' rest → text_fault (length w + 2) Truncated ≡ text_fault (length u + 2) Truncated
    go (inl ([], on, fit, is)) = same_text_fault (length w + 2) (length u + 2) Truncated (omega (arith, length_on w u [] on))
    go (inl (r ∷ v, on, fit, is)) = absurd (open_no_lines rest' r v rest h' is)
    go (inr ([], on, fit, is)) = same_text_fault (length w + 2) (length u + 2) Truncated (omega (arith, length_on u w [] on))
    go (inr (r ∷ v, on, fit, is)) = absurd (open_no_lines rest r v rest' h is)

-- whole bytes have one fault
pub one_fault : (records depths : ℕ) (bytes : List ℕ) (f g : Fault) → IsFaultOfAll records depths bytes f → IsFaultOfAll records depths bytes g → f ≡ g
one_fault records depths bytes f g (before_end a first) (before_end b first') = one_first_fault records depths bytes a b first first'
one_fault records depths bytes f g (before_end a first) (truncated b t clear) = absurd (clear a first)
one_fault records depths bytes f g (before_end a first) (unfinished p w hw le e nested running) = absurd (no_first_fault_of_text records depths p w bytes a hw le nested e first)
one_fault records depths bytes f g (truncated a t clear) (before_end b first) = absurd (clear b first)
one_fault records depths bytes f g (truncated a t clear) (truncated b t' clear') = ap Text (one_truncated records bytes a b t t')
one_fault records depths bytes f g (truncated a t clear) (unfinished p w hw le e nested running) = let P : List ℕ → Type 0 = λ x. IsTruncated records x a in absurd (no_truncated records p w a hw (subst P e t))
one_fault records depths bytes f g (unfinished p w hw le e nested running) (before_end b first) = absurd (no_first_fault_of_text records depths p w bytes b hw le nested e first)
one_fault records depths bytes f g (unfinished p w hw le e nested running) (truncated b t clear) = let P : List ℕ → Type 0 = λ x. IsTruncated records x b in absurd (no_truncated records p w b hw (subst P e t))
one_fault records depths bytes f g (unfinished p w hw le e nested running) (unfinished q u hu le' e' nested' running') =
    ap Nest (same_nest_fault (length w + 1) (length u + 1) Unfinished Unfinished (ap (λ z. length z + 1) (text_injective p q w u hw hu (sym e ∙ e'))) refl)

judged_more : {bytes body : List ℕ} (more : List ℕ) → IsJudged bytes body → IsJudged (bytes ++ more) body
judged_more {body = body} more (at_end _ rest unended) = let P : List ℕ → Type 0 = λ x. IsJudged x body in subst P (sym (append_assoc (ended body) rest more)) (at_end body (rest ++ more) unended)
judged_more {body = body} more (at_length _ rest unended long) = let P : List ℕ → Type 0 = λ x. IsJudged x body in subst P (sym (append_assoc body rest more)) (at_length body (rest ++ more) unended long)

-- a bad line of bytes is one of them with more behind
pub bad_line_more : (records : ℕ) (bytes more : List ℕ) (f : TextFault) → IsBadLine records bytes f → IsBadLine records (bytes ++ more) f
bad_line_more records bytes more f (bad_header body judged other) = bad_header body (judged_more more judged) other
bad_line_more records bytes more f (bad_line p w rest body fit le e judged no_spelling) = bad_line p w (rest ++ more) body fit le (ap (λ x. x ++ more) e ∙ append_assoc (text p w) rest more) (judged_more more judged) no_spelling
bad_line_more records bytes more f (too_many p w r rest fit full fits e) = too_many p w r (rest ++ more) fit full fits (ap (λ x. x ++ more) e ∙ append_assoc (text p w) (line r ++ rest) more ∙ ap (λ x. text p w ++ x) (append_assoc (line r) rest more))

pub bad_place_more : (depths : ℕ) (bytes more : List ℕ) (n : NestFault) → IsBadPlace depths bytes n → IsBadPlace depths (bytes ++ more) n
bad_place_more depths bytes more n (bad_place p u r rest k fit fits e nested bad) = bad_place p u r (rest ++ more) k fit fits (ap (λ x. x ++ more) e ∙ append_assoc (text p u) (line r ++ rest) more ∙ ap (λ x. text p u ++ x) (append_assoc (line r) rest more)) nested bad

-- bytes in front of the text of a well nested trace have no first fault
pub no_fault_in_front : (records depths : ℕ) (p : Version) (w : List Record) (bytes more : List ℕ) (g : Fault) → AllFit p w → IsWellNested w records depths → text p w ≡ bytes ++ more → IsFirstFault records depths bytes g → ⊥
no_fault_in_front records depths p w bytes more g fit h e (bad_line f bad first) =
    let P : List ℕ → Type 0 = λ x. IsBadLine records x f in
    no_bad_line records p w [] f fit h.within open_nil (subst P (sym e ∙ sym (append-nil (text p w))) (bad_line_more records bytes more f bad))
no_fault_in_front records depths p w bytes more g fit h e (bad_place n bad first) =
    let P : List ℕ → Type 0 = λ x. IsBadPlace depths x n in
    no_bad_place depths p w [] n fit open_nil (nested_well records depths w h) (subst P (sym e ∙ sym (append-nil (text p w))) (bad_place_more depths bytes more n bad))
