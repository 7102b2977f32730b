-- A report's list with one race more.
use Rattle.collect.proofs.Common.{◌≡◌, ℕ, suc, Bool, true, false, eqb, ltb, ◌+◌, ◌-◌, ◌<◌, ◌≤◌, ◌^◌, List, [], ◌∷◌, ◌++◌, Option, Some, None, length, arith, refl, sym, ap, ◌∙◌, subst, append_assoc, append-nil, AllByRecursion, slice_get, option_map_or, eqb-true, ltb-true, ltb-false, RaceAt, IsEntry, IsReportList, may_follow, head, race_line, race_lines, rtext, IsFirstBadLine, no_head, no_race, no_end, OneList, length-append}
use Rattle.dag.proofs.Lists.{all-push, all-front}
use Rattle.collect.proofs.Ascending.{Ascends, Ascends-from_increasing, increasing_from_ascends}
use Rattle.collect.proofs.Unique.{same_line, same_head, goes_on}

-- each location of the list is below l
abbrev pub Below : ℕ → List RaceAt → Type 0
Below l rs = AllByRecursion (λ r. r.location < l) rs

Ascends-push : (rs : List RaceAt) (r : RaceAt) → Ascends rs → Below r.location rs → Ascends (rs ++ r ∷ [])
Ascends-push [] r a b = (tt, tt)
Ascends-push (s ∷ rs) r a b = (all-push (λ q. s.location < q.location) rs r a.0 b.0, Ascends-push rs r a.1 b.1)

-- ---- the last race

abbrev last_of : List RaceAt → Option RaceAt
last_of [] = None
last_of (r ∷ []) = Some r
last_of (r ∷ s ∷ rs) = last_of (s ∷ rs)

last_of-get : (rs : List RaceAt) → slice_get rs (length rs - 1) ≡ last_of rs
last_of-get [] = refl
last_of-get (r ∷ []) = refl
last_of-get (r ∷ s ∷ rs) =
    let here : length (r ∷ s ∷ rs) - 1 ≡ suc (length (s ∷ rs) - 1) = omega arith in
    ap (slice_get (r ∷ s ∷ rs)) here ∙ last_of-get (s ∷ rs)

Below-last : (l : ℕ) (last : RaceAt) (rs : List RaceAt) → Ascends rs → last_of rs ≡ Some last → last.location < l → Below l rs
Below-last l last [] a e h = tt
Below-last l last (r ∷ []) a e h = let same : r ≡ last = cc in (subst (λ x. x.location < l) (sym same) h, tt)
Below-last l last (r ∷ s ∷ rs) a e h =
    let rest = Below-last l last (s ∷ rs) a.1 e h in
    let step = a.0.0 in
    let next = rest.0 in
    (omega arith, rest)

last_below : (last r : RaceAt) (rs : List RaceAt) → last_of rs ≡ Some last → Ascends (rs ++ r ∷ []) → last.location < r.location
last_below last r [] e a = cc
last_below last r (s ∷ []) e a = let same : s ≡ last = cc in subst (λ x. x.location < r.location) same a.0.0
last_below last r (s ∷ t ∷ rs) e a = last_below last r (t ∷ rs) e a.1

last_none : (rs : List RaceAt) → last_of rs ≡ None → rs ≡ []
last_none [] e = refl
last_none (r ∷ []) e = cc
last_none (r ∷ s ∷ rs) e = let empty : s ∷ rs ≡ [] = last_none (s ∷ rs) e in cc

-- ---- one race more

pub IsReportList-push : (rs : List RaceAt) (r : RaceAt) → IsReportList rs → IsEntry r → Below r.location rs → IsReportList (rs ++ r ∷ [])
IsReportList-push rs r h p b = record {
  ascending = increasing_from_ascends (rs ++ r ∷ []) (Ascends-push rs r (Ascends-from_increasing rs h.ascending) b);
  entries = all-push IsEntry rs r h.entries p;
}

-- whether the last race, if there is one, is below l
abbrev below_last : ℕ → Option RaceAt → Bool
below_last l last = option_map_or (λ k. ltb k.location l) last true

Below-if : (l : ℕ) (rs : List RaceAt) (last : Option RaceAt) → last_of rs ≡ last → Ascends rs → below_last l last ≡ true → Below l rs
Below-if l rs None e a b = subst (Below l) (sym (last_none rs e)) tt
Below-if l rs (Some last) e a b = Below-last l last rs a e (ltb-true last.location l b)

pub IsReportList-follows : (rs : List RaceAt) (r : RaceAt) → IsReportList rs → IsEntry r → may_follow rs r ≡ true → IsReportList (rs ++ r ∷ [])
IsReportList-follows rs r h p b =
    IsReportList-push rs r h p (Below-if r.location rs (slice_get rs (length rs - 1)) (sym (last_of-get rs)) (Ascends-from_increasing rs h.ascending) b)

not_below : (r : RaceAt) (rs : List RaceAt) (last : Option RaceAt) → last_of rs ≡ last → Ascends (rs ++ r ∷ []) → below_last r.location last ≡ false → ⊥
not_below r rs None e a b = cc
not_below r rs (Some last) e a b = let lt = last_below last r rs e a in let le = ltb-false last.location r.location b in omega arith

entry_of_push : (rs : List RaceAt) (r : RaceAt) → AllByRecursion IsEntry (rs ++ r ∷ []) → IsEntry r
entry_of_push [] r h = h.0
entry_of_push (s ∷ rs) r h = entry_of_push rs r h.1

-- a line whose race isn't above the last one is no line that may follow
pub breaks_order : (rs : List RaceAt) (bs : List ℕ) (found : RaceAt) (rest : List ℕ) → bs ≡ race_line found ++ rest → IsEntry found → may_follow rs found ≡ false
    → (r : RaceAt) (more : List ℕ) → IsReportList (rs ++ r ∷ []) → bs ≡ race_line r ++ more → ⊥
breaks_order rs bs found rest is p b r more h line =
    let same : found ≡ r = (same_line found r rest more p (entry_of_push rs r h.entries) (sym is ∙ line)).0 in
    not_below r rs (slice_get rs (length rs - 1)) (sym (last_of-get rs)) (Ascends-from_increasing (rs ++ r ∷ []) h.ascending) (subst (λ (x : RaceAt). may_follow rs x ≡ false) same b)

-- ---- lines

length-race_lines : (rs : List RaceAt) → length rs ≤ length (race_lines rs)
length-race_lines [] = omega arith
length-race_lines (r ∷ rs) = omega (arith, length-race_lines rs, length-append (race_line r) (race_lines rs))

pub room_for_line : (bs : List ℕ) (n : ℕ) (rs : List RaceAt) (rest : List ℕ) → bs ≡ head n ++ (race_lines rs ++ rest) → length rs + 2 ≤ length bs
room_for_line bs n rs rest e = omega (arith, ap length e, length-append (head n) (race_lines rs ++ rest), length-append (race_lines rs) rest, length-race_lines rs)

-- ---- one text belongs to one list, and its lines have no fault

nothing_more : (rs more : List RaceAt) → length (rs ++ more) ≡ length rs → more ≡ []
nothing_more rs [] e = refl
nothing_more rs (r ∷ more) e = absurd (omega (arith, length-append rs (r ∷ more)))

pub one_list : OneList
one_list rs ss h k few some e =
    let heads = same_head (length rs) (length ss) (race_lines rs) (race_lines ss) few some e in
    let lengths : length rs ≡ length ss = heads.0 in
    let on = goes_on rs ss [] [] h.entries k.entries (omega arith) (append-nil (race_lines rs) ∙ heads.1 ∙ sym (append-nil (race_lines ss))) in
    let none : on.more ≡ [] = nothing_more rs on.more (ap length (sym on.list) ∙ sym lengths) in
    sym (append-nil rs) ∙ ap (λ l. rs ++ l) (sym none) ∙ sym on.list

Ascends-front : (rs more : List RaceAt) → Ascends (rs ++ more) → Ascends rs
Ascends-front [] more a = tt
Ascends-front (r ∷ rs) more a = (all-front (λ s. r.location < s.location) rs more a.0, Ascends-front rs more a.1)

pub IsReportList-front : (rs more : List RaceAt) → IsReportList (rs ++ more) → IsReportList rs
IsReportList-front rs more h = record {
  ascending = increasing_from_ascends rs (Ascends-front rs more (Ascends-from_increasing (rs ++ more) h.ascending));
  entries = all-front IsEntry rs more h.entries;
}

-- the next line is there
next_line : (rs ss more : List RaceAt) (rest : List ℕ) → IsReportList ss → ss ≡ rs ++ more → length rs < length ss → rest ≡ race_lines more ++ []
    → ((r : RaceAt) (after : List ℕ) → IsReportList (rs ++ r ∷ []) → rest ≡ race_line r ++ after → ⊥) → ⊥
next_line rs ss [] rest h list lt text none = absurd (omega (arith, ap length (list ∙ append-nil rs)))
next_line rs ss (r ∷ more) rest h list lt text none =
    let whole : rs ++ (r ∷ more) ≡ (rs ++ r ∷ []) ++ more = sym (append_assoc rs (r ∷ []) more) in
    none r (race_lines more ++ []) (IsReportList-front (rs ++ r ∷ []) more (subst IsReportList (list ∙ whole) h)) (text ∙ append_assoc (race_line r) (race_lines more) [])

pub no_fault : (bs : List ℕ) (ss : List RaceAt) (line : ℕ) → length ss < 2 ^ 64 → IsReportList ss → bs ≡ rtext ss → IsFirstBadLine bs line → ⊥
no_fault bs ss _ few h e (no_head none) = none (length ss) (race_lines ss) few e
no_fault bs ss _ few h e (no_race n rs rest small lt k is none) =
    let heads = same_head n (length ss) (race_lines rs ++ rest) (race_lines ss) small few (sym is ∙ e) in
    let lengths : n ≡ length ss = heads.0 in
    let on = goes_on rs ss rest [] k.entries h.entries (omega arith) (heads.1 ∙ sym (append-nil (race_lines ss))) in
    next_line rs ss on.more rest h on.list (omega arith) on.text none
no_fault bs ss _ few h e (no_end rs rest some k is left) =
    let heads = same_head (length rs) (length ss) (race_lines rs ++ rest) (race_lines ss) some few (sym (append_assoc (head (length rs)) (race_lines rs) rest) ∙ sym is ∙ e) in
    let lengths : length rs ≡ length ss = heads.0 in
    let on = goes_on rs ss rest [] k.entries h.entries (omega arith) (heads.1 ∙ sym (append-nil (race_lines ss))) in
    let none : on.more ≡ [] = nothing_more rs on.more (ap length (sym on.list) ∙ sym lengths) in
    left (on.text ∙ ap (λ l. race_lines l ++ []) none)

-- ---- what the reader answers

pub few_races : (bs : List ℕ) (rs : List RaceAt) → length bs < 2 ^ 64 → bs ≡ rtext rs → length rs < 2 ^ 64
few_races bs rs small e = omega (arith, ap length e, length-append (head (length rs)) (race_lines rs), length-race_lines rs)

-- a faulty line, and so no report
pub no_report : (bs : List ℕ) (line : ℕ) (rs : List RaceAt) → length bs < 2 ^ 64 → IsFirstBadLine bs line → IsReportList rs → bs ≡ rtext rs → ⊥
no_report bs line rs small bad h e = no_fault bs rs line (few_races bs rs small e) h e bad

pub bad_race : (bs : List ℕ) (n : ℕ) (rs slice : List RaceAt) (rest : List ℕ) (line : ℕ) → n < 2 ^ 64 → length rs < n → IsReportList rs → bs ≡ head n ++ (race_lines rs ++ rest) → slice ≡ rs
    → ((r : RaceAt) (more : List ℕ) → IsReportList (slice ++ r ∷ []) → rest ≡ race_line r ++ more → ⊥) → line ≡ length slice + 2 → IsFirstBadLine bs line
bad_race bs n rs slice rest line small lt h e same none is =
    let at : line ≡ length rs + 2 = is ∙ ap (λ l. length l + 2) same in
    subst (IsFirstBadLine bs) (sym at) (no_race n rs rest small lt h e (subst (λ (l : List RaceAt). (r : RaceAt) (more : List ℕ) → IsReportList (l ++ r ∷ []) → rest ≡ race_line r ++ more → ⊥) same none))

pub whole_text : (bs : List ℕ) (n : ℕ) (rs : List RaceAt) (rest : List ℕ) → bs ≡ head n ++ (race_lines rs ++ rest) → length rs ≡ n → bs ≡ rtext rs ++ rest
whole_text bs n rs rest e h = e ∙ ap (λ k. head k ++ (race_lines rs ++ rest)) (sym h) ∙ sym (append_assoc (head (length rs)) (race_lines rs) rest)

pub bad_end : (bs : List ℕ) (n : ℕ) (rs slice : List RaceAt) (rest : List ℕ) (line : ℕ) → n < 2 ^ 64 → length rs ≡ n → IsReportList rs → bs ≡ head n ++ (race_lines rs ++ rest) → slice ≡ rs
    → (rest ≡ [] → ⊥) → line ≡ length slice + 2 → IsFirstBadLine bs line
bad_end bs n rs slice rest line small all h e same left is =
    let at : line ≡ length rs + 2 = is ∙ ap (λ l. length l + 2) same in
    subst (IsFirstBadLine bs) (sym at) (no_end rs rest (omega arith) h (whole_text bs n rs rest e all) left)

pub is_empty_list : (rest : List ℕ) → eqb (length rest) 0 ≡ true → rest ≡ []
is_empty_list [] e = refl
is_empty_list (x ∷ rest) e = let none = eqb-true (length (x ∷ rest)) 0 e in absurd (omega arith)

pub not_empty_list : (rest : List ℕ) → eqb (length rest) 0 ≡ false → rest ≡ [] → ⊥
not_empty_list [] e h = cc
not_empty_list (x ∷ rest) e h = cc
