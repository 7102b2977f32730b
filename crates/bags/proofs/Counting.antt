-- How many stretches the bags make up: as many as are held.
use Rattle.bags.proofs.Common.{◌≡◌, ℕ, zero, suc, ◌<◌, ◌≤◌, Bool, true, false, not, ◌||◌, ◌&&◌, eqb, ltb, if◌then◌else◌, List, [], ◌∷◌, ◌++◌, reverse, length, take, drop, ◌+◌, inl, inr, refl, sym, ap, ◌∙◌, ◌⊎◌, arith, cases_eq, cases_lt, lt-ltb, le-ltb, eq-eqb, ne_eqb, list_any, length-take-le, length-reverse, most_records, Nested, Active, Stretch, start, active_of, actives_of, procedures_of, AreAlternating, AreCut, AreHeld, in_one_bag, stretches_of, stretches}
use Rattle.std.specs.FinSet as bag
use Rattle.bags.proofs.Segments.{Ascends, any_of, turns_ascend, start_most, contains-bag_of, none_before, none_after, in_the_first, past_the_first}
use Rattle.bags.proofs.Cuts.{Parts, parts, actives-cut, all_ascend, first_root, stretch_some}

-- whether a stretch begins with a number
abbrev begins_at : List Stretch → ℕ → Bool
begins_at ss q = list_any (λ s. eqb s.first q) ss

-- whether two numbers stand in one of the two bags that a list of stretches makes up
abbrev both_in : ℕ → List Stretch → ℕ → ℕ → Bool
both_in next ss p q = (any_of false next ss p && any_of false next ss q) || (any_of true next ss p && any_of true next ss q)

no_begin_before : (next : ℕ) (ss : List Stretch) (q : ℕ) → Ascends next ss → q < start next ss → begins_at ss q ≡ false
no_begin_before next [] q h l = refl
no_begin_before next (s ∷ ss) q h l = (λ i. ne_eqb s.first q (λ e. absurd (omega arith)) i || no_begin_before next ss q h.1 (omega (arith, h.0)) i)

no_begin_after : (next : ℕ) (ss : List Stretch) (q : ℕ) → Ascends next ss → next ≤ q → begins_at ss q ≡ false
no_begin_after next [] q h l = refl
no_begin_after next (s ∷ ss) q h l = (λ i. ne_eqb s.first q (λ e. absurd (omega (arith, h.0, start_most next ss h.1))) i || no_begin_after next ss q h.1 l i)

begins-append : (low ss : List Stretch) (q : ℕ) → begins_at (low ++ ss) q ≡ (begins_at low q || begins_at ss q)
begins-append [] ss q = refl
begins-append (s ∷ low) ss q = ap (λ b. eqb s.first q || b) (begins-append low ss q) ∙ assoc (eqb s.first q) (begins_at low q) (begins_at ss q)
  where
    assoc : (a b c : Bool) → (a || (b || c)) ≡ ((a || b) || c)
    assoc a b c = grind arith

-- of two numbers side by side, both in the stretches of one procedure, the second begins a stretch or stands in one bag with the first
in_turns : (b : Bool) (next : ℕ) (ss : List Stretch) (p : ℕ) → AreAlternating b next ss → start next ss ≤ p → suc p < next → both_in next ss p (suc p) ≡ not (begins_at ss (suc p))
in_turns b next [] p h l u = absurd (omega arith)
in_turns b next (s ∷ []) p h l u =
    let up : Ascends next (s ∷ []) = turns_ascend b next (s ∷ []) h in
    (λ i. (in_the_first false next s [] p up l (omega arith) i && in_the_first false next s [] (suc p) up (omega arith) u i)
    || (in_the_first true next s [] p up l (omega arith) i && in_the_first true next s [] (suc p) up (omega arith) u i))
    ∙ one_kind s.is_parallel
    ∙ ap (λ c. not (c || false)) (sym (ne_eqb s.first (suc p) (λ e. absurd (omega arith))))
  where
    one_kind : (m : Bool) → ((not m && not m) || (m && m)) ≡ true
    one_kind true = refl
    one_kind false = refl
in_turns b next (s ∷ t ∷ ss) p h l u = by_place (cases_lt p t.first) (λ past. in_turns (not b) next (t ∷ ss) p h.2 past u)
  where
    up : Ascends next (s ∷ t ∷ ss)
    up = turns_ascend b next (s ∷ t ∷ ss) h

    one_kind : (m : Bool) → ((not m && not m) || (m && m)) ≡ true
    one_kind true = refl
    one_kind false = refl

    two_kinds : (m n : Bool) → n ≡ not m → ((not m && not n) || (m && n)) ≡ false
    two_kinds true n e = ap (λ c. (false && not c) || (true && c)) e
    two_kinds false n e = ap (λ c. (true && not c) || (false && c)) e

    turned : t.is_parallel ≡ not s.is_parallel
    turned = h.2.0 ∙ ap not (sym h.0)

    not_first : suc p ≡ s.first → ⊥
    not_first e = absurd (omega arith)

    before_next : p < t.first → both_in next (s ∷ t ∷ ss) p (suc p) ≡ not (begins_at (s ∷ t ∷ ss) (suc p))
    before_next below = elim (cases_eq (suc p) t.first) [
      | inl e ↦ (λ i. (in_the_first false next s (t ∷ ss) p up l below i && (past_the_first false next s (t ∷ ss) (suc p) (omega arith) ∙ in_the_first false next t ss (suc p) up.1 (omega arith) (omega (arith, up.1.0))) i)
          || (in_the_first true next s (t ∷ ss) p up l below i && (past_the_first true next s (t ∷ ss) (suc p) (omega arith) ∙ in_the_first true next t ss (suc p) up.1 (omega arith) (omega (arith, up.1.0))) i))
          ∙ two_kinds s.is_parallel t.is_parallel turned
          ∙ ap (λ c. not c) (sym (found (eqb s.first (suc p)) (eqb t.first (suc p)) (begins_at ss (suc p)) (eq-eqb t.first (suc p) (sym e))))
      | inr n ↦ (λ i. (in_the_first false next s (t ∷ ss) p up l below i && in_the_first false next s (t ∷ ss) (suc p) up (omega arith) (omega arith) i)
          || (in_the_first true next s (t ∷ ss) p up l below i && in_the_first true next s (t ∷ ss) (suc p) up (omega arith) (omega arith) i))
          ∙ one_kind s.is_parallel
          ∙ sym (λ i. not (ne_eqb s.first (suc p) (λ e. absurd (omega arith)) i || no_begin_before next (t ∷ ss) (suc p) up.1 (omega arith) i))
    ]
      where
        found : (a b c : Bool) → b ≡ true → (a || (b || c)) ≡ true
        found a b c e = grind arith

    by_place : (p < t.first) ⊎ (t.first ≤ p) → (t.first ≤ p → both_in next (t ∷ ss) p (suc p) ≡ not (begins_at (t ∷ ss) (suc p))) → both_in next (s ∷ t ∷ ss) p (suc p) ≡ not (begins_at (s ∷ t ∷ ss) (suc p))
    by_place (inr past) later =
        (λ i. (past_the_first false next s (t ∷ ss) p past i && past_the_first false next s (t ∷ ss) (suc p) (omega arith) i)
        || (past_the_first true next s (t ∷ ss) p past i && past_the_first true next s (t ∷ ss) (suc p) (omega arith) i))
        ∙ later past
        ∙ ap (λ c. not (c || begins_at (t ∷ ss) (suc p))) (sym (ne_eqb s.first (suc p) (λ e. absurd (omega arith))))
    by_place (inl below) later = before_next below

-- one bag of an active procedure, by its stretches
in_bags : (next : ℕ) (is_called : Bool) (ss : List Stretch) (p q : ℕ) → Ascends next ss
    → ((bag.contains (active_of next is_called ss).serial p && bag.contains (active_of next is_called ss).serial q)
    || (bag.contains (active_of next is_called ss).parallel p && bag.contains (active_of next is_called ss).parallel q)) ≡ both_in next ss p q
in_bags next is_called ss p q h i =
    (contains-bag_of false next ss p h i && contains-bag_of false next ss q h i) || (contains-bag_of true next ss p h i && contains-bag_of true next ss q h i)

nothing_second : (a b c d : Bool) → b ≡ false → d ≡ false → ((a && b) || (c && d)) ≡ false
nothing_second a b c d e f = grind arith

nothing_first : (a b c d : Bool) → a ≡ false → c ≡ false → ((a && b) || (c && d)) ≡ false
nothing_first a b c d e f = grind arith

in_one_bag-cut : (next : ℕ) (ss : List Stretch) (f : Nested) (fs : List Nested) (p q : ℕ) (x : Parts next ss f fs)
    → in_one_bag (actives_of next ss (f ∷ fs)) p q ≡ (both_in next (x.first ∷ x.rest) p q || in_one_bag (actives_of x.first.first x.low fs) p q)
in_one_bag-cut next ss f fs p q x =
    ap (λ zs. in_one_bag (actives_of next zs (f ∷ fs)) p q) x.whole
    ∙ ap (λ bs. in_one_bag bs p q) (actives-cut next x.low (x.first ∷ x.rest) f fs x.from)
    ∙ ap (λ b. b || in_one_bag (actives_of x.first.first x.low fs) p q) (in_bags next f.is_called (x.first ∷ x.rest) p q (turns_ascend false next (x.first ∷ x.rest) x.turns))

none_second : (next : ℕ) (ss : List Stretch) (p q : ℕ) → Ascends next ss → next ≤ q → both_in next ss p q ≡ false
none_second next ss p q up l =
    nothing_second (any_of false next ss p) (any_of false next ss q) (any_of true next ss p) (any_of true next ss q) (none_after false next ss q up l) (none_after true next ss q up l)

none_first : (next : ℕ) (ss : List Stretch) (p q : ℕ) → Ascends next ss → p < start next ss → both_in next ss p q ≡ false
none_first next ss p q up l =
    nothing_first (any_of false next ss p) (any_of false next ss q) (any_of true next ss p) (any_of true next ss q) (none_before false next ss p up l) (none_before true next ss p up l)

-- a number that isn't given out yet stands in no bag
none_in_one : (next : ℕ) (ss : List Stretch) (fs : List Nested) (p q : ℕ) → AreCut next ss fs → next ≤ q → in_one_bag (actives_of next ss fs) p q ≡ false
none_in_one next ss [] p q h l = refl
none_in_one next ss (f ∷ fs) p q h l =
    let x : Parts next ss f fs = parts next ss f fs h in
    let up : Ascends next (x.first ∷ x.rest) = turns_ascend false next (x.first ∷ x.rest) x.turns in
    let below : x.first.first < next = omega (arith, up.0, start_most next x.rest up.1) in
    in_one_bag-cut next ss f fs p q x
    ∙ (λ i. none_second next (x.first ∷ x.rest) p q up l i || none_in_one x.first.first x.low fs p q x.cut (omega arith) i)

-- two numbers side by side stand in one bag, or the second begins a stretch
side_by_side : (next : ℕ) (ss : List Stretch) (fs : List Nested) (p : ℕ) → AreCut next ss fs → suc p < next → in_one_bag (actives_of next ss fs) p (suc p) ≡ not (begins_at ss (suc p))
side_by_side next ss [] p h l = absurd (omega (arith, h.0))
side_by_side next ss (f ∷ fs) p h l = in_one_bag-cut next ss f fs p (suc p) x ∙ by_place (cases_lt p x.first.first) (λ u. side_by_side x.first.first x.low fs p x.cut u) ∙ ap (λ zs. not (begins_at zs (suc p))) (sym x.whole)
  where
    x : Parts next ss f fs
    x = parts next ss f fs h

    up : Ascends next (x.first ∷ x.rest)
    up = turns_ascend false next (x.first ∷ x.rest) x.turns

    lows : Ascends x.first.first x.low
    lows = all_ascend x.first.first x.low fs x.cut

    or_none : (b : Bool) → (b || false) ≡ b
    or_none true = refl
    or_none false = refl

    by_place : (p < x.first.first) ⊎ (x.first.first ≤ p)
        → (suc p < x.first.first → in_one_bag (actives_of x.first.first x.low fs) p (suc p) ≡ not (begins_at x.low (suc p)))
        → (both_in next (x.first ∷ x.rest) p (suc p) || in_one_bag (actives_of x.first.first x.low fs) p (suc p)) ≡ not (begins_at (x.low ++ x.first ∷ x.rest) (suc p))
    by_place (inr from) deeper =
        (λ i. in_turns false next (x.first ∷ x.rest) p x.turns from l i || none_in_one x.first.first x.low fs p (suc p) x.cut (omega arith) i)
        ∙ or_none (not (begins_at (x.first ∷ x.rest) (suc p)))
        ∙ sym (ap not (begins-append x.low (x.first ∷ x.rest) (suc p)) ∙ ap (λ b. not (b || begins_at (x.first ∷ x.rest) (suc p))) (no_begin_after x.first.first x.low (suc p) lows (omega arith)))
    by_place (inl below) deeper =
        ap (λ b. b || in_one_bag (actives_of x.first.first x.low fs) p (suc p))
        (none_first next (x.first ∷ x.rest) p (suc p) up below)
        ∙ elim (cases_eq (suc p) x.first.first) [
          | inl e ↦ none_in_one x.first.first x.low fs p (suc p) x.cut (omega arith)
              ∙ sym (ap not (begins-append x.low (x.first ∷ x.rest) (suc p) ∙ found (begins_at x.low (suc p)) (eqb x.first.first (suc p)) (begins_at x.rest (suc p)) (eq-eqb x.first.first (suc p) (sym e))))
          | inr n ↦ deeper (omega arith)
              ∙ sym (ap not (begins-append x.low (x.first ∷ x.rest) (suc p) ∙ ap (λ b. begins_at x.low (suc p) || b) (no_begin_before next (x.first ∷ x.rest) (suc p) up (omega arith)) ∙ or_none (begins_at x.low (suc p))))
        ]
      where
        found : (a b c : Bool) → b ≡ true → (a || (b || c)) ≡ true
        found a b c e = grind arith

-- how many stretches begin below a number
abbrev begun : ℕ → List Stretch → ℕ
begun n [] = 0
begun n (s ∷ ss) = if ltb s.first n then suc (begun n ss) else begun n ss

none_begun : (next n : ℕ) (ss : List Stretch) → Ascends next ss → n ≤ start next ss → begun n ss ≡ 0
none_begun next n [] h l = refl
none_begun next n (s ∷ ss) h l = ap (λ b. if b then suc (begun n ss) else begun n ss) (le-ltb s.first n l) ∙ none_begun next n ss h.1 (omega (arith, h.0))

all_begun : (next : ℕ) (ss : List Stretch) (n : ℕ) → Ascends next ss → next ≤ n → begun n ss ≡ length ss
all_begun next [] n h l = refl
all_begun next (s ∷ ss) n h l =
    ap (λ b. if b then suc (begun n ss) else begun n ss) (lt-ltb s.first n (omega (arith, h.0, start_most next ss h.1))) ∙ ap suc (all_begun next ss n h.1 l)

one_begun : (next : ℕ) (ss : List Stretch) (n : ℕ) → Ascends next ss → begun (suc n) ss ≡ (if begins_at ss n then suc (begun n ss) else begun n ss)
one_begun next [] n h = refl
one_begun next (s ∷ ss) n h = elim (cases_lt n s.first) [
  | inl above ↦ ap (λ b. if b then suc (begun (suc n) ss) else begun (suc n) ss) (le-ltb s.first (suc n) (omega arith))
      ∙ none_begun next (suc n) ss h.1 (omega (arith, h.0))
      ∙ sym ((λ i. if no_begin_before next (s ∷ ss) n h above i then suc (begun n (s ∷ ss)) else begun n (s ∷ ss)) ∙ none_begun next n (s ∷ ss) h (omega arith))
  | inr from ↦ ap (λ b. if b then suc (begun (suc n) ss) else begun (suc n) ss) (lt-ltb s.first (suc n) (omega arith)) ∙ elim (cases_eq s.first n) [
    | inl e ↦ ap suc (none_begun next (suc n) ss h.1 (omega (arith, h.0)) ∙ sym (none_begun next n ss h.1 (omega (arith, h.0))))
        ∙ sym ((λ i. if eq-eqb s.first n e i || begins_at ss n then suc (begun n (s ∷ ss)) else begun n (s ∷ ss))
        ∙ ap suc (ap (λ b. if b then suc (begun n ss) else begun n ss) (le-ltb s.first n (omega arith))))
    | inr d ↦ ap suc (one_begun next ss n h.1)
        ∙ inside (begins_at ss n) (begun n ss)
        ∙ sym ((λ i. if ne_eqb s.first n d i || begins_at ss n then suc (begun n (s ∷ ss)) else begun n (s ∷ ss))
        ∙ (λ i. if begins_at ss n then suc (if lt-ltb s.first n (omega arith) i then suc (begun n ss) else begun n ss) else (if lt-ltb s.first n (omega arith) i then suc (begun n ss) else begun n ss)))
  ]
]
  where
    inside : (b : Bool) (m : ℕ) → suc (if b then suc m else m) ≡ (if b then suc (suc m) else suc m)
    inside true m = refl
    inside false m = refl

counted : (count : ℕ) (ss : List Stretch) (fs : List Nested) (n : ℕ) → AreCut count ss fs → start count ss ≡ 0 → 0 < length ss → n ≤ count → stretches_of (actives_of count ss fs) n ≡ begun n ss
counted count ss fs zero h first some l = sym (none_begun count 0 ss (all_ascend count ss fs h) (omega arith))
counted count [] fs (suc zero) h first some l = absurd (omega arith)
counted count (s ∷ ss) fs (suc zero) h first some l =
    let up : Ascends count (s ∷ ss) = all_ascend count (s ∷ ss) fs h in
    sym (ap (λ b. if b then suc (begun 1 ss) else begun 1 ss) (lt-ltb s.first 1 (omega arith)) ∙ ap suc (none_begun count 1 ss up.1 (omega (arith, up.0))))
counted count ss fs (suc (suc p)) h first some l =
    (λ i. if side_by_side count ss fs p h (omega arith) i then counted count ss fs (suc p) h first some (omega arith) i else suc (counted count ss fs (suc p) h first some (omega arith) i))
    ∙ turned (begins_at ss (suc p)) (begun (suc p) ss)
    ∙ sym (one_begun count ss (suc p) (all_ascend count ss fs h))
  where
    turned : (b : Bool) (m : ℕ) → (if not b then m else suc m) ≡ (if b then suc m else m)
    turned true m = refl
    turned false m = refl

pub length-stretches : (count : ℕ) (ss : List Stretch) (nested : List Nested) → AreHeld count ss nested → length ss ≡ stretches (procedures_of count ss nested)
length-stretches count ss nested held =
    sym (counted count ss (reverse nested) count held.cut (first_root count ss (reverse nested) held.cut) (stretch_some count ss nested held) (omega arith)
    ∙ all_begun count ss count (all_ascend count ss (reverse nested) held.cut) (omega arith))

-- there are no more stretches than procedures, and no more active procedures than stretches
stretches_most : (fs : List Active) (n : ℕ) → stretches_of fs n ≤ n
stretches_most fs zero = omega arith
stretches_most fs (suc zero) = omega arith
stretches_most fs (suc (suc p)) = by_bag (in_one_bag fs p (suc p)) (stretches_of fs (suc p)) (stretches_most fs (suc p))
  where
    by_bag : (b : Bool) (n : ℕ) → n ≤ suc p → (if b then n else suc n) ≤ suc (suc p)
    by_bag true n l = omega arith
    by_bag false n l = omega arith

fewer_nested : (next : ℕ) (ss : List Stretch) (fs : List Nested) → AreCut next ss fs → length fs ≤ length ss
fewer_nested next ss [] h = omega arith
fewer_nested next ss (f ∷ fs) h = omega (arith, h.0, fewer_nested (start next (drop f.begins ss)) (take f.begins ss) fs h.2, length-take-le f.begins ss (omega (arith, h.0)))

-- so all that is held fits a word
pub record AreFew (ss : List Stretch) (nested : List Nested) : Type 0 where
  pub of_all : length ss ≤ most_records + 1
  pub of_active : length nested ≤ length ss

pub are_few : (count : ℕ) (ss : List Stretch) (nested : List Nested) → AreHeld count ss nested → AreFew ss nested
are_few count ss nested held = record {
  of_all = omega (arith, length-stretches count ss nested held, stretches_most (procedures_of count ss nested).active count, held.most);
  of_active = omega (arith, fewer_nested count ss (reverse nested) held.cut, length-reverse nested);
}
