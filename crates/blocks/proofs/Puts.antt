-- What groups keep of each unit, after one of them got more units, lost some, or was added.
use Rattle.blocks.proofs.Common.{◌≡◌, ℕ, zero, suc, ◌<◌, ◌≤◌, Bool, true, false, not, ◌&&◌, ◌||◌, List, [], ◌∷◌, ◌++◌, take, drop, set, length, get_or, Option, Some, None, cond, refl, sym, ap, ◌∙◌, arith, ◌^◌, take-append-drop, bit_not, w64, bit_and, bit_or, option_or, has, names_at, no_group, Names, Group}
use Rattle.blocks.proofs.Bits.{has_or, has_and, has_not}

first_of : (b : Bool) (n : Names) (o p : Option Names) → option_or (cond b (Some n) o) p ≡ cond b (Some n) (option_or o p)
first_of true n o p = refl
first_of false n o p = refl

none_behind : (o p : Option Names) → option_or o p ≡ None → o ≡ None
none_behind None p e = refl
none_behind (Some x) p e = absurd (cc)

grown_cases : (b h : Bool) (n : Names) (o : Option Names) → (b ≡ true → option_or o (cond h (Some n) None) ≡ None) → option_or o (cond (h || b) (Some n) None) ≡ cond b (Some n) (option_or o (cond h (Some n) None))
grown_cases true true n None f = refl
grown_cases true false n None f = refl
grown_cases true h n (Some x) f = let e = f refl in absurd (cc)
grown_cases false true n o f = refl
grown_cases false false n o f = refl

-- a group that got these units, which no group had
abbrev pub with_units : ℕ → Group → Group
with_units units g = record { units = bit_or g.units units; names = g.names }

grown : (gs : List Group) (at units i : ℕ) → at < length gs → (has units i ≡ true → names_at gs i ≡ None) → names_at (set gs at (with_units units (get_or gs at no_group))) i ≡ cond (has units i) (Some (get_or gs at no_group).names) (names_at gs i)
grown [] at units i h f = absurd (omega (arith, h))
grown (g ∷ gs) zero units i h f = ap (λ b. option_or (names_at gs i) (cond b (Some g.names) None)) (has_or g.units units i) ∙ grown_cases (has units i) (has g.units i) g.names (names_at gs i) f
grown (g ∷ gs) (suc at) units i h f =
    ap (λ o. option_or o (cond (has g.units i) (Some g.names) None)) (grown gs at units i (omega (arith, h)) (λ e. none_behind (names_at gs i) _ (f e)))
    ∙ first_of (has units i) (get_or gs at no_group).names (names_at gs i) _

-- behind the first ones a group got these units, which no group there had
pub grown_behind : (gs : List Group) (count at units i : ℕ) → at < length gs → count ≤ at → (has units i ≡ true → names_at (drop count gs) i ≡ None) → names_at (drop count (set gs at (with_units units (get_or gs at no_group)))) i ≡ cond (has units i) (Some (get_or gs at no_group).names) (names_at (drop count gs) i)
grown_behind gs zero at units i h k f = grown gs at units i h f
grown_behind [] (suc count) at units i h k f = absurd (omega (arith, h))
grown_behind (g ∷ gs) (suc count) zero units i h k f = absurd (omega (arith, k))
grown_behind (g ∷ gs) (suc count) (suc at) units i h k f = grown_behind gs count at units i (omega (arith, h)) (omega (arith, k)) f

pub or_none : (o : Option Names) → o ≡ option_or o None
or_none None = refl
or_none (Some n) = refl

pub names_append : (gs hs : List Group) (i : ℕ) → names_at (gs ++ hs) i ≡ option_or (names_at hs i) (names_at gs i)
names_append [] hs i = or_none (names_at hs i)
names_append (g ∷ gs) hs i = ap (λ o. option_or o (cond (has g.units i) (Some g.names) None)) (names_append gs hs i) ∙ or_or (names_at hs i) (names_at gs i) _
  where
    or_or : (o p q : Option Names) → option_or (option_or o p) q ≡ option_or o (option_or p q)
    or_or None p q = refl
    or_or (Some n) p q = refl

-- behind the first ones a group was added
pub added_behind : (gs : List Group) (count : ℕ) (g : Group) (i : ℕ) → count ≤ length gs → names_at (drop count (gs ++ g ∷ [])) i ≡ cond (has g.units i) (Some g.names) (names_at (drop count gs) i)
added_behind gs zero g i h = names_append gs (g ∷ []) i ∙ first_of (has g.units i) g.names None (names_at gs i)
added_behind [] (suc count) g i h = absurd (omega (arith, h))
added_behind (h ∷ gs) (suc count) g i k = added_behind gs count g i (omega (arith, k))

-- a group that lost these units
abbrev pub without_units : ℕ → Group → Group
without_units units g = record { units = bit_and g.units (bit_not w64 units); names = g.names }

tail_of : {A : Type 0} {x y : A} {xs ys : List A} → x ∷ xs ≡ y ∷ ys → xs ≡ ys
tail_of e = ap (drop 1) e

-- what was put behind some groups is put behind the first of them
pub put_before : (gs hs : List Group) (k from : ℕ) (b : Bool) (n : Names) (i : ℕ) → k ≤ from → take from hs ≡ take from gs → names_at (drop from hs) i ≡ cond b (Some n) (names_at (drop from gs) i) → names_at (drop k hs) i ≡ cond b (Some n) (names_at (drop k gs) i)
put_before gs hs zero from b n i h e f =
    ap (λ l. names_at l i) (sym (take-append-drop from hs)) ∙ names_append (take from hs) (drop from hs) i
    ∙ ap (λ o. option_or o (names_at (take from hs) i)) f ∙ ap (λ l. option_or (cond b (Some n) (names_at (drop from gs) i)) (names_at l i)) e
    ∙ first_of b n (names_at (drop from gs) i) (names_at (take from gs) i)
    ∙ ap (cond b (Some n)) (sym (ap (λ l. names_at l i) (sym (take-append-drop from gs)) ∙ names_append (take from gs) (drop from gs) i))
put_before gs hs (suc k) zero b n i h e f = absurd (omega (arith, h))
put_before [] [] (suc k) (suc from) b n i h e f = f
put_before [] (x ∷ hs) (suc k) (suc from) b n i h e f = absurd (cc)
put_before (y ∷ gs) [] (suc k) (suc from) b n i h e f = absurd (cc)
put_before (y ∷ gs) (x ∷ hs) (suc k) (suc from) b n i h e f = put_before gs hs k from b n i (omega (arith, h)) (tail_of e) f

-- a group that lost units which are put behind it
part_cases : (b h : Bool) (m n : Names) (o : Option Names) → option_or (cond b (Some n) o) (cond (h && not b) (Some m) None) ≡ cond b (Some n) (option_or o (cond h (Some m) None))
part_cases true h m n o = refl
part_cases false true m n o = refl
part_cases false false m n o = refl

pub parted : (g : Group) (gs hs : List Group) (inside : ℕ) (n : Names) (i : ℕ) → inside < 2 ^ 64 → i < 64 → names_at hs i ≡ cond (has inside i) (Some n) (names_at gs i) → names_at (without_units inside g ∷ hs) i ≡ cond (has inside i) (Some n) (names_at (g ∷ gs) i)
parted g gs hs inside n i f k e =
    ap (λ o. option_or o (cond (has (bit_and g.units (bit_not w64 inside)) i) (Some g.names) None)) e
    ∙ ap (λ b. option_or (cond (has inside i) (Some n) (names_at gs i)) (cond b (Some g.names) None)) (has_and g.units (bit_not w64 inside) i ∙ ap (λ b. has g.units i && b) (has_not inside i f k))
    ∙ part_cases (has inside i) (has g.units i) g.names n (names_at gs i)

-- a group whose units all are put behind it
gone_cases : (b : Bool) (m n : Names) (o : Option Names) → cond b (Some n) o ≡ cond b (Some n) (option_or o (cond b (Some m) None))
gone_cases true m n o = refl
gone_cases false m n None = refl
gone_cases false m n (Some x) = refl

pub gone : (g : Group) (gs : List Group) (inside : ℕ) (n : Names) (i : ℕ) → inside ≡ g.units → cond (has inside i) (Some n) (names_at gs i) ≡ cond (has inside i) (Some n) (names_at (g ∷ gs) i)
gone g gs inside n i e = gone_cases (has inside i) g.names n (names_at gs i) ∙ ap (λ u. cond (has inside i) (Some n) (option_or (names_at gs i) (cond (has u i) (Some g.names) None))) e

-- none of the last groups has a unit that none of more groups has
pub none_later : (gs : List Group) (j k i : ℕ) → j ≤ k → names_at (drop j gs) i ≡ None → names_at (drop k gs) i ≡ None
none_later gs zero zero i h e = e
none_later gs (suc j) zero i h e = absurd (omega (arith, h))
none_later [] j (suc k) i h e = refl
none_later (g ∷ gs) zero (suc k) i h e = none_later gs zero k i (omega arith) (none_behind (names_at gs i) _ e)
none_later (g ∷ gs) (suc j) (suc k) i h e = none_later gs j k i (omega (arith, h)) e

pub drop_set : (gs : List Group) (n : ℕ) (g : Group) → n < length gs → drop n (set gs n g) ≡ g ∷ drop (suc n) gs
drop_set [] n g h = absurd (omega (arith, h))
drop_set (x ∷ gs) zero g h = refl
drop_set (x ∷ gs) (suc n) g h = drop_set gs n g (omega (arith, h))

pub behind_all : (gs hs : List Group) (n : ℕ) → n ≤ length gs → drop n (take n gs ++ hs) ≡ hs
behind_all gs hs zero h = refl
behind_all [] hs (suc n) h = absurd (omega (arith, h))
behind_all (g ∷ gs) hs (suc n) h = behind_all gs hs n (omega (arith, h))
