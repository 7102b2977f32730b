-- A look at groups from the last one to the first: the units that none of them had, and those at which an access races.
use Rattle.blocks.proofs.Common.{◌≡◌, ℕ, zero, suc, ◌-◌, ◌/◌, ◌^◌, ◌<◌, ◌≤◌, ◌≢◌, Bool, true, false, not, ◌&&◌, ◌||◌, List, [], ◌∷◌, drop, length, get_or, Option, Some, None, is_none, unwrap_or, nat_eq, cond, refl, sym, ap, ◌∙◌, subst, arith, bit_not, w64, bit_and, bit_or, option_or, ForSome, drop-cons, drop_all, and_le_r, shr_and_one, Kind, Active, has, has_rival, no_steps, names_at, names_of, is_racy, no_group, Names, Group}
use Rattle.blocks.proofs.Bits.{has_and, has_or, has_not, has_zero, has_some}

-- the units that no group has
abbrev pub IsRest : ℕ → ℕ → List Group → Type 0
IsRest units rest gs = (i : ℕ) → i < 64 → has rest i ≡ (has units i && is_none (names_at gs i))

-- the units at which an access races
abbrev pub AreRacy : List Active → Kind → ℕ → ℕ → List Group → Type 0
AreRacy fs kind units racy gs = (i : ℕ) → i < 64 → has racy i ≡ (has units i && is_racy fs kind (names_at gs i))

-- the units of a group among the rest
pub has_inside : (g rest i : ℕ) (u : Bool) (o : Option Names) → has rest i ≡ (u && is_none o) → has (bit_and g rest) i ≡ (has g i && (u && is_none o))
has_inside g rest i u o e = has_and g rest i ∙ ap (λ b. has g i && b) e

pub fits_and : (a b : ℕ) → b < 2 ^ 64 → bit_and a b < 2 ^ 64
fits_and a b h = omega (arith, and_le_r a b)

rest_cases : (u h : Bool) (o : Option Names) (n : Names) → ((u && is_none o) && not (h && (u && is_none o))) ≡ (u && is_none (option_or o (cond h (Some n) None)))
rest_cases false h o n = refl
rest_cases true h (Some m) n = refl
rest_cases true true None n = refl
rest_cases true false None n = refl

pub rest_more : (units rest : ℕ) (g : Group) (gs : List Group) → rest < 2 ^ 64 → IsRest units rest gs → IsRest units (bit_and rest (bit_not w64 (bit_and g.units rest))) (g ∷ gs)
rest_more units rest g gs f h i k =
    has_and rest _ i ∙ ap (λ b. has rest i && b) (has_not (bit_and g.units rest) i (fits_and g.units rest f) k ∙ ap not (has_inside g.units rest i (has units i) (names_at gs i) (h i k)))
    ∙ ap (λ b. b && not (has g.units i && (has units i && is_none (names_at gs i)))) (h i k)
    ∙ rest_cases (has units i) (has g.units i) (names_at gs i) g.names

same_cases : (u h : Bool) (o : Option Names) (n : Names) → (h && (u && is_none o)) ≡ false → (u && is_none o) ≡ (u && is_none (option_or o (cond h (Some n) None)))
same_cases false h o n e = refl
same_cases true h (Some m) n e = refl
same_cases true true None n e = absurd (cc)
same_cases true false None n e = refl

pub none_inside : (g rest i : ℕ) (u : Bool) (o : Option Names) → bit_and g rest ≡ 0 → has rest i ≡ (u && is_none o) → (has g i && (u && is_none o)) ≡ false
none_inside g rest i u o z e = sym (has_inside g rest i u o e) ∙ ap (λ m. has m i) z ∙ has_zero i

pub rest_same : (units rest : ℕ) (g : Group) (gs : List Group) → bit_and g.units rest ≡ 0 → IsRest units rest gs → IsRest units rest (g ∷ gs)
rest_same units rest g gs z h i k = h i k ∙ same_cases (has units i) (has g.units i) (names_at gs i) g.names (none_inside g.units rest i (has units i) (names_at gs i) z (h i k))

racy_cases : (fs : List Active) (kind : Kind) (u h : Bool) (o : Option Names) (n : Names) → has_rival fs kind n ≡ true → ((u && is_racy fs kind o) || (h && (u && is_none o))) ≡ (u && is_racy fs kind (option_or o (cond h (Some n) None)))
racy_cases fs kind false true o n e = refl
racy_cases fs kind false false o n e = refl
racy_cases fs kind true true None n e = sym e
racy_cases fs kind true false None n e = refl
racy_cases fs kind true h (Some m) n e = or_no (has_rival fs kind m) h
  where
    or_no : (a b : Bool) → (a || (b && false)) ≡ a
    or_no true b = refl
    or_no false true = refl
    or_no false false = refl

racy_more : (fs : List Active) (kind : Kind) (units rest racy : ℕ) (g : Group) (gs : List Group) → has_rival fs kind g.names ≡ true → IsRest units rest gs → AreRacy fs kind units racy gs → AreRacy fs kind units (bit_or racy (bit_and g.units rest)) (g ∷ gs)
racy_more fs kind units rest racy g gs e r h i k =
    has_or racy _ i ∙ ap (λ b. b || has (bit_and g.units rest) i) (h i k)
    ∙ ap (λ b. (has units i && is_racy fs kind (names_at gs i)) || b) (has_inside g.units rest i (has units i) (names_at gs i) (r i k))
    ∙ racy_cases fs kind (has units i) (has g.units i) (names_at gs i) g.names e

calm_cases : (fs : List Active) (kind : Kind) (u h : Bool) (o : Option Names) (n : Names) → has_rival fs kind n ≡ false → (u && is_racy fs kind o) ≡ (u && is_racy fs kind (option_or o (cond h (Some n) None)))
calm_cases fs kind false h o n e = refl
calm_cases fs kind true h (Some m) n e = refl
calm_cases fs kind true true None n e = sym e
calm_cases fs kind true false None n e = refl

racy_calm : (fs : List Active) (kind : Kind) (units racy : ℕ) (g : Group) (gs : List Group) → has_rival fs kind g.names ≡ false → AreRacy fs kind units racy gs → AreRacy fs kind units racy (g ∷ gs)
racy_calm fs kind units racy g gs e h i k = h i k ∙ calm_cases fs kind (has units i) (has g.units i) (names_at gs i) g.names e

out_cases : (fs : List Active) (kind : Kind) (u h : Bool) (o : Option Names) (n : Names) → (h && (u && is_none o)) ≡ false → (u && is_racy fs kind o) ≡ (u && is_racy fs kind (option_or o (cond h (Some n) None)))
out_cases fs kind false h o n e = refl
out_cases fs kind true h (Some m) n e = refl
out_cases fs kind true true None n e = absurd (cc)
out_cases fs kind true false None n e = refl

racy_same : (fs : List Active) (kind : Kind) (units rest racy : ℕ) (g : Group) (gs : List Group) → bit_and g.units rest ≡ 0 → IsRest units rest gs → AreRacy fs kind units racy gs → AreRacy fs kind units racy (g ∷ gs)
racy_same fs kind units rest racy g gs z r h i k =
    h i k ∙ out_cases fs kind (has units i) (has g.units i) (names_at gs i) g.names (none_inside g.units rest i (has units i) (names_at gs i) z (r i k))

-- what the last groups keep of a unit is what all keep of it
pub names_behind : (gs : List Group) (k i : ℕ) (n : Names) → names_at (drop k gs) i ≡ Some n → names_at gs i ≡ Some n
names_behind gs zero i n e = e
names_behind [] (suc k) i n e = e
names_behind (g ∷ gs) (suc k) i n e = ap (λ o. option_or o (cond (has g.units i) (Some g.names) None)) (names_behind gs k i n e)

-- the last groups with the one before them
pub with_one_before : (gs : List Group) (n : ℕ) → 0 < n → n ≤ length gs → drop (n - 1) gs ≡ get_or gs (n - 1) no_group ∷ drop n gs
with_one_before gs n h k =
    let e : suc (n - 1) ≡ n = omega (arith, h) in
    subst (λ m. drop (n - 1) gs ≡ get_or gs (n - 1) no_group ∷ drop m gs) e (drop-cons gs (n - 1) no_group (omega (arith, h, k)))

first_of : (h u : Bool) (o : Option Names) (n : Names) → (h && (u && is_none o)) ≡ true → option_or o (cond h (Some n) None) ≡ Some n
first_of true true None n e = refl
first_of true true (Some m) n e = absurd (cc)
first_of true false o n e = absurd (cc)
first_of false u o n e = absurd (cc)

-- a unit of a group among the rest has the group's names
names_inside : (units rest : ℕ) (g : Group) (gs : List Group) → IsRest units rest gs → (i : ℕ) → i < 64 → has (bit_and g.units rest) i ≡ true → names_at (g ∷ gs) i ≡ Some g.names
names_inside units rest g gs r i k e = first_of (has g.units i) (has units i) (names_at gs i) g.names (sym (has_inside g.units rest i (has units i) (names_at gs i) (r i k)) ∙ e)

-- what a look has found down to this group
pub record HasLooked (fs : List Active) (kind : Kind) (units rest racy : ℕ) (gs : List Group) (n : ℕ) : Type 0 where
  pub within : n ≤ length gs
  pub rest_is : IsRest units rest (drop n gs)
  pub racy_are : AreRacy fs kind units racy (drop n gs)

pub look_begins : (fs : List Active) (kind : Kind) (units : ℕ) (gs : List Group) → HasLooked fs kind units units 0 gs (length gs)
look_begins fs kind units gs = record {
  within = omega arith;
  rest_is = subst (IsRest units units) (sym (drop_all (length gs) gs (omega arith))) (λ i k. yes (has units i));
  racy_are = subst (AreRacy fs kind units 0) (sym (drop_all (length gs) gs (omega arith))) (λ i k. has_zero i ∙ no (has units i));
}
  where
    yes : (b : Bool) → b ≡ (b && true)
    yes true = refl
    yes false = refl

    no : (b : Bool) → false ≡ (b && false)
    no true = refl
    no false = refl

pub look_racy : (fs : List Active) (kind : Kind) (units rest racy : ℕ) (gs : List Group) (n : ℕ) → 0 < n → rest < 2 ^ 64 → has_rival fs kind (get_or gs (n - 1) no_group).names ≡ true → HasLooked fs kind units rest racy gs n → HasLooked fs kind units (bit_and rest (bit_not w64 (bit_and (get_or gs (n - 1) no_group).units rest))) (bit_or racy (bit_and (get_or gs (n - 1) no_group).units rest)) gs (n - 1)
look_racy fs kind units rest racy gs n h f e l =
    let g = get_or gs (n - 1) no_group in
    let back = with_one_before gs n h l.within in
    record {
      within = omega (arith, l.within);
      rest_is = subst (IsRest units _) (sym back) (rest_more units rest g (drop n gs) f l.rest_is);
      racy_are = subst (AreRacy fs kind units _) (sym back) (racy_more fs kind units rest racy g (drop n gs) e l.rest_is l.racy_are);
    }

pub look_calm : (fs : List Active) (kind : Kind) (units rest racy : ℕ) (gs : List Group) (n : ℕ) → 0 < n → rest < 2 ^ 64 → has_rival fs kind (get_or gs (n - 1) no_group).names ≡ false → HasLooked fs kind units rest racy gs n → HasLooked fs kind units (bit_and rest (bit_not w64 (bit_and (get_or gs (n - 1) no_group).units rest))) racy gs (n - 1)
look_calm fs kind units rest racy gs n h f e l =
    let g = get_or gs (n - 1) no_group in
    let back = with_one_before gs n h l.within in
    record {
      within = omega (arith, l.within);
      rest_is = subst (IsRest units _) (sym back) (rest_more units rest g (drop n gs) f l.rest_is);
      racy_are = subst (AreRacy fs kind units racy) (sym back) (racy_calm fs kind units racy g (drop n gs) e l.racy_are);
    }

pub look_past : (fs : List Active) (kind : Kind) (units rest racy : ℕ) (gs : List Group) (n : ℕ) → 0 < n → bit_and (get_or gs (n - 1) no_group).units rest ≡ 0 → HasLooked fs kind units rest racy gs n → HasLooked fs kind units rest racy gs (n - 1)
look_past fs kind units rest racy gs n h z l =
    let g = get_or gs (n - 1) no_group in
    let back = with_one_before gs n h l.within in
    record {
      within = omega (arith, l.within);
      rest_is = subst (IsRest units rest) (sym back) (rest_same units rest g (drop n gs) z l.rest_is);
      racy_are = subst (AreRacy fs kind units racy) (sym back) (racy_same fs kind units rest racy g (drop n gs) z l.rest_is l.racy_are);
    }

pub look_ends : (fs : List Active) (kind : Kind) (units rest racy : ℕ) (gs : List Group) (n : ℕ) → n ≤ 0 → HasLooked fs kind units rest racy gs n → AreRacy fs kind units racy gs
look_ends fs kind units rest racy gs zero h l = l.racy_are
look_ends fs kind units rest racy gs (suc n) h l = absurd (omega (arith, h))

-- no unit is left
pub look_done : (fs : List Active) (kind : Kind) (units rest racy : ℕ) (gs : List Group) (n : ℕ) → rest ≡ 0 → HasLooked fs kind units rest racy gs n → AreRacy fs kind units racy gs
look_done fs kind units rest racy gs n z l i k =
    l.racy_are i k ∙ go (has units i) (names_at (drop n gs) i) (names_at gs i) (sym (has_zero i) ∙ ap (λ m. has m i) (sym z) ∙ l.rest_is i k) (λ m e. names_behind gs n i m e)
  where
    go : (u : Bool) (o p : Option Names) → false ≡ (u && is_none o) → ((m : Names) → o ≡ Some m → p ≡ Some m) → (u && is_racy fs kind o) ≡ (u && is_racy fs kind p)
    go false o p e f = refl
    go true None p e f = absurd (cc)
    go true (Some m) p e f = ap (is_racy fs kind) (sym (f m refl))

-- what is known of all units' names is known of a group's that has some of the rest
pub known_inside : (P : Names → Type 0) (units rest : ℕ) (gs : List Group) (n : ℕ) → 0 < n → n ≤ length gs → rest < 2 ^ 64 → IsRest units rest (drop n gs) → bit_and (get_or gs (n - 1) no_group).units rest ≢ 0 → ((i : ℕ) → i < 64 → ForSome (names_at gs i) P) → P (get_or gs (n - 1) no_group).names
known_inside P units rest gs n h k f r z known =
    let g = get_or gs (n - 1) no_group in
    let t = has_some (bit_and g.units rest) z (fits_and g.units rest f) in
    let e : names_at (drop (n - 1) gs) t.0 ≡ Some g.names = ap (λ l. names_at l t.0) (with_one_before gs n h k) ∙ names_inside units rest g (drop n gs) r t.0 t.1 t.2 in
    known t.0 t.1 g.names (names_behind gs (n - 1) t.0 g.names e)

-- a look for one unit: no group behind these has it
pub record HasNotFound (unit : ℕ) (gs : List Group) (n : ℕ) : Type 0 where
  pub within : n ≤ length gs
  pub none : names_at (drop n gs) unit ≡ None

pub found_here : (unit : ℕ) (gs : List Group) (n : ℕ) → 0 < n → bit_and ((get_or gs (n - 1) no_group).units / 2 ^ unit) 1 ≡ 1 → HasNotFound unit gs n → (get_or gs (n - 1) no_group).names ≡ names_of gs unit
found_here unit gs n h e l =
    let g = get_or gs (n - 1) no_group in
    let has_it : has g.units unit ≡ true = ap (λ x. nat_eq x 1) (sym (shr_and_one g.units unit) ∙ e) in
    let here : names_at (drop (n - 1) gs) unit ≡ Some g.names = ap (λ x. names_at x unit) (with_one_before gs n h l.within) ∙ ap (λ o. option_or o (cond (has g.units unit) (Some g.names) None)) l.none ∙ ap (λ b. cond b (Some g.names) None) has_it in
    sym (ap (λ o. unwrap_or o no_steps) (names_behind gs (n - 1) unit g.names here))
