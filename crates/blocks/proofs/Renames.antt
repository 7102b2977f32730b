-- An access that goes through groups from the last one to the first, and gives their units other names.
use Rattle.blocks.proofs.Common.{◌≡◌, ◌≢◌, ℕ, ◌-◌, ◌^◌, ◌<◌, ◌≤◌, ◌⊎◌, inl, inr, Bool, true, false, not, ◌&&◌, List, ◌∷◌, take, drop, length, get_or, Option, Some, None, option_map, unwrap_or, is_some, ◌||◌, ⊎_elim, cond, refl, sym, ap, ◌∙◌, arith, bit_not, w64, bit_and, bit_or, option_or, ForSome, Kind, Read, Write, Active, has, keeps_names, touched_names, names_after, no_steps, names_at, names_of, names_at_touched, names_of_touched, no_group, IsPartly, Step, Names, Group}
use Rattle.blocks.proofs.Bits.{has_and, has_or, has_not, has_zero, has_some}
use Rattle.blocks.proofs.Puts.{put_before}
use Rattle.blocks.proofs.Looks.{with_one_before, names_behind, fits_and}

pub record HasRenamed (fs : List Active) (kind : Kind) (step : Step) (units : ℕ) (old : List Group) (n from rest : ℕ) (gs : List Group) : Type 0 where
  pub within : n ≤ from
  pub from_within : from ≤ length gs
  pub none : (i : ℕ) → i < 64 → has rest i ≡ true → names_at (drop n gs) i ≡ None
  pub kept : (i : ℕ) → i < 64 → names_at gs i ≡ names_at_touched fs kind step (has units i && not (has rest i)) (names_at old i)
  pub rest_of : (i : ℕ) → i < 64 → has rest i ≡ true → has units i ≡ true

-- the units of a group among the rest
has_rest : (g rest i : ℕ) → rest < 2 ^ 64 → i < 64 → has (bit_and rest (bit_not w64 (bit_and g rest))) i ≡ (has rest i && not (has g i && has rest i))
has_rest g rest i f h = has_and rest _ i ∙ ap (λ b. has rest i && b) (has_not (bit_and g rest) i (fits_and g rest f) h ∙ ap not (has_and g rest i))

-- a unit that is left isn't the group's
left_rest : (r h : Bool) → (r && not (h && r)) ≡ true → r ≡ true
left_rest true h e = refl
left_rest false h e = absurd (cc)

left_other : (r h : Bool) → (r && not (h && r)) ≡ true → h ≡ false
left_other true true e = absurd (cc)
left_other true false e = refl
left_other false h e = absurd (cc)

none_left : (g : Group) (gs : List Group) (i : ℕ) → names_at gs i ≡ None → has g.units i ≡ false → names_at (g ∷ gs) i ≡ None
none_left g gs i e f = ap (λ o. option_or o (cond (has g.units i) (Some g.names) None)) e ∙ ap (λ b. cond b (Some g.names) None) f

-- what the group at an index keeps of a unit that no later one has
here : (gs : List Group) (n i : ℕ) → 0 < n → n ≤ length gs → names_at (drop n gs) i ≡ None → has (get_or gs (n - 1) no_group).units i ≡ true → names_at gs i ≡ Some (get_or gs (n - 1) no_group).names
here gs n i h k e f =
    let g = get_or gs (n - 1) no_group in
    names_behind gs (n - 1) i g.names (ap (λ l. names_at l i) (with_one_before gs n h k) ∙ ap (λ o. option_or o (cond (has g.units i) (Some g.names) None)) e ∙ ap (λ b. cond b (Some g.names) None) f)

pub and_first : (a b : Bool) → (a && b) ≡ true → a ≡ true
and_first true b e = refl
and_first false b e = absurd (cc)

pub and_second : (a b : Bool) → (a && b) ≡ true → b ≡ true
and_second true b e = e
and_second false b e = absurd (cc)

-- a unit of the rest is as it was
as_it_was : (fs : List Active) (kind : Kind) (step : Step) (u r : Bool) (o : Option Names) → r ≡ true → names_at_touched fs kind step (u && not r) o ≡ o
as_it_was fs kind step true true o e = refl
as_it_was fs kind step false r o e = refl
as_it_was fs kind step true false o e = absurd (cc)

-- what is known of all units' names at first is known of the group's
pub known_here : (P : Names → Type 0) (fs : List Active) (kind : Kind) (step : Step) (units : ℕ) (old : List Group) (n from rest : ℕ) (gs : List Group) → 0 < n → rest < 2 ^ 64 → bit_and (get_or gs (n - 1) no_group).units rest ≢ 0 → ((i : ℕ) → i < 64 → ForSome (names_at old i) P) → HasRenamed fs kind step units old n from rest gs → P (get_or gs (n - 1) no_group).names
known_here P fs kind step units old n from rest gs h f z known l =
    let g = get_or gs (n - 1) no_group in
    let t = has_some (bit_and g.units rest) z (fits_and g.units rest f) in
    let both : (has g.units t.0 && has rest t.0) ≡ true = sym (has_and g.units rest t.0) ∙ t.2 in
    let r : has rest t.0 ≡ true = and_second (has g.units t.0) (has rest t.0) both in
    let now : names_at gs t.0 ≡ Some g.names = here gs n t.0 h (omega (arith, l.within, l.from_within)) (l.none t.0 t.1 r) (and_first (has g.units t.0) (has rest t.0) both) in
    known t.0 t.1 g.names (sym (l.kept t.0 t.1 ∙ as_it_was fs kind step (has units t.0) (has rest t.0) (names_at old t.0) r) ∙ now)

pub rename_past : (fs : List Active) (kind : Kind) (step : Step) (units : ℕ) (old : List Group) (n from rest : ℕ) (gs : List Group) → 0 < n → bit_and (get_or gs (n - 1) no_group).units rest ≡ 0 → HasRenamed fs kind step units old n from rest gs → HasRenamed fs kind step units old (n - 1) from rest gs
rename_past fs kind step units old n from rest gs h z l = record {
  within = omega (arith, l.within);
  from_within = l.from_within;
  none = λ i k e. ap (λ x. names_at x i) (with_one_before gs n h (omega (arith, l.within, l.from_within))) ∙ none_left (get_or gs (n - 1) no_group) (drop n gs) i (l.none i k e) (not_its (has (get_or gs (n - 1) no_group).units i) (has rest i) (sym (has_and (get_or gs (n - 1) no_group).units rest i) ∙ ap (λ m. has m i) z ∙ has_zero i) e);
  kept = l.kept;
  rest_of = l.rest_of;
}
  where
    not_its : (a r : Bool) → (a && r) ≡ false → r ≡ true → a ≡ false
    not_its true true e f = absurd (cc)
    not_its true false e f = absurd (cc)
    not_its false r e f = refl

stay_cases : (fs : List Active) (kind : Kind) (step : Step) (u r g : Bool) (o p : Option Names) (n : Names) → keeps_names fs kind n ≡ true → (r ≡ true → u ≡ true) → (r ≡ true → g ≡ true → o ≡ Some n) → p ≡ names_at_touched fs kind step (u && not r) o → p ≡ names_at_touched fs kind step (u && not (r && not (g && r))) o
stay_cases fs kind step u false g o p n k f w e = e
stay_cases fs kind step u true false o p n k f w e = e
stay_cases fs kind step false true true o p n k f w e = e
stay_cases fs kind step true true true o p n k f w e = e ∙ w refl refl ∙ sym (ap (λ b. Some (cond b n (touched_names kind step n))) k) ∙ ap (option_map (names_after fs kind step)) (sym (w refl refl))

pub rename_stays : (fs : List Active) (kind : Kind) (step : Step) (units : ℕ) (old : List Group) (n from rest : ℕ) (gs : List Group) → 0 < n → rest < 2 ^ 64 → keeps_names fs kind (get_or gs (n - 1) no_group).names ≡ true → HasRenamed fs kind step units old n from rest gs → HasRenamed fs kind step units old (n - 1) from (bit_and rest (bit_not w64 (bit_and (get_or gs (n - 1) no_group).units rest))) gs
rename_stays fs kind step units old n from rest gs h f e l =
    let g = get_or gs (n - 1) no_group in
    record {
      within = omega (arith, l.within);
      from_within = l.from_within;
      none = λ i k x.
          let y : (has rest i && not (has g.units i && has rest i)) ≡ true = sym (has_rest g.units rest i f k) ∙ x in
          ap (λ m. names_at m i) (with_one_before gs n h (omega (arith, l.within, l.from_within))) ∙ none_left g (drop n gs) i (l.none i k (left_rest (has rest i) (has g.units i) y)) (left_other (has rest i) (has g.units i) y);
      kept = λ i k. stay_cases fs kind step (has units i) (has rest i) (has g.units i) (names_at old i) (names_at gs i) g.names e (l.rest_of i k)
          (λ r x. sym (l.kept i k ∙ as_it_was fs kind step (has units i) (has rest i) (names_at old i) r) ∙ here gs n i h (omega (arith, l.within, l.from_within)) (l.none i k r) x) (l.kept i k)
          ∙ ap (λ b. names_at_touched fs kind step (has units i && not b) (names_at old i)) (sym (has_rest g.units rest i f k));
      rest_of = λ i k x. l.rest_of i k (left_rest (has rest i) (has g.units i) (sym (has_rest g.units rest i f k) ∙ x));
    }

change_cases : (fs : List Active) (kind : Kind) (step : Step) (u r g : Bool) (o p : Option Names) (n : Names) → keeps_names fs kind n ≡ false → (r ≡ true → u ≡ true) → (r ≡ true → g ≡ true → o ≡ Some n) → p ≡ names_at_touched fs kind step (u && not r) o → cond (g && r) (Some (touched_names kind step n)) p ≡ names_at_touched fs kind step (u && not (r && not (g && r))) o
change_cases fs kind step u false true o p n k f w e = e
change_cases fs kind step u false false o p n k f w e = e
change_cases fs kind step u true false o p n k f w e = e
change_cases fs kind step false true true o p n k f w e = let x = f refl in absurd (cc)
change_cases fs kind step true true true o p n k f w e = sym (ap (λ b. Some (cond b n (touched_names kind step n))) k) ∙ ap (option_map (names_after fs kind step)) (sym (w refl refl))

pub rename_changes : (fs : List Active) (kind : Kind) (step : Step) (units : ℕ) (old : List Group) (n from new_from rest : ℕ) (gs new : List Group) → 0 < n → rest < 2 ^ 64 → keeps_names fs kind (get_or gs (n - 1) no_group).names ≡ false
    → n - 1 ≤ new_from → new_from ≤ length new → take (n - 1) new ≡ take (n - 1) gs
    → ((i : ℕ) → i < 64 → names_at (drop (n - 1) new) i ≡ cond (has (bit_and (get_or gs (n - 1) no_group).units rest) i) (Some (touched_names kind step (get_or gs (n - 1) no_group).names)) (names_at (drop (n - 1) gs) i))
    → HasRenamed fs kind step units old n from rest gs → HasRenamed fs kind step units old (n - 1) new_from (bit_and rest (bit_not w64 (bit_and (get_or gs (n - 1) no_group).units rest))) new
rename_changes fs kind step units old n from new_from rest gs new h f e w v first put l =
    let g = get_or gs (n - 1) no_group in
    let t : Names = touched_names kind step g.names in
    record {
      within = w;
      from_within = v;
      none = λ i k x.
          let y : (has rest i && not (has g.units i && has rest i)) ≡ true = sym (has_rest g.units rest i f k) ∙ x in
          put i k ∙ ap (λ b. cond b (Some t) (names_at (drop (n - 1) gs) i)) (has_and g.units rest i ∙ ap (λ b. b && has rest i) (left_other (has rest i) (has g.units i) y))
          ∙ ap (λ m. names_at m i) (with_one_before gs n h (omega (arith, l.within, l.from_within))) ∙ none_left g (drop n gs) i (l.none i k (left_rest (has rest i) (has g.units i) y)) (left_other (has rest i) (has g.units i) y);
      kept = λ i k. put_before gs new 0 (n - 1) (has (bit_and g.units rest) i) t i (omega arith) first (put i k)
          ∙ ap (λ b. cond b (Some t) (names_at gs i)) (has_and g.units rest i)
          ∙ change_cases fs kind step (has units i) (has rest i) (has g.units i) (names_at old i) (names_at gs i) g.names e (l.rest_of i k)
          (λ r x. sym (l.kept i k ∙ as_it_was fs kind step (has units i) (has rest i) (names_at old i) r) ∙ here gs n i h (omega (arith, l.within, l.from_within)) (l.none i k r) x) (l.kept i k)
          ∙ ap (λ b. names_at_touched fs kind step (has units i && not b) (names_at old i)) (sym (has_rest g.units rest i f k));
      rest_of = λ i k x. l.rest_of i k (left_rest (has rest i) (has g.units i) (sym (has_rest g.units rest i f k) ∙ x));
    }

unnamed : (fs : List Active) (kind : Kind) (step : Step) → touched_names kind step no_steps ≡ names_after fs kind step no_steps
unnamed fs Read step = refl
unnamed fs Write step = refl

all_cases : (fs : List Active) (kind : Kind) (step : Step) (u t : Bool) (o p : Option Names) → t ≡ is_some o → p ≡ names_at_touched fs kind step (u && t) o → unwrap_or (cond (u && not t) (Some (touched_names kind step no_steps)) p) no_steps ≡ cond u (names_after fs kind step (unwrap_or o no_steps)) (unwrap_or o no_steps)
all_cases fs kind step false t o p e f = ap (λ x. unwrap_or x no_steps) f
all_cases fs kind step true true None p e f = absurd (cc)
all_cases fs kind step true true (Some n) p e f = ap (λ x. unwrap_or x no_steps) f
all_cases fs kind step true false None p e f = unnamed fs kind step
all_cases fs kind step true false (Some n) p e f = absurd (cc)

had_cases : (fs : List Active) (kind : Kind) (step : Step) (u t : Bool) (o p : Option Names) → t ≡ is_some o → p ≡ names_at_touched fs kind step (u && t) o → (t || u) ≡ is_some (cond (u && not t) (Some (touched_names kind step no_steps)) p)
had_cases fs kind step false true o p e f = e ∙ sym (ap is_some f)
had_cases fs kind step false false o p e f = e ∙ sym (ap is_some f)
had_cases fs kind step true true None p e f = absurd (cc)
had_cases fs kind step true true (Some n) p e f = sym (ap is_some f)
had_cases fs kind step true false o p e f = refl

-- after the units that no group had got one
pub all_touched : (fs : List Active) (kind : Kind) (step : Step) (touched : ℕ) (old between new : List Group) (fresh : ℕ) (i : ℕ) → has touched i ≡ is_some (names_at old i) → names_at between i ≡ names_at_touched fs kind step (has (bit_and step.units touched) i) (names_at old i) → has fresh i ≡ (has step.units i && not (has touched i))
    → names_at new i ≡ cond (has fresh i) (Some (touched_names kind step no_steps)) (names_at between i)
    → (names_of new i ≡ names_of_touched fs kind step i (names_of old i)) × (has (bit_or touched step.units) i ≡ is_some (names_at new i))
all_touched fs kind step touched old between new fresh i e f g h =
    let both : names_at between i ≡ names_at_touched fs kind step (has step.units i && has touched i) (names_at old i) = f ∙ ap (λ b. names_at_touched fs kind step b (names_at old i)) (has_and step.units touched i) in
    let now : names_at new i ≡ cond (has step.units i && not (has touched i)) (Some (touched_names kind step no_steps)) (names_at between i) = h ∙ ap (λ b. cond b (Some (touched_names kind step no_steps)) (names_at between i)) g in (
      ap (λ o. unwrap_or o no_steps) now ∙ all_cases fs kind step (has step.units i) (has touched i) (names_at old i) (names_at between i) e both,
      has_or touched step.units i ∙ had_cases fs kind step (has step.units i) (has touched i) (names_at old i) (names_at between i) e both ∙ ap is_some (sym now),
    )

pub partly_of : (fs : List Active) (kind : Kind) (step : Step) (i : ℕ) (old new : List Group) → names_of new i ≡ names_of_touched fs kind step i (names_of old i) → (names_of new i ≡ names_of old i) ⊎ ((has step.units i ≡ true) × (names_of new i ≡ names_after fs kind step (names_of old i)))
partly_of fs kind step i old new e = go (has step.units i) refl
  where
    go : (u : Bool) → has step.units i ≡ u → (names_of new i ≡ names_of old i) ⊎ ((has step.units i ≡ true) × (names_of new i ≡ names_after fs kind step (names_of old i)))
    go true f = inr (f, e ∙ ap (λ u. cond u (names_after fs kind step (names_of old i)) (names_of old i)) f)
    go false f = inl (e ∙ ap (λ u. cond u (names_after fs kind step (names_of old i)) (names_of old i)) f)

-- some of the units only
pub partly_more : (fs : List Active) (kind : Kind) (step : Step) (touched : ℕ) (old new : List Group) → IsPartly fs kind step (bit_and step.units touched) old new → IsPartly fs kind step step.units old new
partly_more fs kind step touched old new h i k = ⊎_elim (λ (e : names_of new i ≡ names_of old i). inl e) (λ (p : (has (bit_and step.units touched) i ≡ true) × (names_of new i ≡ names_after fs kind step (names_of old i))). inr (and_first (has step.units i) (has touched i) (sym (has_and step.units touched i) ∙ p.0), p.1)) (h i k)

-- no group has a unit that isn't touched
pub untouched_none : (touched new : ℕ) (u : Bool) (old between : List Group) (i : ℕ) → has touched i ≡ is_some (names_at old i) → is_some (names_at between i) ≡ is_some (names_at old i) → has new i ≡ (u && not (has touched i)) → has new i ≡ true → names_at between i ≡ None
untouched_none touched new u old between i e f g h = go (names_at between i) (f ∙ sym e) (and_second u (not (has touched i)) (sym g ∙ h))
  where
    go : (o : Option Names) → is_some o ≡ has touched i → not (has touched i) ≡ true → o ≡ None
    go None a b = refl
    go (Some n) a b = absurd (cc)

pub none_fresh : (gs : List Group) (fresh i : ℕ) (n : Names) → fresh ≡ 0 → names_at gs i ≡ cond (has fresh i) (Some n) (names_at gs i)
none_fresh gs fresh i n z = sym (ap (λ b. cond b (Some n) (names_at gs i)) (ap (λ m. has m i) z ∙ has_zero i))
