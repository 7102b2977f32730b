-- The races that an access reports at the units of a page.
use Rattle.blocks.proofs.Common.{◌≡◌, ℕ, zero, suc, ◌+◌, ◌<◌, ◌≤◌, Bool, true, false, not, ◌&&◌, is_some, unwrap_or, List, [], ◌++◌, Option, Some, None, refl, sym, ap, ◌∙◌, arith, append-nil, option_to_list, bit_and, Names, Group, Kind, Access, RaceAt, Active, rival, race_with, has, units_before, no_steps, named_cell, names_at, is_racy, Block, AreNew, unit_cell, location_of, race_at_unit}
use Rattle.blocks.specs.Pages.{races_up_to}
use Rattle.blocks.proofs.Bits.{has_and, has_zero}
use Rattle.blocks.proofs.Named.{racy_is_rival, calm_race, new_race, rival_of_any}
use Rattle.blocks.proofs.Renames.{and_first}

and_and : (u r b : Bool) → ((u && r) && b) ≡ (u && (r && b))
and_and true r b = refl
and_and false r b = refl

-- the units whose race is new
pub new_units : (racy new reported i : ℕ) (u r : Bool) → has racy i ≡ (u && r) → has new i ≡ (has racy i && not (has reported i)) → has new i ≡ (u && (r && not (has reported i)))
new_units racy new reported i u r e f = f ∙ ap (λ b. b && not (has reported i)) e ∙ and_and u r (not (has reported i))

known_cases : (fs : List Active) (kind : Kind) (u t : Bool) (o : Option Names) → t ≡ is_some o → ((u && t) && is_racy fs kind o) ≡ (u && is_racy fs kind o)
known_cases fs kind false t o e = refl
known_cases fs kind true true o e = refl
known_cases fs kind true false None e = refl
known_cases fs kind true false (Some n) e = absurd (cc)

-- a unit that no group has doesn't race
pub known_racy : (fs : List Active) (kind : Kind) (units touched racy i : ℕ) (gs : List Group) → has touched i ≡ is_some (names_at gs i) → has racy i ≡ (has (bit_and units touched) i && is_racy fs kind (names_at gs i)) → has racy i ≡ (has units i && is_racy fs kind (names_at gs i))
known_racy fs kind units touched racy i gs t e = e ∙ ap (λ b. b && is_racy fs kind (names_at gs i)) (has_and units touched i) ∙ known_cases fs kind (has units i) (has touched i) (names_at gs i) t

calm_at : (fs : List Active) (first : ℕ) (kind : Kind) (place units : ℕ) (p : Block) (racy i : ℕ) → AreNew fs kind units p racy → i < 64 → has racy i ≡ false → race_at_unit fs first kind place units i (unit_cell p i) ≡ None
calm_at fs first kind place units p racy i new h e =
    calm_race (location_of first i) kind (place + units_before units i) (has units i) (is_racy fs kind (names_at p.groups i)) (has p.reported i) _ (sym (new i h) ∙ e) (racy_is_rival fs kind (names_at p.groups i) i (has p.reported i))

-- a unit without a race adds none
pub races_same : (fs : List Active) (first : ℕ) (kind : Kind) (place units : ℕ) (p : Block) (racy i : ℕ) → AreNew fs kind units p racy → i < 64 → has racy i ≡ false → races_up_to fs first kind place units (unit_cell p) (suc i) ≡ races_up_to fs first kind place units (unit_cell p) i
unfolding races_up_to
races_same fs first kind place units p racy i new h e =
    ap (λ o. races_up_to fs first kind place units (unit_cell p) i ++ option_to_list o) (calm_at fs first kind place units p racy i new h e) ∙ append-nil (races_up_to fs first kind place units (unit_cell p) i)

-- one with a race adds what its rival says
pub races_more : (fs : List Active) (first : ℕ) (kind : Kind) (place units : ℕ) (p : Block) (racy i : ℕ) (o : Option Access) → AreNew fs kind units p racy → i < 64 → has racy i ≡ true → o ≡ rival fs kind (named_cell (unwrap_or (names_at p.groups i) no_steps) i false)
    → races_up_to fs first kind place units (unit_cell p) (suc i) ≡ races_up_to fs first kind place units (unit_cell p) i ++ option_to_list (race_with (location_of first i) kind (place + units_before units i) false o)
unfolding races_up_to
races_more fs first kind place units p racy i o new h e is =
    let n = unwrap_or (names_at p.groups i) no_steps in
    ap (λ q. races_up_to fs first kind place units (unit_cell p) i ++ option_to_list q)
    (new_race (location_of first i) kind (place + units_before units i) (has units i) (is_racy fs kind (names_at p.groups i)) (has p.reported i) (rival fs kind (named_cell n i (has p.reported i))) (sym (new i h) ∙ e)
    ∙ ap (race_with (location_of first i) kind (place + units_before units i) false) (rival_of_any fs kind n i (has p.reported i) false ∙ sym is))

-- no unit has one
pub no_races : (fs : List Active) (first : ℕ) (kind : Kind) (place units : ℕ) (p : Block) (racy n : ℕ) → AreNew fs kind units p racy → racy ≡ 0 → n ≤ 64 → races_up_to fs first kind place units (unit_cell p) n ≡ []
unfolding races_up_to
no_races fs first kind place units p racy zero new z h = refl
no_races fs first kind place units p racy (suc n) new z h = races_same fs first kind place units p racy n new (omega (arith, h)) (ap (λ m. has m n) z ∙ has_zero n) ∙ no_races fs first kind place units p racy n new z (omega (arith, h))

-- a unit with a race is one of those that are accessed
pub is_accessed : (fs : List Active) (kind : Kind) (units : ℕ) (p : Block) (racy i : ℕ) → AreNew fs kind units p racy → i < 64 → has racy i ≡ true → has units i ≡ true
is_accessed fs kind units p racy i new h e = and_first (has units i) _ (sym (new i h) ∙ e)

pub races_begin : (fs : List Active) (first : ℕ) (kind : Kind) (place units : ℕ) (p : Block) (rs : List RaceAt) → rs ≡ rs ++ races_up_to fs first kind place units (unit_cell p) 0
unfolding races_up_to
races_begin fs first kind place units p rs = sym (append-nil rs)
