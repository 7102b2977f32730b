-- Races by ascending location stay so where each is moved to the location of its number, and where some are left out.
use Rattle.shadow.proofs.Common.{◌≡◌, ℕ, ◌*◌, ◌<◌, ◌≤◌, Bool, true, false, cond, ltb, filter, List, [], ◌∷◌, map, ⊎_elim, refl, sym, ap, subst, ◌∙◌, arith, cases_Bool, cond-true, cond-false, ltb-true, ltb-false, lt-ltb, le-ltb, mul-lt-mul_of_pos_right, mul-le-mul_right, Part, RaceAt, location_at, Rises, AllAbove, AllAbove-lower, AreApart, put_in, by_location}
use Rattle.shadow.proofs.Listed.{location_of, Rises-by_location}
use Rattle.shadow.proofs.Parted.{located}

-- ---- some are left out

above-filter : (p : RaceAt → Bool) (m : ℕ) (rs : List RaceAt) → AllAbove location_of m rs → AllAbove location_of m (filter p rs)
above-filter p m [] a = tt
above-filter p m (r ∷ rs) a = ⊎_elim
    (λ e. subst (AllAbove location_of m) (sym (cond-true (p r) _ _ e)) (a.0, above-filter p m rs a.1))
    (λ e. subst (AllAbove location_of m) (sym (cond-false (p r) _ _ e)) (above-filter p m rs a.1))
    (cases_Bool (p r))

-- a race below all of a list comes first
put_in-first : (r : RaceAt) (rs : List RaceAt) → AllAbove location_of r.location rs → put_in r rs ≡ r ∷ rs
put_in-first r [] a = refl
put_in-first r (s ∷ rs) a = ⊎_elim
    (λ e. cond-true (ltb r.location s.location) _ _ e)
    (λ e. let le = ltb-false _ _ e in absurd (omega (arith, a.0, le)))
    (cases_Bool (ltb r.location s.location))

filter-left_out : (p : RaceAt → Bool) (r : RaceAt) (rs : List RaceAt) → p r ≡ false → filter p (put_in r rs) ≡ filter p rs
filter-left_out p r [] out = cond-false (p r) _ _ out
filter-left_out p r (s ∷ rs) out = ⊎_elim
    (λ e. ap (filter p) (cond-true (ltb r.location s.location) _ _ e) ∙ cond-false (p r) _ _ out)
    (λ e. ap (filter p) (cond-false (ltb r.location s.location) _ _ e) ∙ ap (λ (x : List RaceAt). cond (p s) (s ∷ x) x) (filter-left_out p r rs out))
    (cases_Bool (ltb r.location s.location))

filter-put_in : (p : RaceAt → Bool) (r : RaceAt) (rs : List RaceAt) → p r ≡ true → Rises location_of rs → filter p (put_in r rs) ≡ put_in r (filter p rs)
filter-put_in p r [] own a = cond-true (p r) _ _ own
filter-put_in p r (s ∷ rs) own a = ⊎_elim
    (λ e.
    let lt = ltb-true r.location s.location e in
    let above : AllAbove location_of r.location (s ∷ rs) = (lt, AllAbove-lower location_of r.location s.location rs (omega (arith, lt)) a.0) in
    ap (filter p) (cond-true (ltb r.location s.location) _ _ e) ∙ cond-true (p r) _ _ own ∙ sym (put_in-first r (filter p (s ∷ rs)) (above-filter p r.location (s ∷ rs) above)))
    (λ e.
    let ih = filter-put_in p r rs own a.1 in
    ap (filter p) (cond-false (ltb r.location s.location) _ _ e) ∙ ⊎_elim
    (λ t. cond-true (p s) _ _ t ∙ ap (λ (x : List RaceAt). s ∷ x) ih ∙ sym (cond-false (ltb r.location s.location) _ _ e) ∙ ap (put_in r) (sym (cond-true (p s) _ _ t)))
    (λ f. cond-false (p s) _ _ f ∙ ih ∙ ap (put_in r) (sym (cond-false (p s) _ _ f)))
    (cases_Bool (p s)))
    (cases_Bool (ltb r.location s.location))

pub filter-by_location : (p : RaceAt → Bool) (rs : List RaceAt) → AreApart rs → filter p (by_location rs) ≡ by_location (filter p rs)
filter-by_location p [] a = refl
filter-by_location p (r ∷ rs) a =
    let ih = filter-by_location p rs a.1 in
    ⊎_elim
    (λ e. filter-put_in p r (by_location rs) e (Rises-by_location rs a.1) ∙ ap (put_in r) ih ∙ ap by_location (sym (cond-true (p r) _ _ e)))
    (λ e. filter-left_out p r (by_location rs) e ∙ ih ∙ ap by_location (sym (cond-false (p r) _ _ e)))
    (cases_Bool (p r))

-- ---- each is moved

pub location_lt : (part : Part) (l m : ℕ) → l < m → location_at part l < location_at part m
location_lt part l m h = let lt : l * part.count < m * part.count = mul-lt-mul_of_pos_right h part.count_within.0 in omega (arith, lt)

location_le : (part : Part) (l m : ℕ) → l ≤ m → location_at part l ≤ location_at part m
location_le part l m h = let le : l * part.count ≤ m * part.count = mul-le-mul_right part.count h in omega (arith, le)

located-put_in : (part : Part) (r : RaceAt) (rs : List RaceAt) → map (located part) (put_in r rs) ≡ put_in (located part r) (map (located part) rs)
located-put_in part r [] = refl
located-put_in part r (s ∷ rs) = ⊎_elim
    (λ e. ap (map (located part)) (cond-true (ltb r.location s.location) _ _ e) ∙ sym (cond-true (ltb (location_at part r.location) (location_at part s.location)) _ _ (same_true e)))
    (λ e. ap (map (located part)) (cond-false (ltb r.location s.location) _ _ e) ∙ ap (λ (x : List RaceAt). located part s ∷ x) (located-put_in part r rs)
    ∙ sym (cond-false (ltb (location_at part r.location) (location_at part s.location)) _ _ (same_false e)))
    (cases_Bool (ltb r.location s.location))
  where
    same_true : ltb r.location s.location ≡ true → ltb (location_at part r.location) (location_at part s.location) ≡ true
    same_true e = lt-ltb _ _ (location_lt part r.location s.location (ltb-true _ _ e))

    same_false : ltb r.location s.location ≡ false → ltb (location_at part r.location) (location_at part s.location) ≡ false
    same_false e = le-ltb _ _ (location_le part s.location r.location (ltb-false _ _ e))

pub located-by_location : (part : Part) (rs : List RaceAt) → map (located part) (by_location rs) ≡ by_location (map (located part) rs)
located-by_location part [] = refl
located-by_location part (r ∷ rs) = located-put_in part r (by_location rs) ∙ ap (put_in (located part r)) (located-by_location part rs)
