-- A list of races with one race a location, sorted by location.
use Rattle.collect.proofs.Common.{◌≡◌, ◌≢◌, ℕ, ◌<◌, Bool, true, false, cond, eqb, ltb, List, [], ◌∷◌, Option, Some, None, fold, refl, arith, sym, ap, ◌∙◌, subst, option_map_or, eqb-true, eq-eqb, ltb-true, ltb-false, nat_tests, Back, RaceAt, NoneOn, AreApart, races_of, race_on, better, kept_after, best, IsCollected}
use Rattle.collect.proofs.Ascending.{Above, Above-trans, Ascends, Ascends-from_increasing}
use Rattle.collect.proofs.Kept.{cond_swap}

-- ---- the race on a location

eqb-refl : (n : ℕ) → eqb n n ≡ true
eqb-refl n = eq-eqb n n refl

apart-eqb : (a b : ℕ) → a ≢ b → eqb a b ≡ false
apart-eqb a b h = grind (arith, nat_tests)

pub race_on-here : (r : RaceAt) (rs : List RaceAt) → race_on r.location (r ∷ rs) ≡ Some r
race_on-here r rs = ap (λ b. cond b (Some r) (race_on r.location rs)) (eqb-refl r.location)

pub race_on-past : (l : ℕ) (r : RaceAt) (rs : List RaceAt) → l ≢ r.location → race_on l (r ∷ rs) ≡ race_on l rs
race_on-past l r rs h = ap (λ b. cond b (Some r) (race_on l rs)) (apart-eqb r.location l (λ e. h (sym e)))

pub race_on-none : (l : ℕ) (rs : List RaceAt) → NoneOn l rs → race_on l rs ≡ None
race_on-none l [] h = refl
race_on-none l (r ∷ rs) h = race_on-past l r rs h.0 ∙ race_on-none l rs h.1

pub NoneOn-above : (l : ℕ) (rs : List RaceAt) → Above l rs → NoneOn l rs
NoneOn-above l [] h = tt
NoneOn-above l (r ∷ rs) h = ((λ e. let above = h.0 in omega arith), NoneOn-above l rs h.1)

NoneOn-below : (l m : ℕ) (rs : List RaceAt) → l < m → Above m rs → NoneOn l rs
NoneOn-below l m [] lt h = tt
NoneOn-below l m (r ∷ rs) lt h = ((λ e. let above = h.0 in omega arith), NoneOn-below l m rs lt h.1)

-- ---- two ascending lists with the same race on every location are one list

heads_meet : (r s : RaceAt) (rs ss : List RaceAt) → Above r.location rs → Above s.location ss → ((l : ℕ) → race_on l (r ∷ rs) ≡ race_on l (s ∷ ss)) → r.location < s.location → ⊥
heads_meet r s rs ss a b h lt =
    let none : race_on r.location (s ∷ ss) ≡ None = race_on-past r.location s ss (λ e. omega arith) ∙ race_on-none r.location ss (NoneOn-below r.location s.location ss lt b) in
    let found : race_on r.location (s ∷ ss) ≡ Some r = sym (h r.location) ∙ race_on-here r rs in
    cc

same_location : (r s : RaceAt) (rs ss : List RaceAt) → Ascends (r ∷ rs) → Ascends (s ∷ ss) → ((l : ℕ) → race_on l (r ∷ rs) ≡ race_on l (s ∷ ss)) → r.location ≡ s.location
same_location r s rs ss a b h =
    let not_below : r.location < s.location → ⊥ = heads_meet r s rs ss a.0 b.0 h in
    let not_above : s.location < r.location → ⊥ = heads_meet s r ss rs b.0 a.0 (λ l. sym (h l)) in
    omega arith

same_head : (r s : RaceAt) (rs ss : List RaceAt) → r.location ≡ s.location → ((l : ℕ) → race_on l (r ∷ rs) ≡ race_on l (s ∷ ss)) → r ≡ s
same_head r s rs ss e h =
    let here : race_on r.location (r ∷ rs) ≡ Some r = race_on-here r rs in
    let there : race_on r.location (s ∷ ss) ≡ Some s = ap (λ l. race_on l (s ∷ ss)) e ∙ race_on-here s ss in
    let both : race_on r.location (r ∷ rs) ≡ race_on r.location (s ∷ ss) = h r.location in
    cc

tail_at : (r : RaceAt) (rs ss : List RaceAt) → Above r.location rs → Above r.location ss → ((l : ℕ) → race_on l (r ∷ rs) ≡ race_on l (r ∷ ss)) → (l : ℕ) (b : Bool) → eqb r.location l ≡ b → race_on l rs ≡ race_on l ss
tail_at r rs ss a b h l true e =
    let here = eqb-true r.location l e in
    subst (λ m. race_on m rs ≡ race_on m ss) here (race_on-none r.location rs (NoneOn-above r.location rs a) ∙ sym (race_on-none r.location ss (NoneOn-above r.location ss b)))
tail_at r rs ss a b h l false e =
    sym (ap (λ t. cond t (Some r) (race_on l rs)) e) ∙ h l ∙ ap (λ t. cond t (Some r) (race_on l ss)) e

pub same_races : (rs ss : List RaceAt) → Ascends rs → Ascends ss → ((l : ℕ) → race_on l rs ≡ race_on l ss) → rs ≡ ss
same_races [] [] a b h = refl
same_races [] (s ∷ ss) a b h = let found : None ≡ Some s = h s.location ∙ race_on-here s ss in cc
same_races (r ∷ rs) [] a b h = let found : Some r ≡ None = sym (race_on-here r rs) ∙ h r.location in cc
same_races (r ∷ rs) (s ∷ ss) a b h =
    let one : r ≡ s = same_head r s rs ss (same_location r s rs ss a b h) h in
    let back : s ≡ r = sym one in
    let h' : (l : ℕ) → race_on l (r ∷ rs) ≡ race_on l (r ∷ ss) = subst (λ x. (l : ℕ) → race_on l (r ∷ rs) ≡ race_on l (x ∷ ss)) back h in
    let above : Above r.location ss = subst (λ x. Above x.location ss) back b.0 in
    let rest : rs ≡ ss = same_races rs ss a.1 b.1 (λ l. tail_at r rs ss a.0 above h' l (eqb r.location l) refl) in
    cc

-- ---- of one race a location that race is the best

kept-none_on : (l : ℕ) (o : Option RaceAt) (rs : List RaceAt) → NoneOn l rs → fold (kept_after l) o rs ≡ o
kept-none_on l o [] h = refl
kept-none_on l o (r ∷ rs) h =
    let past : kept_after l o r ≡ o = ap (λ b. cond b (Some (option_map_or (λ k. better k r) o r)) o) (apart-eqb r.location l (λ e. h.0 (sym e))) in
    ap (λ p. fold (kept_after l) p rs) past ∙ kept-none_on l o rs h.1

best-at : (l : ℕ) (r : RaceAt) (rs : List RaceAt) (b : Bool) → eqb r.location l ≡ b → NoneOn r.location rs → best l rs ≡ race_on l rs → fold (kept_after l) (cond b (Some r) None) rs ≡ cond b (Some r) (race_on l rs)
best-at l r rs true e h k = kept-none_on l (Some r) rs (subst (λ m. NoneOn m rs) (eqb-true r.location l e) h)
best-at l r rs false e h k = k

pub best-apart : (l : ℕ) (rs : List RaceAt) → AreApart rs → best l rs ≡ race_on l rs
best-apart l [] h = refl
best-apart l (r ∷ rs) h = best-at l r rs (eqb r.location l) refl h.0 (best-apart l rs h.1)

-- ---- a sort by insertion, given by its equations

module _ (put_in : RaceAt → List RaceAt → List RaceAt) (by_location : List RaceAt → List RaceAt)
    (put_in-nil : (r : RaceAt) → put_in r [] ≡ r ∷ [])
    (put_in-cons : (r s : RaceAt) (rs : List RaceAt) → put_in r (s ∷ rs) ≡ cond (ltb r.location s.location) (r ∷ s ∷ rs) (s ∷ put_in r rs))
    (by_location-nil : by_location [] ≡ [])
    (by_location-cons : (r : RaceAt) (rs : List RaceAt) → by_location (r ∷ rs) ≡ put_in r (by_location rs)) where
  Above-put_at : (l : ℕ) (r s : RaceAt) (rs more : List RaceAt) (b : Bool) → l < r.location → Above l (s ∷ rs) → Above l more → Above l (cond b (r ∷ s ∷ rs) (s ∷ more))
  Above-put_at l r s rs more true p a m = (p, a)
  Above-put_at l r s rs more false p a m = (a.0, m)

  Above-put_in : (l : ℕ) (r : RaceAt) (rs : List RaceAt) → l < r.location → Above l rs → Above l (put_in r rs)
  Above-put_in l r [] p a = subst (Above l) (sym (put_in-nil r)) (p, tt)
  Above-put_in l r (s ∷ rs) p a = subst (Above l) (sym (put_in-cons r s rs)) (Above-put_at l r s rs (put_in r rs) (ltb r.location s.location) p a (Above-put_in l r rs p a.1))

  Ascends-put_at : (r s : RaceAt) (rs : List RaceAt) (b : Bool) → ltb r.location s.location ≡ b → NoneOn r.location (s ∷ rs) → Ascends (s ∷ rs) → Ascends (put_in r rs) → Ascends (cond b (r ∷ s ∷ rs) (s ∷ put_in r rs))
  Ascends-put_at r s rs true e n a m = let lt = ltb-true r.location s.location e in ((lt, Above-trans r.location s.location rs lt a.0), a)
  Ascends-put_at r s rs false e n a m =
      let le = ltb-false r.location s.location e in
      let apart = n.0 in
      (Above-put_in s.location r rs (omega arith) a.0, m)

  Ascends-put_in : (r : RaceAt) (rs : List RaceAt) → NoneOn r.location rs → Ascends rs → Ascends (put_in r rs)
  Ascends-put_in r [] n a = subst Ascends (sym (put_in-nil r)) (tt, tt)
  Ascends-put_in r (s ∷ rs) n a = subst Ascends (sym (put_in-cons r s rs)) (Ascends-put_at r s rs (ltb r.location s.location) refl n a (Ascends-put_in r rs n.1 a.1))

  NoneOn-put_at : (l : ℕ) (r s : RaceAt) (rs more : List RaceAt) (b : Bool) → l ≢ r.location → NoneOn l (s ∷ rs) → NoneOn l more → NoneOn l (cond b (r ∷ s ∷ rs) (s ∷ more))
  NoneOn-put_at l r s rs more true p a m = (p, a)
  NoneOn-put_at l r s rs more false p a m = (a.0, m)

  NoneOn-put_in : (l : ℕ) (r : RaceAt) (rs : List RaceAt) → l ≢ r.location → NoneOn l rs → NoneOn l (put_in r rs)
  NoneOn-put_in l r [] p a = subst (NoneOn l) (sym (put_in-nil r)) (p, tt)
  NoneOn-put_in l r (s ∷ rs) p a = subst (NoneOn l) (sym (put_in-cons r s rs)) (NoneOn-put_at l r s rs (put_in r rs) (ltb r.location s.location) p a (NoneOn-put_in l r rs p a.1))

  NoneOn-by_location : (l : ℕ) (rs : List RaceAt) → NoneOn l rs → NoneOn l (by_location rs)
  NoneOn-by_location l [] h = subst (NoneOn l) (sym by_location-nil) tt
  NoneOn-by_location l (r ∷ rs) h = subst (NoneOn l) (sym (by_location-cons r rs)) (NoneOn-put_in l r (by_location rs) h.0 (NoneOn-by_location l rs h.1))

  pub Ascends-by_location : (rs : List RaceAt) → AreApart rs → Ascends (by_location rs)
  Ascends-by_location [] h = subst Ascends (sym by_location-nil) tt
  Ascends-by_location (r ∷ rs) h = subst Ascends (sym (by_location-cons r rs)) (Ascends-put_in r (by_location rs) (NoneOn-by_location r.location rs h.0) (Ascends-by_location rs h.1))

  race_on-put_at : (l : ℕ) (r s : RaceAt) (rs : List RaceAt) (b : Bool) → r.location ≢ s.location → race_on l (put_in r rs) ≡ race_on l (r ∷ rs) → race_on l (cond b (r ∷ s ∷ rs) (s ∷ put_in r rs)) ≡ race_on l (r ∷ s ∷ rs)
  race_on-put_at l r s rs true p h = refl
  race_on-put_at l r s rs false p h =
      ap (λ o. cond (eqb s.location l) (Some s) o) h
      ∙ cond_swap (eqb s.location l) (eqb r.location l) _ _ _ (λ f g. p (eqb-true r.location l g ∙ sym (eqb-true s.location l f)))

  race_on-put_in : (l : ℕ) (r : RaceAt) (rs : List RaceAt) → NoneOn r.location rs → race_on l (put_in r rs) ≡ race_on l (r ∷ rs)
  race_on-put_in l r [] n = ap (race_on l) (put_in-nil r)
  race_on-put_in l r (s ∷ rs) n =
      ap (race_on l) (put_in-cons r s rs) ∙ race_on-put_at l r s rs (ltb r.location s.location) n.0 (race_on-put_in l r rs n.1)

  pub race_on-by_location : (l : ℕ) (rs : List RaceAt) → AreApart rs → race_on l (by_location rs) ≡ race_on l rs
  race_on-by_location l [] h = ap (race_on l) by_location-nil
  race_on-by_location l (r ∷ rs) h =
      ap (race_on l) (by_location-cons r rs) ∙ race_on-put_in l r (by_location rs) (NoneOn-by_location r.location rs h.0)
      ∙ ap (λ o. cond (eqb r.location l) (Some r) o) (race_on-by_location l rs h.1)

  -- what was collected is the sorted list of the races that were found, where the best race handed back on
  -- each location is the best that was found, and one was found there at most
  pub collected_is_sorted : (g : List Back) (rs found : List RaceAt) → IsCollected g rs → AreApart found → ((l : ℕ) → best l (races_of g) ≡ best l found) → rs ≡ by_location found
  collected_is_sorted g rs found c apart h =
      same_races rs (by_location found) (Ascends-from_increasing rs c.is_report.ascending) (Ascends-by_location found apart)
      (λ l. c.best_on l ∙ h l ∙ best-apart l found apart ∙ sym (race_on-by_location l found apart))
