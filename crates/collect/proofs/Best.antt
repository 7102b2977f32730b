-- What a collector holds after one more race.
use Rattle.collect.proofs.Common.{◌≡◌, ℕ, Bool, true, false, cond, eqb, leb, ltb, List, [], ◌∷◌, ◌++◌, Option, Some, None, refl, arith, sym, ap, ◌∙◌, append-nil, option_map_or, eqb-true, nat_tests, Back, Race, NoMemory, RaceAt, races_of, fails, race_on, better, has_better, kept_after, best, Collection, KeepsBest}
use Rattle.std.proofs.lemmas.List.Sums.{fold-append}
use Rattle.collect.proofs.Kept.{put, race_on-put}

pub races_of-append : (g h : List Back) → races_of (g ++ h) ≡ races_of g ++ races_of h
races_of-append [] h = refl
races_of-append (Race r ∷ g) h = ap (λ l. r ∷ l) (races_of-append g h)
races_of-append (NoMemory ∷ g) h = races_of-append g h

pub fails-push_race : (g : List Back) (r : RaceAt) → fails (g ++ Race r ∷ []) ≡ fails g
fails-push_race [] r = refl
fails-push_race (Race s ∷ g) r = fails-push_race g r
fails-push_race (NoMemory ∷ g) r = refl

pub fails-push_none : (g : List Back) → fails (g ++ NoMemory ∷ []) ≡ true
fails-push_none [] = refl
fails-push_none (Race s ∷ g) = fails-push_none g
fails-push_none (NoMemory ∷ g) = refl

pub best-push : (l : ℕ) (rs : List RaceAt) (r : RaceAt) → best l (rs ++ r ∷ []) ≡ kept_after l (best l rs) r
best-push l rs r = fold-append (kept_after l) None rs (r ∷ [])

best-push_race : (l : ℕ) (g : List Back) (r : RaceAt) → best l (races_of (g ++ Race r ∷ [])) ≡ kept_after l (best l (races_of g)) r
best-push_race l g r = ap (best l) (races_of-append g (Race r ∷ [])) ∙ best-push l (races_of g) r

best-push_none : (l : ℕ) (g : List Back) → best l (races_of (g ++ NoMemory ∷ [])) ≡ best l (races_of g)
best-push_none l g = ap (best l) (races_of-append g (NoMemory ∷ []) ∙ append-nil (races_of g))

-- whether the race kept here has a second place that is no later
abbrev no_later : Option RaceAt → RaceAt → Bool
no_later o r = option_map_or (λ k. leb k.second.place r.second.place) o false

better-stays : (k r : RaceAt) (b : Bool) → ltb r.second.place k.second.place ≡ b → leb k.second.place r.second.place ≡ true → cond b r k ≡ k
better-stays k r true p q = absurd (grind (arith, nat_tests))
better-stays k r false p q = refl

better-goes : (k r : RaceAt) (b : Bool) → ltb r.second.place k.second.place ≡ b → leb k.second.place r.second.place ≡ false → cond b r k ≡ r
better-goes k r true p q = refl
better-goes k r false p q = absurd (grind (arith, nat_tests))

stays_on : (o : Option RaceAt) (r : RaceAt) → no_later o r ≡ true → Some (option_map_or (λ k. better k r) o r) ≡ o
stays_on None r h = cc
stays_on (Some k) r h = ap Some (better-stays k r (ltb r.second.place k.second.place) refl h)

goes_on : (o : Option RaceAt) (r : RaceAt) → no_later o r ≡ false → Some (option_map_or (λ k. better k r) o r) ≡ Some r
goes_on None r h = refl
goes_on (Some k) r h = ap Some (better-goes k r (ltb r.second.place k.second.place) refl h)

kept_stays : (b : Bool) (o : Option RaceAt) (r : RaceAt) → (b ≡ true → no_later o r ≡ true) → cond b (Some (option_map_or (λ k. better k r) o r)) o ≡ o
kept_stays true o r h = stays_on o r (h refl)
kept_stays false o r h = refl

kept_goes : (b : Bool) (o : Option RaceAt) (r : RaceAt) → (b ≡ true → no_later o r ≡ false) → cond b (Some (option_map_or (λ k. better k r) o r)) o ≡ cond b (Some r) o
kept_goes true o r h = goes_on o r (h refl)
kept_goes false o r h = refl

no_later-on : (l : ℕ) (rs : List RaceAt) (r : RaceAt) (b : Bool) → has_better rs r ≡ b → eqb r.location l ≡ true → no_later (race_on l rs) r ≡ b
no_later-on l rs r b h e = let same = eqb-true r.location l e in ap (λ m. no_later (race_on m rs) r) (sym same) ∙ h

pub Holds-kept : (g : List Back) (c : Collection) (r : RaceAt) → has_better c.races r ≡ true → KeepsBest g c → KeepsBest (g ++ Race r ∷ []) c
Holds-kept g c r b h = record {
  refused = h.refused ∙ sym (fails-push_race g r);
  best_on = λ l. sym (best-push_race l g r ∙ ap (λ o. kept_after l o r) (sym (h.best_on l)) ∙ kept_stays (eqb r.location l) (race_on l c.races) r (no_later-on l c.races r true b));
}

pub Holds-put : (g : List Back) (c d : Collection) (r : RaceAt) → has_better c.races r ≡ false → d.races ≡ put r c.races → d.refused ≡ c.refused → KeepsBest g c → KeepsBest (g ++ Race r ∷ []) d
Holds-put g c d r b races same h = record {
  refused = same ∙ h.refused ∙ sym (fails-push_race g r);
  best_on = λ l. ap (race_on l) races ∙ race_on-put l r c.races
      ∙ sym (best-push_race l g r ∙ ap (λ o. kept_after l o r) (sym (h.best_on l)) ∙ kept_goes (eqb r.location l) (race_on l c.races) r (no_later-on l c.races r false b));
}

pub Holds-refused : (g : List Back) (c d : Collection) (back : Back) → back ≡ NoMemory → d.races ≡ c.races → d.refused ≡ true → KeepsBest g c → KeepsBest (g ++ back ∷ []) d
Holds-refused g c d back is races now h = rw is (record {
  refused = now ∙ sym (fails-push_none g);
  best_on = λ l. ap (race_on l) races ∙ h.best_on l ∙ sym (best-push_none l g);
})
