-- What a collector was given, lane by lane: an item more of one lane, and the best race of a location.
use Rattle.detect.proofs.Common.{◌≡◌, ℕ, zero, suc, ◌+◌, ◌%◌, ◌<◌, true, false, eqb, fold, List, [], ◌∷◌, ◌++◌, length, set, get_or, slice_index_or, Option, None, ⊎_elim, length-set, refl, sym, ap, subst, ◌∙◌, arith, eqb-true, append-nil, AllByRecursion, cases_eq, cases_Bool, cond-false, Back, Race, Item, One, Finish, records, RaceAt, all-front, all-last, Collection, KeepsBest, races_of, fails, kept_after, best, all_given, AreAtHomeFrom, AreAtHome, Gathers}
use Rattle.std.proofs.lemmas.List.Sums.{fold-append}
use Rattle.dag.specs.declared.back.Back.TheVariants.{NoMemory}
use Rattle.lane.proofs.Marks.{records_one, records-finish}
use Rattle.collect.proofs.Best.{races_of-append, fails-push_race, best-push}

-- what a lane gave, without the mark
abbrev pub on_lane : List (List (Item Back)) → ℕ → List Back
on_lane lists k = records (slice_index_or lists k [])

-- ---- an item more

races-more : (items : List (Item Back)) (x : Item Back) → races_of (records (items ++ x ∷ [])) ≡ races_of (records items) ++ races_of (records (x ∷ []))
races-more items (One back) = ap races_of (records_one items back) ∙ races_of-append (records items) (back ∷ [])
races-more items Finish = ap races_of (records-finish items) ∙ sym (append-nil (races_of (records items)))

-- the mark is nothing that was given
pub all_given-finish : (lists : List (List (Item Back))) (k : ℕ) → all_given (set lists k (get_or lists k [] ++ Finish ∷ [])) ≡ all_given lists
all_given-finish [] k = refl
all_given-finish (items ∷ lists) zero = ap (λ g. g ++ all_given lists) (records-finish items)
all_given-finish (items ∷ lists) (suc k) = ap (λ g. records items ++ g) (all_given-finish lists k)

fails-append : (g h : List Back) → fails g ≡ false → fails (g ++ h) ≡ fails h
fails-append [] h e = refl
fails-append (Race r ∷ g) h e = fails-append g h e
fails-append (NoMemory ∷ g) h e = absurd cc

fails-front : (g h : List Back) → fails (g ++ h) ≡ false → fails g ≡ false
fails-front [] h e = refl
fails-front (Race r ∷ g) h e = fails-front g h e
fails-front (NoMemory ∷ g) h e = absurd cc

fails-both : (g h : List Back) → fails g ≡ false → fails h ≡ false → fails (g ++ h) ≡ false
fails-both g h e f = fails-append g h e ∙ f

fails-back : (g h : List Back) → fails (g ++ h) ≡ false → fails h ≡ false
fails-back g h e = sym (fails-append g h (fails-front g h e)) ∙ e

pub fails-race : (lists : List (List (Item Back))) (k : ℕ) (r : RaceAt) → fails (all_given lists) ≡ false → fails (all_given (set lists k (get_or lists k [] ++ One (Race r) ∷ []))) ≡ false
fails-race [] k r e = e
fails-race (items ∷ lists) zero r e =
    fails-both (records (items ++ One (Race r) ∷ [])) (all_given lists)
    (ap fails (records_one items (Race r)) ∙ fails-push_race (records items) r ∙ fails-front (records items) (all_given lists) e)
    (fails-back (records items) (all_given lists) e)
fails-race (items ∷ lists) (suc k) r e =
    fails-both (records items) (all_given (set lists k (get_or lists k [] ++ One (Race r) ∷ [])))
    (fails-front (records items) (all_given lists) e)
    (fails-race lists k r (fails-back (records items) (all_given lists) e))

pub fails_on : (lists : List (List (Item Back))) (k : ℕ) → fails (all_given lists) ≡ false → fails (on_lane lists k) ≡ false
fails_on [] k e = refl
fails_on (items ∷ lists) zero e = fails-front (records items) (all_given lists) e
fails_on (items ∷ lists) (suc k) e = fails_on lists k (fails-back (records items) (all_given lists) e)

-- ---- at home

-- a lane that gave one item less was at home
home-before : (n j : ℕ) (lists : List (List (Item Back))) (k : ℕ) (x : Item Back) → AreAtHomeFrom n j (set lists k (get_or lists k [] ++ x ∷ [])) → AreAtHomeFrom n j lists
home-before n j [] k x h = h
home-before n j (items ∷ lists) zero x h =
    let P : List RaceAt → Type 0 = AllByRecursion (λ r. r.location % n ≡ j) in
    (all-front _ (races_of (records items)) (races_of (records (x ∷ []))) (subst P (races-more items x) h.0), h.1)
home-before n j (items ∷ lists) (suc k) x h = (h.0, home-before n (j + 1) lists k x h.1)

home-last : (n j : ℕ) (lists : List (List (Item Back))) (k : ℕ) (r : RaceAt) → k < length lists → AreAtHomeFrom n j (set lists k (get_or lists k [] ++ One (Race r) ∷ [])) → r.location % n ≡ j + k
home-last n j [] k r lt h = absurd (omega (arith, lt))
home-last n j (items ∷ lists) zero r lt h =
    let P : List RaceAt → Type 0 = AllByRecursion (λ s. s.location % n ≡ j) in
    let e : r.location % n ≡ j = all-last (λ (s : RaceAt). s.location % n ≡ j) (races_of (records items)) r (subst P (races-more items (One (Race r))) h.0) in
    omega (arith, e)
home-last n j (items ∷ lists) (suc k) r lt h = let e = home-last n (j + 1) lists k r (omega (arith, lt)) h.1 in omega (arith, e)

-- ---- the best race of a location is that of its lane

pub other_location : (l : ℕ) (o : Option RaceAt) (r : RaceAt) → (r.location ≡ l → ⊥) → kept_after l o r ≡ o
other_location l o r h = ⊎_elim (λ e. absurd (h (eqb-true r.location l e))) (λ e. cond-false (eqb r.location l) _ _ e) (cases_Bool (eqb r.location l))

-- races of another lane don't count
skip_lane : (n l j : ℕ) (o : Option RaceAt) (rs : List RaceAt) → (l % n ≡ j → ⊥) → AllByRecursion (λ r. r.location % n ≡ j) rs → fold (kept_after l) o rs ≡ o
skip_lane n l j o [] ne h = refl
skip_lane n l j o (r ∷ rs) ne h =
    let same : kept_after l o r ≡ o = other_location l o r (λ e. ne (subst (λ (m : ℕ). m % n ≡ j) e h.0)) in
    ap (λ x. fold (kept_after l) x rs) same ∙ skip_lane n l j o rs ne h.1

over_lane : (l : ℕ) (o : Option RaceAt) (items : List (Item Back)) (lists : List (List (Item Back)))
    → fold (kept_after l) o (races_of (records items ++ all_given lists)) ≡ fold (kept_after l) (fold (kept_after l) o (races_of (records items))) (races_of (all_given lists))
over_lane l o items lists = ap (fold (kept_after l) o) (races_of-append (records items) (all_given lists)) ∙ fold-append (kept_after l) o (races_of (records items)) (races_of (all_given lists))

skip_lanes : (n l j : ℕ) (o : Option RaceAt) (lists : List (List (Item Back))) → l % n < j → AreAtHomeFrom n j lists → fold (kept_after l) o (races_of (all_given lists)) ≡ o
skip_lanes n l j o [] lt h = refl
skip_lanes n l j o (items ∷ lists) lt h =
    over_lane l o items lists
    ∙ ap (λ x. fold (kept_after l) x (races_of (all_given lists))) (skip_lane n l j o (races_of (records items)) (λ e. omega (arith, lt, e)) h.0)
    ∙ skip_lanes n l (j + 1) o lists (omega (arith, lt)) h.1

best_from : (n l j m : ℕ) (o : Option RaceAt) (lists : List (List (Item Back))) → l % n ≡ j + m → AreAtHomeFrom n j lists → fold (kept_after l) o (races_of (all_given lists)) ≡ fold (kept_after l) o (races_of (on_lane lists m))
best_from n l j m o [] e h = refl
best_from n l j zero o (items ∷ lists) e h = over_lane l o items lists ∙ skip_lanes n l (j + 1) (fold (kept_after l) o (races_of (records items))) lists (omega (arith, e)) h.1
best_from n l j (suc m) o (items ∷ lists) e h =
    over_lane l o items lists
    ∙ ap (λ x. fold (kept_after l) x (races_of (all_given lists))) (skip_lane n l j o (races_of (records items)) (λ f. omega (arith, e, f)) h.0)
    ∙ best_from n l (j + 1) m o lists (omega (arith, e)) h.1

pub best_of_lane : (l : ℕ) (lists : List (List (Item Back))) → AreAtHome lists → best l (races_of (all_given lists)) ≡ best l (races_of (on_lane lists (l % length lists)))
best_of_lane l lists h = best_from (length lists) l 0 (l % length lists) None lists (omega arith) h

-- ---- one more race

-- what a lane gave, after an item more of lane k
on-same : (lists : List (List (Item Back))) (k : ℕ) (r : RaceAt) → k < length lists → races_of (on_lane (set lists k (get_or lists k [] ++ One (Race r) ∷ [])) k) ≡ races_of (on_lane lists k) ++ r ∷ []
on-same [] k r lt = absurd (omega (arith, lt))
on-same (items ∷ lists) zero r lt = races-more items (One (Race r))
on-same (items ∷ lists) (suc k) r lt = on-same lists k r (omega (arith, lt))

on-other : (lists : List (List (Item Back))) (k m : ℕ) (x : List (Item Back)) → (m ≡ k → ⊥) → on_lane (set lists k x) m ≡ on_lane lists m
on-other [] k m x ne = refl
on-other (items ∷ lists) zero zero x ne = absurd (ne refl)
on-other (items ∷ lists) zero (suc m) x ne = refl
on-other (items ∷ lists) (suc k) zero x ne = refl
on-other (items ∷ lists) (suc k) (suc m) x ne = on-other lists k m x (λ e. ne (ap suc e))

home-set : (lists : List (List (Item Back))) (k : ℕ) (x : Item Back) → AreAtHome (set lists k (get_or lists k [] ++ x ∷ [])) → AreAtHome lists
home-set lists k x h =
    let P : ℕ → Type 0 = λ n. AreAtHomeFrom n 0 (set lists k (get_or lists k [] ++ x ∷ [])) in
    home-before (length lists) 0 lists k x (subst P (length-set lists k (get_or lists k [] ++ x ∷ [])) h)

-- the best race of a location, of all that was given and one race more
best_more : (l : ℕ) (lists : List (List (Item Back))) (k : ℕ) (r : RaceAt) → k < length lists → AreAtHome (set lists k (get_or lists k [] ++ One (Race r) ∷ []))
    → best l (races_of (all_given (set lists k (get_or lists k [] ++ One (Race r) ∷ [])))) ≡ kept_after l (best l (races_of (all_given lists))) r
best_more l lists k r lt h =
    let later : List (List (Item Back)) = set lists k (get_or lists k [] ++ One (Race r) ∷ []) in
    let n : ℕ = length lists in
    let same : length later ≡ n = length-set lists k (get_or lists k [] ++ One (Race r) ∷ []) in
    let home = home-set lists k (One (Race r)) h in
    let P : ℕ → Type 0 = λ m. AreAtHomeFrom m 0 later in
    let from_first = home-last n 0 lists k r lt (subst P same h) in
    let at : r.location % n ≡ k = omega (arith, from_first) in
    let now : best l (races_of (all_given later)) ≡ best l (races_of (on_lane later (l % n))) = best_of_lane l later h ∙ ap (λ m. best l (races_of (on_lane later (l % m)))) same in
    now ∙ ⊎_elim
    (λ e. let Q : ℕ → Type 0 = λ m. best l (races_of (on_lane later m)) ≡ kept_after l (best l (races_of (on_lane lists m))) r in
    subst Q (sym e) (ap (best l) (on-same lists k r lt) ∙ best-push l (races_of (on_lane lists k)) r))
    (λ ne. ap (λ g. best l (races_of g)) (on-other lists k (l % n) _ ne)
    ∙ sym (other_location l (best l (races_of (on_lane lists (l % n)))) r (λ e. ne (sym (ap (λ m. m % n) e) ∙ at))))
    (cases_eq (l % n) k)
    ∙ ap (λ o. kept_after l o r) (sym (best_of_lane l lists home))

pub gathers-race : (lists : List (List (Item Back))) (k : ℕ) (r : RaceAt) (c c' : Collection) → k < length lists → c.refused ≡ false → ((g : List Back) → KeepsBest g c → KeepsBest (g ++ Race r ∷ []) c')
    → Gathers lists c → Gathers (set lists k (get_or lists k [] ++ One (Race r) ∷ [])) c'
gathers-race lists k r c c' lt good taken h = record {
  none_failed = λ e. fails-race lists k r (h.none_failed good);
  holds = λ e home.
      let before = h.holds good (home-set lists k (One (Race r)) home) in
      let after = taken (all_given lists) before in
      record {
        refused = after.refused ∙ fails-push_race (all_given lists) r ∙ h.none_failed good ∙ sym (fails-race lists k r (h.none_failed good));
        best_on = λ l. after.best_on l ∙ ap (best l) (races_of-append (all_given lists) (Race r ∷ [])) ∙ best-push l (races_of (all_given lists)) r ∙ sym (best_more l lists k r lt home);
      };
}

pub gathers-finish : (lists : List (List (Item Back))) (k : ℕ) (c : Collection) → Gathers lists c → Gathers (set lists k (get_or lists k [] ++ Finish ∷ [])) c
gathers-finish lists k c h = record {
  none_failed = λ e. ap fails (all_given-finish lists k) ∙ h.none_failed e;
  holds = λ e home. let P : List Back → Type 0 = λ g. KeepsBest g c in subst P (sym (all_given-finish lists k)) (h.holds e (home-set lists k Finish home));
}

-- after a refused growth nothing is said
pub gathers-refused : (lists : List (List (Item Back))) (c : Collection) → c.refused ≡ true → Gathers lists c
gathers-refused lists c refused =
    let no : c.refused ≡ false → ⊥ = λ e. let both = sym refused ∙ e in absurd cc in
    record { none_failed = λ e. absurd (no e); holds = λ e home. absurd (no e) }
