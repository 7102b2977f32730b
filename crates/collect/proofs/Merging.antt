-- Reports that are merged: one race a location, whatever the order.
use Rattle.collect.proofs.Common.{◌≡◌, ◌≢◌, ℕ, ◌≤◌, ◌%◌, Bool, true, false, cond, eqb, List, [], ◌∷◌, ◌++◌, Option, Some, None, ◌⊎◌, inl, inr, map, refl, arith, sym, ap, ◌∙◌, subst, AllByRecursion, filter, mod-lt, eq-eqb, Back, Race, Part, RaceAt, races_of_part, In, In_from, Contains_from, AreApart, races_of, race_on, best, IsFirstLeast, IsCollected}
use Rattle.dag.specs.Races.{IsReport}
use Rattle.collect.specs.Merged.{backs_of_reports, reports_of_parts, PartsMakeWhole, PartsMakeTrace, MergesWithItself, OrderIsFree}
use Rattle.collect.proofs.Ascending.{Ascends, Ascends-from_increasing}
use Rattle.collect.proofs.Sorted.{NoneOn-above, same_races, best-apart}
use Rattle.collect.proofs.FirstLeast.{Later, NoSooner, all_round, all_map, all_in, in_round, KeptOf, kept_best, race_on_in}

-- ---- what stands in lists

module _ {X : Type 0} where
  in_left : (x : X) (xs ys : List X) → In x xs → In x (xs ++ ys)
  in_left x [] ys h = absurd h
  in_left x (y ∷ xs) ys (inl e) = inl e
  in_left x (y ∷ xs) ys (inr h) = inr (in_left x xs ys h)

  in_right : (x : X) (xs ys : List X) → In x ys → In x (xs ++ ys)
  in_right x [] ys h = h
  in_right x (y ∷ xs) ys h = inr (in_right x xs ys h)

  in_either : (x : X) (xs ys : List X) → In x (xs ++ ys) → In x xs ⊎ In x ys
  in_either x [] ys h = inr h
  in_either x (y ∷ xs) ys (inl e) = inl (inl e)
  in_either x (y ∷ xs) ys (inr h) = elim (in_either x xs ys h) [
    | inl i ↦ inl (inr i)
    | inr i ↦ inr i
  ]

  in_cond : (x y : X) (xs : List X) (b : Bool) → In x xs → In x (cond b (y ∷ xs) xs)
  in_cond x y xs true h = inr h
  in_cond x y xs false h = h

  from_cond : (x y : X) (xs : List X) (b : Bool) → In x (cond b (y ∷ xs) xs) → (y ≡ x) ⊎ In x xs
  from_cond x y xs true h = h
  from_cond x y xs false h = inr h

  in_filter : (p : X → Bool) (xs : List X) (x : X) → In x xs → p x ≡ true → In x (filter p xs)
  in_filter p [] x h e = absurd h
  in_filter p (y ∷ xs) x (inl q) e = let P : Bool → Type 0 = λ b. In x (cond b (y ∷ filter p xs) (filter p xs)) in subst P (sym (ap p q ∙ e)) (inl q)
  in_filter p (y ∷ xs) x (inr h) e = in_cond x y (filter p xs) (p y) (in_filter p xs x h e)

  from_filter : (p : X → Bool) (xs : List X) (x : X) → In x (filter p xs) → In x xs
  from_filter p [] x h = absurd h
  from_filter p (y ∷ xs) x h = elim (from_cond x y (filter p xs) (p y) h) [
    | inl e ↦ inl e
    | inr i ↦ inr (from_filter p xs x i)
  ]

module _ {X Y : Type 0} (f : X → Y) where
  pub in_map : (xs : List X) (x : X) → In x xs → In (f x) (map f xs)
  in_map [] x h = absurd h
  in_map (z ∷ xs) x (inl e) = inl (ap f e)
  in_map (z ∷ xs) x (inr h) = inr (in_map xs x h)

  pub from_map : (xs : List X) (y : Y) → In y (map f xs) → (x : X) × In x xs × (f x ≡ y)
  from_map [] y h = absurd h
  from_map (z ∷ xs) y (inl e) = (z, inl refl, e)
  from_map (z ∷ xs) y (inr h) = let p = from_map xs y h in (p.0, inr p.1, p.2)

-- ---- the races that reports give

races_of-given : (rs : List RaceAt) (g : List Back) → races_of (map Race rs ++ g) ≡ rs ++ races_of g
races_of-given [] g = refl
races_of-given (r ∷ rs) g = ap (λ l. r ∷ l) (races_of-given rs g)

in_given : (reports : List (List RaceAt)) (rs : List RaceAt) (r : RaceAt) → In rs reports → In r rs → In r (races_of (backs_of_reports reports))
in_given [] rs r i h = absurd i
in_given (ss ∷ reports) rs r (inl e) h = subst (In r) (sym (races_of-given ss (backs_of_reports reports))) (in_left r ss (races_of (backs_of_reports reports)) (subst (In r) (sym e) h))
in_given (ss ∷ reports) rs r (inr i) h = subst (In r) (sym (races_of-given ss (backs_of_reports reports))) (in_right r ss (races_of (backs_of_reports reports)) (in_given reports rs r i h))

from_given : (reports : List (List RaceAt)) (r : RaceAt) → In r (races_of (backs_of_reports reports)) → (rs : List RaceAt) × In rs reports × In r rs
from_given [] r h = absurd h
from_given (ss ∷ reports) r h = elim (in_either r ss (races_of (backs_of_reports reports)) (subst (In r) (races_of-given ss (backs_of_reports reports)) h)) [
  | inl i ↦ (ss, inl refl, i)
  | inr i ↦ let p = from_given reports r i in (p.0, inr p.1, p.2)
]

-- ---- lists of the same races have the same best ones

-- two races of one location on one second place are one race
abbrev AreDistinct : List RaceAt → Type 0
AreDistinct rs = (r s : RaceAt) → In r rs → In s rs → r.location ≡ s.location → r.second.place ≡ s.second.place → r ≡ s

least_in : (rs : List RaceAt) (k s : RaceAt) → IsFirstLeast rs k → In s rs → s.location ≡ k.location → k.second.place ≤ s.second.place
least_in rs k s h i e =
    let before = all_map (Later k) (NoSooner k) (λ t f g. let z = f g in omega arith) h.before h.first in
    let all = all_round (NoSooner k) h.before h.after k before (λ g. omega arith) h.least in
    all_in (NoSooner k) rs s (subst (AllByRecursion (NoSooner k)) (sym h.came) all) i e

is_in : (rs : List RaceAt) (k : RaceAt) → IsFirstLeast rs k → In k rs
is_in rs k h = subst (In k) (sym h.came) (in_round h.before h.after k)

kept_agree : (l : ℕ) (rs ss : List RaceAt) (o p : Option RaceAt) → ((r : RaceAt) → In r rs → In r ss) → ((r : RaceAt) → In r ss → In r rs) → AreDistinct rs
    → KeptOf l rs o → KeptOf l ss p → o ≡ p
kept_agree l rs ss None None f g d h k = refl
kept_agree l rs ss None (Some s) f g d h k = absurd (all_in (λ t. l ≢ t.location) rs s h (g s (is_in ss s k.1)) (sym k.0))
kept_agree l rs ss (Some r) None f g d h k = absurd (all_in (λ t. l ≢ t.location) ss r k (f r (is_in rs r h.1)) (sym h.0))
kept_agree l rs ss (Some r) (Some s) f g d h k =
    let e : r.location ≡ s.location = h.0 ∙ sym k.0 in
    let a = least_in rs r s h.1 (g s (is_in ss s k.1)) (sym e) in
    let b = least_in ss s r k.1 (f r (is_in rs r h.1)) e in
    ap Some (d r s (is_in rs r h.1) (g s (is_in ss s k.1)) e (omega arith))

best_agree : (l : ℕ) (rs ss : List RaceAt) → ((r : RaceAt) → In r rs → In r ss) → ((r : RaceAt) → In r ss → In r rs) → AreDistinct rs → best l rs ≡ best l ss
best_agree l rs ss f g d = kept_agree l rs ss (best l rs) (best l ss) f g d (kept_best l rs) (kept_best l ss)

-- ---- what is collected of the races of one ascending list is that list

one_on : (rs : List RaceAt) (r s : RaceAt) → Ascends rs → In r rs → In s rs → r.location ≡ s.location → r ≡ s
one_on rs r s a i j e =
    let left : race_on s.location rs ≡ Some r = subst (λ (l : ℕ). race_on l rs ≡ Some r) e (race_on_in rs r a i) in
    let right : race_on s.location rs ≡ Some s = race_on_in rs s a j in
    cc

apart : (rs : List RaceAt) → Ascends rs → AreApart rs
apart [] a = tt
apart (r ∷ rs) a = (NoneOn-above r.location rs a.0, apart rs a.1)

collected_is : (g : List Back) (races merged : List RaceAt) → Ascends races → ((r : RaceAt) → In r (races_of g) → In r races) → ((r : RaceAt) → In r races → In r (races_of g))
    → IsCollected g merged → merged ≡ races
collected_is g races merged a f h c =
    same_races merged races (Ascends-from_increasing merged c.is_report.ascending) a
    (λ l. c.best_on l ∙ best_agree l (races_of g) races f h (λ r s i j e p. one_on races r s a (f r i) (f s j) e) ∙ best-apart l races (apart races a))

-- ---- the law

pub parts_make_whole : PartsMakeWhole
parts_make_whole n parts races merged some all asc m = collected_is (backs_of_reports reports) races merged (Ascends-from_increasing races asc) from to m
  where
    reports : List (List RaceAt)
    reports = reports_of_parts parts races

    of_part : Part → List RaceAt
    of_part part = races_of_part part races

    from : (r : RaceAt) → In r (races_of (backs_of_reports reports)) → In r races
    from r h =
        let p = from_given reports r h in
        let q = from_map of_part parts p.0 p.1 in
        from_filter (λ s. eqb (s.location % q.0.count) q.0.index) races r (subst (In r) (sym q.2) p.2)

    to : (r : RaceAt) → In r races → In r (races_of (backs_of_reports reports))
    to r h =
        let p = all (r.location % n) (mod-lt r.location some) in
        let own : eqb (r.location % p.0.count) p.0.index ≡ true = eq-eqb (r.location % p.0.count) p.0.index (ap (λ c. r.location % c) p.2 ∙ sym p.3) in
        in_given reports (of_part p.0) r (in_map of_part parts p.0 (In_from parts p.0 p.1)) (in_filter (λ s. eqb (s.location % p.0.count) p.0.index) races r h own)

pub parts_make_trace : PartsMakeTrace
parts_make_trace w n parts races merged some all h m = subst (IsReport w) (sym (parts_make_whole n parts races merged some all h.ascending m)) h

pub merges_with_itself : MergesWithItself
merges_with_itself races merged asc m = collected_is (backs_of_reports two) races merged (Ascends-from_increasing races asc) from (λ r h. in_given two races r (inl refl) h) m
  where
    two : List (List RaceAt)
    two = races ∷ races ∷ []

    one_of : (rs : List RaceAt) → In rs two → races ≡ rs
    one_of rs (inl e) = e
    one_of rs (inr (inl e)) = e
    one_of rs (inr (inr i)) = absurd i

    from : (r : RaceAt) → In r (races_of (backs_of_reports two)) → In r races
    from r h = let p = from_given two r h in subst (In r) (sym (one_of p.0 p.1)) p.2

pub order_is_free : OrderIsFree
order_is_free reports others merged also same distinct m k =
    same_races merged also (Ascends-from_increasing merged m.is_report.ascending) (Ascends-from_increasing also k.is_report.ascending)
    (λ l. m.best_on l ∙ best_agree l (races_of (backs_of_reports reports)) (races_of (backs_of_reports others)) to from apart_places ∙ sym (k.best_on l))
  where
    to : (r : RaceAt) → In r (races_of (backs_of_reports reports)) → In r (races_of (backs_of_reports others))
    to r h = let p = from_given reports r h in in_given others p.0 r (In_from others p.0 ((same p.0).0 (Contains_from reports p.0 p.1))) p.2

    from : (r : RaceAt) → In r (races_of (backs_of_reports others)) → In r (races_of (backs_of_reports reports))
    from r h = let p = from_given others r h in in_given reports p.0 r (In_from reports p.0 ((same p.0).1 (Contains_from others p.0 p.1))) p.2

    apart_places : AreDistinct (races_of (backs_of_reports reports))
    apart_places r s i j e q =
        let p = from_given reports r i in
        let t = from_given reports s j in
        distinct p.0 t.0 r s (Contains_from reports p.0 p.1) (Contains_from p.0 r p.2) (Contains_from reports t.0 t.1) (Contains_from t.0 s t.2) e q
