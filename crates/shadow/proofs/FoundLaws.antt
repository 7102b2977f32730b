-- Laws of the rules over lists of placed records, whatever trace they come from: appending, one location at a
-- time, and the order of the races that are reported.
use Rattle.shadow.proofs.Common.{◌≡◌, ◌≢◌, ℕ, zero, suc, ◌+◌, ◌<◌, Bool, true, false, ◌||◌, is_some, ◌==◌, List, [], ◌∷◌, ◌++◌, map, take, length, slice_get, Option, Some, None, option_to_list, refl, sym, ap, subst, ◌∙◌, arith, append-nil, append_assoc, AllByRecursion, IsStrictlyIncreasing, cond-true, cond-false, cond_both, eq-eqb, ne_eqb, eqb-true, or_left, same_Some, Record, Kind, Read, Write, Placed, Access, NoneOn, AreApart, Rises, AllAbove, AllAbove-lower, increasing-from_rises, placed_from, RaceAt, Active, Procedures, event, bags_from, bags_after, Cell, touched, race_at, race_with, State, state_at_start, after_access, after_record, race_of, state_from, state_after, found_from, found}
use Rattle.dag.specs.declared.records.Record.TheVariants as records

pub state_from-append : (s : State) (u v : List Placed) → state_from s (u ++ v) ≡ state_from (state_from s u) v
state_from-append s [] v = refl
state_from-append s (p ∷ u) v = state_from-append (after_record s p.place p.what) u v

pub found_from-append : (s : State) (u v : List Placed) → found_from s (u ++ v) ≡ found_from s u ++ found_from (state_from s u) v
found_from-append s [] v = refl
found_from-append s (p ∷ u) v =
    let e = found_from-append (after_record s p.place p.what) u v in
    rw (e, append_assoc) refl

pub state_after-push : (u : List Placed) (p : Placed) → state_after (u ++ p ∷ []) ≡ after_record (state_after u) p.place p.what
state_after-push u p = state_from-append state_at_start u (p ∷ [])

pub found-push : (u : List Placed) (p : Placed) → found (u ++ p ∷ []) ≡ found u ++ option_to_list (race_of (state_after u) p.place p.what)
found-push u p = found_from-append state_at_start u (p ∷ []) ∙ ap (λ (z : List RaceAt). found u ++ z) (append-nil _)

pub bags-after_record : (s : State) (place : ℕ) (r : Record) → (after_record s place r).bags ≡ event s.bags r
bags-after_record s place records.Spawn = refl
bags-after_record s place records.Call = refl
bags-after_record s place records.Return = refl
bags-after_record s place records.Sync = refl
bags-after_record s place (records.Read l) = refl
bags-after_record s place (records.Write l) = refl

pub bags-state_from : (s : State) (u : List Placed) → (state_from s u).bags ≡ bags_from s.bags u
bags-state_from s [] = refl
bags-state_from s (p ∷ u) = bags-state_from (after_record s p.place p.what) u ∙ ap (λ (b : Procedures). bags_from b u) (bags-after_record s p.place p.what)

-- the bags of a state are those of its records
pub bags-state_after : (u : List Placed) → (state_after u).bags ≡ bags_after u
bags-state_after u = bags-state_from state_at_start u

-- the records with their places, up to one of them
pub placed_from-push : (i t : ℕ) (w : List Record) (r : Record) (m : ℕ) → m ≡ i + t → slice_get w t ≡ Some r → take (suc t) (placed_from i w) ≡ take t (placed_from i w) ++ record { place = m; what = r } ∷ []
placed_from-push i t [] r m e h = absurd (cc)
placed_from-push i zero (x ∷ w) r m e h =
    let a : x ≡ r = cc in
    let b : i ≡ m = omega arith in
    λ j. record { place = b j; what = a j } ∷ []
placed_from-push i (suc t) (x ∷ w) r m e h = ap (λ (z : List Placed). record { place = i; what = x } ∷ z) (placed_from-push (suc i) t w r m (omega arith) h)

pub length-placed_from : (i : ℕ) (w : List Record) → length (placed_from i w) ≡ length w
length-placed_from i [] = refl
length-placed_from i (x ∷ w) = ap suc (length-placed_from (suc i) w)

-- One location at a time: an access touches its location's cell, and leaves the others; so does every other record.
pub kept-same : (s : State) (l : ℕ) (k : Kind) (place : ℕ) → (after_access s l k place).kept l ≡ touched s.bags.active k place (s.kept l)
kept-same s l k place = cond-true (l == l) _ _ (eq-eqb l l refl)

pub kept-other : (s : State) (l m : ℕ) (k : Kind) (place : ℕ) → m ≢ l → (after_access s l k place).kept m ≡ s.kept m
kept-other s l m k place h = cond-false (m == l) _ _ (ne_eqb m l h)

-- what a race that is reported says of itself: its location and its second place
pub race_with-is : (l : ℕ) (k : Kind) (place : ℕ) (reported : Bool) (o : Option Access) (x : RaceAt) → race_with l k place reported o ≡ Some x → (x.location ≡ l) × (x.second.place ≡ place) × (reported ≡ false)
race_with-is l k place reported None x e = absurd (cc)
race_with-is l k place true (Some f) x e = absurd (cc)
race_with-is l k place false (Some f) x e = let q = same_Some _ x e in (sym (ap (λ (r : RaceAt). r.location) q), sym (ap (λ (r : RaceAt). r.second.place) q), refl)

-- an access's race is of its location and place, and was not reported before
pub race_of-is : (s : State) (place : ℕ) (r : Record) (x : RaceAt) → race_of s place r ≡ Some x → (x.second.place ≡ place) × ((s.kept x.location).reported ≡ false)
race_of-is s place records.Spawn x e = absurd (cc)
race_of-is s place records.Call x e = absurd (cc)
race_of-is s place records.Return x e = absurd (cc)
race_of-is s place records.Sync x e = absurd (cc)
race_of-is s place (records.Read l) x e = let q = race_with-is l Read place _ _ x e in (q.1, subst (λ (m : ℕ). (s.kept m).reported ≡ false) (sym q.0) q.2)
race_of-is s place (records.Write l) x e = let q = race_with-is l Write place _ _ x e in (q.1, subst (λ (m : ℕ). (s.kept m).reported ≡ false) (sym q.0) q.2)

-- The order: where the places rise, the races come by their second places.

-- each place lies above the one before it, and the first above m
abbrev pub Rising : ℕ → List Placed → Type 0
Rising m [] = Unit {0}
Rising m (p ∷ u) = (m < p.place) × Rising p.place u

pub Rising-placed_from : (m i : ℕ) (w : List Record) → m < i → Rising m (placed_from i w)
Rising-placed_from m i [] h = tt
Rising-placed_from m i (x ∷ w) h = (h, Rising-placed_from i (suc i) w (omega arith))

pub Rising-take : (m t : ℕ) (u : List Placed) → Rising m u → Rising m (take t u)
Rising-take m zero u h = tt
Rising-take m (suc t) [] h = tt
Rising-take m (suc t) (p ∷ u) h = (h.0, Rising-take p.place t u h.1)

abbrev pub second_place : RaceAt → ℕ
second_place r = r.second.place

above_next : (m place : ℕ) (o : Option RaceAt) (rs : List RaceAt) → m < place → ((x : RaceAt) → o ≡ Some x → x.second.place ≡ place) → AllAbove second_place place rs → AllAbove second_place m (option_to_list o ++ rs)
above_next m place None rs h f a = AllAbove-lower second_place m place rs (omega arith) a
above_next m place (Some x) rs h f a = let e = f x refl in (omega arith, AllAbove-lower second_place m place rs (omega arith) a)

found-above : (s : State) (m : ℕ) (u : List Placed) → Rising m u → AllAbove second_place m (found_from s u)
found-above s m [] h = tt
found-above s m (p ∷ u) h = above_next m p.place _ _ h.0 (λ x e. (race_of-is s p.place p.what x e).0) (found-above (after_record s p.place p.what) p.place u h.1)

rises_next : (place : ℕ) (o : Option RaceAt) (rs : List RaceAt) → ((x : RaceAt) → o ≡ Some x → x.second.place ≡ place) → AllAbove second_place place rs → Rises second_place rs → Rises second_place (option_to_list o ++ rs)
rises_next place None rs f a r = r
rises_next place (Some x) rs f a r = let e = f x refl in (AllAbove-lower second_place _ place rs (omega arith) a, r)

pub found-rises : (s : State) (m : ℕ) (u : List Placed) → Rising m u → Rises second_place (found_from s u)
found-rises s m [] h = tt
found-rises s m (p ∷ u) h = rises_next p.place _ _ (λ x e. (race_of-is s p.place p.what x e).0) (found-above (after_record s p.place p.what) p.place u h.1) (found-rises (after_record s p.place p.what) p.place u h.1)

-- where the places rise, so do the second places of the races
pub found-increasing : (m : ℕ) (u : List Placed) → Rising m u → IsStrictlyIncreasing (map second_place (found u))
found-increasing m u h = increasing-from_rises second_place (found u) (found-rises state_at_start m u h)

-- Once: a location is reported at most once.

all_next : (P : RaceAt → Type 0) (o : Option RaceAt) (rs : List RaceAt) → ((x : RaceAt) → o ≡ Some x → P x) → AllByRecursion P rs → AllByRecursion P (option_to_list o ++ rs)
all_next P None rs f a = a
all_next P (Some x) rs f a = (f x refl, a)

reported-touched : (fs : List Active) (k : Kind) (place : ℕ) (c : Cell) → c.reported ≡ true → (touched fs k place c).reported ≡ true
reported-touched fs Read place c e = or_left c.reported _ e
reported-touched fs Write place c e = or_left c.reported _ e

reported-after_access : (s : State) (m : ℕ) (k : Kind) (place l : ℕ) → (s.kept l).reported ≡ true → ((after_access s m k place).kept l).reported ≡ true
reported-after_access s m k place l e = cond_both (l == m) (touched s.bags.active k place (s.kept m)) (s.kept l) (λ (c : Cell). c.reported ≡ true) (λ q. reported-touched s.bags.active k place (s.kept m) (subst (λ (z : ℕ). (s.kept z).reported ≡ true) (eqb-true l m q) e)) (λ q. e)

reported-after_record : (s : State) (place : ℕ) (r : Record) (l : ℕ) → (s.kept l).reported ≡ true → ((after_record s place r).kept l).reported ≡ true
reported-after_record s place records.Spawn l e = e
reported-after_record s place records.Call l e = e
reported-after_record s place records.Return l e = e
reported-after_record s place records.Sync l e = e
reported-after_record s place (records.Read m) l e = reported-after_access s m Read place l e
reported-after_record s place (records.Write m) l e = reported-after_access s m Write place l e

pub not_again : (s : State) (u : List Placed) (l : ℕ) → (s.kept l).reported ≡ true → NoneOn l (found_from s u)
not_again s [] l e = tt
not_again s (p ∷ u) l e = all_next (λ r. l ≢ r.location) _ _
    (λ x q z. let a = (race_of-is s p.place p.what x q).1 in let b : (s.kept x.location).reported ≡ true = subst (λ (i : ℕ). (s.kept i).reported ≡ true) z e in absurd (cc))
    (not_again (after_record s p.place p.what) u l (reported-after_record s p.place p.what l e))

reported_with : (l : ℕ) (k : Kind) (place : ℕ) (reported : Bool) (o : Option Access) (x : RaceAt) → race_with l k place reported o ≡ Some x → (reported || is_some o) ≡ true
reported_with l k place reported None x e = absurd (cc)
reported_with l k place true (Some f) x e = absurd (cc)
reported_with l k place false (Some f) x e = refl

reported_at : (fs : List Active) (l : ℕ) (k : Kind) (place : ℕ) (c : Cell) (x : RaceAt) → race_at fs l k place c ≡ Some x → (touched fs k place c).reported ≡ true
reported_at fs l Read place c x e = reported_with l Read place c.reported _ x e
reported_at fs l Write place c x e = reported_with l Write place c.reported _ x e

reported_access : (s : State) (l : ℕ) (k : Kind) (place : ℕ) (x : RaceAt) → race_at s.bags.active l k place (s.kept l) ≡ Some x → ((after_access s l k place).kept x.location).reported ≡ true
reported_access s l k place x e =
    let q = race_with-is l k place _ _ x e in
    subst (λ (m : ℕ). ((after_access s l k place).kept m).reported ≡ true) (sym q.0)
    (ap (λ (c : Cell). c.reported) (kept-same s l k place) ∙ reported_at s.bags.active l k place (s.kept l) x e)

-- a location that is reported counts as reported from then on
pub reported_then : (s : State) (place : ℕ) (r : Record) (x : RaceAt) → race_of s place r ≡ Some x → ((after_record s place r).kept x.location).reported ≡ true
reported_then s place records.Spawn x e = absurd (cc)
reported_then s place records.Call x e = absurd (cc)
reported_then s place records.Return x e = absurd (cc)
reported_then s place records.Sync x e = absurd (cc)
reported_then s place (records.Read l) x e = reported_access s l Read place x e
reported_then s place (records.Write l) x e = reported_access s l Write place x e

apart_next : (o : Option RaceAt) (rs : List RaceAt) → ((x : RaceAt) → o ≡ Some x → NoneOn x.location rs) → AreApart rs → AreApart (option_to_list o ++ rs)
apart_next None rs f a = a
apart_next (Some x) rs f a = (f x refl, a)

pub found_from-apart : (s : State) (u : List Placed) → AreApart (found_from s u)
found_from-apart s [] = tt
found_from-apart s (p ∷ u) = apart_next _ _ (λ x e. not_again (after_record s p.place p.what) u x.location (reported_then s p.place p.what x e)) (found_from-apart (after_record s p.place p.what) u)

-- a location whose race was reported stays so
reported_from : (s : State) (u : List Placed) (l : ℕ) → (s.kept l).reported ≡ true → ((state_from s u).kept l).reported ≡ true
reported_from s [] l e = e
reported_from s (p ∷ u) l e = reported_from (after_record s p.place p.what) u l (reported-after_record s p.place p.what l e)

-- and each race found is one of such a location
pub found-reported : (s : State) (u : List Placed) → AllByRecursion (λ r. ((state_from s u).kept r.location).reported ≡ true) (found_from s u)
found-reported s [] = tt
found-reported s (p ∷ u) = all_next (λ r. ((state_from s (p ∷ u)).kept r.location).reported ≡ true) (race_of s p.place p.what) (found_from (after_record s p.place p.what) u)
    (λ x e. reported_from (after_record s p.place p.what) u x.location (reported_then s p.place p.what x e)) (found-reported (after_record s p.place p.what) u)
