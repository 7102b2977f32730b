-- Records of locations in their lives do to the state after earlier ones what the records of the locations do to what a
-- detector keeps.
use Rattle.online.proofs.Common.{◌≡◌, ◌≢◌, ℕ, ◌%◌, ◌^◌, ◌<◌, ⊎_elim, arith, cond, nat_eq, Bool, true, false, List, [], ◌∷◌, ◌++◌, map, refl, sym, ◌∙◌, ap, Option, None, Some, option_to_list, AllByRecursion, ne_eqb, eq-eqb, eqb_tells, map-append, Kind, Record, Spawn, Call, Return, Sync, Read, Write, Placed, Access, Procedures, event, Cell, untouched, touched, race_at, race_with, rival, State, state_from, found_from, after_record, with_cell, named, in_life, placed_in_life, at_home}
use Rattle.shadow.specs.Found as rules

-- what is kept of a location in one state is what the other keeps of the location's present life
pub record IsLived (lives : ℕ → ℕ) (s t : State) : Type 0 where
  pub bags : s.bags ≡ t.bags
  pub kept : (l : ℕ) → l < 2 ^ 64 → s.kept l ≡ t.kept (named l (lives l))
  pub later : (l k : ℕ) → l < 2 ^ 64 → lives l < k → t.kept (named l k) ≡ untouched

-- the location of a record, if it has one, has a life of its own
abbrev pub IsWithin : Record → Type 0
IsWithin Spawn = Unit {0}
IsWithin Call = Unit {0}
IsWithin Return = Unit {0}
IsWithin Sync = Unit {0}
IsWithin (Read l) = l < 2 ^ 64
IsWithin (Write l) = l < 2 ^ 64

abbrev pub AreWithin : List Placed → Type 0
AreWithin v = AllByRecursion (λ p. IsWithin p.what) v

apart : (l m j k : ℕ) → l < 2 ^ 64 → m < 2 ^ 64 → m ≢ l → named m j ≢ named l k
apart l m j k f g ne e = omega (arith, f, g, ne, e)

other_life : (l j k : ℕ) → j < k → named l k ≢ named l j
other_life l j k h e = omega (arith, h, e)

home : (l k : ℕ) → l < 2 ^ 64 → named l k % 2 ^ 64 ≡ l
home l k h = omega (arith, h)

module _ (lives : ℕ → ℕ) (s t : State) (h : IsLived lives s t) (kind : Kind) (place l : ℕ) (f : l < 2 ^ 64) where
  abbrev x : ℕ
  x = named l (lives l)

  abbrev c : Cell
  c = touched s.bags.active kind place (s.kept l)

  abbrev d : Cell
  d = touched t.bags.active kind place (t.kept x)

  same : c ≡ d
  same = λ i. touched (h.bags i).active kind place (h.kept l f i)

  access_kept : (m : ℕ) → m < 2 ^ 64 → with_cell l c s.kept m ≡ with_cell x d t.kept (named m (lives m))
  access_kept m g = ⊎_elim here there (eqb_tells m l)
    where
      Goal : Type 0
      Goal = with_cell l c s.kept m ≡ with_cell x d t.kept (named m (lives m))

      here : (nat_eq m l ≡ true) × (m ≡ l) → Goal
      here (b, e) = ap (λ q. cond q c (s.kept m)) b ∙ same ∙ sym (ap (λ q. cond q d (t.kept (named m (lives m)))) (eq-eqb (named m (lives m)) x (ap (λ n. named n (lives n)) e)))

      there : (nat_eq m l ≡ false) × (m ≢ l) → Goal
      there (b, n) = ap (λ q. cond q c (s.kept m)) b ∙ h.kept m g ∙ sym (ap (λ q. cond q d (t.kept (named m (lives m)))) (ne_eqb (named m (lives m)) x (apart l m (lives m) (lives l) f g n)))

  access_later : (m k : ℕ) → m < 2 ^ 64 → lives m < k → with_cell x d t.kept (named m k) ≡ untouched
  access_later m k g j = ap (λ q. cond q d (t.kept (named m k))) (ne_eqb (named m k) x (⊎_elim here there (eqb_tells m l))) ∙ h.later m k g j
    where
      here : (nat_eq m l ≡ true) × (m ≡ l) → named m k ≢ x
      here (b, e) z = other_life l (lives l) k (rw (← e) j) (ap (λ n. named n k) (sym e) ∙ z)

      there : (nat_eq m l ≡ false) × (m ≢ l) → named m k ≢ x
      there (b, n) = apart l m k (lives l) f g n

  pub access_lived : IsLived lives (record { bags = s.bags; kept = with_cell l c s.kept }) (record { bags = t.bags; kept = with_cell x d t.kept })
  access_lived = record { bags = h.bags; kept = access_kept; later = access_later }

  race_home : (b : Bool) (o : Option Access) → map at_home (option_to_list (race_with x kind place b o)) ≡ option_to_list (race_with l kind place b o)
  race_home b None = refl
  race_home true (Some a) = refl
  race_home false (Some a) = ap (λ n. record { location = n; first = a; second = record { kind = kind; place = place } } ∷ []) (home l (lives l) f)

  pub access_race : map at_home (option_to_list (race_at t.bags.active x kind place (t.kept x))) ≡ option_to_list (race_at s.bags.active l kind place (s.kept l))
  access_race = race_home (t.kept x).reported (rival t.bags.active kind (t.kept x)) ∙ sym (λ i. option_to_list (race_at (h.bags i).active l kind place (h.kept l f i)))

-- one record
pub record_lived : (lives : ℕ → ℕ) (s t : State) (place : ℕ) (r : Record) → IsWithin r → IsLived lives s t → IsLived lives (after_record s place r) (after_record t place (in_life lives r))
record_lived lives s t place Spawn w h = record { bags = ap (λ (b : Procedures). event b Spawn) h.bags; kept = h.kept; later = h.later }
record_lived lives s t place Call w h = record { bags = ap (λ (b : Procedures). event b Call) h.bags; kept = h.kept; later = h.later }
record_lived lives s t place Return w h = record { bags = ap (λ (b : Procedures). event b Return) h.bags; kept = h.kept; later = h.later }
record_lived lives s t place Sync w h = record { bags = ap (λ (b : Procedures). event b Sync) h.bags; kept = h.kept; later = h.later }
record_lived lives s t place (Read l) w h = access_lived lives s t h Kind.Read place l w
record_lived lives s t place (Write l) w h = access_lived lives s t h Kind.Write place l w

pub race_lived : (lives : ℕ → ℕ) (s t : State) (place : ℕ) (r : Record) → IsWithin r → IsLived lives s t → map at_home (option_to_list (rules.race_of t place (in_life lives r))) ≡ option_to_list (rules.race_of s place r)
race_lived lives s t place Spawn w h = refl
race_lived lives s t place Call w h = refl
race_lived lives s t place Return w h = refl
race_lived lives s t place Sync w h = refl
race_lived lives s t place (Read l) w h = access_race lives s t h Kind.Read place l w
race_lived lives s t place (Write l) w h = access_race lives s t h Kind.Write place l w

-- records one after another
pub all_lived : (lives : ℕ → ℕ) (s t : State) (v : List Placed) → AreWithin v → IsLived lives s t
    → IsLived lives (state_from s v) (state_from t (map (placed_in_life lives) v)) × (map at_home (found_from t (map (placed_in_life lives) v)) ≡ found_from s v)
all_lived lives s t [] w h = (h, refl)
all_lived lives s t (p ∷ v) w h =
    let rest = all_lived lives (after_record s p.place p.what) (after_record t p.place (in_life lives p.what)) v w.1 (record_lived lives s t p.place p.what w.0 h) in (
      rest.0,
      map-append at_home (option_to_list (rules.race_of t p.place (in_life lives p.what))) (found_from (after_record t p.place (in_life lives p.what)) (map (placed_in_life lives) v))
          ∙ (λ i. race_lived lives s t p.place p.what w.0 h i ++ rest.1 i),
    )
