-- Parts: what is found in a part's records are the races of its locations, each by its location's number.
use Rattle.shadow.proofs.Common.{◌≡◌, ℕ, ◌+◌, ◌*◌, ◌/◌, ◌%◌, Bool, true, false, filter, List, [], ◌∷◌, ◌++◌, map, Option, Some, None, option_to_list, ⊎_elim, refl, sym, ap, ap₂, subst, ◌∙◌, AllByRecursion, cases_Bool, cases_eq, cond-true, cond-false, eqb-true, map-append, div-mul-add, div-add-mod', Record, Kind, Read, Write, Access, Placed, Part, RaceAt, goes, goes_placed, share, numbered, numbered_at, records_of, location_at, races_of_part, Procedures, event, Cell, touched, race_at, race_with, rival, State, state_at_start, after_access, after_record, race_of, found_from, found}
use Rattle.dag.specs.declared.records.Record.TheVariants as records
use Rattle.shadow.proofs.FoundLaws.{kept-same, kept-other}
use Rattle.shadow.proofs.Sharing.{found-share}

-- a race whose location is a number in a part, at the location of that number
abbrev pub located : Part → RaceAt → RaceAt
located part r = record { location = location_at part r.location; first = r.first; second = r.second }

pub number_of_location : (part : Part) (m : ℕ) → location_at part m / part.count ≡ m
number_of_location part m = div-mul-add m part.count part.index part.within

-- a location of the part is that of its number
abbrev IsOf : Part → ℕ → Type 0
IsOf part l = l % part.count ≡ part.index

location_of_number : (part : Part) (l : ℕ) → IsOf part l → location_at part (l / part.count) ≡ l
location_of_number part l h = ap (λ k. l / part.count * part.count + k) (sym h) ∙ div-add-mod' l part.count

-- two states have the same bags, and the cell of each number is the cell of its location
record Agree (part : Part) (s z : State) : Type 0 where
  bags : z.bags ≡ s.bags
  kept : (m : ℕ) → z.kept m ≡ s.kept (location_at part m)

agree_event : (part : Part) (s z : State) (r : Record) → Agree part s z → Agree part (record { bags = event s.bags r; kept = s.kept }) (record { bags = event z.bags r; kept = z.kept })
agree_event part s z r a = record { bags = ap (λ (b : Procedures). event b r) a.bags; kept = a.kept }

kept_here : (part : Part) (s z : State) (l : ℕ) → Agree part s z → IsOf part l → z.kept (l / part.count) ≡ s.kept l
kept_here part s z l a h = a.kept (l / part.count) ∙ ap s.kept (location_of_number part l h)

-- an access of a location of the part changes both alike
agree_access : (part : Part) (s z : State) (l : ℕ) (q : Kind) (place : ℕ) → Agree part s z → IsOf part l → Agree part (after_access s l q place) (after_access z (l / part.count) q place)
agree_access part s z l q place a h = record {
  bags = a.bags;
  kept = λ m. ⊎_elim
      (λ e. subst (λ (x : ℕ). (after_access z (l / part.count) q place).kept x ≡ (after_access s l q place).kept (location_at part x)) (sym e)
      (kept-same z (l / part.count) q place
      ∙ ap₂ (λ (b : Procedures) (c : Cell). touched b.active q place c) a.bags (kept_here part s z l a h)
      ∙ sym (kept-same s l q place)
      ∙ ap (after_access s l q place).kept (sym (location_of_number part l h))))
      (λ e. kept-other z (l / part.count) m q place e ∙ a.kept m
      ∙ sym (kept-other s l (location_at part m) q place (λ same. e (sym (number_of_location part m) ∙ ap (λ x. x / part.count) same))))
      (cases_eq m (l / part.count));
}

-- the race that is reported by the number is that of the location
race_moved : (part : Part) (l : ℕ) (q : Kind) (place : ℕ) (reported : Bool) (o : Option Access) → IsOf part l
    → map (located part) (option_to_list (race_with (l / part.count) q place reported o)) ≡ option_to_list (race_with l q place reported o)
race_moved part l q place reported None h = refl
race_moved part l q place true (Some f) h = refl
race_moved part l q place false (Some f) h = ap (λ (m : ℕ). record { location = m; first = f; second = record { kind = q; place = place } } ∷ []) (location_of_number part l h)

race_of_number : (part : Part) (s z : State) (l : ℕ) (q : Kind) (place : ℕ) → Agree part s z → IsOf part l
    → map (located part) (option_to_list (race_at z.bags.active (l / part.count) q place (z.kept (l / part.count)))) ≡ option_to_list (race_at s.bags.active l q place (s.kept l))
race_of_number part s z l q place a h =
    ap₂ (λ (b : Procedures) (c : Cell). map (located part) (option_to_list (race_at b.active (l / part.count) q place c))) a.bags (kept_here part s z l a h)
    ∙ race_moved part l q place (s.kept l).reported (rival s.bags.active q (s.kept l)) h

-- the law for the rest of the records
abbrev Moved : Part → List Placed → Type 0
Moved part u = (s z : State) → Agree part s z → map (located part) (found_from z (map (numbered_at part.count) u)) ≡ found_from s u

moved_access : (part : Part) (l : ℕ) (q : Kind) (place : ℕ) (u : List Placed) → Moved part u → (s z : State) → Agree part s z → IsOf part l
    → map (located part) (option_to_list (race_at z.bags.active (l / part.count) q place (z.kept (l / part.count))) ++ found_from (after_access z (l / part.count) q place) (map (numbered_at part.count) u))
    ≡ option_to_list (race_at s.bags.active l q place (s.kept l)) ++ found_from (after_access s l q place) u
moved_access part l q place u ih s z a h =
    map-append (located part) (option_to_list (race_at z.bags.active (l / part.count) q place (z.kept (l / part.count)))) _
    ∙ ap₂ (λ (x y : List RaceAt). x ++ y) (race_of_number part s z l q place a h) (ih _ _ (agree_access part s z l q place a h))

moved_step : (part : Part) (place : ℕ) (r : Record) (u : List Placed) → Moved part u → (s z : State) → Agree part s z → goes part.index part.count r ≡ true
    → map (located part) (option_to_list (race_of z place (numbered part.count r)) ++ found_from (after_record z place (numbered part.count r)) (map (numbered_at part.count) u))
    ≡ option_to_list (race_of s place r) ++ found_from (after_record s place r) u
moved_step part place records.Spawn u ih s z a h = ih _ _ (agree_event part s z records.Spawn a)
moved_step part place records.Call u ih s z a h = ih _ _ (agree_event part s z records.Call a)
moved_step part place records.Return u ih s z a h = ih _ _ (agree_event part s z records.Return a)
moved_step part place records.Sync u ih s z a h = ih _ _ (agree_event part s z records.Sync a)
moved_step part place (records.Read l) u ih s z a h = moved_access part l Read place u ih s z a (eqb-true (l % part.count) part.index h)
moved_step part place (records.Write l) u ih s z a h = moved_access part l Write place u ih s z a (eqb-true (l % part.count) part.index h)

moved_from : (part : Part) (u : List Placed) → AllByRecursion (λ p. goes_placed part.index part.count p ≡ true) u → Moved part u
moved_from part [] h s z a = refl
moved_from part (p ∷ u) h s z a = moved_step part p.place p.what u (moved_from part u h.1) s z a h.0

-- each record of a filtered list passes
pub all_pass : {X : Type 0} (p : X → Bool) (xs : List X) → AllByRecursion (λ x. p x ≡ true) (filter p xs)
all_pass p [] = tt
all_pass {X = X} p (x ∷ xs) =
    let P : List X → Type 0 = AllByRecursion (λ y. p y ≡ true) in
    ⊎_elim
    (λ e. subst P (sym (cond-true (p x) _ _ e)) (e, all_pass p xs))
    (λ e. subst P (sym (cond-false (p x) _ _ e)) (all_pass p xs))
    (cases_Bool (p x))

-- what is found in a part's records, each at its location again, are the races of the part's locations
pub found-part : (part : Part) (u : List Placed) → map (located part) (found (records_of part u)) ≡ races_of_part part (found u)
found-part part u =
    moved_from part (share part.index part.count u) (all_pass (goes_placed part.index part.count) u) state_at_start state_at_start (record { bags = refl; kept = λ m. refl })
    ∙ found-share part.index part.count u
