-- Sharing: a shard finds in its share the races of its own locations.
use Rattle.shadow.proofs.Common.{◌≡◌, ℕ, ◌%◌, Bool, true, false, cond, ◌==◌, filter, List, [], ◌∷◌, ◌++◌, Option, Some, None, option_to_list, ⊎_elim, refl, sym, ap, ap₂, subst, ◌∙◌, cases_Bool, cases_eq, cond-true, cond-false, Record, Kind, Read, Write, Access, Placed, RaceAt, goes, share, Procedures, event, Cell, touched, race_at, race_with, State, state_at_start, after_access, after_record, race_of, found_from, found}
use Rattle.std.proofs.lemmas.List.Elements.{filter-append}
use Rattle.dag.specs.declared.records.Record.TheVariants as records
use Rattle.shadow.proofs.FoundLaws.{kept-same, kept-other, race_with-is}

-- whether a location is of shard k of n
abbrev pub is_of : ℕ → ℕ → ℕ → Bool
is_of k n l = l % n == k

abbrev pub of_shard : ℕ → ℕ → RaceAt → Bool
of_shard k n r = r.location % n == k

-- two states have the same bags, and the same cells of a shard's locations
record Agree (k n : ℕ) (s z : State) : Type 0 where
  bags : z.bags ≡ s.bags
  kept : (l : ℕ) → is_of k n l ≡ true → z.kept l ≡ s.kept l

agree_event : (k n : ℕ) (s z : State) (r : Record) → Agree k n s z → Agree k n (record { bags = event s.bags r; kept = s.kept }) (record { bags = event z.bags r; kept = z.kept })
agree_event k n s z r a = record { bags = ap (λ (b : Procedures). event b r) a.bags; kept = a.kept }

touch_same : (s z : State) (q : Kind) (place : ℕ) (c d : Cell) → z.bags ≡ s.bags → d ≡ c → touched z.bags.active q place d ≡ touched s.bags.active q place c
touch_same s z q place c d e f = ap₂ (λ (b : Procedures) (x : Cell). touched b.active q place x) e f

race_same : (s z : State) (l : ℕ) (q : Kind) (place : ℕ) (c d : Cell) → z.bags ≡ s.bags → d ≡ c → race_at z.bags.active l q place d ≡ race_at s.bags.active l q place c
race_same s z l q place c d e f = ap₂ (λ (b : Procedures) (x : Cell). race_at b.active l q place x) e f

-- an access of the shard changes both alike
agree_access : (k n : ℕ) (s z : State) (l : ℕ) (q : Kind) (place : ℕ) → Agree k n s z → is_of k n l ≡ true → Agree k n (after_access s l q place) (after_access z l q place)
agree_access k n s z l q place a h = record {
  bags = a.bags;
  kept = λ m g. ⊎_elim
      (λ e. subst (λ (x : ℕ). (after_access z l q place).kept x ≡ (after_access s l q place).kept x) (sym e)
      (kept-same z l q place ∙ (touch_same s z q place _ _ a.bags (a.kept l h) ∙ sym (kept-same s l q place))))
      (λ e. kept-other z l m q place e ∙ (a.kept m g ∙ sym (kept-other s l m q place e)))
      (cases_eq m l);
}

-- an access of another shard changes no cell of this one
agree_other : (k n : ℕ) (s z : State) (l : ℕ) (q : Kind) (place : ℕ) → Agree k n s z → is_of k n l ≡ false → Agree k n (after_access s l q place) z
agree_other k n s z l q place a h = record {
  bags = a.bags;
  kept = λ m g. a.kept m g ∙ sym (kept-other s l m q place (λ e. let x : is_of k n l ≡ true = subst (λ (i : ℕ). is_of k n i ≡ true) e g in absurd (cc)));
}

-- a race of a location passes the shard's test just where its location does
filter_some : (k n : ℕ) (o : Option RaceAt) (b : Bool) → ((x : RaceAt) → o ≡ Some x → of_shard k n x ≡ b) → filter (of_shard k n) (option_to_list o) ≡ cond b (option_to_list o) []
filter_some k n None true f = refl
filter_some k n None false f = refl
filter_some k n (Some x) true f = cond-true (of_shard k n x) _ _ (f x refl)
filter_some k n (Some x) false f = cond-false (of_shard k n x) _ _ (f x refl)

race_shard : (k n l : ℕ) (q : Kind) (place : ℕ) (reported : Bool) (o : Option Access) (b : Bool) → is_of k n l ≡ b → (x : RaceAt) → race_with l q place reported o ≡ Some x → of_shard k n x ≡ b
race_shard k n l q place reported o b h x e = subst (λ (i : ℕ). is_of k n i ≡ b) (sym (race_with-is l q place reported o x e).0) h

filter_race : (k n : ℕ) (s : State) (l : ℕ) (q : Kind) (place : ℕ) (b : Bool) (rs : List RaceAt) → is_of k n l ≡ b
    → filter (of_shard k n) (option_to_list (race_at s.bags.active l q place (s.kept l)) ++ rs) ≡ cond b (option_to_list (race_at s.bags.active l q place (s.kept l))) [] ++ filter (of_shard k n) rs
filter_race k n s l q place b rs h =
    filter-append (of_shard k n) (option_to_list (race_at s.bags.active l q place (s.kept l))) rs
    ∙ ap (λ (x : List RaceAt). x ++ filter (of_shard k n) rs) (filter_some k n (race_at s.bags.active l q place (s.kept l)) b (λ x e. race_shard k n l q place _ _ b h x e))

-- the law for the rest of the records
abbrev Shared : ℕ → ℕ → List Placed → Type 0
Shared k n u = (s z : State) → Agree k n s z → found_from z (share k n u) ≡ filter (of_shard k n) (found_from s u)

access_in : (k n : ℕ) (l : ℕ) (q : Kind) (place : ℕ) (u : List Placed) → Shared k n u → (s z : State) → Agree k n s z → is_of k n l ≡ true
    → option_to_list (race_at z.bags.active l q place (z.kept l)) ++ found_from (after_access z l q place) (share k n u) ≡ filter (of_shard k n) (option_to_list (race_at s.bags.active l q place (s.kept l)) ++ found_from (after_access s l q place) u)
access_in k n l q place u ih s z a h =
    ap₂ (λ (o : Option RaceAt) (x : List RaceAt). option_to_list o ++ x) (race_same s z l q place _ _ a.bags (a.kept l h)) (ih (after_access s l q place) (after_access z l q place) (agree_access k n s z l q place a h))
    ∙ sym (filter_race k n s l q place true _ h)

access_out : (k n : ℕ) (l : ℕ) (q : Kind) (place : ℕ) (u : List Placed) → Shared k n u → (s z : State) → Agree k n s z → is_of k n l ≡ false
    → found_from z (share k n u) ≡ filter (of_shard k n) (option_to_list (race_at s.bags.active l q place (s.kept l)) ++ found_from (after_access s l q place) u)
access_out k n l q place u ih s z a h = ih (after_access s l q place) z (agree_other k n s z l q place a h) ∙ sym (filter_race k n s l q place false _ h)

share_step : (k n place : ℕ) (r : Record) (u : List Placed) → Shared k n u → (s z : State) → Agree k n s z
    → found_from z (cond (goes k n r) (record { place = place; what = r } ∷ share k n u) (share k n u)) ≡ filter (of_shard k n) (option_to_list (race_of s place r) ++ found_from (after_record s place r) u)
share_step k n place records.Spawn u ih s z a = ih _ _ (agree_event k n s z records.Spawn a)
share_step k n place records.Call u ih s z a = ih _ _ (agree_event k n s z records.Call a)
share_step k n place records.Return u ih s z a = ih _ _ (agree_event k n s z records.Return a)
share_step k n place records.Sync u ih s z a = ih _ _ (agree_event k n s z records.Sync a)
share_step k n place (records.Read l) u ih s z a = ⊎_elim
    (λ h. ap (found_from z) (cond-true (is_of k n l) _ _ h) ∙ access_in k n l Read place u ih s z a h)
    (λ h. ap (found_from z) (cond-false (is_of k n l) _ _ h) ∙ access_out k n l Read place u ih s z a h)
    (cases_Bool (is_of k n l))
share_step k n place (records.Write l) u ih s z a = ⊎_elim
    (λ h. ap (found_from z) (cond-true (is_of k n l) _ _ h) ∙ access_in k n l Write place u ih s z a h)
    (λ h. ap (found_from z) (cond-false (is_of k n l) _ _ h) ∙ access_out k n l Write place u ih s z a h)
    (cases_Bool (is_of k n l))

share_from : (k n : ℕ) (u : List Placed) → Shared k n u
share_from k n [] s z a = refl
share_from k n (p ∷ u) s z a = share_step k n p.place p.what u (share_from k n u) s z a

-- what a shard finds in its share: the races of its locations
pub found-share : (k n : ℕ) (u : List Placed) → found (share k n u) ≡ filter (λ r. r.location % n == k) (found u)
found-share k n u = share_from k n u state_at_start state_at_start (record { bags = refl; kept = λ l h. refl })
