-- An access to units of a page is what accesses to its units one by one are.
use Rattle.online.proofs.Common.{◌≡◌, ◌≢◌, ℕ, zero, suc, ◌+◌, ◌^◌, ◌<◌, ◌≤◌, Bool, true, false, List, [], ◌∷◌, ◌++◌, cond, nat_eq, refl, sym, ap, ◌∙◌, ⊎_elim, arith, append-nil, None, cases_lt, eq-eqb, ne_eqb, eqb_tells, option_to_list, Kind, Placed, RaceAt, access, Procedures, touched, race_at, State, state_from, found_from, after_record, with_cell, state_from-append, found_from-append, has, units_before, location_of, touched_at, block_of, unit_of, first_of, kept_after_units, races_in_block, accesses, location_page, location_unit}
use Rattle.blocks.specs.Pages.{races_up_to}
use Rattle.online.specs.Accesses.{accesses_up_to}
use Rattle.dag.specs.declared.records.Kind.TheVariants.{Read, Write}
use Rattle.shadow.specs.Found as rules
use Rattle.online.proofs.Lived.{IsWithin, AreWithin}

-- what such accesses do to a state, up to a unit
pub record HaveRun (s : State) (page : ℕ) (kind : Kind) (place units n : ℕ) : Type 0 where
  pub bags : (state_from s (accesses_up_to (first_of page) kind place units n)).bags ≡ s.bags
  pub here : (l : ℕ) → block_of l ≡ page → unit_of l < n → (state_from s (accesses_up_to (first_of page) kind place units n)).kept l ≡ touched_at s.bags.active kind place units (unit_of l) (s.kept l)
  pub elsewhere : (l : ℕ) → (block_of l ≡ page → n ≤ unit_of l) → (state_from s (accesses_up_to (first_of page) kind place units n)).kept l ≡ s.kept l
  pub races : found_from s (accesses_up_to (first_of page) kind place units n) ≡ races_up_to s.bags.active (first_of page) kind place units (λ i. s.kept (location_of (first_of page) i)) n

run_none : (s : State) (page : ℕ) (kind : Kind) (place units : ℕ) → HaveRun s page kind place units 0
unfolding accesses_up_to races_up_to
run_none s page kind place units = record {
  bags = refl;
  here = λ l e h. absurd (omega (arith, h));
  elsewhere = λ l f. refl;
  races = refl;
}

-- the location of a unit
its_location : (page n l : ℕ) → block_of l ≡ page → unit_of l ≡ n → l ≡ location_of (first_of page) n
its_location page n l e f = omega (arith, e, f)

run_same : (s : State) (page : ℕ) (kind : Kind) (place units n : ℕ) → has units n ≡ false → HaveRun s page kind place units n → HaveRun s page kind place units (suc n)
unfolding accesses_up_to races_up_to
run_same s page kind place units n e r =
    let first = first_of page in
    let A : ℕ → List Placed = accesses_up_to first kind place units in
    let a : Placed = record { place = place + units_before units n; what = access kind (location_of first n) } in
    let is : A (suc n) ≡ A n = ap (λ b. A n ++ cond b (a ∷ []) []) e ∙ append-nil (A n) in
    let R : List RaceAt = races_up_to s.bags.active first kind place units (λ i. s.kept (location_of first i)) n in
    record {
      bags = ap (λ v. (state_from s v).bags) is ∙ r.bags;
      here = λ l p h. ap (λ v. (state_from s v).kept l) is ∙ ⊎_elim
          (λ (k : unit_of l < n). r.here l p k)
          (λ (k : n ≤ unit_of l). let u : unit_of l ≡ n = omega (arith, h, k) in r.elsewhere l (λ x. k) ∙ sym (ap (λ b. cond b (touched s.bags.active kind (place + units_before units (unit_of l)) (s.kept l)) (s.kept l)) (ap (has units) u ∙ e)))
          (cases_lt (unit_of l) n);
      elsewhere = λ l f. ap (λ v. (state_from s v).kept l) is ∙ r.elsewhere l (λ x. omega (arith, f x));
      races = ap (found_from s) is ∙ r.races ∙ sym (ap (λ b. R ++ option_to_list (cond b (race_at s.bags.active (location_of first n) kind (place + units_before units n) (s.kept (location_of first n))) None)) e ∙ append-nil R);
    }

access_bags : (s : State) (p l : ℕ) (kind : Kind) → (after_record s p (access kind l)).bags ≡ s.bags
access_bags s p l Read = refl
access_bags s p l Write = refl

access_kept : (s : State) (p l : ℕ) (kind : Kind) (m : ℕ) → (after_record s p (access kind l)).kept m ≡ with_cell l (touched s.bags.active kind p (s.kept l)) s.kept m
access_kept s p l Read m = refl
access_kept s p l Write m = refl

access_race : (s : State) (p l : ℕ) (kind : Kind) → rules.race_of s p (access kind l) ≡ race_at s.bags.active l kind p (s.kept l)
access_race s p l Read = refl
access_race s p l Write = refl

run_more : (s : State) (page : ℕ) (kind : Kind) (place units n : ℕ) → n < 64 → has units n ≡ true → HaveRun s page kind place units n → HaveRun s page kind place units (suc n)
unfolding accesses_up_to races_up_to
run_more s page kind place units n h e r =
    let first = first_of page in
    let loc = location_of first n in
    let p = place + units_before units n in
    let A : ℕ → List Placed = accesses_up_to first kind place units in
    let a : Placed = record { place = p; what = access kind loc } in
    let t : State = state_from s (A n) in
    let is : A (suc n) ≡ A n ++ a ∷ [] = ap (λ b. A n ++ cond b (a ∷ []) []) e in
    let after : state_from s (A (suc n)) ≡ after_record t p (access kind loc) = ap (state_from s) is ∙ state_from-append s (A n) (a ∷ []) in
    let old : t.kept loc ≡ s.kept loc = r.elsewhere loc (λ x. omega (arith, location_unit page n h)) in
    let new : touched t.bags.active kind p (t.kept loc) ≡ touched s.bags.active kind p (s.kept loc) = ap (λ (b : Procedures). touched b.active kind p (t.kept loc)) r.bags ∙ ap (touched s.bags.active kind p) old in
    let other : (l : ℕ) → l ≢ loc → (state_from s (A (suc n))).kept l ≡ t.kept l
    = λ l ne. ap (λ (x : State). x.kept l) after ∙ access_kept t p loc kind l ∙ ap (λ b. cond b (touched t.bags.active kind p (t.kept loc)) (t.kept l)) (ne_eqb l loc ne) in
    let R : List RaceAt = races_up_to s.bags.active first kind place units (λ i. s.kept (location_of first i)) n in
    record {
      bags = ap (λ (x : State). x.bags) after ∙ access_bags t p loc kind ∙ r.bags;
      here = λ l q k. ⊎_elim
          (λ (j : unit_of l < n). other l (λ x. omega (arith, j, ap unit_of x, location_unit page n h)) ∙ r.here l q j)
          (λ (j : n ≤ unit_of l).
          let u : unit_of l ≡ n = omega (arith, k, j) in
          let x : l ≡ loc = its_location page n l q u in
          ap (λ (y : State). y.kept l) after ∙ access_kept t p loc kind l ∙ ap (λ b. cond b (touched t.bags.active kind p (t.kept loc)) (t.kept l)) (eq-eqb l loc x) ∙ new
          ∙ ap (λ m. touched s.bags.active kind p (s.kept m)) (sym x) ∙ ap (λ m. touched s.bags.active kind (place + units_before units m) (s.kept l)) (sym u)
          ∙ sym (ap (λ b. cond b (touched s.bags.active kind (place + units_before units (unit_of l)) (s.kept l)) (s.kept l)) (ap (has units) u ∙ e)))
          (cases_lt (unit_of l) n);
      elsewhere = λ l f. other l (λ x. omega (arith, f (ap block_of x ∙ location_page page n h), ap unit_of x, location_unit page n h)) ∙ r.elsewhere l (λ q. omega (arith, f q));
      races = ap (found_from s) is ∙ found_from-append s (A n) (a ∷ []) ∙ ap (λ rs. rs ++ found_from t (a ∷ [])) r.races
          ∙ ap (λ rs. R ++ rs) (append-nil (option_to_list (rules.race_of t p (access kind loc))) ∙ ap option_to_list (access_race t p loc kind
          ∙ ap (λ (b : Procedures). race_at b.active loc kind p (t.kept loc)) r.bags ∙ ap (race_at s.bags.active loc kind p) old
          ∙ sym (ap (λ b. cond b (race_at s.bags.active loc kind p (s.kept loc)) None) e)));
    }

run_one : (s : State) (page : ℕ) (kind : Kind) (place units n : ℕ) → n < 64 → (b : Bool) → has units n ≡ b → HaveRun s page kind place units n → HaveRun s page kind place units (suc n)
run_one s page kind place units n h true e r = run_more s page kind place units n h e r
run_one s page kind place units n h false e r = run_same s page kind place units n e r

-- all units
pub run_all : (s : State) (page : ℕ) (kind : Kind) (place units n : ℕ) → n ≤ 64 → HaveRun s page kind place units n
run_all s page kind place units zero h = run_none s page kind place units
run_all s page kind place units (suc n) h = run_one s page kind place units n (omega (arith, h)) (has units n) refl (run_all s page kind place units n (omega (arith, h)))

-- what is kept after such accesses
pub seen_units : (s : State) (location : ℕ) (kind : Kind) (place units : ℕ)
    → ((state_from s (accesses location kind place units)).bags ≡ s.bags) × ((l : ℕ) → (state_from s (accesses location kind place units)).kept l ≡ kept_after_units s.bags.active kind place units (block_of location) s.kept l)
seen_units s location kind place units = (r.bags, (λ l. ⊎_elim (here l) (there l) (eqb_tells (block_of l) page)))
  where
    page : ℕ
    page = block_of location

    r : HaveRun s page kind place units 64
    r = run_all s page kind place units 64 (omega arith)

    here : (l : ℕ) → (nat_eq (block_of l) page ≡ true) × (block_of l ≡ page) → (state_from s (accesses location kind place units)).kept l ≡ kept_after_units s.bags.active kind place units page s.kept l
    here l (e, f) = r.here l f (omega arith) ∙ sym (ap (λ b. cond b (touched_at s.bags.active kind place units (unit_of l) (s.kept l)) (s.kept l)) e)

    there : (l : ℕ) → (nat_eq (block_of l) page ≡ false) × (block_of l ≢ page) → (state_from s (accesses location kind place units)).kept l ≡ kept_after_units s.bags.active kind place units page s.kept l
    there l (e, f) = r.elsewhere l (λ x. absurd (f x)) ∙ sym (ap (λ b. cond b (touched_at s.bags.active kind place units (unit_of l) (s.kept l)) (s.kept l)) e)

-- the races that are reported at them
pub found_units : (s : State) (location : ℕ) (kind : Kind) (place units : ℕ) → found_from s (accesses location kind place units) ≡ races_in_block s.bags.active kind place units (block_of location) s.kept
found_units s location kind place units = (run_all s (block_of location) kind place units 64 (omega arith)).races

-- the locations of such accesses
within_up_to : (first : ℕ) (kind : Kind) (place units n : ℕ) → n ≤ 64 → first + 126 < 2 ^ 64 → AreWithin (accesses_up_to first kind place units n)
unfolding accesses_up_to
within_up_to first kind place units zero h f = tt
within_up_to first kind place units (suc n) h f = within_append (accesses_up_to first kind place units n) _ (within_up_to first kind place units n (omega (arith, h)) f) (one (has units n))
  where
    within_access : (k : Kind) (l : ℕ) → l < 2 ^ 64 → IsWithin (access k l)
    within_access Read l g = g
    within_access Write l g = g

    one : (b : Bool) → AreWithin (cond b (record { place = place + units_before units n; what = access kind (location_of first n) } ∷ []) [])
    one true = (within_access kind (location_of first n) (omega (arith, h, f)), tt)
    one false = tt

    within_append : (v w : List Placed) → AreWithin v → AreWithin w → AreWithin (v ++ w)
    within_append [] w g k = k
    within_append (p ∷ v) w g k = (g.0, within_append v w g.1 k)

pub within_units : (location : ℕ) (kind : Kind) (place units : ℕ) → location < 2 ^ 64 → AreWithin (accesses location kind place units)
within_units location kind place units h = within_up_to (first_of (block_of location)) kind place units 64 (omega arith) (omega (arith, h))
