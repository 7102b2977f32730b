-- The races found in the first records of a well nested trace are those of the dag up to there.
use Rattle.shadow.proofs.Common.{◌≡◌, ℕ, zero, suc, ◌<◌, ◌≤◌, Bool, true, false, List, [], ◌∷◌, ◌++◌, length, take, slice_get, Option, Some, None, option_to_list, ◌⊎◌, ◌↔◌, inl, inr, ⊎_elim, refl, sym, ap, subst, ◌∙◌, arith, cases_eq, cases_lt, take_all, same_Some, Record, Kind, Read, Write, Access, Placed, at, IsWellNested, placed, IsParallel, RaceAt, access, IsAccess, IsAccessPlace, IsRace, IsReported, Procedures, in_p, current, procedure_at, rival, race_at, race_with, State, after_access, after_record, race_of, state_after, found, element_at, IsPlace-at, IsAccessPlace-at, NoneBefore, In, reported_once}
use Rattle.dag.specs.declared.records.Record.TheVariants as records
use Rattle.bags.proofs.BagPaths.{in_p-parallel}
use Rattle.shadow.proofs.FoundLaws.{state_after-push, found-push, bags-state_after, placed_from-push, length-placed_from, kept-same, kept-other}
use Rattle.shadow.proofs.Cells.{Sees, IsCell, HasReported, RivalSays, IsElsewhere, rival_says, cell_stays, cell_touched, cell_start}

-- a state as it stands after the records up to t
pub record IsState (w : List Record) (t : ℕ) (s : State) : Type 0 where
  pub sees : IsAccessPlace w (suc t) → Sees w t s.bags.active
  pub runs : current s.bags.active ≡ procedure_at w (suc t)
  pub cells : (l : ℕ) → IsCell w l t (s.kept l)

-- what stands at a place is one record
not_structure : (w : List Record) (l j : ℕ) (r : Record) → at w j ≡ Some r → ((k : Kind) → r ≡ access k l → ⊥) → IsElsewhere w l j
not_structure w l j r e f k a = f k (same_Some r (access k l) (sym e ∙ a))

not_spawn : (l : ℕ) (k : Kind) → records.Spawn ≡ access k l → ⊥
not_spawn l Read e = cc
not_spawn l Write e = cc

not_call : (l : ℕ) (k : Kind) → records.Call ≡ access k l → ⊥
not_call l Read e = cc
not_call l Write e = cc

not_return : (l : ℕ) (k : Kind) → records.Return ≡ access k l → ⊥
not_return l Read e = cc
not_return l Write e = cc

not_sync : (l : ℕ) (k : Kind) → records.Sync ≡ access k l → ⊥
not_sync l Read e = cc
not_sync l Write e = cc

same_location : (l m : ℕ) (q k : Kind) → access q m ≡ access k l → l ≡ m
same_location l m Read Read e = cc
same_location l m Read Write e = absurd (cc)
same_location l m Write Read e = absurd (cc)
same_location l m Write Write e = cc

cells_access : (w : List Record) {n d : ℕ} → IsWellNested w n d → (t m : ℕ) (q : Kind) (s : State) → IsState w t s → IsAccess w m (suc t) q → (l : ℕ) → IsCell w l (suc t) ((after_access s m q (suc t)).kept l)
cells_access w v t m q s z a l = ⊎_elim
    (λ e. subst (λ (i : ℕ). IsCell w i (suc t) ((after_access s m q (suc t)).kept i)) (sym e)
    (subst (IsCell w m (suc t)) (sym (kept-same s m q (suc t)))
    (cell_touched w v m t s.bags.active (z.sees (IsAccessPlace-at w m (suc t) q a)) z.runs q a (s.kept m) (z.cells m))))
    (λ f. subst (IsCell w l (suc t)) (sym (kept-other s m l q (suc t) f))
    (cell_stays w l t (s.kept l) (not_structure w l (suc t) (access q m) a (λ k e. f (same_location l m q k e))) (z.cells l)))
    (cases_eq l m)

cells_step : (w : List Record) {n d : ℕ} → IsWellNested w n d → (t : ℕ) (r : Record) (s : State) → IsState w t s → at w (suc t) ≡ Some r → (l : ℕ) → IsCell w l (suc t) ((after_record s (suc t) r).kept l)
cells_step w v t records.Spawn s z a l = cell_stays w l t (s.kept l) (not_structure w l (suc t) _ a (not_spawn l)) (z.cells l)
cells_step w v t records.Call s z a l = cell_stays w l t (s.kept l) (not_structure w l (suc t) _ a (not_call l)) (z.cells l)
cells_step w v t records.Return s z a l = cell_stays w l t (s.kept l) (not_structure w l (suc t) _ a (not_return l)) (z.cells l)
cells_step w v t records.Sync s z a l = cell_stays w l t (s.kept l) (not_structure w l (suc t) _ a (not_sync l)) (z.cells l)
cells_step w v t (records.Read m) s z a l = cells_access w v t m Read s z a l
cells_step w v t (records.Write m) s z a l = cells_access w v t m Write s z a l

abbrev first : List Record → ℕ → List Placed
first w t = take t (placed w)

next_first : (w : List Record) (t : ℕ) (r : Record) → slice_get w t ≡ Some r → first w (suc t) ≡ first w t ++ record { place = suc t; what = r } ∷ []
next_first w t r e = placed_from-push 1 t w r (suc t) (omega arith) e

next_state : (w : List Record) (t : ℕ) (r : Record) → slice_get w t ≡ Some r → state_after (first w (suc t)) ≡ after_record (state_after (first w t)) (suc t) r
next_state w t r e = ap state_after (next_first w t r e) ∙ state_after-push (first w t) (record { place = suc t; what = r })

next_found : (w : List Record) (t : ℕ) (r : Record) → slice_get w t ≡ Some r → found (first w (suc t)) ≡ found (first w t) ++ option_to_list (race_of (state_after (first w t)) (suc t) r)
next_found w t r e = ap found (next_first w t r e) ∙ found-push (first w t) (record { place = suc t; what = r })

with_cells : (w : List Record) {n d : ℕ} → IsWellNested w n d → (t : ℕ) → ((l : ℕ) → IsCell w l t ((state_after (first w t)).kept l)) → IsState w t (state_after (first w t))
with_cells w v t c =
    let e = bags-state_after (first w t) in
    record {
      sees = λ a i p h. subst (λ (b : Procedures). (in_p b.active (procedure_at w i) ≡ true) ↔ IsParallel w i (suc t)) (sym e) (in_p-parallel w v i t p h a);
      runs = ap (λ (b : Procedures). current b.active) e;
      cells = c;
    }

cells_after : (w : List Record) {n d : ℕ} → IsWellNested w n d → (t : ℕ) → t ≤ length w → (l : ℕ) → IsCell w l t ((state_after (first w t)).kept l)
cells_after w v zero h l = cell_start w l
cells_after w v (suc t) h l =
    let q = element_at w t h in
    subst (λ (s : State). IsCell w l (suc t) (s.kept l)) (sym (next_state w t q.0 q.1))
    (cells_step w v t q.0 (state_after (first w t)) (with_cells w v t (cells_after w v t (omega arith))) q.1 l)

-- the state after the first records
pub state_at : (w : List Record) {n d : ℕ} → IsWellNested w n d → (t : ℕ) → t ≤ length w → IsState w t (state_after (first w t))
state_at w v t h = with_cells w v t (cells_after w v t h)

-- a race whose second place is j
abbrev EndsAt : List Record → ℕ → RaceAt → Type 0
EndsAt w j x = IsReported w x × (x.second.place ≡ j)

ends_from : (w : List Record) (l t : ℕ) (k : Kind) (b : Bool) (o : Option Access) (x : RaceAt) → HasReported w l t b → (NoneBefore w l (suc t) → RivalSays w l (suc t) k o) → race_with l k (suc t) b o ≡ Some x → EndsAt w (suc t) x
ends_from w l t k b None x h f e = absurd (cc)
ends_from w l t k true (Some g) x h f e = absurd (cc)
ends_from w l t k false (Some g) x h f e = subst (EndsAt w (suc t)) (same_Some _ x e) (f h, refl)

ends_to : (w : List Record) (l t : ℕ) (k : Kind) (b : Bool) (o : Option Access) (x : RaceAt) → HasReported w l t b → (NoneBefore w l (suc t) → RivalSays w l (suc t) k o) → x.location ≡ l → EndsAt w (suc t) x → race_with l k (suc t) b o ≡ Some x
ends_to w l t k true o x h f e a = let y = a.0.second.least h.0 h.1 (subst (λ (m : ℕ). IsRace w m h.0 h.1) (sym e) h.2) in let z = a.1 in let s = h.3 in absurd (omega arith)
ends_to w l t k false None x h f e a = let y = a.0.second.race in absurd (f h y.0 (subst (λ (m : ℕ). IsRace w m y.0 (suc t)) e (subst (IsRace w x.location y.0) a.1 y.1)))
ends_to w l t k false (Some g) x h f e a = ap (λ (r : RaceAt). Some r) (reported_once w _ x (f h) a.0 (sym e))

race_access : (w : List Record) {n d : ℕ} → IsWellNested w n d → (t m : ℕ) (q : Kind) (s : State) → IsState w t s → IsAccess w m (suc t) q → (x : RaceAt) → (race_at s.bags.active m q (suc t) (s.kept m) ≡ Some x) ↔ EndsAt w (suc t) x
race_access w v t m q s z a x =
    let c = z.cells m in
    let says : NoneBefore w m (suc t) → RivalSays w m (suc t) q (rival s.bags.active q (s.kept m)) = λ f. rival_says w v m t s.bags.active (z.sees (IsAccessPlace-at w m (suc t) q a)) q a f (s.kept m) c.writer c.reader in (
      (λ e. ends_from w m t q (s.kept m).reported (rival s.bags.active q (s.kept m)) x c.reported says e),
      (λ e. ends_to w m t q (s.kept m).reported (rival s.bags.active q (s.kept m)) x c.reported says
          (same_location x.location m q x.second.kind (same_Some (access q m) (access x.second.kind x.location) (sym a ∙ subst (λ (j : ℕ). at w j ≡ Some (access x.second.kind x.location)) e.1 e.0.second_kind))) e),
    )

no_race_here : (w : List Record) (t : ℕ) (x : RaceAt) → IsElsewhere w x.location (suc t) → (None ≡ Some x) ↔ EndsAt w (suc t) x
no_race_here w t x f = ((λ e. absurd (cc)), (λ a. absurd (f x.second.kind (subst (λ (j : ℕ). at w j ≡ Some (access x.second.kind x.location)) a.1 a.0.second_kind))))

-- the rules report at a place just the race that ends there
race_here : (w : List Record) {n d : ℕ} → IsWellNested w n d → (t : ℕ) (r : Record) (s : State) → IsState w t s → at w (suc t) ≡ Some r → (x : RaceAt) → (race_of s (suc t) r ≡ Some x) ↔ EndsAt w (suc t) x
race_here w v t records.Spawn s z a x = no_race_here w t x (not_structure w x.location (suc t) _ a (not_spawn x.location))
race_here w v t records.Call s z a x = no_race_here w t x (not_structure w x.location (suc t) _ a (not_call x.location))
race_here w v t records.Return s z a x = no_race_here w t x (not_structure w x.location (suc t) _ a (not_return x.location))
race_here w v t records.Sync s z a x = no_race_here w t x (not_structure w x.location (suc t) _ a (not_sync x.location))
race_here w v t (records.Read m) s z a x = race_access w v t m Read s z a x
race_here w v t (records.Write m) s z a x = race_access w v t m Write s z a x

In-append : (x : RaceAt) (xs ys : List RaceAt) → In x (xs ++ ys) ↔ (In x xs ⊎ In x ys)
In-append x [] ys = ((λ h. inr h), ⊎_elim (λ h. absurd h) (λ h. h))
In-append x (y ∷ xs) ys =
    let ih = In-append x xs ys in (
      ⊎_elim (λ e. inl (inl e)) (λ h. ⊎_elim (λ a. inl (inr a)) (λ b. inr b) (ih.0 h)),
      ⊎_elim (⊎_elim (λ e. inl e) (λ h. inr (ih.1 (inl h)))) (λ h. inr (ih.1 (inr h))),
    )

In-option : (x : RaceAt) (o : Option RaceAt) → In x (option_to_list o) ↔ (o ≡ Some x)
In-option x None = ((λ h. absurd h), (λ e. absurd (cc)))
In-option x (Some y) = (⊎_elim (λ e. ap (λ (r : RaceAt). Some r) e) (λ h. absurd h), (λ e. inl (same_Some y x e)))

-- a race up to t
abbrev pub EndsBy : List Record → ℕ → RaceAt → Type 0
EndsBy w t x = IsReported w x × (x.second.place ≤ t)

one_more : (w : List Record) (t : ℕ) (x : RaceAt) (xs : List RaceAt) (o : Option RaceAt) → In x xs ↔ EndsBy w t x → (o ≡ Some x) ↔ EndsAt w (suc t) x → In x (xs ++ option_to_list o) ↔ EndsBy w (suc t) x
one_more w t x xs o a b = (
  (λ h. ⊎_elim (λ p. let q = a.0 p in let z = q.1 in (q.0, omega arith)) (λ p. let q = b.0 ((In-option x o).0 p) in let z = q.1 in (q.0, omega arith)) ((In-append x xs (option_to_list o)).0 h)),
  (λ h. (In-append x xs (option_to_list o)).1 (⊎_elim (λ (s : x.second.place < suc t). inl (a.1 (h.0, omega arith))) (λ (s : suc t ≤ x.second.place). let z = h.1 in inr ((In-option x o).1 (b.1 (h.0, omega arith)))) (cases_lt x.second.place (suc t)))),
)

early_within : (w : List Record) {n d : ℕ} → IsWellNested w n d → (t : ℕ) → t ≤ length w → (x : RaceAt) → In x (found (first w t)) ↔ EndsBy w t x
early_within w v zero h x = ((λ p. absurd p), (λ q. let z = IsPlace-at w x.second.place _ q.0.second_kind in let y = q.1 in absurd (omega arith)))
early_within w v (suc t) h x =
    let q = element_at w t h in
    subst (λ (rs : List RaceAt). In x rs ↔ EndsBy w (suc t) x) (sym (next_found w t q.0 q.1))
    (one_more w t x (found (first w t)) _ (early_within w v t (omega arith) x) (race_here w v t q.0 (state_after (first w t)) (state_at w v t (omega arith)) q.1 x))

all_first : (w : List Record) (t : ℕ) → length w ≤ t → first w t ≡ placed w
all_first w t h = take_all t (placed w) (omega (arith, length-placed_from 1 w))

-- what is found in the first t records: the races of which the second place is at most t
pub early : (w : List Record) {n d : ℕ} → IsWellNested w n d → (t : ℕ) (x : RaceAt) → In x (found (take t (placed w))) ↔ EndsBy w t x
early w v t x = ⊎_elim
    (λ (h : t < length w). early_within w v t (omega arith) x)
    (λ (h : length w ≤ t).
    let a = early_within w v (length w) (omega arith) x in
    let e : first w (length w) ≡ first w t = all_first w (length w) (omega arith) ∙ sym (all_first w t h) in
    let b : In x (found (first w t)) ↔ EndsBy w (length w) x = subst (λ (u : List Placed). In x (found u) ↔ EndsBy w (length w) x) e a in (
      (λ p. let q = b.0 p in let z = q.1 in (q.0, omega arith)),
      (λ q. let z = IsPlace-at w x.second.place _ q.0.second_kind in b.1 (q.0, z.1)),
    ))
    (cases_lt t (length w))

-- what is found in the whole trace
pub early-all : (w : List Record) {n d : ℕ} → IsWellNested w n d → (x : RaceAt) → In x (found (placed w)) ↔ IsReported w x
early-all w v x =
    let a = early_within w v (length w) (omega arith) x in
    let b : In x (found (placed w)) ↔ EndsBy w (length w) x = subst (λ (u : List Placed). In x (found u) ↔ EndsBy w (length w) x) (all_first w (length w) (omega arith)) a in
    ((λ p. (b.0 p).0), (λ q. b.1 (q, (IsPlace-at w x.second.place _ q.second_kind).1)))

-- a location with a race has one that is reported
abbrev ReportsOf : List Record → ℕ → Type 0
ReportsOf w l = (x : RaceAt) × IsReported w x × (x.location ≡ l)

reported_by : (w : List Record) (l j : ℕ) (k : Kind) (o : Option Access) → RivalSays w l j k o → (i : ℕ) → IsRace w l i j → ReportsOf w l
reported_by w l j k None f i r = absurd (f i r)
reported_by w l j k (Some g) f i r = (_, f, refl)

first_at : (w : List Record) {n d : ℕ} → IsWellNested w n d → (l t : ℕ) (k : Kind) → IsAccess w l (suc t) k → (s : State) → IsState w t s → NoneBefore w l (suc t) → (i : ℕ) → IsRace w l i (suc t) → ReportsOf w l
first_at w v l t k a s z f i r = reported_by w l (suc t) k _ (rival_says w v l t s.bags.active (z.sees (IsAccessPlace-at w l (suc t) k a)) k a f (s.kept l) (z.cells l).writer (z.cells l).reader) i r

reports_step : (w : List Record) {n d : ℕ} → IsWellNested w n d → (l t : ℕ) (b : Bool) → HasReported w l t b → (s : State) → IsState w t s → ((i j : ℕ) → IsRace w l i j → j ≤ t → ReportsOf w l) → (i j : ℕ) → IsRace w l i j → j ≤ suc t → ReportsOf w l
reports_step w v l t true a s z ih i j r h = ih a.0 a.1 a.2 a.3
reports_step w v l t false a s z ih i j r h = ⊎_elim
    (λ (q : j < suc t). absurd (a i j r q))
    (λ (q : suc t ≤ j).
    let c : IsRace w l i (suc t) = subst (IsRace w l i) (omega arith) r in
    ⊎_elim (λ p. first_at w v l t Read p s z a i c) (λ p. first_at w v l t Write p s z a i c) c.second)
    (cases_lt j (suc t))

reports_within : (w : List Record) {n d : ℕ} → IsWellNested w n d → (l t : ℕ) → t ≤ length w → (i j : ℕ) → IsRace w l i j → j ≤ t → ReportsOf w l
reports_within w v l zero h i j r g = let x = r.in_order in absurd (omega arith)
reports_within w v l (suc t) h i j r g =
    let z = state_at w v t (omega arith) in
    reports_step w v l t _ (z.cells l).reported (state_after (first w t)) z (reports_within w v l t (omega arith)) i j r g

-- of each location with a race one is reported
pub reports_of : (w : List Record) {n d : ℕ} → IsWellNested w n d → (l i j : ℕ) → IsRace w l i j → (x : RaceAt) × IsReported w x × (x.location ≡ l)
reports_of w v l i j r = reports_within w v l (length w) (omega arith) i j r (⊎_elim (λ a. (IsPlace-at w j _ a).1) (λ a. (IsPlace-at w j _ a).1) r.second)
