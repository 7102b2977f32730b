-- The entries of a report, one record after another.
use Rattle.audit.proofs.Common.{◌≡◌, ◌≢◌, ℕ, zero, suc, ◌<◌, ◌≤◌, ◌&&◌, eqb, true, false, List, [], ◌∷◌, ◌++◌, length, map, slice_get, slice_set, get_or, nat_lt, Some, ◌⊎◌, inl, inr, refl, sym, ◌∙◌, subst, ap, arith, append_assoc, length-append, Result, Ok, Err, OnOk, AllByRecursion, IsPartitionedBy, IsPartitionPoint, cases_lt, cases_eq, and_parts, eqb-true, eq-eqb, ltb-true, ltb-false, append-nil, IsPartitionedBy-ltb, slice_get_within, slice_get-get_or, get_or_from_slice_get, slice_get-map, Record, Kind, Read, Write, Access, Placed, RaceAt, IsRaceShape, at, depth, IsPlace, IsWellNested, IsParallel, access, IsAccess, IsAccessPlace, access-place, IsAccessPlace-at, kind_once, IsReportList, IsEntry, locations, Confirm, Yes, No, Meetings, Entry, Standing, Missing, Begun, Confirmed, Confirming, ComesAfter, WhateverComes, HasMet, DecidesParallel, Moves, StatesRace, Confirms, entry_race, entry_races, entry_of, AreAscending, HasBegun, HasStanding, AllStand, SeesEntries, AnswersBy, HasConfirmed}
use denote.Enum.Bare.{sameb}
use Rattle.dag.specs.contracts.records.Kind.{the_type}
use Rattle.std.proofs.lemmas.List.Kept.{AllPairs-from_increasing}
use Rattle.std.specs.Option.{option_map}
use Rattle.dag.specs.declared.records.Record.TheVariants as records
use Rattle.audit.proofs.ListLemmas.{record_there}
use Rattle.audit.proofs.MeetingLemmas.{met_next}
use Rattle.audit.proofs.PairLemmas.{race_by}

-- the entries of a report ascend, and have the shape of races

location-at : (es : List Entry) (k : ℕ) (e : Entry) → slice_get es k ≡ Some e → slice_get (locations (entry_races es)) k ≡ Some e.location
location-at es k e s =
    slice_get-map (λ (r : RaceAt). r.location) (entry_races es) k
    ∙ ap (option_map (λ (r : RaceAt). r.location)) (slice_get-map entry_race es k ∙ ap (option_map entry_race) s)

length-locations : (es : List Entry) → length (locations (entry_races es)) ≡ length es
length-locations [] = refl
length-locations (x ∷ es) = ap suc (length-locations es)

pub ascending : (es : List Entry) → IsReportList (entry_races es) → AreAscending es
ascending es h j k e f l s t =
    let a : get_or (locations (entry_races es)) j 0 ≡ e.location = get_or_from_slice_get (locations (entry_races es)) j e.location 0 (location-at es j e s) in
    let b : get_or (locations (entry_races es)) k 0 ≡ f.location = get_or_from_slice_get (locations (entry_races es)) k f.location 0 (location-at es k f t) in
    let c : get_or (locations (entry_races es)) j 0 < get_or (locations (entry_races es)) k 0 = AllPairs-from_increasing (locations (entry_races es)) h.ascending j k 0 l (omega (arith, length-locations es, slice_get_within es k f t)) in
    omega arith

entry-at : (P : RaceAt → Type 0) (es : List Entry) → AllByRecursion P (entry_races es) → (k : ℕ) (e : Entry) → slice_get es k ≡ Some e → P (entry_race e)
entry-at P [] h k e s = absurd (cc)
entry-at P (x ∷ es) h zero e s = let f : x ≡ e = cc in subst (λ (z : Entry). P (entry_race z)) f h.0
entry-at P (x ∷ es) h (suc k) e s = entry-at P es h.1 k e s

shape-at : (es : List Entry) → IsReportList (entry_races es) → (k : ℕ) (e : Entry) → slice_get es k ≡ Some e → IsRaceShape e.first e.second
shape-at es h k e s = (entry-at IsEntry es h.entries k e s).shape

pub none-found : (races : List RaceAt) → entry_races (map entry_of races) ≡ races
none-found [] = refl
none-found (r ∷ races) = ap (λ (z : List RaceAt). r ∷ z) (none-found races)

missing-at : (races : List RaceAt) (k : ℕ) (e : Entry) → slice_get (map entry_of races) k ≡ Some e → e.standing ≡ Missing
missing-at [] k e s = absurd (cc)
missing-at (r ∷ races) zero e s = let f : entry_of r ≡ e = cc in sym (ap (λ (z : Entry). z.standing) f)
missing-at (r ∷ races) (suc k) e s = missing-at races k e s

-- one place further

-- an entry whose accesses don't stand at the place
stays : (w : List Record) (t : ℕ) (e : RaceAt) (s : Standing) → (e.first.place ≡ suc t → IsAccess w e.location e.first.place e.first.kind → ⊥) → (e.second.place ≡ suc t → StatesRace w e → ⊥) → HasStanding w t e s → HasStanding w (suc t) e s
stays w t e Missing m n h = λ l a. elim (cases_eq e.first.place (suc t)) [
  | inl q ↦ m q a
  | inr q ↦ h (omega arith) a
]
stays w t e (Begun deep) m n h = record {
  first = h.first;
  upto = omega (arith, h.upto);
  at_depth = h.at_depth;
  not_yet = λ l r. elim (cases_eq e.second.place (suc t)) [
    | inl q ↦ n q r
    | inr q ↦ h.not_yet (omega arith) r
  ];
}
stays w t e Confirmed m n h = h

-- the place accesses another location, or none
pub stays_elsewhere : (w : List Record) (t : ℕ) (e : RaceAt) (s : Standing) → ((k : Kind) → IsAccess w e.location (suc t) k → ⊥) → HasStanding w t e s → HasStanding w (suc t) e s
stays_elsewhere w t e s never h = stays w t e s (λ q a. never e.first.kind (subst (λ (z : ℕ). IsAccess w e.location z e.first.kind) q a))
    (λ q r. never e.second.kind (subst (λ (z : ℕ). IsAccess w e.location z e.second.kind) q r.second_kind)) h

same_access : (w : List Record) (l t : ℕ) (a b : Access) → a.place ≡ suc t → IsAccess w l a.place a.kind → b.place ≡ suc t → IsAccess w l b.place b.kind → a ≡ b
same_access w l t a b e p f q =
    let k : a.kind ≡ b.kind = kind_once w l a.place a.kind b.kind p (subst (λ (z : ℕ). IsAccess w l z b.kind) (f ∙ sym e) q) in
    let s : a.place ≡ b.place = e ∙ sym f in
    λ i. record { kind = k i; place = s i }

-- the place has another access of the entry's location
pub stays_other : (w : List Record) (t : ℕ) (e : RaceAt) (s : Standing) (a : Access) → a.place ≡ suc t → IsAccess w e.location a.place a.kind → (s ≡ Missing → a ≡ e.first → ⊥) → ((deep : ℕ) → s ≡ Begun deep → a ≡ e.second → ⊥) → HasStanding w t e s → HasStanding w (suc t) e s
stays_other w t e Missing a is p m n h = λ l x. elim (cases_eq e.first.place (suc t)) [
  | inl q ↦ m refl (same_access w e.location t a e.first is p q x)
  | inr q ↦ h (omega arith) x
]
stays_other w t e (Begun deep) a is p m n h = record {
  first = h.first;
  upto = omega (arith, h.upto);
  at_depth = h.at_depth;
  not_yet = λ l r. elim (cases_eq e.second.place (suc t)) [
    | inl q ↦ n deep refl (same_access w e.location t a e.second is p q r.second_kind)
    | inr q ↦ h.not_yet (omega arith) r
  ];
}
stays_other w t e Confirmed a is p m n h = h

-- what a comparison of two accesses shows

kind-true : (k q : Kind) → sameb the_type k q ≡ true → k ≡ q
kind-true Read Read e = refl
kind-true Write Write e = refl
kind-true Read Write e = absurd (cc)
kind-true Write Read e = absurd (cc)

kind-same : (k : Kind) → sameb the_type k k ≡ true
kind-same Read = refl
kind-same Write = refl

pub access-true : (a b : Access) → true ≡ (sameb the_type a.kind b.kind && eqb a.place b.place) → a ≡ b
access-true a b e =
    let q = and_parts (sameb the_type a.kind b.kind) (eqb a.place b.place) (sym e) in
    let k : a.kind ≡ b.kind = kind-true a.kind b.kind q.0 in
    let s : a.place ≡ b.place = eqb-true a.place b.place q.1 in
    λ i. record { kind = k i; place = s i }

pub access-false : (a b : Access) → false ≡ (sameb the_type a.kind b.kind && eqb a.place b.place) → a ≡ b → ⊥
access-false a b e f =
    let P : Access → Type 0 = λ z. false ≡ (sameb the_type a.kind z.kind && eqb a.place z.place) in
    let g : false ≡ (sameb the_type a.kind a.kind && eqb a.place a.place) = subst P (sym f) e in
    let k : sameb the_type a.kind a.kind ≡ true = kind-same a.kind in
    let s : eqb a.place a.place ≡ true = eq-eqb a.place a.place refl in
    let h : (sameb the_type a.kind a.kind && eqb a.place a.place) ≡ true = (λ i. k i && s i) in
    cc

-- an entry that has begun, at another access of its location
pub begun_stays : (w : List Record) (t : ℕ) (r : RaceAt) (s : Standing) (deep : ℕ) (a : Access) → s ≡ Begun deep → a.place ≡ suc t → IsAccess w r.location a.place a.kind → (a ≡ r.second → ⊥) → HasStanding w t r s → HasStanding w (suc t) r s
begun_stays w t r s deep a e is p n h = stays_other w t r s a is p (λ f. absurd (let z : Missing ≡ Begun deep = sym f ∙ e in cc)) (λ d f. n) h

-- its first access is there
pub begins : (m : Meetings) (u : List Record) (e : RaceAt) (a : Access) (deep : ℕ) → HasMet m u → IsRaceShape e.first e.second → a ≡ e.first → deep ≡ length m.suspended.items → a.place ≡ suc (length u)
    → WhateverComes u (λ w. IsAccess w e.location a.place a.kind → HasBegun w (suc (length u)) e deep)
begins m u e a deep met shape same level is w rest begins-with n d h p = record {
  first = subst (λ (z : Access). IsAccess w e.location z.place z.kind) same p;
  upto = omega (arith, place);
  at_depth = ap (depth w) place ∙ sym (level ∙ (met w rest begins-with n d h there.1).active.level);
  not_yet = λ l r. omega (arith, r.race.in_order, place);
}
  where
    place : e.first.place ≡ suc (length u)
    place = ap (λ (z : Access). z.place) (sym same) ∙ is

    there : IsPlace w (suc (length u))
    there = access-place w (suc (length u)) (subst (IsAccessPlace w) is (IsAccessPlace-at w e.location a.place a.kind p))

module _ (m : Meetings) (u : List Record) (e : RaceAt) (a : Access) (deep : ℕ) (met : HasMet m u) (shape : IsRaceShape e.first e.second) (same : a ≡ e.second) (is : a.place ≡ suc (length u)) where
  second_place : e.second.place ≡ suc (length u)
  second_place = ap (λ (z : Access). z.place) (sym same) ∙ is

  second : (w : List Record) → IsAccess w e.location a.place a.kind → IsAccess w e.location e.second.place e.second.kind
  second w p = subst (λ (z : Access). IsAccess w e.location z.place z.kind) same p

  next_place : (w : List Record) → IsAccess w e.location a.place a.kind → IsAccessPlace w (suc (length u))
  next_place w p = subst (IsAccessPlace w) is (IsAccessPlace-at w e.location a.place a.kind p)

  -- its second access is there, and parallel
  pub confirmed : DecidesParallel u e.first.place deep true → WhateverComes u (λ w. IsAccess w e.location a.place a.kind → HasBegun w (length u) e deep → StatesRace w e)
  confirmed decides w rest begins-with n d h p b = record {
    race = race_by w e.location e.first.place e.second.place e.first.kind e.second.kind shape.in_order b.first (second w p) shape.one_writes
        (subst (λ (z : ℕ). IsParallel w e.first.place z) (sym second_place)
        ((decides w rest begins-with n d h (IsAccessPlace-at w e.location e.first.place e.first.kind b.first) b.upto b.at_depth (next_place w p)).0 refl));
    first_kind = b.first;
    second_kind = second w p;
  }

  -- its second access is there, but a path leads
  pub not_confirmed : DecidesParallel u e.first.place deep false → WhateverComes u (λ w. IsAccess w e.location a.place a.kind → HasBegun w (length u) e deep → HasBegun w (suc (length u)) e deep)
  not_confirmed decides w rest begins-with n d h p b = record {
    first = b.first;
    upto = omega (arith, b.upto);
    at_depth = b.at_depth;
    not_yet = λ l r.
        (let z : false ≡ true = (decides w rest begins-with n d h (IsAccessPlace-at w e.location e.first.place e.first.kind b.first) b.upto b.at_depth (next_place w p)).1
        (subst (λ (v : ℕ). IsParallel w e.first.place v) second_place r.race.parallel) in
        cc);
  }

-- one entry is set

set-cases : {A : Type 0} (xs : List A) (i : ℕ) (x : A) (k : ℕ) (y : A) → slice_get (slice_set xs i x) k ≡ Some y → ((k ≡ i) × (x ≡ y)) ⊎ ((k ≢ i) × (slice_get xs k ≡ Some y))
set-cases [] i x k y s = absurd (cc)
set-cases (z ∷ xs) zero x zero y s = inl (refl, cc)
set-cases (z ∷ xs) zero x (suc k) y s = inr ((λ e. omega arith), s)
set-cases (z ∷ xs) (suc i) x zero y s = inr ((λ e. omega arith), s)
set-cases (z ∷ xs) (suc i) x (suc k) y s = elim (set-cases xs i x k y s) [
  | inl q ↦ inl (ap suc q.0, q.1)
  | inr q ↦ inr ((λ e. q.0 (omega arith)), q.1)
]

pub entry_races-set : (es : List Entry) (i : ℕ) (e x : Entry) → slice_get es i ≡ Some e → entry_race x ≡ entry_race e → entry_races (slice_set es i x) ≡ entry_races es
entry_races-set [] i e x s q = refl
entry_races-set (z ∷ es) zero e x s q = let f : z ≡ e = cc in ap (λ (r : RaceAt). r ∷ entry_races es) (q ∙ ap entry_race (sym f))
entry_races-set (z ∷ es) (suc i) e x s q = ap (λ (rs : List RaceAt). entry_race z ∷ rs) (entry_races-set es i e x s q)

-- what a look at one entry says of it
abbrev pub NextStanding : Meetings → Entry → Access → Standing → Type 0
NextStanding m e a next = (u : List Record) → HasMet m u → IsRaceShape e.first e.second → a.place ≡ suc (length u)
    → WhateverComes u (λ w. IsAccess w e.location a.place a.kind → HasStanding w (length u) (entry_race e) e.standing → HasStanding w (suc (length u)) (entry_race e) next)

one_location : (w : List Record) (l i p : ℕ) (k q : Kind) → IsAccess w l i k → IsAccess w p i q → l ≡ p
one_location w l i p Read Read a b = let e : Some (records.Read l) ≡ Some (records.Read p) = sym a ∙ b in cc
one_location w l i p Write Write a b = let e : Some (records.Write l) ≡ Some (records.Write p) = sym a ∙ b in cc
one_location w l i p Read Write a b = absurd (let e : Some (records.Read l) ≡ Some (records.Write p) = sym a ∙ b in cc)
one_location w l i p Write Read a b = absurd (let e : Some (records.Write l) ≡ Some (records.Read p) = sym a ∙ b in cc)

other_location : (w : List Record) (l t : ℕ) (e : Entry) (a : Access) → a.place ≡ suc t → IsAccess w l a.place a.kind → e.location ≢ l → HasStanding w t (entry_race e) e.standing → HasStanding w (suc t) (entry_race e) e.standing
other_location w l t e a is p apart h = stays_elsewhere w t (entry_race e) e.standing (λ k q. apart (one_location w e.location (suc t) l k a.kind q (subst (λ (z : ℕ). IsAccess w l z a.kind) is p))) h

-- the entry of the location is looked at
pub seen_here : (m : Meetings) (l : ℕ) (a : Access) (es : List Entry) (i : ℕ) (e : Entry) (next : Standing) → slice_get es i ≡ Some e → e.location ≡ l → NextStanding m e a next
    → SeesEntries m l a es (slice_set es i (record { location = e.location; first = e.first; second = e.second; standing = next }))
seen_here m l a es i e next there on steps u met report is w rest begins-with n d h p all k f s = by_place (set-cases es i x k f s)
  where
    x : Entry
    x = record { location = e.location; first = e.first; second = e.second; standing = next }

    by_place : ((k ≡ i) × (record { location = e.location; first = e.first; second = e.second; standing = next } ≡ f)) ⊎ ((k ≢ i) × (slice_get es k ≡ Some f)) → HasStanding w (suc (length u)) (entry_race f) f.standing
    by_place (inl (q, g)) = subst (λ (z : Entry). HasStanding w (suc (length u)) (entry_race z) z.standing) g
        (steps u met (shape-at es report i e there) is w rest begins-with n d h (subst (λ (z : ℕ). IsAccess w z a.place a.kind) (sym on) p) (all i e there))
    by_place (inr (q, g)) = other_location w l (length u) f a is p (λ z. apart z (cases_lt k i)) (all k f g)
      where
        apart : f.location ≡ l → (k < i) ⊎ (i ≤ k) → ⊥
        apart z (inl c) = omega (arith, ascending es report k i f e c g there)
        apart z (inr c) = omega (arith, ascending es report i k e f (omega (arith, q)) there g)

-- the same, where the entry was read twice
pub seen_at : (m : Meetings) (l : ℕ) (a : Access) (es : List Entry) (i : ℕ) (e f : Entry) (next : Standing) → slice_get es i ≡ Some e → slice_get es i ≡ Some f → e.location ≡ l → NextStanding m e a next
    → SeesEntries m l a es (slice_set es i (record { location = f.location; first = f.first; second = f.second; standing = next }))
seen_at m l a es i e f next there again on steps =
    let g : e ≡ f = (let z : Some e ≡ Some f = sym there ∙ again in cc) in
    let P : Entry → Type 0 = λ x. SeesEntries m l a es (slice_set es i (record { location = x.location; first = x.first; second = x.second; standing = next })) in
    subst P g (seen_here m l a es i e next there on steps)

-- no entry is on the location
pub unseen : (m : Meetings) (l : ℕ) (a : Access) (es : List Entry) → (AreAscending es → (k : ℕ) (e : Entry) → slice_get es k ≡ Some e → e.location ≢ l) → SeesEntries m l a es es
unseen m l a es nowhere u met report is w rest begins-with n d h p all k f s = other_location w l (length u) f a is p (nowhere (ascending es report) k f s) (all k f s)

-- one record more

pub confirming_none : (races : List RaceAt) (s : Confirming) → IsReportList races → s.entries.items ≡ map entry_of races → HasMet s.meetings [] → HasConfirmed races [] s
confirming_none races s report is met = record {
  is_report = report;
  same_races = ap entry_races is ∙ none-found races;
  met = met;
  stands = λ w rest begins-with n d h k e q. (let z : e.standing ≡ Missing = missing-at races k e (sym (ap (λ (es : List Entry). slice_get es k) is) ∙ q) in
      subst (λ (v : Standing). HasStanding w 0 (entry_race e) v) (sym z) (none_there w e));
}
  where
    none_there : (w : List Record) (e : Entry) → e.first.place ≤ 0 → IsAccess w e.location e.first.place e.first.kind → ⊥
    none_there w e l a = omega (arith, (access-place w e.first.place (IsAccessPlace-at w e.location e.first.place e.first.kind a)).0)

module _ (s s' : Confirming) (races : List RaceAt) (u : List Record) (p : Placed) (h : HasConfirmed races u s) (c : ComesAfter u p) (same : entry_races s'.entries.items ≡ entry_races s.entries.items)
    (moves : Moves p.place p.what s.meetings s'.meetings) where
  longer : suc (length u) ≡ length (u ++ p.what ∷ [])
  longer = omega (arith, length-append u (p.what ∷ []))

  confirming_next : ((w rest : List Record) → w ≡ (u ++ p.what ∷ []) ++ rest → (n d : ℕ) → IsWellNested w n d → AllStand w (length u) s.entries.items → AllStand w (suc (length u)) s'.entries.items) → HasConfirmed races (u ++ p.what ∷ []) s'
  confirming_next next = record {
    is_report = h.is_report;
    same_races = same ∙ h.same_races;
    met = met_next s.meetings s'.meetings u p h.met c moves;
    stands = λ w rest is n d i. subst (λ (z : ℕ). AllStand w z s'.entries.items) longer (next w rest is n d i (h.stands w (p.what ∷ rest) (is ∙ append_assoc u (p.what ∷ []) rest) n d i));
  }

  -- an access
  pub confirming_access : (l : ℕ) (a : Access) → p.what ≡ access a.kind l → a.place ≡ p.place → SeesEntries s.meetings l a s.entries.items s'.entries.items → HasConfirmed races (u ++ p.what ∷ []) s'
  confirming_access l a what place sees = confirming_next next
    where
      at_next : a.place ≡ suc (length u)
      at_next = omega (arith, c.place_is)

      next : (w rest : List Record) → w ≡ (u ++ p.what ∷ []) ++ rest → (n d : ℕ) → IsWellNested w n d → AllStand w (length u) s.entries.items → AllStand w (suc (length u)) s'.entries.items
      next w rest is n d i all = sees u h.met (subst IsReportList (sym h.same_races) h.is_report) at_next w (p.what ∷ rest) (is ∙ append_assoc u (p.what ∷ []) rest) n d i
          (ap (at w) at_next ∙ record_there w u rest p.what is ∙ ap (λ (z : Record). Some z) what) all

  -- another record
  pub confirming_other : ((l : ℕ) (k : Kind) → p.what ≢ access k l) → s'.entries.items ≡ s.entries.items → HasConfirmed races (u ++ p.what ∷ []) s'
  confirming_other never es = confirming_next next
    where
      next : (w rest : List Record) → w ≡ (u ++ p.what ∷ []) ++ rest → (n d : ℕ) → IsWellNested w n d → AllStand w (length u) s.entries.items → AllStand w (suc (length u)) s'.entries.items
      next w rest is n d i all k e q = stays_elsewhere w (length u) (entry_race e) e.standing (λ v a. none v a) (all k e (sym (ap (λ (z : List Entry). slice_get z k) es) ∙ q))
        where
          none : (v : Kind) → IsAccess w e.location (suc (length u)) v → ⊥
          none v a = let z : Some p.what ≡ Some (access v e.location) = sym (record_there w u rest p.what is) ∙ a in let y : p.what ≡ access v e.location = cc in never e.location v y

pub not_access : (r : Record) → (r ≡ records.Spawn) ⊎ ((r ≡ records.Call) ⊎ ((r ≡ records.Sync) ⊎ (r ≡ records.Return))) → (l : ℕ) (k : Kind) → r ≢ access k l
not_access r (inl e) l Read f = cc
not_access r (inl e) l Write f = cc
not_access r (inr (inl e)) l Read f = cc
not_access r (inr (inl e)) l Write f = cc
not_access r (inr (inr (inl e))) l Read f = cc
not_access r (inr (inr (inl e))) l Write f = cc
not_access r (inr (inr (inr e))) l Read f = cc
not_access r (inr (inr (inr e))) l Write f = cc

-- the same, where no growth was refused

pub confirming_access_if : {T E : Type 0} (s s' : Confirming) (p : Placed) (l : ℕ) (a : Access) (o : Result T E) → p.what ≡ access a.kind l → a.place ≡ p.place → entry_races s'.entries.items ≡ entry_races s.entries.items → SeesEntries s.meetings l a s.entries.items s'.entries.items
    → OnOk o (Moves p.place p.what s.meetings s'.meetings)
    → OnOk o ((first : Confirming) (u : List Record) → HasConfirmed (entry_races first.entries.items) u s → ComesAfter u p → HasConfirmed (entry_races first.entries.items) (u ++ p.what ∷ []) s')
confirming_access_if s s' p l a (Ok t) what place same sees moves = λ first u h c. confirming_access s s' (entry_races first.entries.items) u p h c same moves l a what place sees
confirming_access_if s s' p l a (Err t) what place same sees moves = tt

pub confirming_other_if : {T E : Type 0} (s s' : Confirming) (p : Placed) (o : Result T E) → ((l : ℕ) (k : Kind) → p.what ≢ access k l) → s'.entries.items ≡ s.entries.items
    → OnOk o (Moves p.place p.what s.meetings s'.meetings)
    → OnOk o ((first : Confirming) (u : List Record) → HasConfirmed (entry_races first.entries.items) u s → ComesAfter u p → HasConfirmed (entry_races first.entries.items) (u ++ p.what ∷ []) s')
confirming_other_if s s' p (Ok t) never es moves = λ first u h c. confirming_other s s' (entry_races first.entries.items) u p h c (ap entry_races es) moves never es
confirming_other_if s s' p (Err t) never es moves = tt

-- the answer of a whole trace

stands-race : (w : List Record) (t : ℕ) (e : RaceAt) (s : Standing) → s ≡ Confirmed → HasStanding w t e s → StatesRace w e
stands-race w t e s q h = subst (λ (z : Standing). HasStanding w t e z) q h

stands-not_race : (w : List Record) (t : ℕ) (e : RaceAt) (s : Standing) → length w ≡ t → s ≢ Confirmed → HasStanding w t e s → StatesRace w e → ⊥
stands-not_race w t e Missing l q h r =
    h (omega (arith, (access-place w e.first.place (IsAccessPlace-at w e.location e.first.place e.first.kind r.first_kind)).1)) r.first_kind
stands-not_race w t e (Begun deep) l q h r =
    h.not_yet (omega (arith, (access-place w e.second.place (IsAccessPlace-at w e.location e.second.place e.second.kind r.second_kind)).1)) r
stands-not_race w t e Confirmed l q h r = q refl

race-at : (es : List Entry) (k : ℕ) (r : RaceAt) → slice_get (entry_races es) k ≡ Some r → (e : Entry) × (slice_get es k ≡ Some e) × (entry_race e ≡ r)
race-at [] k r s = absurd (cc)
race-at (x ∷ es) zero r s = (x, refl, cc)
race-at (x ∷ es) (suc k) r s = race-at es k r s

race-of-at : (es : List Entry) (k : ℕ) (e : Entry) → slice_get es k ≡ Some e → slice_get (entry_races es) k ≡ Some (entry_race e)
race-of-at es k e s = slice_get-map entry_race es k ∙ ap (option_map entry_race) s

answer : (w : List Record) (es : List Entry) (a : Confirm) → AllStand w (length w) es → AnswersBy es a → Confirms w (entry_races es) a
answer w es Yes all by = λ k d l.
    (let q = race-at es k (get_or (entry_races es) k d) (slice_get-get_or (entry_races es) k d l) in
    subst (StatesRace w) q.2 (stands-race w (length w) (entry_race q.0) q.0.standing (by k q.0 q.1) (all k q.0 q.1)))
answer w es (No entry) all by = record {
  before = by.before;
  from_one = by.from_one;
  race = entry_race by.found;
  there = race-of-at es by.before by.found by.there;
  wrong = stands-not_race w (length w) (entry_race by.found) by.found.standing refl by.open_yet (all by.before by.found by.there);
  right_before = λ k r l s. (let q = race-at es k r s in
      subst (StatesRace w) q.2 (stands-race w (length w) (entry_race q.0) q.0.standing (by.confirmed_before k q.0 l q.1) (all k q.0 q.1)));
}

pub answer_of : (s : Confirming) (races : List RaceAt) (a : Confirm) (w : List Record) {n d : ℕ} → IsWellNested w n d → HasConfirmed races w s → AnswersBy s.entries.items a → Confirms w races a
answer_of s races a w h c by = subst (λ (rs : List RaceAt). Confirms w rs a) c.same_races (answer w s.entries.items a (c.stands w [] (sym (append-nil w)) _ _ h) by)

-- no entry is on a location

pub partitioned : (es : List Entry) (l : ℕ) → AreAscending es → IsPartitionedBy (λ (e : Entry). nat_lt e.location l) es
partitioned es l h = IsPartitionedBy-ltb (λ (e : Entry). e.location) es l (λ i j d a b. elim (cases_eq i j) [
  | inl q ↦ (let z : (get_or es i d).location ≡ (get_or es j d).location = ap (λ (k : ℕ). (get_or es k d).location) q in omega arith)
  | inr q ↦ omega (arith, h i j (get_or es i d) (get_or es j d) (omega arith) (slice_get-get_or es i d (omega arith)) (slice_get-get_or es j d b))
])

pub nowhere : (es : List Entry) (l n : ℕ) → AreAscending es → IsPartitionPoint (λ (e : Entry). nat_lt e.location l ≡ true) (λ (e : Entry). nat_lt e.location l ≡ false) es n
    → ((e : Entry) → slice_get es n ≡ Some e → e.location ≢ l) → (k : ℕ) (e : Entry) → slice_get es k ≡ Some e → e.location ≢ l
nowhere es l n h point other k e s q = by_place (cases_lt k n)
  where
    at : get_or es k e ≡ e
    at = get_or_from_slice_get es k e e s

    at_or_after : n ≤ k → (n ≡ k) ⊎ (n ≡ k → ⊥) → ⊥
    at_or_after c (inl i) = other e (ap (slice_get es) i ∙ s) q
    at_or_after c (inr i) =
        let b : n < length es = omega (arith, slice_get_within es k e s) in
        let z : nat_lt (get_or es n e).location l ≡ false = point.1 n e (omega arith) b in
        let y : (get_or es n e).location < e.location = h n k (get_or es n e) e (omega arith) (slice_get-get_or es n e b) s in
        omega (arith, ltb-false (get_or es n e).location l z)

    by_place : (k < n) ⊎ (n ≤ k) → ⊥
    by_place (inl c) =
        let z : nat_lt (get_or es k e).location l ≡ true = point.0 k e (omega arith) c in
        let y : (get_or es k e).location ≡ e.location = ap (λ (f : Entry). f.location) at in
        omega (arith, ltb-true (get_or es k e).location l z)
    by_place (inr c) = at_or_after c (cases_eq n k)
