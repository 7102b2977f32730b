-- The bags after t records: at each level of the active procedures, the places of the procedures in the
-- S-bag are serial, and those in the P-bag are kept parallel.
use Rattle.bags.proofs.Common.{◌≡◌, ℕ, zero, suc, ◌+◌, ◌-◌, ◌<◌, ◌≤◌, Bool, true, false, ◌||◌, List, [], ◌∷◌, length, ◌⊎◌, inl, inr, refl, sym, ◌∙◌, subst, ap, arith, eqb, if◌then◌else◌, cases_eq, both_ways, or_cases, eqb-true, eq-eqb, list_any, nat_cmp_total, nat_cmp, World, Shape, Step, spawn, call, spawned_return, called_return, joins, all_more, Bag, Active, opened, synced, adopts, after_sync, after_return, current, Kept, Serial, kept_stays, serial_stays, kept-above, kept_synced, returned, returned_call, serial_now, own-serial, own-kept}
use Rattle.std.specs.FinSet as set

-- the record that opens a procedure, and the one that ends it
abbrev pub opening : Bool → Shape
opening is_called = if is_called then call else spawn

abbrev pub closing : Bool → Shape
closing is_called = if is_called then called_return else spawned_return

-- a place of a procedure at level d, up to the one after t, with no place above the level since
pub record Home (v : World) (proc : ℕ → ℕ) (t d own : ℕ) (is_called : Bool) : Type 0 where
  pub place : ℕ
  pub from_one : 1 ≤ place
  pub upto : place ≤ suc t
  pub is_own : proc place ≡ own
  pub level : v.depth place ≡ d
  pub above : (k : ℕ) → place ≤ k → k ≤ suc t → d ≤ v.depth k
  pub opened : 1 < place → v.shape (place - 1) ≡ opening is_called

home_stays : (v : World) (proc : ℕ → ℕ) (t d own : ℕ) (is_called : Bool) → d ≤ v.depth (suc (suc t)) → Home v proc t d own is_called → Home v proc (suc t) d own is_called
home_stays v proc t d own is_called l s =
    record { place = s.place; from_one = s.from_one; upto = omega (arith, s.upto); is_own = s.is_own; level = s.level; above = all_more v.depth d s.place (suc t) s.above l; opened = s.opened }

-- an active procedure at level d, for the places up to m; places are executed by the procedures `proc`
pub record Stands (v : World) (proc : ℕ → ℕ) (m t count d : ℕ) (f : Active) : Type 0 where
  pub serial : (i : ℕ) → 1 ≤ i → i ≤ m → set.contains f.serial (proc i) ≡ true → Serial v t d i
  pub parallel : (i : ℕ) → 1 ≤ i → i ≤ m → set.contains f.parallel (proc i) ≡ true → Kept v t d i
  pub serial_below : (p : ℕ) → set.contains f.serial p ≡ true → p < count
  pub parallel_below : (p : ℕ) → set.contains f.parallel p ≡ true → p < count
  pub home : Home v proc t d f.own f.is_called

pub data AllStand (v : World) (proc : ℕ → ℕ) (m t count : ℕ) : List Active → Type 0 where
  none : AllStand v proc m t count []
  one_more : {f : Active} {fs : List Active} → Stands v proc m t count (length fs) f → AllStand v proc m t count fs → AllStand v proc m t count (f ∷ fs)

-- a procedure stands in some bag
abbrev pub somewhere : List Active → ℕ → Bool
somewhere fs p = list_any (λ f. set.contains f.serial p || set.contains f.parallel p) fs

pub record Invariant (v : World) (proc : ℕ → ℕ) (t count : ℕ) (fs : List Active) : Type 0 where
  pub deep : length fs ≡ suc (v.depth (suc t))
  pub each : AllStand v proc (suc t) t count fs
  pub stand : (i : ℕ) → 1 ≤ i → i ≤ suc t → somewhere fs (proc i) ≡ true

-- sets

pub contains-one : (k q : ℕ) → set.contains (set.insert (set.empty {R = nat_cmp}) k) q ≡ (eqb k q || false)
contains-one k q = set.contains-from_list_nat (k ∷ []) q

in_one : (k q : ℕ) → set.contains (set.insert (set.empty {R = nat_cmp}) k) q ≡ true → q ≡ k
in_one k q h = sym (eqb-true k q (only (eqb k q) (sym (contains-one k q) ∙ h)))
  where
    only : (b : Bool) → (b || false) ≡ true → b ≡ true
    only true e = refl
    only false e = e

one_in : (k : ℕ) → set.contains (set.insert (set.empty {R = nat_cmp}) k) k ≡ true
one_in k = contains-one k k ∙ ap (λ (b : Bool). b || false) (eq-eqb k k refl)

pub in_none : {X : Type 0} (q : ℕ) → set.contains (set.empty {R = nat_cmp}) q ≡ true → X
in_none q h = let e : set.contains (set.empty {R = nat_cmp}) q ≡ false = set.contains-empty nat_cmp q in absurd (cc)

in_union : (a b : Bag) (q : ℕ) → set.contains (set.union a b) q ≡ true → (set.contains a q ≡ true) ⊎ (set.contains b q ≡ true)
in_union a b q h = or_cases _ _ (sym (set.contains-union nat_cmp_total a b q) ∙ h)

-- a place more: what stands at it

more_stand : (v : World) (proc : ℕ → ℕ) (m t count d : ℕ) (f : Active)
    → (set.contains f.serial (proc (suc m)) ≡ true → Serial v t d (suc m))
    → (set.contains f.parallel (proc (suc m)) ≡ true → Kept v t d (suc m))
    → Stands v proc m t count d f → Stands v proc (suc m) t count d f
more_stand v proc m t count d f a b h = record {
  serial = λ i x y c. elim (cases_eq i (suc m)) [
    | inl e ↦ subst (λ (z : ℕ). Serial v t d z) (sym e) (a (subst (λ (z : ℕ). set.contains f.serial (proc z) ≡ true) e c))
    | inr n ↦ h.serial i x (omega arith) c
  ];
  parallel = λ i x y c. elim (cases_eq i (suc m)) [
    | inl e ↦ subst (λ (z : ℕ). Kept v t d z) (sym e) (b (subst (λ (z : ℕ). set.contains f.parallel (proc z) ≡ true) e c))
    | inr n ↦ h.parallel i x (omega arith) c
  ];
  serial_below = h.serial_below;
  parallel_below = h.parallel_below;
  home = h.home;
}

-- the next place is executed by a procedure whose own place is known: it stands at that place's level
more_of_known : (v : World) (proc : ℕ → ℕ) (t count d y : ℕ) (f : Active) → suc t ≤ v.size → 1 ≤ y → y < suc t → proc (suc t) ≡ proc y
    → v.depth (suc t) ≡ v.depth y → ((k : ℕ) → y ≤ k → k ≤ suc t → v.depth y ≤ v.depth k)
    → Stands v proc t t count d f → Stands v proc (suc t) t count d f
more_of_known v proc t count d y f b x l p e h s = more_stand v proc t t count d f
    (λ c. let z : Serial v t d y = s.serial y x (omega arith) (subst (λ (q : ℕ). set.contains f.serial q ≡ true) p c) in
    let g : d ≡ v.depth y = own-serial v t d (v.depth y) y (omega arith) refl h z in
    serial_now v t d (e ∙ sym g))
    (λ c. let z : Kept v t d y = s.parallel y x (omega arith) (subst (λ (q : ℕ). set.contains f.parallel q ≡ true) p c) in
    absurd (own-kept v t d (v.depth y) y x b refl h z))
    s

more_of_known_all : (v : World) (proc : ℕ → ℕ) (t count y : ℕ) (fs : List Active) → suc t ≤ v.size → 1 ≤ y → y < suc t → proc (suc t) ≡ proc y
    → v.depth (suc t) ≡ v.depth y → ((k : ℕ) → y ≤ k → k ≤ suc t → v.depth y ≤ v.depth k)
    → AllStand v proc t t count fs → AllStand v proc (suc t) t count fs
more_of_known_all v proc t count y [] b x l p e h s = none
more_of_known_all v proc t count y (f ∷ fs) b x l p e h (one_more s r) =
    one_more (more_of_known v proc t count (length fs) y f b x l p e h s) (more_of_known_all v proc t count y fs b x l p e h r)

-- the next place is executed by a new procedure
more_of_new : (v : World) (proc : ℕ → ℕ) (t old count d : ℕ) (f : Active) → old ≤ proc (suc t)
    → Stands v proc t t old d f → old ≤ count → Stands v proc (suc t) t count d f
more_of_new v proc t old count d f n s l = more_stand v proc t t count d f
    (λ c. absurd (let x : proc (suc t) < old = s.serial_below (proc (suc t)) c in omega arith))
    (λ c. absurd (let x : proc (suc t) < old = s.parallel_below (proc (suc t)) c in omega arith))
    (record {
      serial = s.serial;
      parallel = s.parallel;
      serial_below = λ p c. omega (arith, s.serial_below p c);
      parallel_below = λ p c. omega (arith, s.parallel_below p c);
      home = s.home;
    })

more_of_new_all : (v : World) (proc : ℕ → ℕ) (t old count : ℕ) (fs : List Active) → old ≤ proc (suc t)
    → AllStand v proc t t old fs → old ≤ count → AllStand v proc (suc t) t count fs
more_of_new_all v proc t old count [] n s l = none
more_of_new_all v proc t old count (f ∷ fs) n (one_more s r) l =
    one_more (more_of_new v proc t old count (length fs) f n s l) (more_of_new_all v proc t old count fs n r l)

-- a record more, which leaves a level alone

stays : (v : World) (proc : ℕ → ℕ) (m t count d : ℕ) (f : Active) → d ≤ v.depth (suc (suc t)) → (v.depth (suc t) ≡ d → joins (v.shape (suc t)) ≡ true → ⊥)
    → Stands v proc m t count d f → Stands v proc m (suc t) count d f
stays v proc m t count d f l n s = record {
  serial = λ i x y c. serial_stays v t d i l (s.serial i x y c);
  parallel = λ i x y c. kept_stays v t d i l n (s.parallel i x y c);
  serial_below = s.serial_below;
  parallel_below = s.parallel_below;
  home = home_stays v proc t d f.own f.is_called l s.home;
}

stay : (v : World) (proc : ℕ → ℕ) (m t count : ℕ) (fs : List Active) → length fs ≤ suc (v.depth (suc (suc t))) → (joins (v.shape (suc t)) ≡ true → length fs ≤ v.depth (suc t))
    → AllStand v proc m t count fs → AllStand v proc m (suc t) count fs
stay v proc m t count [] l n s = none
stay v proc m t count (f ∷ fs) l n (one_more s r) = one_more
    (stays v proc m t count (length fs) f (omega arith) (λ e j. omega (arith, n j)) s)
    (stay v proc m t count fs (omega arith) (λ j. omega (arith, n j)) r)

-- a sync

syncs : (v : World) (proc : ℕ → ℕ) (m t count d : ℕ) (f : Active) → suc t ≤ v.size → joins (v.shape (suc t)) ≡ true → v.depth (suc t) ≡ d → d ≤ v.depth (suc (suc t))
    → Stands v proc m t count d f → Stands v proc m (suc t) count d (synced f)
syncs v proc m t count d f b j e l s = record {
  serial = λ i x y c. elim (in_union f.serial f.parallel (proc i) c) [
    | inl q ↦ serial_stays v t d i l (s.serial i x y q)
    | inr q ↦ kept_synced v t d i x b j e l (s.parallel i x y q)
  ];
  parallel = λ i x y c. in_none (proc i) c;
  serial_below = λ p c. elim (in_union f.serial f.parallel p c) [ inl q ↦ s.serial_below p q | inr q ↦ s.parallel_below p q ];
  parallel_below = λ p c. in_none p c;
  home = home_stays v proc t d f.own f.is_called l s.home;
}

-- a return

-- what the parent f keeps where its child g was spawned
abbrev taken : Active → Active → Active
taken f g = record { own = f.own; is_called = f.is_called; serial = f.serial; parallel = set.union f.parallel (set.union g.serial g.parallel) }

adopts_spawned : (f g : Active) → g.is_called ≡ false → adopts f g ≡ taken f g
adopts_spawned f g e i = record {
  own = f.own;
  is_called = f.is_called;
  serial = if e i then set.union f.serial (set.union g.serial g.parallel) else f.serial;
  parallel = if e i then f.parallel else set.union f.parallel (set.union g.serial g.parallel);
}

closes : (v : World) (proc : ℕ → ℕ) (t count d : ℕ) (f g : Active) → suc (suc t) ≤ v.size → v.shape (suc t) ≡ spawned_return → v.depth (suc t) ≡ suc d → v.depth (suc (suc t)) ≡ d
    → Stands v proc (suc t) t count (suc d) g → Stands v proc (suc t) t count d f → Stands v proc (suc t) (suc t) count d (taken f g)
closes v proc t count d f g b e a l u s = record {
  serial = λ i x y c. serial_stays v t d i (omega arith) (s.serial i x y c);
  parallel = λ i x y c. elim (in_union f.parallel (set.union g.serial g.parallel) (proc i) c) [
    | inl q ↦ kept_stays v t d i (omega arith) (λ z w. omega arith) (s.parallel i x y q)
    | inr q ↦ elim (in_union g.serial g.parallel (proc i) q) [
      | inl w ↦ returned v t d i y e a l (u.serial i x y w).above
      | inr w ↦ returned v t d i y e a l (kept-above v t (suc d) i (u.parallel i x y w))
    ]
  ];
  serial_below = s.serial_below;
  parallel_below = λ p c. elim (in_union f.parallel (set.union g.serial g.parallel) p c) [
    | inl q ↦ s.parallel_below p q
    | inr q ↦ elim (in_union g.serial g.parallel p q) [ inl w ↦ u.serial_below p w | inr w ↦ u.parallel_below p w ]
  ];
  home = home_stays v proc t d f.own f.is_called (omega arith) s.home;
}

-- what the parent f keeps where its child g was called
abbrev taken_back : Active → Active → Active
taken_back f g = record { own = f.own; is_called = f.is_called; serial = set.union f.serial (set.union g.serial g.parallel); parallel = f.parallel }

adopts_called : (f g : Active) → g.is_called ≡ true → adopts f g ≡ taken_back f g
adopts_called f g e i = record {
  own = f.own;
  is_called = f.is_called;
  serial = if e i then set.union f.serial (set.union g.serial g.parallel) else f.serial;
  parallel = if e i then f.parallel else set.union f.parallel (set.union g.serial g.parallel);
}

comes_back : (v : World) (proc : ℕ → ℕ) (t count d : ℕ) (f g : Active) → suc (suc t) ≤ v.size → v.shape (suc t) ≡ called_return → v.depth (suc t) ≡ suc d → v.depth (suc (suc t)) ≡ d
    → Stands v proc (suc t) t count (suc d) g → Stands v proc (suc t) t count d f → Stands v proc (suc t) (suc t) count d (taken_back f g)
comes_back v proc t count d f g b e a l u s = record {
  serial = λ i x y c. elim (in_union f.serial (set.union g.serial g.parallel) (proc i) c) [
    | inl q ↦ serial_stays v t d i (omega arith) (s.serial i x y q)
    | inr q ↦ elim (in_union g.serial g.parallel (proc i) q) [
      | inl w ↦ returned_call v t d i x y b e a l (u.serial i x y w).above
      | inr w ↦ returned_call v t d i x y b e a l (kept-above v t (suc d) i (u.parallel i x y w))
    ]
  ];
  parallel = λ i x y c. kept_stays v t d i (omega arith) (λ z w. omega arith) (s.parallel i x y c);
  serial_below = λ p c. elim (in_union f.serial (set.union g.serial g.parallel) p c) [
    | inl q ↦ s.serial_below p q
    | inr q ↦ elim (in_union g.serial g.parallel p q) [ inl w ↦ u.serial_below p w | inr w ↦ u.parallel_below p w ]
  ];
  parallel_below = s.parallel_below;
  home = home_stays v proc t d f.own f.is_called (omega arith) s.home;
}

-- no procedure is lost

regroup_sync : (a b c : Bool) → (((a || b) || false) || c) ≡ ((a || b) || c)
regroup_sync a b c = grind arith

regroup_return : (a b c d e : Bool) → ((c || (d || (a || b))) || e) ≡ ((a || b) || ((c || d) || e))
regroup_return a b c d e = grind arith

somewhere-synced : (f : Active) (fs : List Active) (p : ℕ) → somewhere (synced f ∷ fs) p ≡ somewhere (f ∷ fs) p
somewhere-synced f fs p =
    (λ i. (set.contains-union nat_cmp_total f.serial f.parallel p i || set.contains-empty nat_cmp p i) || somewhere fs p)
    ∙ regroup_sync (set.contains f.serial p) (set.contains f.parallel p) (somewhere fs p)

somewhere-takes_in : (f g : Active) (fs : List Active) (p : ℕ) → somewhere (taken f g ∷ fs) p ≡ somewhere (g ∷ f ∷ fs) p
somewhere-takes_in f g fs p =
    (λ i. (set.contains f.serial p || set.contains-union nat_cmp_total f.parallel (set.union g.serial g.parallel) p i) || somewhere fs p)
    ∙ (λ i. (set.contains f.serial p || (set.contains f.parallel p || set.contains-union nat_cmp_total g.serial g.parallel p i)) || somewhere fs p)
    ∙ regroup_return (set.contains g.serial p) (set.contains g.parallel p) (set.contains f.serial p) (set.contains f.parallel p) (somewhere fs p)

regroup_back : (a b c d e : Bool) → (((c || (a || b)) || d) || e) ≡ ((a || b) || ((c || d) || e))
regroup_back a b c d e = grind arith

somewhere-takes_back : (f g : Active) (fs : List Active) (p : ℕ) → somewhere (taken_back f g ∷ fs) p ≡ somewhere (g ∷ f ∷ fs) p
somewhere-takes_back f g fs p =
    (λ i. (set.contains-union nat_cmp_total f.serial (set.union g.serial g.parallel) p i || set.contains f.parallel p) || somewhere fs p)
    ∙ (λ i. ((set.contains f.serial p || set.contains-union nat_cmp_total g.serial g.parallel p i) || set.contains f.parallel p) || somewhere fs p)
    ∙ regroup_back (set.contains g.serial p) (set.contains g.parallel p) (set.contains f.serial p) (set.contains f.parallel p) (somewhere fs p)

somewhere_below : (v : World) (proc : ℕ → ℕ) (m t count : ℕ) (fs : List Active) (p : ℕ) → AllStand v proc m t count fs → somewhere fs p ≡ true → p < count
somewhere_below v proc m t count [] p s h = absurd (cc)
somewhere_below v proc m t count (f ∷ fs) p (one_more s r) h = elim (or_cases _ _ h) [
  | inl q ↦ elim (or_cases _ _ q) [ inl w ↦ s.serial_below p w | inr w ↦ s.parallel_below p w ]
  | inr q ↦ somewhere_below v proc m t count fs p r q
]

-- one record

-- the next place is executed by the first active procedure, which has a place already
pub finish : (v : World) (proc : ℕ → ℕ) (t count : ℕ) (f : Active) (fs : List Active) → suc (suc t) ≤ v.size → Home v proc t (length fs) f.own f.is_called → length fs ≡ v.depth (suc (suc t)) → proc (suc (suc t)) ≡ f.own
    → AllStand v proc (suc t) (suc t) count (f ∷ fs) → ((i : ℕ) → 1 ≤ i → i ≤ suc t → somewhere (f ∷ fs) (proc i) ≡ true)
    → Invariant v proc (suc t) count (f ∷ fs)
finish v proc t count f fs b home d n s a = record {
  deep = omega arith;
  each = more_of_known_all v proc (suc t) count home.place (f ∷ fs) b home.from_one (omega (arith, home.upto)) (n ∙ sym home.is_own) (omega (arith, home.level))
      (all_more v.depth (v.depth home.place) home.place (suc t) (λ k p q. omega (arith, home.above k p q, home.level)) (omega (arith, home.level))) s;
  stand = λ i p q. elim (cases_eq i (suc (suc t))) [
    | inl z ↦ ap (λ (j : ℕ). somewhere (f ∷ fs) j) (ap proc z ∙ (n ∙ sym home.is_own)) ∙ a home.place home.from_one home.upto
    | inr z ↦ a i p (omega arith)
  ];
}

pub at_access : (v : World) (proc : ℕ → ℕ) (t count : ℕ) (fs : List Active) → suc (suc t) ≤ v.size → joins (v.shape (suc t)) ≡ false → v.depth (suc (suc t)) ≡ v.depth (suc t)
    → proc (suc (suc t)) ≡ current fs → Invariant v proc t count fs → Invariant v proc (suc t) count fs
at_access v proc t count [] b n d p h = absurd (omega (arith, h.deep))
at_access v proc t count (f ∷ fs) b n d p h = from_top h.each
  where
    from_top : AllStand v proc (suc t) t count (f ∷ fs) → Invariant v proc (suc t) count (f ∷ fs)
    from_top (one_more s r) = finish v proc t count f fs b s.home (omega (arith, h.deep)) p
        (stay v proc (suc t) t count (f ∷ fs) (omega (arith, h.deep)) (λ j. absurd (both_ways _ n j)) h.each) h.stand

pub at_sync : (v : World) (proc : ℕ → ℕ) (t count : ℕ) (fs : List Active) → suc (suc t) ≤ v.size → joins (v.shape (suc t)) ≡ true → v.depth (suc (suc t)) ≡ v.depth (suc t)
    → proc (suc (suc t)) ≡ current (after_sync fs) → Invariant v proc t count fs → Invariant v proc (suc t) count (after_sync fs)
at_sync v proc t count [] b n d p h = absurd (omega (arith, h.deep))
at_sync v proc t count (f ∷ fs) b n d p h = from_top h.each
  where
    from_top : AllStand v proc (suc t) t count (f ∷ fs) → Invariant v proc (suc t) count (synced f ∷ fs)
    from_top (one_more s r) = finish v proc t count (synced f) fs b s.home (omega (arith, h.deep)) p
        (one_more (syncs v proc (suc t) t count (length fs) f (omega arith) n (omega (arith, h.deep)) (omega (arith, h.deep)) s)
        (stay v proc (suc t) t count fs (omega (arith, h.deep)) (λ j. omega (arith, h.deep)) r))
        (λ i x y. somewhere-synced f fs (proc i) ∙ h.stand i x y)

-- a return ends its procedure as it was opened
abbrev pub IsEnding : World → ℕ → Type 0
IsEnding v r = (o : ℕ) (is_called : Bool) → 1 ≤ o → o < r → v.depth r ≡ suc (v.depth o) → ((k : ℕ) → o < k → k ≤ r → v.depth r ≤ v.depth k) → v.shape o ≡ opening is_called → v.shape r ≡ closing is_called

opening_step : (v : World) (o : ℕ) (is_called : Bool) → 1 ≤ o → o < v.size → v.shape o ≡ opening is_called → v.depth (suc o) ≡ suc (v.depth o)
opening_step v o is_called a b e = by_kind is_called (subst (λ (x : Shape). Step x (v.depth o) (v.depth (suc o))) e (v.step o a b))
  where
    by_kind : (c : Bool) → Step (opening c) (v.depth o) (v.depth (suc o)) → v.depth (suc o) ≡ suc (v.depth o)
    by_kind true s = s
    by_kind false s = s

-- the executing procedure is ended as it was opened
ended : (v : World) (proc : ℕ → ℕ) (t count d : ℕ) (g : Active) → v.depth 1 ≡ 0 → suc (suc t) ≤ v.size → v.depth (suc t) ≡ suc d → IsEnding v (suc t)
    → Stands v proc (suc t) t count (suc d) g → v.shape (suc t) ≡ closing g.is_called
ended v proc t count d g root b a ends u = from_home u.home.place refl
  where
    from_home : (h : ℕ) → u.home.place ≡ h → v.shape (suc t) ≡ closing g.is_called
    from_home zero e = absurd (omega (arith, u.home.from_one))
    from_home (suc zero) e = let level : v.depth u.home.place ≡ v.depth 1 = ap v.depth e in absurd (omega (arith, u.home.level))
    from_home (suc (suc o)) e =
        let before : u.home.place - 1 ≡ suc o = omega arith in
        let shape : v.shape (suc o) ≡ opening g.is_called = ap v.shape (sym before) ∙ u.home.opened (omega arith) in
        let up : v.depth (suc (suc o)) ≡ suc (v.depth (suc o)) = opening_step v (suc o) g.is_called (omega arith) (omega (arith, u.home.upto)) shape in
        let level : v.depth u.home.place ≡ v.depth (suc (suc o)) = ap v.depth e in
        ends (suc o) g.is_called (omega arith) (omega (arith, u.home.upto)) (omega (arith, u.home.level))
        (λ k x y. let above : suc d ≤ v.depth k = u.home.above k (omega arith) y in omega arith) shape

pub at_return : (v : World) (proc : ℕ → ℕ) (t count : ℕ) (fs : List Active) → v.depth 1 ≡ 0 → suc (suc t) ≤ v.size → IsEnding v (suc t) → v.depth (suc t) ≡ suc (v.depth (suc (suc t)))
    → proc (suc (suc t)) ≡ current (after_return fs) → Invariant v proc t count fs → Invariant v proc (suc t) count (after_return fs)
at_return v proc t count [] root b n d p h = absurd (omega (arith, h.deep))
at_return v proc t count (g ∷ []) root b n d p h = absurd (omega (arith, h.deep))
at_return v proc t count (g ∷ f ∷ fs) root b n d p h = from_top h.each
  where
    by_kind : (c : Bool) → g.is_called ≡ c → v.shape (suc t) ≡ closing c → Stands v proc (suc t) t count (suc (length fs)) g → Stands v proc (suc t) t count (length fs) f
        → AllStand v proc (suc t) t count fs → Invariant v proc (suc t) count (adopts f g ∷ fs)
    by_kind false e n u s r =
        subst (λ (a : Active). Invariant v proc (suc t) count (a ∷ fs)) (sym (adopts_spawned f g e))
        (finish v proc t count (taken f g) fs b s.home (omega (arith, h.deep)) p
        (one_more (closes v proc t count (length fs) f g b n (omega (arith, h.deep)) (omega (arith, h.deep)) u s)
        (stay v proc (suc t) t count fs (omega (arith, h.deep)) (λ j. omega (arith, h.deep)) r))
        (λ i x y. somewhere-takes_in f g fs (proc i) ∙ h.stand i x y))
    by_kind true e n u s r =
        subst (λ (a : Active). Invariant v proc (suc t) count (a ∷ fs)) (sym (adopts_called f g e))
        (finish v proc t count (taken_back f g) fs b s.home (omega (arith, h.deep)) p
        (one_more (comes_back v proc t count (length fs) f g b n (omega (arith, h.deep)) (omega (arith, h.deep)) u s)
        (stay v proc (suc t) t count fs (omega (arith, h.deep)) (λ j. omega (arith, h.deep)) r))
        (λ i x y. somewhere-takes_back f g fs (proc i) ∙ h.stand i x y))

    from_next : Stands v proc (suc t) t count (suc (length fs)) g → AllStand v proc (suc t) t count (f ∷ fs) → Invariant v proc (suc t) count (adopts f g ∷ fs)
    from_next u (one_more s r) =
        by_kind g.is_called refl (ended v proc t count (length fs) g root b (omega (arith, h.deep)) n u) u s r

    from_top : AllStand v proc (suc t) t count (g ∷ f ∷ fs) → Invariant v proc (suc t) count (adopts f g ∷ fs)
    from_top (one_more u r) = from_next u r

pub at_enter : (v : World) (proc : ℕ → ℕ) (t count : ℕ) (fs : List Active) (is_called : Bool) → suc (suc t) ≤ v.size → v.shape (suc t) ≡ opening is_called → v.depth (suc (suc t)) ≡ suc (v.depth (suc t))
    → proc (suc (suc t)) ≡ count → Invariant v proc t count fs → Invariant v proc (suc t) (count + 1) (opened is_called count ∷ fs)
at_enter v proc t count fs is_called b n d p h = record {
  deep = omega (arith, h.deep);
  each = one_more (record {
    serial = λ i x y c. elim (cases_eq i (suc (suc t))) [
      | inl z ↦ subst (λ (j : ℕ). Serial v (suc t) (length fs) j) (sym z) (serial_now v (suc t) (length fs) level)
      | inr z ↦ absurd (let e : proc i ≡ count = in_one count (proc i) c in
          let l : proc i < count = somewhere_below v proc (suc t) t count fs (proc i) h.each (h.stand i x (omega arith)) in omega arith)
    ];
    parallel = λ i x y c. in_none (proc i) c;
    serial_below = λ q c. omega (arith, in_one count q c);
    parallel_below = λ q c. in_none q c;
    home = record {
      place = suc (suc t);
      from_one = omega arith;
      upto = omega arith;
      is_own = p;
      level = omega (arith, h.deep);
      above = λ k x y. (let e : v.depth k ≡ v.depth (suc (suc t)) = ap v.depth (only k t x y) in omega (arith, h.deep));
      opened = λ more. ap v.shape one_back ∙ n;
    };
  }) (more_of_new_all v proc (suc t) count (count + 1) fs (omega arith)
      (stay v proc (suc t) t count fs (omega (arith, h.deep)) (λ j. absurd (both_ways _ (ap joins n ∙ joins_not is_called) j)) h.each) (omega arith));
  stand = λ i x y. elim (cases_eq i (suc (suc t))) [
    | inl z ↦ new_stands (proc i) (ap proc z ∙ p)
    | inr z ↦ old_stands (proc i) (h.stand i x (omega arith))
  ];
}
  where
    joins_not : (c : Bool) → joins (opening c) ≡ false
    joins_not true = refl
    joins_not false = refl

    one_back : suc (suc t) - 1 ≡ suc t
    one_back = omega arith

    level : v.depth (suc (suc t)) ≡ length fs
    level = omega (arith, h.deep)

    only : (k t : ℕ) → suc (suc t) ≤ k → k ≤ suc (suc t) → k ≡ suc (suc t)
    only k t x y = omega arith

    new_stands : (q : ℕ) → q ≡ count → somewhere (opened is_called count ∷ fs) q ≡ true
    new_stands q e = ap (λ (j : ℕ). somewhere (opened is_called count ∷ fs) j) e
        ∙ ap (λ (c : Bool). (c || set.contains (set.empty {R = nat_cmp}) count) || somewhere fs count) (one_in count)

    or_more : (c d : Bool) → d ≡ true → (c || d) ≡ true
    or_more c d e = grind arith

    old_stands : (q : ℕ) → somewhere fs q ≡ true → somewhere (opened is_called count ∷ fs) q ≡ true
    old_stands q e = or_more (set.contains (opened is_called count).serial q || set.contains (opened is_called count).parallel q) (somewhere fs q) e

pub at_start : (v : World) (proc : ℕ → ℕ) → v.depth 1 ≡ 0 → proc 1 ≡ 0 → Invariant v proc 0 1 (opened false 0 ∷ [])
at_start v proc d p = record {
  deep = omega arith;
  each = one_more (record {
    serial = λ i x y c. subst (λ (j : ℕ). Serial v 0 0 j) (only i x y) (serial_now v 0 0 d);
    parallel = λ i x y c. in_none (proc i) c;
    serial_below = λ q c. omega (arith, in_one 0 q c);
    parallel_below = λ q c. in_none q c;
    home = record { place = 1; from_one = omega arith; upto = omega arith; is_own = p; level = d; above = λ k x y. omega arith; opened = λ more. absurd (omega arith) };
  }) none;
  stand = λ i x y. ap (λ (j : ℕ). somewhere (opened false 0 ∷ []) (proc j)) (sym (only i x y))
      ∙ ap (λ (j : ℕ). somewhere (opened false 0 ∷ []) j) p
      ∙ ap (λ (c : Bool). (c || set.contains (set.empty {R = nat_cmp}) 0) || false) (one_in 0);
}
  where
    only : (i : ℕ) → 1 ≤ i → i ≤ 1 → 1 ≡ i
    only i x y = omega arith
