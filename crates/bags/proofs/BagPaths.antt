-- A procedure stands in a P-bag exactly where its places are parallel to the next place.
use Rattle.bags.proofs.Common.{◌≡◌, ℕ, zero, suc, ◌≤◌, ◌↔◌, Bool, true, false, ◌||◌, List, [], ◌∷◌, length, take, slice_get, Option, Some, None, inl, inr, refl, sym, ◌∙◌, subst, ap, arith, cases_Bool, both_ways, or_cases, Spawn, Call, Return, Sync, Read, Write, World, Shape, Step, spawn, call, joins, pending-parallel, parallel-pending, access-place, access-not_joins, IsPlace-at, leads_or_parallel, Active, Procedures, event, bags_from, bags_after, in_p, current, procedure_at, Kept, Serial, kept-pending, serial-not_pending}
use Rattle.std.specs.FinSet as set
use Rattle.dag.specs.declared.records.Record.{Record}
use Rattle.dag.specs.Traces.{at, placed, placed_from, depth, IsPlace, IsWellNested}
use Rattle.dag.specs.Dag.{JoinsAt, Leads, IsParallel}
use Rattle.dag.specs.Races.{IsAccessPlace}
use Rattle.dag.proofs.Lists.{element_at}
use Rattle.dag.proofs.Traced.{traced, is_call, opener_of, opener-is, shape_of, shape_at, called_shape, spawned_shape, step_at, not_joined}
use Rattle.bags.specs.Paths.{DecidesPaths, IsCompletedAt}
use Rattle.bags.proofs.Stack.{AllStand, one_more, somewhere, Invariant, IsEnding, opening, closing, at_start, at_access, at_sync, at_return, at_enter}

-- the bags after one record more
bags_from-more : (s : Procedures) (i : ℕ) (w : List Record) (t : ℕ) (r : Record) → slice_get w t ≡ Some r
    → bags_from s (take (suc t) (placed_from i w)) ≡ event (bags_from s (take t (placed_from i w))) r
bags_from-more s i [] t r e = absurd (cc)
bags_from-more s i (x ∷ w) zero r e = let f : x ≡ r = cc in ap (event s) f
bags_from-more s i (x ∷ w) (suc t) r e = bags_from-more (event s x) (suc i) w t r e

pub bags_after-more : (w : List Record) (t : ℕ) (r : Record) → slice_get w t ≡ Some r → bags_after (take (suc t) (placed w)) ≡ event (bags_after (take t (placed w))) r
bags_after-more w t r e = bags_from-more _ 1 w t r e

abbrev Stand : (w : List Record) {n d : ℕ} → IsWellNested w n d → ℕ → Procedures → Type 0
Stand w h t s = Invariant (traced w h) (procedure_at w) t s.count s.active

-- what a shape says of the record
shape-call : (z : Bool) (o : Option Record) → shape_of z o ≡ call → o ≡ Some Call
shape-call z None e = absurd (cc)
shape-call z (Some Spawn) e = absurd (cc)
shape-call z (Some Call) e = refl
shape-call true (Some Return) e = absurd (cc)
shape-call false (Some Return) e = absurd (cc)
shape-call z (Some Sync) e = absurd (cc)
shape-call z (Some (Read l)) e = absurd (cc)
shape-call z (Some (Write l)) e = absurd (cc)

shape-spawn : (z : Bool) (o : Option Record) → shape_of z o ≡ spawn → o ≡ Some Spawn
shape-spawn z None e = absurd (cc)
shape-spawn z (Some Spawn) e = refl
shape-spawn z (Some Call) e = absurd (cc)
shape-spawn true (Some Return) e = absurd (cc)
shape-spawn false (Some Return) e = absurd (cc)
shape-spawn z (Some Sync) e = absurd (cc)
shape-spawn z (Some (Read l)) e = absurd (cc)
shape-spawn z (Some (Write l)) e = absurd (cc)

-- a return ends its procedure as it was opened
ending : (w : List Record) {n d : ℕ} (h : IsWellNested w n d) (r : ℕ) → at w r ≡ Some Return → IsEnding (traced w h) r
ending w h r e o is_called a b up above shape = by_kind is_called shape
  where
    opener : opener_of w r ≡ o
    opener = opener-is w o r (record { before = b; above = omega arith; last = λ k x y q. omega (arith, above k x (omega arith)) })

    by_kind : (c : Bool) → shape_at w o ≡ opening c → shape_at w r ≡ closing c
    by_kind true f = called_shape w r e (ap (at w) opener ∙ shape-call _ (at w o) f)
    by_kind false f = spawned_shape w r e (ap (at w) opener ∙ shape-spawn _ (at w o) f)

-- one record
at_record : (w : List Record) {n d : ℕ} (h : IsWellNested w n d) (t : ℕ) (s : Procedures) (r : Record) → suc (suc t) ≤ length w → at w (suc t) ≡ Some r
    → (z : Bool) → shape_at w (suc t) ≡ shape_of z (Some r) → Step (shape_of z (Some r)) (depth w (suc t)) (depth w (suc (suc t))) → procedure_at w (suc (suc t)) ≡ current (event s r).active
    → Stand w h t s → Stand w h (suc t) (event s r)
at_record w h t s Spawn b a z e d p i = at_enter (traced w h) (procedure_at w) t s.count s.active false b e d p i
at_record w h t s Call b a z e d p i = at_enter (traced w h) (procedure_at w) t s.count s.active true b e d p i
at_record w h t s Return b a true e d p i = at_return (traced w h) (procedure_at w) t s.count s.active refl b (ending w h (suc t) a) d p i
at_record w h t s Return b a false e d p i = at_return (traced w h) (procedure_at w) t s.count s.active refl b (ending w h (suc t) a) d p i
at_record w h t s Sync b a z e d p i = at_sync (traced w h) (procedure_at w) t s.count s.active b (ap joins e) d p i
at_record w h t s (Read l) b a z e d p i = at_access (traced w h) (procedure_at w) t s.count s.active b (ap joins e) d p i
at_record w h t s (Write l) b a z e d p i = at_access (traced w h) (procedure_at w) t s.count s.active b (ap joins e) d p i

one_record : (w : List Record) {n d : ℕ} (h : IsWellNested w n d) (t : ℕ) (r : Record) → suc (suc t) ≤ length w → slice_get w t ≡ Some r
    → Stand w h t (bags_after (take t (placed w))) → Stand w h (suc t) (bags_after (take (suc t) (placed w)))
one_record w h t r b e i =
    let f : bags_after (take (suc t) (placed w)) ≡ event (bags_after (take t (placed w))) r = bags_after-more w t r e in
    let z : Bool = is_call (at w (opener_of w (suc t))) in
    let g : shape_at w (suc t) ≡ shape_of z (Some r) = ap (shape_of z) e in
    let d : Step (shape_at w (suc t)) (depth w (suc t)) (depth w (suc (suc t))) = step_at w h (suc t) (omega arith) b in
    subst (λ (s : Procedures). Stand w h (suc t) s) (sym f)
    (at_record w h t (bags_after (take t (placed w))) r b e z g
    (subst (λ (x : Shape). Step x (depth w (suc t)) (depth w (suc (suc t)))) g d)
    (ap (λ (s : Procedures). current s.active) f) i)

-- the invariant after every beginning of a trace
pub holds : (w : List Record) {n d : ℕ} (h : IsWellNested w n d) (t : ℕ) → suc t ≤ length w → Stand w h t (bags_after (take t (placed w)))
holds w h zero b = at_start (traced w h) (procedure_at w) refl refl
holds w h (suc t) b = let r = element_at w t (omega arith) in one_record w h t r.0 b r.1 (holds w h t (omega arith))

-- what a look-up says

in_p-kept : (v : World) (proc : ℕ → ℕ) (m t count : ℕ) (fs : List Active) (i : ℕ) → 1 ≤ i → i ≤ m → AllStand v proc m t count fs → in_p fs (proc i) ≡ true → (d : ℕ) × Kept v t d i
in_p-kept v proc m t count [] i a b s h = absurd (cc)
in_p-kept v proc m t count (f ∷ fs) i a b (one_more s r) h = elim (or_cases _ _ h) [
  | inl q ↦ (length fs, s.parallel i a b q)
  | inr q ↦ in_p-kept v proc m t count fs i a b r q
]

or_false : (a b : Bool) → (a || b) ≡ false → (a ≡ false) × (b ≡ false)
or_false true b e = absurd (cc)
or_false false b e = (refl, e)

somewhere-serial : (v : World) (proc : ℕ → ℕ) (m t count : ℕ) (fs : List Active) (i : ℕ) → 1 ≤ i → i ≤ m → AllStand v proc m t count fs
    → somewhere fs (proc i) ≡ true → in_p fs (proc i) ≡ false → (d : ℕ) × Serial v t d i
somewhere-serial v proc m t count [] i a b s h n = absurd (cc)
somewhere-serial v proc m t count (f ∷ fs) i a b (one_more s r) h n = elim (or_cases (set.contains f.serial (proc i) || set.contains f.parallel (proc i)) (somewhere fs (proc i)) h) [
  | inl q ↦ elim (or_cases (set.contains f.serial (proc i)) (set.contains f.parallel (proc i)) q) [
    | inl c ↦ (length fs, s.serial i a b c)
    | inr c ↦ absurd (both_ways _ (or_false (set.contains f.parallel (proc i)) (in_p fs (proc i)) n).0 c)
  ]
  | inr q ↦ somewhere-serial v proc m t count fs i a b r q (or_false (set.contains f.parallel (proc i)) (in_p fs (proc i)) n).1
]

-- at a place that doesn't wait for children
pub in_p-parallel_at : (w : List Record) {n d : ℕ} → IsWellNested w n d → (i t : ℕ) → IsPlace w i → i ≤ t → IsPlace w (suc t) → (JoinsAt w (suc t) → ⊥)
    → (in_p (bags_after (take t (placed w))).active (procedure_at w i) ≡ true) ↔ IsParallel w i (suc t)
in_p-parallel_at w h i t a l b n = (λ q. forth q, λ q. back q)
  where
    fs : List Active
    fs = (bags_after (take t (placed w))).active

    inv : Stand w h t (bags_after (take t (placed w)))
    inv = holds w h t b.1

    forth : in_p (bags_after (take t (placed w))).active (procedure_at w i) ≡ true → IsParallel w i (suc t)
    forth q =
        let k = in_p-kept (traced w h) (procedure_at w) (suc t) t _ _ i a.0 (omega arith) inv.each q in
        pending-parallel w h i (suc t) _ a b (omega arith) (kept-pending (traced w h) t k.0 i (not_joined w (suc t) n) k.1)

    back : IsParallel w i (suc t) → in_p (bags_after (take t (placed w))).active (procedure_at w i) ≡ true
    back q = elim (cases_Bool (in_p (bags_after (take t (placed w))).active (procedure_at w i))) [
      | inl y ↦ y
      | inr y ↦ absurd
          (let p = parallel-pending w h i (suc t) a b (omega arith) q in
          let z = somewhere-serial (traced w h) (procedure_at w) (suc t) t _ _ i a.0 (omega arith) inv.each (inv.stand i a.0 (omega arith)) y in
          serial-not_pending (traced w h) t z.0 i p.0 a.0 b.1 z.1 p.1)
    ]

pub in_p-parallel : (w : List Record) {n d : ℕ} → IsWellNested w n d → (i t : ℕ) → IsPlace w i → i ≤ t → IsAccessPlace w (suc t) → (in_p (bags_after (take t (placed w))).active (procedure_at w i) ≡ true) ↔ IsParallel w i (suc t)
in_p-parallel w h i t a l c = in_p-parallel_at w h i t a l (access-place w (suc t) c) (access-not_joins w (suc t) c)

-- the same, said of a completed procedure's return
decides : (w : List Record) (n d t r p : ℕ) → IsWellNested w n d → IsPlace w (suc t) → (JoinsAt w (suc t) → ⊥) → IsCompletedAt w p r → r ≤ t
    → (in_p (bags_after (take t (placed w))).active p ≡ true) ↔ (Leads w r (suc t) → ⊥)
decides w n d t r p h b j c l = (λ q. forth q, λ q. back q)
  where
    a : IsPlace w r
    a = IsPlace-at w r Return c.a_return

    both : (in_p (bags_after (take t (placed w))).active (procedure_at w r) ≡ true) ↔ IsParallel w r (suc t)
    both = in_p-parallel_at w h r t a l b j

    forth : in_p (bags_after (take t (placed w))).active p ≡ true → Leads w r (suc t) → ⊥
    forth q = (both.0 (subst (λ (x : ℕ). in_p (bags_after (take t (placed w))).active x ≡ true) c.its_own q)).not_forth

    back : (Leads w r (suc t) → ⊥) → in_p (bags_after (take t (placed w))).active p ≡ true
    back q = elim (leads_or_parallel w h r (suc t) a b (omega arith)) [
      | inl x ↦ absurd (q x)
      | inr x ↦ subst (λ (y : ℕ). in_p (bags_after (take t (placed w))).active y ≡ true) (sym c.its_own) (both.1 x)
    ]

pub in_p-decides : (s : Procedures) (p : ℕ) (answer : Bool) → answer ≡ in_p s.active p → DecidesPaths s p answer
in_p-decides s p answer e w n d t r h f b j c l =
    subst (λ (x : Bool). (x ≡ true) ↔ (Leads w r (suc t) → ⊥)) (sym (e ∙ ap (λ (z : Procedures). in_p z.active p) f)) (decides w n d t r p h b j c l)
