-- A walk back from a place of a well nested trace: it finds the record that opened the place's procedure, over
-- procedures that were opened and returned before the place.
use Rattle.dag.proofs.Common.{◌≡◌, ℕ, zero, suc, ◌+◌, ◌-◌, ◌<◌, ◌≤◌, List, length, get_or, slice_get, Option, Some, ◌⊎◌, inl, inr, sym, ◌∙◌, subst, ap, arith, cases_eq, slice_get-get_or, Record, Spawn, Call, Return, Sync, Read, Write, at, depth, IsWellNested, IsOpenerOf, Opens}
use Rattle.dag.proofs.World.{Step, leaves_by}
use Rattle.dag.proofs.Traced.{traced, shape_of, is_call, opener_of, step_at, returns-shape}

-- what a record makes of the depth

step_with : (w : List Record) {n d : ℕ} → IsWellNested w n d → (p : ℕ) (r : Record) → 1 ≤ p → p < length w → at w p ≡ Some r
    → Step (shape_of (is_call (at w (opener_of w p))) (Some r)) (depth w p) (depth w (suc p))
step_with w h p r a b e = subst (λ (o : Option Record). Step (shape_of (is_call (at w (opener_of w p))) o) (depth w p) (depth w (suc p))) e (step_at w h p a b)

pub opener_deeper : (w : List Record) {n d : ℕ} → IsWellNested w n d → (p : ℕ) → 1 ≤ p → p < length w → Opens (at w p) → depth w (suc p) ≡ suc (depth w p)
opener_deeper w h p a b (inl e) = step_with w h p Spawn a b e
opener_deeper w h p a b (inr e) = step_with w h p Call a b e

pub return_shallower : (w : List Record) {n d : ℕ} → IsWellNested w n d → (p : ℕ) → 1 ≤ p → p < length w → at w p ≡ Some Return → depth w p ≡ suc (depth w (suc p))
return_shallower w h p a b e = leaves_by (traced w h) p a b (returns-shape _ (at w p) e)

-- a sync, a read or a write
abbrev pub Stays : Record → Type 0
Stays r = (r ≡ Sync) ⊎ (((l : ℕ) × (r ≡ Read l)) ⊎ ((l : ℕ) × (r ≡ Write l)))

pub stays_deep : (w : List Record) {n d : ℕ} → IsWellNested w n d → (p : ℕ) (r : Record) → 1 ≤ p → p < length w → at w p ≡ Some r → Stays r → depth w (suc p) ≡ depth w p
stays_deep w h p r a b e (inl s) = step_with w h p Sync a b (e ∙ ap (λ (x : Record). Some x) s)
stays_deep w h p r a b e (inr (inl (l, s))) = step_with w h p (Read l) a b (e ∙ ap (λ (x : Record). Some x) s)
stays_deep w h p r a b e (inr (inr (l, s))) = step_with w h p (Write l) a b (e ∙ ap (λ (x : Record). Some x) s)

-- from the place back to q, which is so much deeper
pub record Backed (w : List Record) (place q inside : ℕ) : Type 0 where
  pub reached : depth w q ≡ depth w place + inside
  pub over : (k : ℕ) → q ≤ k → k < place → depth w place ≤ depth w k

abbrev pub Backs : List Record → ℕ → ℕ → ℕ → Type 0
Backs w place q inside = (n d : ℕ) → IsWellNested w n d → Backed w place q inside

-- one place further back
further : (w : List Record) (place p inside more : ℕ) → Backed w place (suc p) inside → depth w p ≡ depth w place + more → Backed w place p more
further w place p inside more b e = record {
  reached = e;
  over = λ k x y. elim (cases_eq p k) [
    | inl q ↦ let f : depth w p ≡ depth w k = ap (depth w) q in omega arith
    | inr q ↦ b.over k (omega arith) y
  ];
}

-- what the walk knows of the record that it comes to
pub record Before (w : List Record) (place p : ℕ) (r : Record) : Type 0 where
  pub from : 1 ≤ p
  pub before : p < place
  pub within : place ≤ length w
  pub there : at w p ≡ Some r

opens_at : (o : Option Record) (r : Record) → o ≡ Some r → (r ≡ Spawn) ⊎ (r ≡ Call) → Opens o
opens_at o r e (inl q) = inl (e ∙ ap (λ (x : Record). Some x) q)
opens_at o r e (inr q) = inr (e ∙ ap (λ (x : Record). Some x) q)

pub back_opener : (w : List Record) (place p inside : ℕ) (r : Record) → Before w place p r → (r ≡ Spawn) ⊎ (r ≡ Call) → 0 < inside → Backs w place (suc p) inside → Backs w place p (inside - 1)
back_opener w place p inside r a o l s n d h =
    let b = s n d h in
    let e : depth w (suc p) ≡ suc (depth w p) = opener_deeper w h p a.from (omega (arith, a.before, a.within)) (opens_at (at w p) r a.there o) in
    further w place p inside (inside - 1) b (omega (arith, b.reached))

pub back_return : (w : List Record) (place p inside : ℕ) (r : Record) → Before w place p r → r ≡ Return → Backs w place (suc p) inside → Backs w place p (inside + 1)
back_return w place p inside r a o s n d h =
    let b = s n d h in
    let e : depth w p ≡ suc (depth w (suc p)) = return_shallower w h p a.from (omega (arith, a.before, a.within)) (a.there ∙ ap (λ (x : Record). Some x) o) in
    further w place p inside (inside + 1) b (omega (arith, b.reached))

pub back_stays : (w : List Record) (place p inside : ℕ) (r : Record) → Before w place p r → Stays r → Backs w place (suc p) inside → Backs w place p inside
back_stays w place p inside r a o s n d h =
    let b = s n d h in
    let e : depth w (suc p) ≡ depth w p = stays_deep w h p r a.from (omega (arith, a.before, a.within)) a.there o in
    further w place p inside inside b (omega (arith, b.reached))

-- the opener is found
pub back_found : (w : List Record) (place p inside : ℕ) (r : Record) → Before w place p r → (r ≡ Spawn) ⊎ (r ≡ Call) → inside ≡ 0 → Backs w place (suc p) inside
    → (n d : ℕ) → IsWellNested w n d → 0 < depth w place → IsOpenerOf w p place
back_found w place p inside r a o z s n d h deep =
    let b = s n d h in
    let e : depth w (suc p) ≡ suc (depth w p) = opener_deeper w h p a.from (omega (arith, a.before, a.within)) (opens_at (at w p) r a.there o) in
    record {
      before = a.before;
      above = omega (arith, b.reached);
      last = λ k x y q. omega (arith, b.over k x y, b.reached);
    }

-- there is none: the root executes the place
pub back_none : (w : List Record) (place inside : ℕ) → Backs w place 1 inside → (n d : ℕ) → IsWellNested w n d → 0 < depth w place → ⊥
back_none w place inside s n d h deep = let b = s n d h in omega (arith, b.reached)

-- the same for a loop that counts its steps back from 1

pub before_at : (w : List Record) (place back : ℕ) (r s : Record) → 1 ≤ back → back < place → place ≤ length w → get_or w (place - back - 1) s ≡ r → Before w place (place - back) r
before_at w place back r s a b c e =
    let f : suc (place - back - 1) ≡ place - back = omega arith in
    let z : slice_get w (place - back - 1) ≡ Some (get_or w (place - back - 1) s) = slice_get-get_or w (place - back - 1) s (omega arith) in
    record {
      from = omega arith;
      before = omega arith;
      within = c;
      there = ap (at w) (sym f) ∙ (z ∙ ap (λ (x : Record). Some x) e);
    }

pub back_from : (w : List Record) (place back inside : ℕ) → 1 ≤ back → back < place → Backs w place (place - (back - 1)) inside → Backs w place (suc (place - back)) inside
back_from w place back inside a b s = subst (λ (q : ℕ). Backs w place q inside) (omega arith) s

pub back_next : (w : List Record) (place back inside more : ℕ) → more ≡ inside → Backs w place (place - back) inside → Backs w place (place - (back + 1 - 1)) more
back_next w place back inside more e s = subst (λ (q : ℕ). Backs w place q more) (omega arith) (subst (Backs w place (place - back)) (sym e) s)

here : (w : List Record) (place : ℕ) → Backs w place place 0
here w place n d h = record { reached = omega arith; over = λ k x y. absurd (omega arith) }

pub back_first : (w : List Record) (place : ℕ) → Backs w place (place - (1 - 1)) 0
back_first w place = subst (λ (q : ℕ). Backs w place q 0) (omega arith) (here w place)

pub back_last : (w : List Record) (place back inside : ℕ) → (1 ≤ place → back ≤ place) → place ≤ back → Backs w place (place - (back - 1)) inside
    → (n d : ℕ) → IsWellNested w n d → 0 < depth w place → IsOpenerOf w 0 place
back_last w zero back inside l m s n d h deep = absurd (omega arith)
back_last w (suc place) back inside l m s n d h deep =
    let e : back ≡ suc place = omega (arith, l (omega arith)) in
    absurd (back_none w (suc place) inside (subst (λ (q : ℕ). Backs w (suc place) q inside) (omega arith) s) n d h deep)
