-- A walk from a place on: it knows how far it is above the least depth since, a place of the procedure at that
-- depth, and whether a child that was spawned and returned to that depth is still pending.
use Rattle.trace.proofs.Common.{◌≡◌, ℕ, suc, ◌+◌, ◌-◌, ◌<◌, ◌≤◌, ◌↔◌, Bool, true, false, List, length, take, drop, get_or, slice_get, Option, Some, ◌⊎◌, inl, inr, refl, sym, ◌∙◌, subst, ap, arith, length-take, length-drop, cases_Bool, cases_lt, both_ways, false≢true, get_or-take, get_or-drop, slice_get-get_or, Record, Spawn, Call, Return, Sync, Write, at, depth, IsWellNested, opener_deeper, return_shallower, stays_deep, true≢false}
use Rattle.dag.specs.declared.records.Record.TheVariants.{Read}
use Rattle.dag.specs.Dag.{JoinsAt, IsOpenerOf, IsParallel}
use Rattle.dag.specs.Meeting.{Opens}
use Rattle.dag.proofs.World.{World, spawned_return, called_return, joins}
use Rattle.dag.proofs.Traced.{traced, shape_at, opener_of, opener-is, called_shape, spawned_shape, shape-joins, joins-shape, not_joined}
use Rattle.dag.proofs.Paths.{pending-parallel, parallel-pending}
use Rattle.dag.proofs.Standing.{Kept, Serial, kept_stays, serial_stays, kept-above, kept_synced, returned, returned_call, kept-pending, serial-not_pending}
use Rattle.dag.proofs.Meetings.{Opened, opened_at}

-- t records are done; the place low is of the procedure at the least depth
pub record Walked (v : World) (i t above low : ℕ) (pending : Bool) : Type 0 where
  pub least : ℕ
  pub reached : least + above ≡ v.depth (suc t)
  pub kept : pending ≡ true → Kept v t least i
  pub serial : pending ≡ false → Serial v t least i
  pub before : low ≤ i
  pub on : v.depth low ≡ least
  pub over : (k : ℕ) → low ≤ k → k ≤ i → least ≤ v.depth k

abbrev pub Walks : List Record → ℕ → ℕ → ℕ → ℕ → Bool → Type 0
Walks w i t above low pending = (n d : ℕ) (h : IsWellNested w n d) → Walked (traced w h) i t above low pending

-- what stays on its level
stays : (v : World) (i t above more low : ℕ) (pending : Bool) (h : Walked v i t above low pending) → h.least + more ≡ v.depth (suc (suc t))
    → (v.depth (suc t) ≡ h.least → joins (v.shape (suc t)) ≡ true → ⊥) → Walked v i (suc t) more low pending
stays v i t above more low pending h e n = record {
  least = h.least;
  reached = e;
  kept = λ q. kept_stays v t h.least i (omega arith) n (h.kept q);
  serial = λ q. serial_stays v t h.least i (omega arith) (h.serial q);
  before = h.before;
  on = h.on;
  over = h.over;
}

syncs : (v : World) (i t low : ℕ) (pending : Bool) → 1 ≤ i → suc t ≤ v.size → (h : Walked v i t 0 low pending) → v.depth (suc (suc t)) ≡ v.depth (suc t) → joins (v.shape (suc t)) ≡ true
    → Walked v i (suc t) 0 low false
syncs v i t low pending a b h e j = record {
  least = h.least;
  reached = omega (arith, h.reached);
  kept = λ q. absurd (false≢true q);
  serial = λ _. by_pending (cases_Bool pending);
  before = h.before;
  on = h.on;
  over = h.over;
}
  where
    by_pending : (pending ≡ true) ⊎ (pending ≡ false) → Serial v (suc t) h.least i
    by_pending (inl q) = kept_synced v t h.least i a b j (omega (arith, h.reached)) (omega (arith, h.reached)) (h.kept q)
    by_pending (inr q) = serial_stays v t h.least i (omega (arith, h.reached)) (h.serial q)

-- nothing from the first place on is less deep than the least depth
above_least : (v : World) (i t above low : ℕ) (pending : Bool) (h : Walked v i t above low pending) → (k : ℕ) → i ≤ k → k ≤ suc t → h.least ≤ v.depth k
above_least v i t above low pending h k x y = by_pending (cases_Bool pending)
  where
    by_pending : (pending ≡ true) ⊎ (pending ≡ false) → h.least ≤ v.depth k
    by_pending (inl q) = kept-above v t h.least i (h.kept q) k x y
    by_pending (inr q) = (h.serial q).above k x y

-- nor is anything from the place low on
over_least : (v : World) (i t above low : ℕ) (pending : Bool) (h : Walked v i t above low pending) → (k : ℕ) → low ≤ k → k ≤ suc t → h.least ≤ v.depth k
over_least v i t above low pending h k x y = elim (cases_lt k i) [
  | inl l ↦ h.over k x (omega arith)
  | inr l ↦ above_least v i t above low pending h k l y
]

-- the opener of the procedure that returns, one level up
record Parent (v : World) (i t o : ℕ) : Type 0 where
  before : o ≤ i
  on : v.depth o ≡ v.depth (suc (suc t))
  over : (k : ℕ) → o ≤ k → k ≤ i → v.depth (suc (suc t)) ≤ v.depth k

returns_spawned : (v : World) (i t low o : ℕ) (pending : Bool) → i ≤ suc t → (h : Walked v i t 0 low pending) → v.depth (suc t) ≡ suc (v.depth (suc (suc t))) → Parent v i t o
    → v.shape (suc t) ≡ spawned_return → Walked v i (suc t) 0 o true
returns_spawned v i t low o pending a h e p s = record {
  least = v.depth (suc (suc t));
  reached = omega arith;
  kept = λ _. returned v t (v.depth (suc (suc t))) i a s e refl (λ k x y. omega (arith, above_least v i t 0 low pending h k x y, h.reached));
  serial = λ q. absurd (true≢false q);
  before = p.before;
  on = p.on;
  over = p.over;
}

returns_called : (v : World) (i t low o : ℕ) (pending : Bool) → 1 ≤ i → i ≤ suc t → suc (suc t) ≤ v.size → (h : Walked v i t 0 low pending) → v.depth (suc t) ≡ suc (v.depth (suc (suc t)))
    → Parent v i t o → v.shape (suc t) ≡ called_return → Walked v i (suc t) 0 o false
returns_called v i t low o pending f a b h e p s = record {
  least = v.depth (suc (suc t));
  reached = omega arith;
  kept = λ q. absurd (false≢true q);
  serial = λ _. returned_call v t (v.depth (suc (suc t))) i f a b s e refl (λ k x y. omega (arith, above_least v i t 0 low pending h k x y, h.reached));
  before = p.before;
  on = p.on;
  over = p.over;
}

not_joins : (w : List Record) (p : ℕ) (r : Record) → at w p ≡ Some r → (r ≡ Sync → ⊥) → (r ≡ Return → ⊥) → joins (shape_at w p) ≡ true → ⊥
not_joins w p r e n m j = by_record (shape-joins _ (at w p) j)
  where
    by_record : (at w p ≡ Some Sync) ⊎ (at w p ≡ Some Return) → ⊥
    by_record (inl q) = n (cc)
    by_record (inr q) = m (cc)

-- what the loop knows of the record that it comes to
pub record Item (w : List Record) (t : ℕ) (r : Record) : Type 0 where
  pub there : slice_get w t ≡ Some r
  pub inside : suc (suc t) ≤ length w

some : (o : Option Record) (r s : Record) → o ≡ Some r → r ≡ s → o ≡ Some s
some o r s e f = e ∙ ap (λ (x : Record). Some x) f

pub walk_opener : (w : List Record) (i t above low : ℕ) (pending : Bool) (r : Record) → Item w t r → (r ≡ Spawn) ⊎ (r ≡ Call) → Walks w i t above low pending → Walks w i (suc t) (above + 1) low pending
walk_opener w i t above low pending r b o s n d h =
    let z : depth w (suc (suc t)) ≡ suc (depth w (suc t)) = opener_deeper w h (suc t) (omega arith) (omega (arith, b.inside)) (by_kind o) in
    let k = s n d h in
    stays (traced w h) i t above (above + 1) low pending k (omega (arith, k.reached)) (λ x y. not_joins w (suc t) r b.there (no_sync o) (no_return o) y)
  where
    by_kind : (r ≡ Spawn) ⊎ (r ≡ Call) → (slice_get w t ≡ Some Spawn) ⊎ (slice_get w t ≡ Some Call)
    by_kind (inl q) = inl (some (slice_get w t) r Spawn b.there q)
    by_kind (inr q) = inr (some (slice_get w t) r Call b.there q)

    no_sync : (r ≡ Spawn) ⊎ (r ≡ Call) → r ≡ Sync → ⊥
    no_sync (inl q) e = cc
    no_sync (inr q) e = cc

    no_return : (r ≡ Spawn) ⊎ (r ≡ Call) → r ≡ Return → ⊥
    no_return (inl q) e = cc
    no_return (inr q) e = cc

pub walk_return : (w : List Record) (i t above low : ℕ) (pending : Bool) (r : Record) → Item w t r → r ≡ Return → 0 < above → Walks w i t above low pending → Walks w i (suc t) (above - 1) low pending
walk_return w i t above low pending r b e a s n d h =
    let z : depth w (suc t) ≡ suc (depth w (suc (suc t))) = return_shallower w h (suc t) (omega arith) (omega (arith, b.inside)) (some (slice_get w t) r Return b.there e) in
    let k = s n d h in
    stays (traced w h) i t above (above - 1) low pending k (omega (arith, k.reached)) (λ x y. omega (arith, k.reached))

-- the opener that is found is the one of the procedure that returns
found : (w : List Record) {n d : ℕ} (h : IsWellNested w n d) (i t low o : ℕ) (pending : Bool) → i ≤ suc t → suc (suc t) ≤ length w → depth w (suc t) ≡ suc (depth w (suc (suc t)))
    → Walked (traced w h) i t 0 low pending → (0 < depth w low → IsOpenerOf w o low) → IsOpenerOf w o (suc t)
found w h i t low o pending l b z k f =
    let q = f (omega (arith, k.on, k.reached)) in
    record {
      before = omega (arith, q.before, k.before);
      above = omega (arith, q.above, k.on, k.reached);
      last = λ j x y e. elim (cases_lt j low) [
        | inl u ↦ q.last j x u e
        | inr u ↦ omega (arith, over_least (traced w h) i t 0 low pending k j u (omega arith), q.above, k.on)
      ];
    }

-- a return to a lower depth than the walk has seen, where the opener of its procedure is looked for
module _ (w : List Record) (n d : ℕ) (h : IsWellNested w n d) (i t low o : ℕ) (pending spawned : Bool) (m : 1 ≤ i) (l : i ≤ suc t) (b : suc (suc t) ≤ length w)
    (there : at w (suc t) ≡ Some Return) (k : Walked (traced w h) i t 0 low pending) (f : 0 < depth w low → IsOpenerOf w o low) (g : (spawned ≡ true) ↔ (at w o ≡ Some Spawn)) where
  falls_by_one : depth w (suc t) ≡ suc (depth w (suc (suc t)))
  falls_by_one = return_shallower w h (suc t) (omega arith) b there

  is_opener : opener_of w (suc t) ≡ o
  is_opener = opener-is w o (suc t) (found w h i t low o pending l b falls_by_one k f)

  parent : Opened w (depth w (suc (suc t))) (suc t) o → Parent (traced w h) i t o
  parent q = record {
    before = omega (arith, (f (omega (arith, k.on, k.reached, falls_by_one))).before, k.before);
    on = q.on;
    over = λ x y z. elim (cases_lt o x) [
      | inl u ↦ omega (arith, q.inside x u (omega arith))
      | inr u ↦ let e : depth w x ≡ depth w o = ap (depth w) (same x y u) in omega (arith, q.on)
    ];
  }
    where
      same : (x : ℕ) → o ≤ x → x ≤ o → x ≡ o
      same x y z = omega arith

  by_kind : Opened w (depth w (suc (suc t))) (suc t) o → (spawned ≡ true) ⊎ (spawned ≡ false) → Opens (at w o) → Walked (traced w h) i (suc t) 0 o spawned
  by_kind q (inl y) p =
      let s : shape_at w (suc t) ≡ spawned_return = spawned_shape w (suc t) there (ap (at w) is_opener ∙ g.0 y) in
      subst (Walked (traced w h) i (suc t) 0 o) (sym y) (returns_spawned (traced w h) i t low o pending l k falls_by_one (parent q) s)
  by_kind q (inr y) (inl p) = absurd (both_ways _ y (g.1 p))
  by_kind q (inr y) (inr p) =
      let s : shape_at w (suc t) ≡ called_return = called_shape w (suc t) there (ap (at w) is_opener ∙ p) in
      subst (Walked (traced w h) i (suc t) 0 o) (sym y) (returns_called (traced w h) i t low o pending m l b k falls_by_one (parent q) s)

  by_opener : (x : ℕ) × Opened w (depth w (suc (suc t))) (suc t) x → Walked (traced w h) i (suc t) 0 o spawned
  by_opener (x, q) =
      let e : x ≡ o = sym (opener-is w x (suc t) (record {
        before = q.before;
        above = omega (arith, q.on, falls_by_one);
        last = λ j y z r. omega (arith, q.inside j y (omega arith), q.on);
      })) ∙ is_opener in
      let p : Opened w (depth w (suc (suc t))) (suc t) o = subst (Opened w (depth w (suc (suc t))) (suc t)) e q in
      by_kind p (cases_Bool spawned) p.opens

  returns_out : Walked (traced w h) i (suc t) 0 o spawned
  returns_out = by_opener (opened_at w h (depth w (suc (suc t))) (suc t) (omega arith, omega (arith, b)) (omega (arith, falls_by_one)))

pub walk_return_out : (w : List Record) (i t above low o : ℕ) (pending spawned : Bool) (r : Record) → 1 ≤ i → i ≤ suc t → Item w t r → r ≡ Return → above ≡ 0
    → ((n d : ℕ) → IsWellNested w n d → 0 < depth w low → IsOpenerOf w o low) → (spawned ≡ true) ↔ (at w o ≡ Some Spawn) → Walks w i t above low pending → Walks w i (suc t) above o spawned
walk_return_out w i t above low o pending spawned r m l b e a f g s n d h =
    subst (λ (x : ℕ). Walked (traced w h) i (suc t) x o spawned) (sym a)
    (returns_out w n d h i t low o pending spawned m l b.inside (some (slice_get w t) r Return b.there e) (subst (λ (x : ℕ). Walked (traced w h) i t x low pending) a (s n d h)) (f n d h) g)

pub walk_sync : (w : List Record) (i t above low : ℕ) (pending : Bool) (r : Record) → 1 ≤ i → Item w t r → r ≡ Sync → above ≡ 0 → Walks w i t above low pending → Walks w i (suc t) above low false
walk_sync w i t above low pending r l b e a s n d h =
    let there : at w (suc t) ≡ Some Sync = some (slice_get w t) r Sync b.there e in
    let z : depth w (suc (suc t)) ≡ depth w (suc t) = stays_deep w h (suc t) r (omega arith) (omega (arith, b.inside)) b.there (inl e) in
    let k = subst (λ (x : ℕ). Walked (traced w h) i t x low pending) a (s n d h) in
    subst (λ (x : ℕ). Walked (traced w h) i (suc t) x low false) (sym a) (syncs (traced w h) i t low pending l (omega (arith, b.inside)) k z (joins-shape _ (at w (suc t)) (inl there)))

pub walk_sync_in : (w : List Record) (i t above low : ℕ) (pending : Bool) (r : Record) → Item w t r → r ≡ Sync → 0 < above → Walks w i t above low pending → Walks w i (suc t) above low pending
walk_sync_in w i t above low pending r b e a s n d h =
    let z : depth w (suc (suc t)) ≡ depth w (suc t) = stays_deep w h (suc t) r (omega arith) (omega (arith, b.inside)) b.there (inl e) in
    let k = s n d h in
    stays (traced w h) i t above above low pending k (omega (arith, k.reached)) (λ x y. omega (arith, k.reached))

pub walk_access : (w : List Record) (i t above low : ℕ) (pending : Bool) (r : Record) → Item w t r → ((l : ℕ) × (r ≡ Read l)) ⊎ ((l : ℕ) × (r ≡ Write l)) → Walks w i t above low pending → Walks w i (suc t) above low pending
walk_access w i t above low pending r b e s n d h =
    let z : depth w (suc (suc t)) ≡ depth w (suc t) = stays_deep w h (suc t) r (omega arith) (omega (arith, b.inside)) b.there (inr e) in
    let k = s n d h in
    stays (traced w h) i t above above low pending k (omega (arith, k.reached)) (λ x y. not_joins w (suc t) r b.there (no_sync e) (no_return e) y)
  where
    no_sync : ((l : ℕ) × (r ≡ Read l)) ⊎ ((l : ℕ) × (r ≡ Write l)) → r ≡ Sync → ⊥
    no_sync (inl (l, q)) e = cc
    no_sync (inr (l, q)) e = cc

    no_return : ((l : ℕ) × (r ≡ Read l)) ⊎ ((l : ℕ) × (r ≡ Write l)) → r ≡ Return → ⊥
    no_return (inl (l, q)) e = cc
    no_return (inr (l, q)) e = cc

-- the walk's end
pub walk_end : (w : List Record) (i t above low : ℕ) (pending : Bool) → 1 ≤ i → i < suc t → suc t ≤ length w → Walks w i t above low pending
    → (n d : ℕ) → IsWellNested w n d → (JoinsAt w (suc t) → ⊥) → (pending ≡ true) ↔ IsParallel w i (suc t)
walk_end w i t above low pending a l b s n d h j = (λ q. forth q, λ q. back q (cases_Bool pending))
  where
    k : Walked (traced w h) i t above low pending
    k = s n d h

    forth : pending ≡ true → IsParallel w i (suc t)
    forth q = pending-parallel w h i (suc t) _ (a, omega arith) (omega arith, b) l (kept-pending (traced w h) t k.least i (not_joined w (suc t) j) (k.kept q))

    back : IsParallel w i (suc t) → (pending ≡ true) ⊎ (pending ≡ false) → pending ≡ true
    back q (inl y) = y
    back q (inr y) = absurd
        (let p = parallel-pending w h i (suc t) (a, omega arith) (omega arith, b) l q in
        serial-not_pending (traced w h) t k.least i p.0 a b (k.serial y) p.1)

-- the same for a loop over the records from place i to the one before j, of which k are passed

pub item_at : (w : List Record) (i j k : ℕ) (r d : Record) → 1 ≤ i → i < j → j ≤ length w → k < length (take (j - 1 - (i - 1)) (drop (i - 1) w))
    → get_or (take (j - 1 - (i - 1)) (drop (i - 1) w)) k d ≡ r → Item w (i - 1 + k) r
item_at w i j k r d a b c l e =
    let u : length (take (j - 1 - (i - 1)) (drop (i - 1) w)) ≤ j - 1 - (i - 1) = omega (arith, length-take {A = Record}) in
    let x : get_or (take (j - 1 - (i - 1)) (drop (i - 1) w)) k d ≡ get_or (drop (i - 1) w) k d = get_or-take (j - 1 - (i - 1)) (drop (i - 1) w) k d (omega arith) in
    let y : get_or (drop (i - 1) w) k d ≡ get_or w (i - 1 + k) d = get_or-drop (i - 1) w k d in
    let z : slice_get w (i - 1 + k) ≡ Some (get_or w (i - 1 + k) d) = slice_get-get_or w (i - 1 + k) d (omega arith) in
    record {
      there = z ∙ ap (λ (q : Record). Some q) (sym y ∙ (sym x ∙ e));
      inside = omega arith;
    }

pub walk_next : (w : List Record) (i k above more low lower : ℕ) (pending later : Bool) → Walks w i (suc (i - 1 + k)) above low pending → more ≡ above → lower ≡ low → later ≡ pending
    → Walks w i (i - 1 + (k + 1)) more lower later
walk_next w i k above more low lower pending later s e g f =
    let t : suc (i - 1 + k) ≡ i - 1 + (k + 1) = omega arith in
    subst (λ (x : ℕ). Walks w i x more lower later) t
    (subst (λ (y : ℕ). Walks w i (suc (i - 1 + k)) y lower later) (sym e)
    (subst (λ (y : ℕ). Walks w i (suc (i - 1 + k)) above y later) (sym g)
    (subst (λ (b : Bool). Walks w i (suc (i - 1 + k)) above low b) (sym f) s)))

pub walk_last : (w : List Record) (i j k above low : ℕ) (pending : Bool) → 1 ≤ i → i < j → j ≤ length w
    → k ≤ length (take (j - 1 - (i - 1)) (drop (i - 1) w)) → length (take (j - 1 - (i - 1)) (drop (i - 1) w)) ≤ k
    → Walks w i (i - 1 + k) above low pending
    → (n d : ℕ) → IsWellNested w n d → (JoinsAt w j → ⊥) → (pending ≡ true) ↔ IsParallel w i j
walk_last w i j k above low pending a b c l m s n d h =
    let u : length (take (j - 1 - (i - 1)) (drop (i - 1) w)) ≡ j - 1 - (i - 1) = omega (arith, length-take {A = Record}, length-drop {A = Record}) in
    let e : suc (i - 1 + k) ≡ j = omega arith in
    subst (λ (z : ℕ). (JoinsAt w z → ⊥) → (pending ≡ true) ↔ IsParallel w i z) e
    (walk_end w i (i - 1 + k) above low pending a (omega arith) (omega arith) s n d h)
