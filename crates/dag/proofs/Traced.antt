-- A well nested trace is a world: its counts give the step law of depth, and its edges and paths are
-- those of that world.
use Rattle.dag.proofs.Common.{◌≡◌, ◌≢◌, ℕ, zero, suc, ◌+◌, ◌-◌, ◌<◌, ◌≤◌, Bool, true, false, if◌then◌else◌, eqb, List, [], ◌∷◌, length, take, sum_by, get_or, slice_get, Option, Some, None, ◌⊎◌, inl, inr, refl, sym, ◌∙◌, subst, ap, arith, add-one, cases_Bool, cases_eq, eq-eqb, ne_eqb, both_ways, slice_get_within, get_or_from_slice_get, Record, Spawn, Call, Return, Sync, Read, Write, at, depth, opens, closes, IsPlace, IsWellNested, JoinsAt, IsOpenerOf, IsPath, Leads, end_of, Opens}
use Rattle.std.proofs.lemmas.List.Sums.{sum_by_more}
use Rattle.dag.specs.Dag as dag
use Rattle.dag.proofs.World.{World, Shape, access, sync, spawn, call, spawned_return, called_return, Step, Reach, here, next, joins, returns, reach_all, LastBelow, last_below, up, rises_opens}
use Rattle.dag.proofs.World as world
use Rattle.dag.proofs.Lists.{element_at}

-- the last place before i that is one less deep than d, or 0
abbrev pub last_on : (ℕ → ℕ) → ℕ → ℕ → ℕ
last_on f d zero = 0
last_on f d (suc i) = if eqb d (f i + 1) then i else last_on f d i

abbrev pub opener_of : List Record → ℕ → ℕ
opener_of w r = last_on (depth w) (depth w r) r

abbrev pub is_call : Option Record → Bool
is_call None = false
is_call (Some Spawn) = false
is_call (Some Call) = true
is_call (Some Return) = false
is_call (Some Sync) = false
is_call (Some (Read l)) = false
is_call (Some (Write l)) = false

-- what a record does; a return does it by whether its procedure was called
abbrev pub shape_of : Bool → Option Record → Shape
shape_of called None = access
shape_of called (Some Spawn) = spawn
shape_of called (Some Call) = call
shape_of called (Some Return) = if called then called_return else spawned_return
shape_of called (Some Sync) = sync
shape_of called (Some (Read l)) = access
shape_of called (Some (Write l)) = access

abbrev pub shape_at : List Record → ℕ → Shape
shape_at w i = shape_of (is_call (at w (opener_of w i))) (at w i)

-- one record more
pub sum-take : (f : Record → ℕ) (w : List Record) (i : ℕ) (r : Record) → slice_get w i ≡ Some r → sum_by f (take (suc i) w) ≡ sum_by f (take i w) + f r
sum-take f w i r e =
    let l : i < length w = slice_get_within w i r e in
    let g : get_or w i r ≡ r = get_or_from_slice_get w i r r e in
    let h : sum_by f (take (i + 1) w) ≡ sum_by f (take i w) + f (get_or w i r) = sum_by_more f w i r l in
    ap (λ (z : ℕ). sum_by f (take z w)) (sym (add-one i)) ∙ (h ∙ ap (λ (x : Record). sum_by f (take i w) + f x) g)

-- what is opened and closed before a place, and after it
balance_of : (r : Record) (a b c d : ℕ) → b ≤ a → c ≡ a + opens r → d ≡ b + closes r → (r ≡ Return → a - b ≡ 0 → ⊥) → d ≤ c
balance_of Spawn a b c d l e f n = omega arith
balance_of Call a b c d l e f n = omega arith
balance_of Return a b c d l e f n = omega (arith, n refl)
balance_of Sync a b c d l e f n = omega arith
balance_of (Read x) a b c d l e f n = omega arith
balance_of (Write x) a b c d l e f n = omega arith

step_of : (z : Bool) (r : Record) (a b c d : ℕ) → b ≤ a → c ≡ a + opens r → d ≡ b + closes r → (r ≡ Return → a - b ≡ 0 → ⊥) → Step (shape_of z (Some r)) (a - b) (c - d)
step_of z Spawn a b c d l e f n = omega arith
step_of z Call a b c d l e f n = omega arith
step_of true Return a b c d l e f n = omega (arith, n refl)
step_of false Return a b c d l e f n = omega (arith, n refl)
step_of z Sync a b c d l e f n = omega arith
step_of z (Read x) a b c d l e f n = omega arith
step_of z (Write x) a b c d l e f n = omega arith

not_root : (w : List Record) {n d : ℕ} → IsWellNested w n d → (i : ℕ) (r : Record) → suc i < length w → slice_get w i ≡ Some r → r ≡ Return → depth w (suc i) ≡ 0 → ⊥
not_root w h i r l e s z = h.no_earlier (suc i) l (record { a_return = e ∙ ap (λ (x : Record). Some x) s; at_zero = z })

-- no more is closed than was opened
pub balanced : (w : List Record) {n d : ℕ} → IsWellNested w n d → (i : ℕ) → i < length w → sum_by closes (take i w) ≤ sum_by opens (take i w)
balanced w h zero l = omega arith
balanced w h (suc i) l =
    let r = element_at w i (omega arith) in
    balance_of r.0 _ _ _ _ (balanced w h i (omega arith)) (sum-take opens w i r.0 r.1) (sum-take closes w i r.0 r.1) (not_root w h i r.0 l r.1)

pub step_at : (w : List Record) {n d : ℕ} → IsWellNested w n d → (i : ℕ) → 1 ≤ i → i < length w → Step (shape_at w i) (depth w i) (depth w (suc i))
step_at w h zero a b = absurd (omega arith)
step_at w h (suc i) a b =
    let r = element_at w i (omega arith) in
    subst (λ (o : Option Record). Step (shape_of (is_call (at w (opener_of w (suc i)))) o) (depth w (suc i)) (depth w (suc (suc i)))) (sym r.1)
    (step_of (is_call (at w (opener_of w (suc i)))) r.0 _ _ _ _ (balanced w h i (omega arith)) (sum-take opens w i r.0 r.1) (sum-take closes w i r.0 r.1) (not_root w h i r.0 b r.1))

-- the world of a trace
abbrev pub traced : (w : List Record) {n d : ℕ} → IsWellNested w n d → World
traced w h = record { size = length w; depth = depth w; shape = shape_at w; step = step_at w h }

-- shapes and records

return_shape : (z : Bool) → returns (if z then called_return else spawned_return) ≡ true
return_shape true = refl
return_shape false = refl

pub no_return-shape : (z : Bool) (o : Option Record) → o ≢ Some Return → returns (shape_of z o) ≡ false
no_return-shape z None n = refl
no_return-shape z (Some Spawn) n = refl
no_return-shape z (Some Call) n = refl
no_return-shape z (Some Return) n = absurd (n refl)
no_return-shape z (Some Sync) n = refl
no_return-shape z (Some (Read l)) n = refl
no_return-shape z (Some (Write l)) n = refl

pub returns-shape : (z : Bool) (o : Option Record) → o ≡ Some Return → returns (shape_of z o) ≡ true
returns-shape z o e = ap (λ (x : Option Record). returns (shape_of z x)) e ∙ return_shape z

pub shape-no_return : (z : Bool) (o : Option Record) → returns (shape_of z o) ≡ false → o ≢ Some Return
shape-no_return z o n e = both_ways _ n (returns-shape z o e)

opens_no_return : (z : Bool) → world.opens (if z then called_return else spawned_return) ≡ false
opens_no_return true = refl
opens_no_return false = refl

pub shape-opens : (z : Bool) (o : Option Record) → world.opens (shape_of z o) ≡ true → Opens o
shape-opens z None e = absurd (cc)
shape-opens z (Some Spawn) e = inl refl
shape-opens z (Some Call) e = inr refl
shape-opens z (Some Return) e = absurd (both_ways _ (opens_no_return z) e)
shape-opens z (Some Sync) e = absurd (cc)
shape-opens z (Some (Read l)) e = absurd (cc)
shape-opens z (Some (Write l)) e = absurd (cc)

pub shape-return : (z : Bool) (o : Option Record) → returns (shape_of z o) ≡ true → o ≡ Some Return
shape-return z None e = absurd (cc)
shape-return z (Some Spawn) e = absurd (cc)
shape-return z (Some Call) e = absurd (cc)
shape-return z (Some Return) e = refl
shape-return z (Some Sync) e = absurd (cc)
shape-return z (Some (Read l)) e = absurd (cc)
shape-return z (Some (Write l)) e = absurd (cc)

pub shape-called : (z : Bool) (o : Option Record) → shape_of z o ≡ called_return → z ≡ true
shape-called z None e = absurd (cc)
shape-called z (Some Spawn) e = absurd (cc)
shape-called z (Some Call) e = absurd (cc)
shape-called true (Some Return) e = refl
shape-called false (Some Return) e = absurd (cc)
shape-called z (Some Sync) e = absurd (cc)
shape-called z (Some (Read l)) e = absurd (cc)
shape-called z (Some (Write l)) e = absurd (cc)

pub shape-spawned : (z : Bool) (o : Option Record) → shape_of z o ≡ spawned_return → z ≡ false
shape-spawned z None e = absurd (cc)
shape-spawned z (Some Spawn) e = absurd (cc)
shape-spawned z (Some Call) e = absurd (cc)
shape-spawned true (Some Return) e = absurd (cc)
shape-spawned false (Some Return) e = refl
shape-spawned z (Some Sync) e = absurd (cc)
shape-spawned z (Some (Read l)) e = absurd (cc)
shape-spawned z (Some (Write l)) e = absurd (cc)

return-joins : (z : Bool) → joins (if z then called_return else spawned_return) ≡ true
return-joins true = refl
return-joins false = refl

pub shape-joins : (z : Bool) (o : Option Record) → joins (shape_of z o) ≡ true → (o ≡ Some Sync) ⊎ (o ≡ Some Return)
shape-joins z None e = absurd (cc)
shape-joins z (Some Spawn) e = absurd (cc)
shape-joins z (Some Call) e = absurd (cc)
shape-joins z (Some Return) e = inr refl
shape-joins z (Some Sync) e = inl refl
shape-joins z (Some (Read l)) e = absurd (cc)
shape-joins z (Some (Write l)) e = absurd (cc)

pub not_joined : (w : List Record) (i : ℕ) → (JoinsAt w i → ⊥) → joins (shape_at w i) ≡ false
not_joined w i n = elim (cases_Bool (joins (shape_at w i))) [ inl q ↦ absurd (n (shape-joins _ (at w i) q)) | inr q ↦ q ]

pub joins-shape : (z : Bool) (o : Option Record) → (o ≡ Some Sync) ⊎ (o ≡ Some Return) → joins (shape_of z o) ≡ true
joins-shape z o (inl e) = ap (λ (x : Option Record). joins (shape_of z x)) e
joins-shape z o (inr e) = ap (λ (x : Option Record). joins (shape_of z x)) e ∙ return-joins z

-- openers

-- where a place before i is one less deep than d, and none after it, it is the last one
pub last_on-is : (f : ℕ → ℕ) (d i o : ℕ) → o < i → d ≡ f o + 1 → ((k : ℕ) → o < k → k < i → d ≢ f k + 1) → last_on f d i ≡ o
last_on-is f d zero o l e n = absurd (omega arith)
last_on-is f d (suc i) o l e n = elim (cases_eq o i) [
  | inl q ↦ ap (λ (b : Bool). if b then i else last_on f d i) (eq-eqb d (f i + 1) (e ∙ ap (λ k. f k + 1) q)) ∙ sym q
  | inr q ↦ ap (λ (b : Bool). if b then i else last_on f d i) (ne_eqb d (f i + 1) (n i (omega arith) (omega arith)))
      ∙ last_on-is f d i o (omega arith) e (λ k a b. n k a (omega arith))
]

record IsLastOn (f : ℕ → ℕ) (d i o : ℕ) : Type 0 where
  before : o < i
  on : d ≡ f o + 1
  none_after : (k : ℕ) → o < k → k < i → d ≢ f k + 1

-- and where there is one it is found
last_on-found : (f : ℕ → ℕ) (d i : ℕ) → (last_on f d i ≡ 0) ⊎ IsLastOn f d i (last_on f d i)
last_on-found f d zero = inl refl
last_on-found f d (suc i) = elim (cases_eq d (f i + 1)) [
  | inl q ↦ let e : last_on f d (suc i) ≡ i = ap (λ (b : Bool). if b then i else last_on f d i) (eq-eqb d (f i + 1) q) in
      inr (subst (IsLastOn f d (suc i)) (sym e) (record { before = omega arith; on = q; none_after = λ k a b. absurd (omega arith) }))
  | inr q ↦ let e : last_on f d (suc i) ≡ last_on f d i = ap (λ (b : Bool). if b then i else last_on f d i) (ne_eqb d (f i + 1) q) in
      elim (last_on-found f d i) [
        | inl z ↦ inl (e ∙ z)
        | inr z ↦ inr (subst (IsLastOn f d (suc i)) (sym e) (longer i (last_on f d i) q z))
      ]
]
  where
    longer : (i o : ℕ) → d ≢ f i + 1 → IsLastOn f d i o → IsLastOn f d (suc i) o
    longer i o n z = record {
      before = omega (arith, z.before);
      on = z.on;
      none_after = λ k a b. elim (cases_eq k i) [ inl r ↦ subst (λ j. d ≢ f j + 1) (sym r) n | inr r ↦ z.none_after k a (omega arith) ];
    }

pub opener-is : (w : List Record) (o r : ℕ) → IsOpenerOf w o r → opener_of w r ≡ o
opener-is w o r h = last_on-is (depth w) (depth w r) r o h.before h.above (λ k a b e. h.last k a b (omega (arith, h.above)))

-- a place with a record that is found as an opener is one
pub opener-found : (w : List Record) (r : ℕ) (x : Record) → at w (opener_of w r) ≡ Some x → IsOpenerOf w (opener_of w r) r
opener-found w r x e = elim (last_on-found (depth w) (depth w r) r) [
  | inl z ↦ absurd (no_record (opener_of w r) z e)
  | inr z ↦ record { before = z.before; above = z.on; last = λ k a b q. z.none_after k a b (omega (arith, z.on)) }
]
  where
    no_record : (o : ℕ) → o ≡ 0 → at w o ≡ Some x → ⊥
    no_record zero z e = cc
    no_record (suc o) z e = omega arith

pub called_shape : (w : List Record) (i : ℕ) → at w i ≡ Some Return → at w (opener_of w i) ≡ Some Call → shape_at w i ≡ called_return
called_shape w i e f = λ j. shape_of (is_call (f j)) (e j)

pub spawned_shape : (w : List Record) (i : ℕ) → at w i ≡ Some Return → at w (opener_of w i) ≡ Some Spawn → shape_at w i ≡ spawned_return
spawned_shape w i e f = λ j. shape_of (is_call (f j)) (e j)

is_call-call : (o : Option Record) → is_call o ≡ true → o ≡ Some Call
is_call-call None e = absurd (cc)
is_call-call (Some Spawn) e = absurd (cc)
is_call-call (Some Call) e = refl
is_call-call (Some Return) e = absurd (cc)
is_call-call (Some Sync) e = absurd (cc)
is_call-call (Some (Read l)) e = absurd (cc)
is_call-call (Some (Write l)) e = absurd (cc)

pub call-is_call : (o : Option Record) → o ≡ Some Call → is_call o ≡ true
call-is_call o e = ap is_call e

-- edges

world_kind : (w : List Record) {n d : ℕ} (h : IsWellNested w n d) (i j : ℕ) → dag.Edge w i j → world.Kind (traced w h) i j
world_kind w h i j (dag.continuation a b l c) = world.goes_on (no_return-shape _ (at w i) c.no_return) c.same_depth c.deeper_between
world_kind w h i j (dag.spawn a b l c) = world.goes_in (ap (λ (x : Option Record). world.opens (shape_of (is_call (at w (opener_of w i))) x)) c.a_spawn) (omega (arith, c.next))
world_kind w h i j (dag.call a b l c) = world.goes_in (ap (λ (x : Option Record). world.opens (shape_of (is_call (at w (opener_of w i))) x)) c.a_call) (omega (arith, c.next))
world_kind w h i j (dag.comes_back a b l c) =
    world.comes_back (called_shape w i c.a_return (ap (at w) (opener-is w c.opener i c.opened) ∙ c.a_call)) (omega (arith, c.next))
world_kind w h i j (dag.join a b l c) =
    world.joined (spawned_shape w i c.a_return (ap (at w) (opener-is w c.opener i c.opened) ∙ c.a_spawn)) (omega (arith, c.above)) (joins-shape _ (at w j) c.joins)
    (λ k x y e t. c.first k x y e (shape-joins _ (at w k) t))

pub edge_from : (w : List Record) (i j : ℕ) → dag.Edge w i j → IsPlace w i
edge_from w i j (dag.continuation a b l c) = a
edge_from w i j (dag.spawn a b l c) = a
edge_from w i j (dag.call a b l c) = a
edge_from w i j (dag.comes_back a b l c) = a
edge_from w i j (dag.join a b l c) = a

pub edge_to : (w : List Record) (i j : ℕ) → dag.Edge w i j → IsPlace w j
edge_to w i j (dag.continuation a b l c) = b
edge_to w i j (dag.spawn a b l c) = b
edge_to w i j (dag.call a b l c) = b
edge_to w i j (dag.comes_back a b l c) = b
edge_to w i j (dag.join a b l c) = b

edge-forth : (w : List Record) (i j : ℕ) → dag.Edge w i j → i < j
edge-forth w i j (dag.continuation a b l c) = l
edge-forth w i j (dag.spawn a b l c) = l
edge-forth w i j (dag.call a b l c) = l
edge-forth w i j (dag.comes_back a b l c) = l
edge-forth w i j (dag.join a b l c) = l

pub world_edge : (w : List Record) {n d : ℕ} (h : IsWellNested w n d) (i j : ℕ) → dag.Edge w i j → world.Edge (traced w h) i j
world_edge w h i j e = record {
  from = (edge_from w i j e).0;
  to = (edge_to w i j e).1;
  forth = edge-forth w i j e;
  kind = world_kind w h i j e;
}

-- the opener of a return below the root's level
record IsOpenedBy (w : List Record) (r o : ℕ) : Type 0 where
  opened : IsOpenerOf w o r
  opens_it : Opens (at w o)

opened_before : (w : List Record) {n d : ℕ} (h : IsWellNested w n d) (r o : ℕ) → IsPlace w r → LastBelow (traced w h) (depth w r) 1 r o → IsOpenedBy w r o
opened_before w h r o p b =
    let x : o < r = apart o r b.upto (λ e. let f : depth w o ≡ depth w r = ap (depth w) e in omega (arith, b.below)) in
    let y : depth w r ≤ depth w (suc o) = b.after (suc o) (omega arith) x in
    let z : depth w (suc o) ≤ suc (depth w o) = up (traced w h) o b.since (omega (arith, p.1)) in
    let t : depth w o < depth w r = b.below in
    record {
      opened = record { before = x; above = omega arith; last = λ k u v e. omega (arith, b.after k u (omega arith)) };
      opens_it = shape-opens _ (at w o) (rises_opens (traced w h) o b.since (omega (arith, p.1)) (omega arith));
    }
  where
    apart : (x y : ℕ) → x ≤ y → (x ≡ y → ⊥) → x < y
    apart x y h n = omega arith

opened_return : (w : List Record) {n d : ℕ} (h : IsWellNested w n d) (r : ℕ) → IsPlace w r → 0 < depth w r → (o : ℕ) × IsOpenedBy w r o
opened_return w h r p deep = elim (last_below (traced w h) (depth w r) 1 r p.0) [
  | inl all ↦ absurd (not_first (all 1 (omega arith) p.0))
  | inr b ↦ (b.0, opened_before w h r b.0 p b.1)
]
  where
    not_first : depth w r ≤ depth w 1 → ⊥
    not_first e = omega arith

-- a return that isn't of a called procedure is of a spawned one
join_of : (w : List Record) {n d : ℕ} (h : IsWellNested w n d) (i j : ℕ) → IsPlace w i → shape_at w i ≡ spawned_return → depth w i ≡ suc (depth w j) → joins (shape_at w j) ≡ true
    → ((k : ℕ) → i < k → k < j → depth w k ≡ depth w j → joins (shape_at w k) ≡ true → ⊥) → dag.IsJoin w i j
join_of w h i j a s d t first = from_opener (opened_return w h i a (omega arith))
  where
    from_opener : (o : ℕ) × IsOpenedBy w i o → dag.IsJoin w i j
    from_opener (o, q) =
        let is : opener_of w i ≡ o = opener-is w o i q.opened in
        let not_called : is_call (at w o) ≡ false = ap (λ k. is_call (at w k)) (sym is) ∙ shape-spawned _ (at w i) s in
        record {
          a_return = shape-return _ (at w i) (world.spawned-returns (shape_at w i) s);
          opener = o;
          opened = q.opened;
          a_spawn = elim q.opens_it [ inl e ↦ e | inr e ↦ absurd (both_ways _ not_called (call-is_call (at w o) e)) ];
          above = omega arith;
          joins = shape-joins _ (at w j) t;
          first = λ k x y e p. first k x y e (joins-shape _ (at w k) p);
        }

edge_of : (w : List Record) {n d : ℕ} (h : IsWellNested w n d) (i j : ℕ) → IsPlace w i → IsPlace w j → i < j → world.Kind (traced w h) i j → dag.Edge w i j
edge_of w h i j a b l (world.goes_on s d k) = dag.continuation a b l (record { no_return = shape-no_return _ (at w i) s; same_depth = d; deeper_between = k })
edge_of w h i j a b l (world.goes_in s d) = elim (shape-opens _ (at w i) s) [
  | inl e ↦ dag.spawn a b l (record { a_spawn = e; next = omega arith })
  | inr e ↦ dag.call a b l (record { a_call = e; next = omega arith })
]
edge_of w h i j a b l (world.comes_back s d) =
    let called : at w (opener_of w i) ≡ Some Call = is_call-call (at w (opener_of w i)) (shape-called _ (at w i) s) in
    dag.comes_back a b l (record {
      a_return = shape-return _ (at w i) (ap returns s);
      opener = opener_of w i;
      opened = opener-found w i Call called;
      a_call = called;
      next = omega arith;
    })
edge_of w h i j a b l (world.joined s d t first) = dag.join a b l (join_of w h i j a s d t first)

pub trace_edge : (w : List Record) {n d : ℕ} (h : IsWellNested w n d) (i j : ℕ) → world.Edge (traced w h) i j → dag.Edge w i j
trace_edge w h i j e = edge_of w h i j (e.from, omega (arith, e.forth, e.to)) (omega (arith, e.forth, e.from), e.to) e.forth e.kind

-- paths

path_reach : (w : List Record) {n d : ℕ} (h : IsWellNested w n d) (i : ℕ) (p : List ℕ) → IsPath w (i ∷ p) → Reach (traced w h) i (end_of i p)
path_reach w h i [] a = here a.0 a.1
path_reach w h i (j ∷ p) a =
    let f : IsPlace w i = edge_from w i j a.0 in
    reach_all (traced w h) i j (end_of j p) (next (here f.0 f.1) (world_edge w h i j a.0)) (path_reach w h j p a.1)

pub leads-reach : (w : List Record) {n d : ℕ} (h : IsWellNested w n d) (i j : ℕ) → Leads w i j → Reach (traced w h) i j
leads-reach w h i j l = subst (λ (z : ℕ). Reach (traced w h) i z) l.2 (path_reach w h i l.0 l.1)

longer : (w : List Record) (i j k : ℕ) (p : List ℕ) → IsPath w (i ∷ p) → end_of i p ≡ j → dag.Edge w j k → Leads w i k
longer w i j k [] a e d = (k ∷ [], (subst (λ (z : ℕ). dag.Edge w z k) (sym e) d, edge_to w j k d), refl)
longer w i j k (h ∷ p) a e d = let q = longer w h j k p a.1 e d in (h ∷ q.0, (a.0, q.1), q.2)

pub reach-leads : (w : List Record) {n d : ℕ} (h : IsWellNested w n d) (i j : ℕ) → Reach (traced w h) i j → Leads w i j
reach-leads w h i j (here a b) = ([], (a, b), refl)
reach-leads w h i j (next {j = k} q e) = let l = reach-leads w h i k q in longer w i k j l.0 l.1 l.2 (trace_edge w h k j e)

path-forward : (w : List Record) (i : ℕ) (p : List ℕ) → IsPath w (i ∷ p) → i ≤ end_of i p
path-forward w i [] a = omega arith
path-forward w i (j ∷ p) a = omega (arith, path-forward w j p a.1, edge-forth w i j a.0)

pub leads-le : (w : List Record) (i j : ℕ) → Leads w i j → i ≤ j
leads-le w i j l = omega (arith, path-forward w i l.0 l.1, l.2)
