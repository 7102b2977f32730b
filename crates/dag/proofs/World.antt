-- Worlds: places with a depth and a shape, of which nothing more is asked than how a shape moves the
-- depth. Between two places i < j no path leads exactly where some return is pending from i to j.
use Rattle.dag.proofs.Common.{◌≡◌, ℕ, zero, suc, ◌<◌, ◌≤◌, Bool, true, false, ◌⊎◌, inl, inr, refl, sym, ◌∙◌, subst, ap, arith, cases_lt, cases_eq, cases_Bool}

-- what the record at a place does
pub data Shape : Type 0 where
  access : Shape
  sync : Shape
  spawn : Shape
  call : Shape
  spawned_return : Shape
  called_return : Shape

-- it waits for the children of its procedure
abbrev pub joins : Shape → Bool
joins access = false
joins sync = true
joins spawn = false
joins call = false
joins spawned_return = true
joins called_return = true

abbrev pub returns : Shape → Bool
returns access = false
returns sync = false
returns spawn = false
returns call = false
returns spawned_return = true
returns called_return = true

abbrev pub opens : Shape → Bool
opens access = false
opens sync = false
opens spawn = true
opens call = true
opens spawned_return = false
opens called_return = false

-- the depth of a place, and that of the next one
abbrev pub Step : Shape → ℕ → ℕ → Type 0
Step access a b = b ≡ a
Step sync a b = b ≡ a
Step spawn a b = b ≡ suc a
Step call a b = b ≡ suc a
Step spawned_return a b = a ≡ suc b
Step called_return a b = a ≡ suc b

pub record World : Type 0 where
  pub size : ℕ
  pub depth : ℕ → ℕ
  pub shape : ℕ → Shape
  pub step : (i : ℕ) → 1 ≤ i → i < size → Step (shape i) (depth i) (depth (suc i))

-- the edges: within a procedure, into a child, out of a called child, and out of a spawned one to the
-- first place that waits for it
pub data Kind (v : World) (i j : ℕ) : Type 0 where
  goes_on : returns (v.shape i) ≡ false → v.depth j ≡ v.depth i → ((k : ℕ) → i < k → k < j → v.depth i < v.depth k) → Kind v i j
  goes_in : opens (v.shape i) ≡ true → j ≡ suc i → Kind v i j
  comes_back : v.shape i ≡ called_return → j ≡ suc i → Kind v i j
  joined : v.shape i ≡ spawned_return → v.depth i ≡ suc (v.depth j) → joins (v.shape j) ≡ true → ((k : ℕ) → i < k → k < j → v.depth k ≡ v.depth j → joins (v.shape k) ≡ true → ⊥) → Kind v i j

pub record Edge (v : World) (i j : ℕ) : Type 0 where
  pub from : 1 ≤ i
  pub to : j ≤ v.size
  pub forth : i < j
  pub kind : Kind v i j

-- a path leads from i to j
pub data Reach (v : World) (i : ℕ) : ℕ → Type 0 where
  here : 1 ≤ i → i ≤ v.size → Reach v i i
  next : {j k : ℕ} → Reach v i j → Edge v j k → Reach v i k

-- the child that r closes holds i, and nothing up to j has waited for it
pub record Pending (v : World) (i j r : ℕ) : Type 0 where
  pub since : i ≤ r
  pub before : r < j
  pub a_return : v.shape r ≡ spawned_return
  pub inside : (k : ℕ) → i ≤ k → k ≤ r → v.depth r ≤ v.depth k
  pub held : (k : ℕ) → r < k → k ≤ j → v.depth r ≤ suc (v.depth k)
  pub unjoined : (k : ℕ) → r < k → k ≤ j → suc (v.depth k) ≡ v.depth r → joins (v.shape k) ≡ true → ⊥

-- one step

pub step_up : (s : Shape) (a b : ℕ) → Step s a b → b ≤ suc a
step_up access a b e = omega arith
step_up sync a b e = omega arith
step_up spawn a b e = omega arith
step_up call a b e = omega arith
step_up spawned_return a b e = omega arith
step_up called_return a b e = omega arith

pub step_down : (s : Shape) (a b : ℕ) → Step s a b → a ≤ suc b
step_down access a b e = omega arith
step_down sync a b e = omega arith
step_down spawn a b e = omega arith
step_down call a b e = omega arith
step_down spawned_return a b e = omega arith
step_down called_return a b e = omega arith

-- only a return goes up
pub step_fall : (s : Shape) (a b : ℕ) → Step s a b → b < a → returns s ≡ true
step_fall access a b e h = absurd (omega arith)
step_fall sync a b e h = absurd (omega arith)
step_fall spawn a b e h = absurd (omega arith)
step_fall call a b e h = absurd (omega arith)
step_fall spawned_return a b e h = refl
step_fall called_return a b e h = refl

-- what goes on on its level neither opens nor returns
pub step_return : (s : Shape) (a b : ℕ) → Step s a b → returns s ≡ true → a ≡ suc b
step_return access a b e h = absurd (cc)
step_return sync a b e h = absurd (cc)
step_return spawn a b e h = absurd (cc)
step_return call a b e h = absurd (cc)
step_return spawned_return a b e h = e
step_return called_return a b e h = e

pub step_rise : (s : Shape) (a b : ℕ) → Step s a b → a < b → returns s ≡ false
step_rise access a b e h = refl
step_rise sync a b e h = refl
step_rise spawn a b e h = refl
step_rise call a b e h = refl
step_rise spawned_return a b e h = absurd (omega arith)
step_rise called_return a b e h = absurd (omega arith)

pub step_rise_opens : (s : Shape) (a b : ℕ) → Step s a b → a < b → opens s ≡ true
step_rise_opens access a b e h = absurd (omega arith)
step_rise_opens sync a b e h = absurd (omega arith)
step_rise_opens spawn a b e h = refl
step_rise_opens call a b e h = refl
step_rise_opens spawned_return a b e h = absurd (omega arith)
step_rise_opens called_return a b e h = absurd (omega arith)

pub returns-joins : (s : Shape) → returns s ≡ true → joins s ≡ true
returns-joins access h = absurd (cc)
returns-joins sync h = refl
returns-joins spawn h = absurd (cc)
returns-joins call h = absurd (cc)
returns-joins spawned_return h = refl
returns-joins called_return h = refl

pub spawned-returns : (s : Shape) → s ≡ spawned_return → returns s ≡ true
spawned-returns s e = cc

pub spawned-joins : (s : Shape) → s ≡ spawned_return → joins s ≡ true
spawned-joins s e = cc

-- the same at a place of a world

pub up : (v : World) (i : ℕ) → 1 ≤ i → i < v.size → v.depth (suc i) ≤ suc (v.depth i)
up v i a b = step_up (v.shape i) _ _ (v.step i a b)

pub down : (v : World) (i : ℕ) → 1 ≤ i → i < v.size → v.depth i ≤ suc (v.depth (suc i))
down v i a b = step_down (v.shape i) _ _ (v.step i a b)

pub falls : (v : World) (i : ℕ) → 1 ≤ i → i < v.size → v.depth (suc i) < v.depth i → returns (v.shape i) ≡ true
falls v i a b h = step_fall (v.shape i) _ _ (v.step i a b) h

pub leaves_by : (v : World) (i : ℕ) → 1 ≤ i → i < v.size → returns (v.shape i) ≡ true → v.depth i ≡ suc (v.depth (suc i))
leaves_by v i a b h = step_return (v.shape i) _ _ (v.step i a b) h

pub rises : (v : World) (i : ℕ) → 1 ≤ i → i < v.size → v.depth i < v.depth (suc i) → returns (v.shape i) ≡ false
rises v i a b h = step_rise (v.shape i) _ _ (v.step i a b) h

pub rises_opens : (v : World) (i : ℕ) → 1 ≤ i → i < v.size → v.depth i < v.depth (suc i) → opens (v.shape i) ≡ true
rises_opens v i a b h = step_rise_opens (v.shape i) _ _ (v.step i a b) h

-- the return by which a procedure at depth m + 1 is left
pub record Leaves (v : World) (m i j r : ℕ) : Type 0 where
  pub since : i ≤ r
  pub before : r < j
  pub level : v.depth r ≡ suc m
  pub a_return : returns (v.shape r) ≡ true

leaves_at : (v : World) (m i j : ℕ) → 1 ≤ i → i ≤ j → suc j ≤ v.size → m < v.depth j → v.depth (suc j) ≤ m → Leaves v m i (suc j) j
leaves_at v m i j a b c h l = record {
  since = b;
  before = omega arith;
  level = omega (arith, down v j (omega arith) (omega arith));
  a_return = falls v j (omega arith) (omega arith) (omega arith);
}

leaves_longer : (v : World) (m i j r : ℕ) → Leaves v m i j r → Leaves v m i (suc j) r
leaves_longer v m i j r h = record { since = h.since; before = omega arith; level = h.level; a_return = h.a_return }

pub leaves : (v : World) (m i j : ℕ) → 1 ≤ i → i ≤ j → j ≤ v.size → m < v.depth i → v.depth j ≤ m → (r : ℕ) × Leaves v m i j r
leaves v m i zero a b c h l = absurd (omega arith)
leaves v m i (suc j) a b c h l = elim (cases_eq i (suc j)) [
  | inl e ↦ absurd (let f : v.depth i ≡ v.depth (suc j) = ap v.depth e in omega arith)
  | inr n ↦ elim (cases_lt m (v.depth j)) [
    | inl k ↦ (j, leaves_at v m i j a (omega arith) c k l)
    | inr k ↦ let q = leaves v m i j a (omega arith) (omega arith) h k in (q.0, leaves_longer v m i j q.0 q.1)
  ]
]

-- no edge crosses a pending return

pub pending-shorter : (v : World) (i j k r : ℕ) → Pending v i k r → r < j → j ≤ k → Pending v i j r
pending-shorter v i j k r p a b = record {
  since = p.since;
  before = a;
  a_return = p.a_return;
  inside = p.inside;
  held = λ x c d. p.held x c (omega arith);
  unjoined = λ x c d. p.unjoined x c (omega arith);
}

pub pending-later : (v : World) (i j k r : ℕ) → Pending v i k r → i ≤ j → j ≤ r → Pending v j k r
pending-later v i j k r p a b = record {
  since = b;
  before = p.before;
  a_return = p.a_return;
  inside = λ x c d. p.inside x (omega arith) d;
  held = p.held;
  unjoined = p.unjoined;
}

no_goes_on : (v : World) (i j r : ℕ) → Pending v i j r → returns (v.shape i) ≡ false → v.depth j ≡ v.depth i → ((k : ℕ) → i < k → k < j → v.depth i < v.depth k) → ⊥
no_goes_on v i j r p n d b = elim (cases_eq i r) [
  | inl e ↦ (let f : returns (v.shape r) ≡ true = spawned-returns (v.shape r) p.a_return in
      let g : returns (v.shape i) ≡ returns (v.shape r) = ap (λ (z : ℕ). returns (v.shape z)) e in cc)
  | inr e ↦ (let f : v.depth r ≤ v.depth i = p.inside i (omega arith) p.since in
      let g : v.depth i < v.depth r = b r (omega arith) p.before in omega arith)
]

no_goes_in : (v : World) (i j r : ℕ) → Pending v i j r → opens (v.shape i) ≡ true → j ≡ suc i → ⊥
no_goes_in v i j r p n d =
    let e : i ≡ r = omega arith in
    let f : v.shape i ≡ v.shape r = ap v.shape e in
    let g : v.shape r ≡ spawned_return = p.a_return in cc

no_comes_back : (v : World) (i j r : ℕ) → Pending v i j r → v.shape i ≡ called_return → j ≡ suc i → ⊥
no_comes_back v i j r p n d =
    let e : i ≡ r = omega arith in
    let f : v.shape i ≡ v.shape r = ap v.shape e in
    let g : v.shape r ≡ spawned_return = p.a_return in cc

-- a return on the joining place's level, or above it, stands before that place
no_joined_at : (v : World) (i j r : ℕ) → 1 ≤ i → j ≤ v.size → Pending v i j r → i < r → v.shape i ≡ spawned_return → v.depth i ≡ suc (v.depth j)
    → ((k : ℕ) → i < k → k < j → v.depth k ≡ v.depth j → joins (v.shape k) ≡ true → ⊥) → v.depth r ≤ v.depth j → ⊥
no_joined_at v i j r a c p l s d first h = elim (cases_eq (v.depth r) (v.depth j)) [
  | inl e ↦ first r l p.before e (spawned-joins (v.shape r) p.a_return)
  | inr n ↦
      (let g : v.depth i ≡ suc (v.depth (suc i)) = leaves_by v i a (omega arith) (spawned-returns (v.shape i) s) in
      let q : (m : ℕ) × (suc m ≡ v.depth j) = pred_of (v.depth r) (v.depth j) (omega arith) in
      let z = leaves v q.0 (suc i) r (omega arith) (omega arith) (omega arith) (omega arith) (omega arith) in
      first z.0 (omega (arith, z.1.since)) (omega (arith, z.1.before)) (omega (arith, z.1.level)) (returns-joins (v.shape z.0) z.1.a_return))
]
  where
    pred_of : (x y : ℕ) → x < y → (m : ℕ) × (suc m ≡ y)
    pred_of x zero h = absurd (omega arith)
    pred_of x (suc y) h = (y, refl)

no_joined : (v : World) (i j r : ℕ) → 1 ≤ i → j ≤ v.size → Pending v i j r → v.shape i ≡ spawned_return → v.depth i ≡ suc (v.depth j) → joins (v.shape j) ≡ true
    → ((k : ℕ) → i < k → k < j → v.depth k ≡ v.depth j → joins (v.shape k) ≡ true → ⊥) → ⊥
no_joined v i j r a c p s d js first = elim (cases_eq (v.depth r) (v.depth i)) [
  | inl e ↦ p.unjoined j p.before (omega arith) (omega arith) js
  | inr n ↦ (let f : v.depth r ≤ v.depth i = p.inside i (omega arith) p.since in
      let g : i < r = apart i r p.since (λ e. n (sym (ap v.depth e))) in
      no_joined_at v i j r a c p g s d first (omega arith))
]
  where
    apart : (x y : ℕ) → x ≤ y → (x ≡ y → ⊥) → x < y
    apart x y h n = omega arith

pub crossing : (v : World) (i j r : ℕ) → Edge v i j → Pending v i j r → ⊥
crossing v i j r e p = by_kind e.kind
  where
    by_kind : Kind v i j → ⊥
    by_kind (goes_on n d b) = no_goes_on v i j r p n d b
    by_kind (goes_in n d) = no_goes_in v i j r p n d
    by_kind (comes_back n d) = no_comes_back v i j r p n d
    by_kind (joined s d js first) = no_joined v i j r e.from e.to p s d js first

pub reach-le : (v : World) (i j : ℕ) → Reach v i j → i ≤ j
reach-le v i j (here a b) = omega arith
reach-le v i j (next {j = h} q e) = let g : i ≤ h = reach-le v i h q in omega (arith, e.forth)

pub reach_all : (v : World) (i j k : ℕ) → Reach v i j → Reach v j k → Reach v i k
reach_all v i j k p (here a b) = p
reach_all v i j k p (next {j = h} q e) = next (reach_all v i j h p q) e

sound_step : (v : World) (i h j r : ℕ) → i ≤ h → Edge v h j → (Pending v i h r → ⊥) → Pending v i j r → ⊥
sound_step v i h j r l e ih p = elim (cases_lt r h) [
  | inl k ↦ ih (pending-shorter v i h j r p k (omega (arith, e.forth)))
  | inr k ↦ crossing v h j r e (pending-later v i h j r p l k)
]

-- no path crosses a pending return
pub sound : (v : World) (i j r : ℕ) → Reach v i j → Pending v i j r → ⊥
sound v i j r (here a b) p = omega (arith, p.since, p.before)
sound v i j r (next {j = h} q e) p = sound_step v i h j r (reach-le v i h q) e (λ x. sound v i h r q x) p

-- where no return is pending, a path leads

-- the last place below depth m from i to j
pub record LastBelow (v : World) (m i j o : ℕ) : Type 0 where
  pub since : i ≤ o
  pub upto : o ≤ j
  pub below : v.depth o < m
  pub after : (k : ℕ) → o < k → k ≤ j → m ≤ v.depth k

pub all_more : (f : ℕ → ℕ) (m i j : ℕ) → ((k : ℕ) → i ≤ k → k ≤ j → m ≤ f k) → m ≤ f (suc j) → (k : ℕ) → i ≤ k → k ≤ suc j → m ≤ f k
all_more f m i j h l k a b = elim (cases_eq k (suc j)) [
  | inl e ↦ (let g : f k ≡ f (suc j) = ap f e in omega arith)
  | inr n ↦ h k a (omega arith)
]

last_more : (v : World) (m i j o : ℕ) → m ≤ v.depth (suc j) → LastBelow v m i j o → LastBelow v m i (suc j) o
last_more v m i j o h l = record {
  since = l.since;
  upto = omega (arith, l.upto);
  below = l.below;
  after = all_more v.depth m (suc o) j l.after h;
}

last_here : (v : World) (m i j : ℕ) → i ≤ j → v.depth j < m → LastBelow v m i j j
last_here v m i j a h = record { since = a; upto = omega arith; below = h; after = λ k x y. absurd (omega arith) }

pub last_below : (v : World) (m i j : ℕ) → i ≤ j → ((k : ℕ) → i ≤ k → k ≤ j → m ≤ v.depth k) ⊎ ((o : ℕ) × LastBelow v m i j o)
last_below v m i zero a = elim (cases_lt (v.depth zero) m) [
  | inl h ↦ inr (zero, last_here v m i zero a h)
  | inr h ↦ inl (λ k x y. let e : k ≡ zero = omega arith in let g : v.depth k ≡ v.depth zero = ap v.depth e in omega arith)
]
last_below v m i (suc j) a = elim (cases_lt (v.depth (suc j)) m) [
  | inl h ↦ inr (suc j, last_here v m i (suc j) a h)
  | inr h ↦ elim (cases_eq i (suc j)) [
    | inl e ↦ inl (λ k x y. let q : k ≡ suc j = omega arith in let g : v.depth k ≡ v.depth (suc j) = ap v.depth q in omega arith)
    | inr n ↦ elim (last_below v m i j (omega arith)) [
      | inl all ↦ inl (all_more v.depth m i j all h)
      | inr l ↦ inr (l.0, last_more v m i j l.0 h l.1)
    ]
  ]
]

abbrev pub Decided : World → ℕ → ℕ → Type 0
Decided v i j = ((r : ℕ) × Pending v i j r) ⊎ Reach v i j

-- all of a procedure leads to its return
not_pending_inside : (v : World) (i r q : ℕ) → 1 ≤ i → r ≤ v.size → returns (v.shape r) ≡ true → ((k : ℕ) → i ≤ k → k ≤ r → v.depth r ≤ v.depth k) → Pending v i r q → ⊥
not_pending_inside v i r q a b s h p =
    let l : v.depth q ≡ suc (v.depth (suc q)) = leaves_by v q (omega (arith, p.since)) (omega (arith, p.before)) (spawned-returns (v.shape q) p.a_return) in
    let d : v.depth r ≤ v.depth (suc q) = h (suc q) (omega (arith, p.since)) p.before in
    let e : v.depth q ≤ suc (v.depth r) = p.held r p.before (omega arith) in
    p.unjoined r p.before (omega arith) (omega arith) (returns-joins (v.shape r) s)

reach_return : (v : World) (i r : ℕ) → 1 ≤ i → r ≤ v.size → returns (v.shape r) ≡ true → ((k : ℕ) → i ≤ k → k ≤ r → v.depth r ≤ v.depth k) → Decided v i r → Reach v i r
reach_return v i r a b s h d = elim d [
  | inl p ↦ absurd (not_pending_inside v i r p.0 a b s h p.1)
  | inr q ↦ q
]

-- a pending return stays pending over the next place, or joins it
held_next : (v : World) (i j r : ℕ) → 1 ≤ i → suc j ≤ v.size → Pending v i j r → v.depth r ≤ suc (v.depth (suc j))
held_next v i j r a b p =
    let h : v.depth r ≤ suc (v.depth j) = p.held j p.before (omega arith) in
    elim (cases_lt (v.depth (suc j)) (v.depth j)) [
      | inl l ↦ (let s = falls v j (omega (arith, p.since, p.before)) b l in
          let e : v.depth j ≡ suc (v.depth (suc j)) = leaves_by v j (omega (arith, p.since, p.before)) b s in
          omega (arith, λ (x : suc (v.depth j) ≡ v.depth r). p.unjoined j p.before (omega arith) x (returns-joins (v.shape j) s)))
      | inr l ↦ omega arith
    ]

pending_more : (v : World) (i j r : ℕ) → 1 ≤ i → suc j ≤ v.size → Pending v i j r
    → (suc (v.depth (suc j)) ≡ v.depth r → joins (v.shape (suc j)) ≡ true → ⊥) → Pending v i (suc j) r
pending_more v i j r a b p n = record {
  since = p.since;
  before = omega (arith, p.before);
  a_return = p.a_return;
  inside = p.inside;
  held = held_more v.depth j r p.held (held_next v i j r a b p);
  unjoined = λ k x y e s. elim (cases_eq k (suc j)) [
    | inl q ↦ (let f : v.depth k ≡ v.depth (suc j) = ap v.depth q in
        let g : v.shape k ≡ v.shape (suc j) = ap v.shape q in
        n (omega arith) (cc))
    | inr q ↦ p.unjoined k x (omega arith) e s
  ];
}
  where
    held_more : (f : ℕ → ℕ) (j r : ℕ) → ((k : ℕ) → r < k → k ≤ j → f r ≤ suc (f k)) → f r ≤ suc (f (suc j)) → (k : ℕ) → r < k → k ≤ suc j → f r ≤ suc (f k)
    held_more f j r h l k x y = elim (cases_eq k (suc j)) [
      | inl e ↦ (let g : f k ≡ f (suc j) = ap f e in omega arith)
      | inr n ↦ h k x (omega arith)
    ]

join_edge : (v : World) (i j r : ℕ) → 1 ≤ i → suc j ≤ v.size → Pending v i j r → suc (v.depth (suc j)) ≡ v.depth r → joins (v.shape (suc j)) ≡ true → Edge v r (suc j)
join_edge v i j r a b p e s = record {
  from = omega (arith, p.since);
  to = b;
  forth = omega (arith, p.before);
  kind = joined p.a_return (sym e) s (λ k x y d t. p.unjoined k x (omega arith) (omega arith) t);
}

over_next : (v : World) (i j r : ℕ) → 1 ≤ i → suc j ≤ v.size → Pending v i j r → Decided v i r → Decided v i (suc j)
over_next v i j r a b p d = elim (cases_eq (suc (v.depth (suc j))) (v.depth r)) [
  | inl e ↦ elim (cases_Bool (joins (v.shape (suc j)))) [
    | inl s ↦ inr (next (reach_return v i r a (omega (arith, p.before)) (spawned-returns (v.shape r) p.a_return) p.inside d) (join_edge v i j r a b p e s))
    | inr s ↦ inl (r, pending_more v i j r a b p (λ x t. both s t))
  ]
  | inr n ↦ inl (r, pending_more v i j r a b p (λ x t. n x))
]
  where
    both : {t : Bool} → t ≡ false → t ≡ true → ⊥
    both x y = cc

-- an edge leads from each place to the next one, but from a spawned return to a place that doesn't wait
straight_kind : (v : World) (j : ℕ) (s : Shape) → v.shape j ≡ s → Step s (v.depth j) (v.depth (suc j)) → (s ≡ spawned_return → ⊥) → Kind v j (suc j)
straight_kind v j access e d n = goes_on (ap returns e) d (λ k x y. absurd (omega arith))
straight_kind v j sync e d n = goes_on (ap returns e) d (λ k x y. absurd (omega arith))
straight_kind v j spawn e d n = goes_in (ap opens e) refl
straight_kind v j call e d n = goes_in (ap opens e) refl
straight_kind v j spawned_return e d n = absurd (n refl)
straight_kind v j called_return e d n = comes_back e refl

straight : (v : World) (j : ℕ) → 1 ≤ j → suc j ≤ v.size → (v.shape j ≡ spawned_return → ⊥) → Edge v j (suc j)
straight v j a b n = record { from = a; to = b; forth = omega arith; kind = straight_kind v j (v.shape j) refl (v.step j a b) n }

straight_join : (v : World) (j : ℕ) → 1 ≤ j → suc j ≤ v.size → v.shape j ≡ spawned_return → joins (v.shape (suc j)) ≡ true → Edge v j (suc j)
straight_join v j a b s t = record {
  from = a;
  to = b;
  forth = omega arith;
  kind = joined s (leaves_by v j a b (spawned-returns (v.shape j) s)) t (λ k x y. absurd (omega arith));
}

by_edge : (v : World) (i j : ℕ) → 1 ≤ i → suc j ≤ v.size → Edge v j (suc j) → ((k : ℕ) → i ≤ k → k ≤ j → Decided v i k) → i ≤ j → Decided v i (suc j)
by_edge v i j a b e ih l = elim (ih j l (omega arith)) [
  | inl p ↦ over_next v i j p.0 a b p.1 (ih p.0 p.1.since (omega (arith, p.1.before)))
  | inr q ↦ inr (next q e)
]

-- the return at j is pending, where i lies in the child that it closes
new_pending : (v : World) (i j : ℕ) → 1 ≤ i → i ≤ j → suc j ≤ v.size → v.shape j ≡ spawned_return → joins (v.shape (suc j)) ≡ false
    → ((k : ℕ) → i ≤ k → k ≤ j → v.depth j ≤ v.depth k) → Pending v i (suc j) j
new_pending v i j a l b s n h = record {
  since = l;
  before = omega arith;
  a_return = s;
  inside = h;
  held = λ k x y. (let e : k ≡ suc j = omega arith in
      let f : v.depth k ≡ v.depth (suc j) = ap v.depth e in
      let g : v.depth j ≡ suc (v.depth (suc j)) = leaves_by v j (omega arith) b (spawned-returns (v.shape j) s) in
      omega arith);
  unjoined = λ k x y d t. (let e : k ≡ suc j = omega arith in
      let f : v.shape k ≡ v.shape (suc j) = ap v.shape e in
      let z : joins (v.shape k) ≡ false = ap joins f ∙ n in cc);
}

-- otherwise the place that opened the child lies between, and goes on at suc j
record Opener (v : World) (j o : ℕ) : Type 0 where
  upto : o < j
  level : v.depth o ≡ v.depth (suc j)
  above : v.depth j ≡ suc (v.depth o)
  inner : (k : ℕ) → o < k → k ≤ j → v.depth j ≤ v.depth k
  edge : Edge v o (suc j)

opener : (v : World) (i j o : ℕ) → 1 ≤ i → suc j ≤ v.size → v.shape j ≡ spawned_return → LastBelow v (v.depth j) i j o → Opener v j o
opener v i j o a b s l =
    let g : v.depth j ≡ suc (v.depth (suc j)) = leaves_by v j (omega (arith, l.since, l.upto)) b (spawned-returns (v.shape j) s) in
    let u : o < j = apart o j l.upto (λ e. let f : v.depth o ≡ v.depth j = ap v.depth e in omega (arith, l.below)) in
    let c : v.depth j ≤ v.depth (suc o) = l.after (suc o) (omega arith) u in
    let d : v.depth (suc o) ≤ suc (v.depth o) = up v o (omega (arith, l.since)) (omega arith) in
    let e : v.depth o < v.depth j = l.below in
    record {
      upto = u;
      level = omega arith;
      above = omega arith;
      inner = l.after;
      edge = record {
        from = omega (arith, l.since);
        to = b;
        forth = omega arith;
        kind = goes_on (rises v o (omega (arith, l.since)) (omega arith) (omega arith)) (omega arith)
            (λ k x y. omega (arith, l.after k x (omega arith)));
      };
    }
  where
    apart : (x y : ℕ) → x ≤ y → (x ≡ y → ⊥) → x < y
    apart x y h n = omega arith

over_child : (v : World) (i j o r : ℕ) → joins (v.shape (suc j)) ≡ false → Opener v j o → Pending v i o r → Pending v i (suc j) r
over_child v i j o r n l p =
    let h : v.depth r ≤ suc (v.depth o) = p.held o p.before (omega arith) in
    record {
      since = p.since;
      before = omega (arith, p.before, l.upto);
      a_return = p.a_return;
      inside = p.inside;
      held = λ k x y. elim (cases_lt o k) [
        | inl c ↦ elim (cases_eq k (suc j)) [
          | inl e ↦ (let f : v.depth k ≡ v.depth (suc j) = ap v.depth e in omega (arith, l.level))
          | inr e ↦ omega (arith, l.inner k c (omega arith), l.above)
        ]
        | inr c ↦ p.held k x c
      ];
      unjoined = λ k x y e t. elim (cases_lt o k) [
        | inl c ↦ elim (cases_eq k (suc j)) [
          | inl q ↦ (let f : v.shape k ≡ v.shape (suc j) = ap v.shape q in
              let z : joins (v.shape k) ≡ false = ap joins f ∙ n in cc)
          | inr q ↦ omega (arith, l.inner k c (omega arith), l.above)
        ]
        | inr c ↦ p.unjoined k x c e t
      ];
    }

by_child : (v : World) (i j : ℕ) → 1 ≤ i → suc j ≤ v.size → v.shape j ≡ spawned_return → joins (v.shape (suc j)) ≡ false
    → ((k : ℕ) → i ≤ k → k ≤ j → Decided v i k) → i ≤ j → Decided v i (suc j)
by_child v i j a b s n ih l = elim (last_below v (v.depth j) i j l) [
  | inl all ↦ inl (j, new_pending v i j a l b s n all)
  | inr z ↦ out z.0 z.1.since (opener v i j z.0 a b s z.1)
]
  where
    out : (o : ℕ) → i ≤ o → Opener v j o → Decided v i (suc j)
    out o c z = elim (ih o c (omega (arith, z.upto))) [
      | inl p ↦ inl (p.0, over_child v i j o p.0 n z p.1)
      | inr q ↦ inr (next q z.edge)
    ]

is_spawned_return : (s : Shape) → (s ≡ spawned_return) ⊎ (s ≡ spawned_return → ⊥)
is_spawned_return access = inr (λ e. cc)
is_spawned_return sync = inr (λ e. cc)
is_spawned_return spawn = inr (λ e. cc)
is_spawned_return call = inr (λ e. cc)
is_spawned_return spawned_return = inl refl
is_spawned_return called_return = inr (λ e. cc)

complete_step : (v : World) (i j : ℕ) → 1 ≤ i → suc j ≤ v.size → ((k : ℕ) → i ≤ k → k ≤ j → Decided v i k) → i ≤ j → Decided v i (suc j)
complete_step v i j a b ih l = elim (is_spawned_return (v.shape j)) [
  | inl s ↦ elim (cases_Bool (joins (v.shape (suc j)))) [
    | inl t ↦ by_edge v i j a b (straight_join v j (omega arith) b s t) ih l
    | inr t ↦ by_child v i j a b s t ih l
  ]
  | inr n ↦ by_edge v i j a b (straight v j (omega arith) b n) ih l
]

complete_upto : (v : World) (i n : ℕ) → 1 ≤ i → n ≤ v.size → (k : ℕ) → i ≤ k → k ≤ n → Decided v i k
complete_upto v i zero a b k x y = absurd (omega arith)
complete_upto v i (suc n) a b k x y = elim (cases_eq k (suc n)) [
  | inl e ↦ subst (λ (z : ℕ). Decided v i z) (sym e) (elim (cases_eq i (suc n)) [
    | inl q ↦ inr (subst (λ (z : ℕ). Reach v i z) q (here a (omega arith)))
    | inr q ↦ complete_step v i n a b (complete_upto v i n a (omega arith)) (omega arith)
  ])
  | inr q ↦ complete_upto v i n a (omega arith) k x (omega arith)
]

-- a return is pending, or a path leads
pub decided : (v : World) (i j : ℕ) → 1 ≤ i → i ≤ j → j ≤ v.size → Decided v i j
decided v i j a b c = complete_upto v i j a c j b (omega arith)

-- parallel places

pub not-reach : (v : World) (i j : ℕ) → 1 ≤ i → i ≤ j → j ≤ v.size → (Reach v i j → ⊥) → (r : ℕ) × Pending v i j r
not-reach v i j a b c n = elim (decided v i j a b c) [ inl p ↦ p | inr q ↦ absurd (n q) ]

through_first : (v : World) (i j k r q : ℕ) → Pending v i j r → Pending v j k q → v.depth r ≤ v.depth q → Pending v i k r
through_first v i j k r q p s l = record {
  since = p.since;
  before = omega (arith, p.before, s.since, s.before);
  a_return = p.a_return;
  inside = p.inside;
  held = λ x a b. elim (cases_lt j x) [
    | inl c ↦ elim (cases_lt q x) [
      | inl d ↦ omega (arith, s.held x d b)
      | inr d ↦ omega (arith, s.inside x (omega arith) d)
    ]
    | inr c ↦ p.held x a c
  ];
  unjoined = λ x a b e t. elim (cases_lt j x) [
    | inl c ↦ elim (cases_lt q x) [
      | inl d ↦ s.unjoined x d b (let h : v.depth q ≤ suc (v.depth x) = s.held x d b in omega arith) t
      | inr d ↦ omega (arith, s.inside x (omega arith) d)
    ]
    | inr c ↦ p.unjoined x a c e t
  ];
}

through_second : (v : World) (i j k r q : ℕ) → Pending v i j r → Pending v j k q → v.depth q < v.depth r → Pending v i k q
through_second v i j k r q p s l = record {
  since = omega (arith, p.since, p.before, s.since);
  before = s.before;
  a_return = s.a_return;
  inside = λ x a b. elim (cases_lt r x) [
    | inl c ↦ elim (cases_lt j x) [
      | inl d ↦ s.inside x (omega arith) b
      | inr d ↦ omega (arith, p.held x c d)
    ]
    | inr c ↦ omega (arith, p.inside x a c)
  ];
  held = s.held;
  unjoined = s.unjoined;
}

pub pending_through : (v : World) (i j k r q : ℕ) → Pending v i j r → Pending v j k q → (x : ℕ) × Pending v i k x
pending_through v i j k r q p s = elim (cases_lt (v.depth q) (v.depth r)) [
  | inl l ↦ (q, through_second v i j k r q p s l)
  | inr l ↦ (r, through_first v i j k r q p s l)
]

pub pending_after : (v : World) (i j k r : ℕ) → 1 ≤ i → i ≤ j → j ≤ k → k ≤ v.size → Reach v i j → Pending v i k r → Pending v j k r
pending_after v i j k r a b c d q p = elim (cases_lt r j) [
  | inl l ↦ absurd (sound v i j r q (pending-shorter v i j k r p l c))
  | inr l ↦ pending-later v i j k r p b l
]

-- All of i .. r is executed by the procedure that returns at r, or by its descendants.
pub record Within (v : World) (i r : ℕ) : Type 0 where
  pub upto : i ≤ r
  pub a_return : returns (v.shape r) ≡ true
  pub inside : (k : ℕ) → i ≤ k → k ≤ r → v.depth r ≤ v.depth k

pub reach-return : (v : World) (i r : ℕ) → 1 ≤ i → r ≤ v.size → Within v i r → Reach v i r
reach-return v i r a b h = reach_return v i r a b h.a_return h.inside (decided v i r a h.upto b)

pending_from : (v : World) (i r j q : ℕ) → Within v i r → Pending v r j q → Pending v i j q
pending_from v i r j q h p = record {
  since = omega (arith, h.upto, p.since);
  before = p.before;
  a_return = p.a_return;
  inside = λ x a b. elim (cases_lt r x) [
    | inl c ↦ p.inside x (omega arith) b
    | inr c ↦ (let e : v.depth q ≤ v.depth r = p.inside r (omega arith) p.since in omega (arith, h.inside x a c))
  ];
  held = p.held;
  unjoined = p.unjoined;
}

-- the one way out of a procedure is by its return
pub way_out : (v : World) (i r j : ℕ) → 1 ≤ i → r ≤ j → j ≤ v.size → Within v i r → Reach v i j → Reach v r j
way_out v i r j a b c h q = elim (decided v r j (omega (arith, h.upto)) b c) [
  | inl p ↦ absurd (sound v i j p.0 q (pending_from v i r j p.0 h p.1))
  | inr z ↦ z
]

pub way_from : (v : World) (i r j : ℕ) → 1 ≤ i → r ≤ v.size → Within v i r → Reach v r j → Reach v i j
way_from v i r j a b h q = reach_all v i r j (reach-return v i r a b h) q
