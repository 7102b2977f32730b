-- Two accesses are parallel exactly where their meeting procedure has them in one block: the first in a
-- child that it spawned, and no sync of its own from there to the second one's stand.
use Rattle.dag.proofs.Common.{◌≡◌, ℕ, zero, suc, ◌+◌, ◌<◌, ◌≤◌, ◌↔◌, Bool, true, false, ◌&&◌, ltb, eqb, List, Option, Some, None, ◌⊎◌, inl, inr, refl, sym, ◌∙◌, subst, ap, arith, cases_lt, cases_eq, cases_order, and_parts, lt-ltb, eq-eqb, eqb-true, both_ways, Record, Spawn, Call, Return, Sync, Read, Write, at, depth, IsPlace, IsWellNested, JoinsAt, IsParallel, IsAccessPlace, level, Opens, Holds, IsMeeting, IsChild, IsStand, itself, in_child, is_sync, one_if, block, InOneBlock, ExactlyOne}
use Rattle.dag.proofs.World.{returns, Pending, last_below, LastBelow, up, rises_opens, falls, leaves_by, spawned-returns}
use Rattle.dag.proofs.Traced.{traced, shape_at, opener_of, opener-is, call-is_call, shape-opens, shape-return, shape-joins, shape-spawned, returns-shape, joins-shape, spawned_shape}
use Rattle.dag.proofs.Paths.{pending-parallel, parallel-pending, access-place, access-not_joins}

-- procedures

pub level-at : (w : List Record) (f : ℕ) → 1 ≤ f → level w f ≡ suc (depth w f)
level-at w zero a = absurd (omega arith)
level-at w (suc f) a = refl

no_opener : (w : List Record) → Opens (at w 0) → ⊥
no_opener w (inl e) = cc
no_opener w (inr e) = cc

-- no sync opens a procedure
pub opens-no_sync : (o : Option Record) → Opens o → o ≡ Some Sync → ⊥
opens-no_sync o (inl e) s = cc
opens-no_sync o (inr e) s = cc

pub holds_from : (w : List Record) (f i : ℕ) → Opens (at w f) → f < i → ((k : ℕ) → f < k → k ≤ i → suc (depth w f) ≤ depth w k) → Holds w f i
holds_from w zero i s a h = absurd (no_opener w s)
holds_from w (suc f) i s a h = record { opener = s; after = a; inside = h }

-- where a procedure is opened, its places are deeper
pub holds-deeper : (w : List Record) (f i : ℕ) → Opens (at w f) → Holds w f i → (k : ℕ) → f < k → k ≤ i → suc (depth w f) ≤ depth w k
holds-deeper w zero i s h k x y = absurd (no_opener w s)
holds-deeper w (suc f) i s h k x y = h.inside k x y

pub holds-shorter : (w : List Record) (f i j : ℕ) → f < i → i ≤ j → Holds w f j → Holds w f i
holds-shorter w f i j a b h = record { opener = h.opener; after = a; inside = λ k x y. h.inside k x (omega arith) }

-- the procedure on level d + 1 that holds i
pub record Opened (w : List Record) (d i o : ℕ) : Type 0 where
  pub from : 1 ≤ o
  pub before : o < i
  pub opens : Opens (at w o)
  pub on : depth w o ≡ d
  pub inside : (k : ℕ) → o < k → k ≤ i → suc d ≤ depth w k

opened_by : (w : List Record) {n c : ℕ} (h : IsWellNested w n c) (d i o : ℕ) → IsPlace w i → suc d ≤ depth w i → LastBelow (traced w h) (suc d) 1 i o → Opened w d i o
opened_by w h d i o p l b =
    let x : o < i = apart o i b.upto (λ e. let f : depth w o ≡ depth w i = ap (depth w) e in omega (arith, b.below)) in
    let y : suc d ≤ depth w (suc o) = b.after (suc o) (omega arith) x in
    let z : depth w (suc o) ≤ suc (depth w o) = up (traced w h) o b.since (omega (arith, p.1)) in
    let t : depth w o < suc d = b.below in
    record {
      from = b.since;
      before = x;
      opens = shape-opens _ (at w o) (rises_opens (traced w h) o b.since (omega (arith, p.1)) (omega arith));
      on = omega arith;
      inside = b.after;
    }
  where
    apart : (x y : ℕ) → x ≤ y → (x ≡ y → ⊥) → x < y
    apart x y h n = omega arith

pub opened_at : (w : List Record) {n c : ℕ} → IsWellNested w n c → (d i : ℕ) → IsPlace w i → suc d ≤ depth w i → (o : ℕ) × Opened w d i o
opened_at w h d i p l = elim (last_below (traced w h) (suc d) 1 i p.0) [
  | inl all ↦ absurd (not_first (all 1 (omega arith) p.0))
  | inr b ↦ (b.0, opened_by w h d i b.0 p l b.1)
]
  where
    not_first : suc d ≤ depth w 1 → ⊥
    not_first e = omega arith

pub opened-holds : (w : List Record) (d i o : ℕ) → Opened w d i o → Holds w o i
opened-holds w d i o b = holds_from w o i b.opens b.before (λ k x y. omega (arith, b.inside k x y, b.on))

-- what is opened on m's own level lies in m
pub opened_below : (w : List Record) (o m i : ℕ) → Opened w (level w m) i o → Holds w m i → m < o
opened_below w o zero i b a = omega (arith, b.from)
opened_below w o (suc m) i b a = elim (cases_lt (suc m) o) [
  | inl l ↦ l
  | inr l ↦ elim (cases_eq o (suc m)) [
    | inl e ↦ absurd (let f : depth w o ≡ depth w (suc m) = ap (depth w) e in omega (arith, b.on))
    | inr n ↦ absurd (let f : suc (suc (depth w (suc m))) ≤ depth w (suc m) = b.inside (suc m) (omega arith) (omega (arith, a.after)) in omega arith)
  ]
]

pub opened-child : (w : List Record) (o m i : ℕ) → Opened w (level w m) i o → Holds w m i → IsChild w m o
opened-child w o m i b a = record {
  own = record { held = holds-shorter w m o i (opened_below w o m i b a) (omega (arith, b.before)) a; on_level = b.on };
  opens = b.opens;
}

-- a place stands in each procedure that holds it

stand_in : (w : List Record) {n c : ℕ} → IsWellNested w n c → (m j : ℕ) → IsPlace w j → Holds w m j → (e : ℕ) × IsStand w m j e
stand_in w h m j p a = elim (cases_eq (depth w j) (level w m)) [
  | inl e ↦ (j, itself (record { held = a; on_level = e }))
  | inr n ↦ in_one (opened_at w h (level w m) j p (deeper n (a.inside j a.after (omega arith))))
]
  where
    deeper : (depth w j ≡ level w m → ⊥) → level w m ≤ depth w j → suc (level w m) ≤ depth w j
    deeper n l = omega arith

    in_one : (o : ℕ) × Opened w (level w m) j o → (e : ℕ) × IsStand w m j e
    in_one b = (b.0, in_child (opened-child w b.0 m j b.1 a) (opened-holds w (level w m) j b.0 b.1))

-- the least deep of the places from i to j
record Least (f : ℕ → ℕ) (i j k : ℕ) : Type 0 where
  since : i ≤ k
  upto : k ≤ j
  least : (x : ℕ) → i ≤ x → x ≤ j → f k ≤ f x

least_of : (f : ℕ → ℕ) (i j : ℕ) → i ≤ j → (k : ℕ) × Least f i j k
least_of f i zero a = (zero, record { since = a; upto = omega arith; least = λ x y z. (let e : f zero ≡ f x = ap f (only x z) in omega arith) })
  where
    only : (x : ℕ) → x ≤ 0 → zero ≡ x
    only x z = omega arith
least_of f i (suc j) a = elim (cases_eq i (suc j)) [
  | inl e ↦ (suc j, record { since = a; upto = omega arith; least = λ x y z. (let g : f (suc j) ≡ f x = ap f (only x e y z) in omega arith) })
  | inr n ↦ longer (least_of f i j (omega arith))
]
  where
    only : (x : ℕ) → i ≡ suc j → i ≤ x → x ≤ suc j → suc j ≡ x
    only x e y z = omega arith

    more : (k x : ℕ) → Least f i j k → f k ≤ f (suc j) → i ≤ x → x ≤ suc j → f k ≤ f x
    more k x l q y z = elim (cases_eq x (suc j)) [
      | inl e ↦ (let g : f x ≡ f (suc j) = ap f e in omega arith)
      | inr n ↦ l.least x y (omega arith)
    ]

    longer : (k : ℕ) × Least f i j k → (k : ℕ) × Least f i (suc j) k
    longer k = elim (cases_lt (f (suc j)) (f k.0)) [
      | inl l ↦ (
        suc j,
        record {
          since = a;
          upto = omega arith;
          least = λ x y z. elim (cases_eq x (suc j)) [
            | inl e ↦ (let g : f x ≡ f (suc j) = ap f e in omega arith)
            | inr n ↦ omega (arith, k.1.least x y (omega arith))
          ];
        },
      )
      | inr l ↦ (k.0, record { since = k.1.since; upto = omega (arith, k.1.upto); least = λ x y z. more k.0 x k.1 l y z })
    ]

-- two places meet

-- over places that are no less deep
opened_over : (w : List Record) (d i j o : ℕ) → Opened w d i o → i ≤ j → ((x : ℕ) → i ≤ x → x ≤ j → suc d ≤ depth w x) → Holds w o j
opened_over w d i j o b l h = holds_from w o j b.opens (omega (arith, b.before)) (λ x y z. elim (cases_lt i x) [
  | inl t ↦ omega (arith, h x (omega arith) z, b.on)
  | inr t ↦ omega (arith, b.inside x y t, b.on)
])

pub root-holds : (w : List Record) (i : ℕ) → 1 ≤ i → Holds w 0 i
root-holds w i a = record { opener = tt; after = a; inside = λ k x y. omega arith }

meeting_at : (w : List Record) {n c : ℕ} → IsWellNested w n c → (i j k q : ℕ) → i < j → IsPlace w i → Least (depth w) i j k → depth w k ≡ q → (m : ℕ) × IsMeeting w i j m
meeting_at w h i j k zero l p a e = (
  0,
  record {
    first = root-holds w i p.0;
    second = root-holds w j (omega arith);
    deepest = λ f b c. omega (arith, c.inside k (omega (arith, b.after, a.since)) a.upto);
  },
)
meeting_at w h i j k (suc d) l p a e = by_opener (opened_at w h d i p (omega (arith, a.least i (omega arith) (omega arith))))
  where
    by_opener : (o : ℕ) × Opened w d i o → (m : ℕ) × IsMeeting w i j m
    by_opener b = (
      b.0,
      record {
        first = opened-holds w d i b.0 b.1;
        second = opened_over w d i j b.0 b.1 (omega arith) (λ x y z. omega (arith, a.least x y z));
        deepest = λ f x y. omega (arith, y.inside k (omega (arith, x.after, a.since)) a.upto, level-at w b.0 b.1.from, b.1.on);
      },
    )

pub meeting_of : (w : List Record) {n c : ℕ} → IsWellNested w n c → (i j : ℕ) → IsPlace w i → i < j → (m : ℕ) × IsMeeting w i j m
meeting_of w h i j p l = let k = least_of (depth w) i j (omega arith) in meeting_at w h i j k.0 _ l p k.1 refl

pub stand_of : (w : List Record) {n c : ℕ} → IsWellNested w n c → (i j m : ℕ) → IsPlace w j → IsMeeting w i j m → (e : ℕ) × IsStand w m j e
stand_of w h i j m p a = stand_in w h m j p a.second

-- blocks

pub own_sync : List Record → ℕ → ℕ → Bool
own_sync w m k = ltb m k && (eqb (depth w k) (level w m) && is_sync (at w k))

pub sync-is : (o : Option Record) → is_sync o ≡ true → o ≡ Some Sync
sync-is None e = absurd (cc)
sync-is (Some Spawn) e = absurd (cc)
sync-is (Some Call) e = absurd (cc)
sync-is (Some Return) e = absurd (cc)
sync-is (Some Sync) e = refl
sync-is (Some (Read l)) e = absurd (cc)
sync-is (Some (Write l)) e = absurd (cc)

pub is_own_sync : (w : List Record) (m k : ℕ) → m < k → depth w k ≡ level w m → at w k ≡ Some Sync → own_sync w m k ≡ true
unfolding own_sync
is_own_sync w m k a e s =
    (λ i. lt-ltb m k a i && (eq-eqb (depth w k) (level w m) e i && is_sync (s i)))

pub record OwnSync (w : List Record) (m k : ℕ) : Type 0 where
  pub on_level : depth w k ≡ level w m
  pub a_sync : at w k ≡ Some Sync

pub own_sync-is : (w : List Record) (m k : ℕ) → own_sync w m k ≡ true → OwnSync w m k
unfolding own_sync
own_sync-is w m k e =
    let a = and_parts (ltb m k) (eqb (depth w k) (level w m) && is_sync (at w k)) e in
    let b = and_parts (eqb (depth w k) (level w m)) (is_sync (at w k)) a.1 in
    record { on_level = eqb-true (depth w k) (level w m) b.0; a_sync = sync-is (at w k) b.1 }

block-more : (w : List Record) (m e : ℕ) → block w m (suc e) ≡ block w m e + one_if (own_sync w m e)
unfolding own_sync
block-more w m e = refl

one_if-zero : (b : Bool) → (b ≡ true → ⊥) → one_if b ≡ 0
one_if-zero true n = absurd (n refl)
one_if-zero false n = refl

pub block_same : (w : List Record) (m s e : ℕ) → s ≤ e → ((k : ℕ) → s ≤ k → k < e → own_sync w m k ≡ true → ⊥) → block w m s ≡ block w m e
block_same w m s zero l n = ap (block w m) (only s l)
  where
    only : (s : ℕ) → s ≤ 0 → s ≡ zero
    only s l = omega arith
block_same w m s (suc e) l n = elim (cases_eq s (suc e)) [
  | inl q ↦ ap (block w m) q
  | inr q ↦ (let a : block w m s ≡ block w m e = block_same w m s e (omega arith) (λ k x y. n k x (omega arith)) in
      let b : one_if (own_sync w m e) ≡ 0 = one_if-zero (own_sync w m e) (n e (omega arith) (omega arith)) in
      let c : block w m (suc e) ≡ block w m e + one_if (own_sync w m e) = block-more w m e in
      sum_to _ _ _ _ a b c)
]
  where
    sum_to : (a b c d : ℕ) → a ≡ b → c ≡ 0 → d ≡ b + c → a ≡ d
    sum_to a b c d x y z = omega arith

le_of : (f : ℕ → ℕ) (x y : ℕ) → x ≡ y → f x ≤ f y
le_of f x y q = let g : f x ≡ f y = ap f q in omega arith

block_le : (w : List Record) (m s e : ℕ) → s ≤ e → block w m s ≤ block w m e
block_le w m s zero l = le_of (block w m) s zero (only s l)
  where
    only : (s : ℕ) → s ≤ 0 → s ≡ zero
    only s l = omega arith
block_le w m s (suc e) l = elim (cases_eq s (suc e)) [
  | inl q ↦ le_of (block w m) s (suc e) q
  | inr q ↦ sum_le _ _ _ _ (block_le w m s e (omega arith)) (block-more w m e)
]
  where
    sum_le : (a b c d : ℕ) → a ≤ b → d ≡ b + c → a ≤ d
    sum_le a b c d x z = omega arith

pub block_less : (w : List Record) (m s k e : ℕ) → s ≤ k → k < e → own_sync w m k ≡ true → block w m s ≡ block w m e → ⊥
block_less w m s k e a b o q = less _ _ _ _ _ (block_le w m s k a) (block_le w m (suc k) e b) (block-more w m k) (ap one_if o) q
  where
    less : (a b c d e : ℕ) → a ≤ b → c ≤ d → c ≡ b + e → e ≡ 1 → a ≡ d → ⊥
    less a b c d e x y z u v = omega arith

-- where a return is pending

pending_level : (w : List Record) {n c : ℕ} (h : IsWellNested w n c) (i j r m d : ℕ) → IsPlace w i → Pending (traced w h) i j r → depth w r ≡ suc d → depth w (suc r) ≡ d → IsMeeting w i j m → level w m ≡ d
pending_level w h i j r m d p b x y a = between (upper d y) (lower d x)
  where
    between : {u v : ℕ} → u ≤ v → v ≤ u → u ≡ v
    between u v = omega arith

    upper : (d : ℕ) → depth w (suc r) ≡ d → level w m ≤ d
    upper d y = omega (arith, a.second.inside (suc r) (omega (arith, a.first.after, b.since)) b.before)

    lower : (d : ℕ) → depth w r ≡ suc d → d ≤ level w m
    lower zero x = omega arith
    lower (suc d) x = by_opener (opened_at w h d i p (omega (arith, b.inside i (omega arith) b.since)))
      where
        deep : (k : ℕ) → i ≤ k → k ≤ j → suc d ≤ depth w k
        deep k u v = elim (cases_lt r k) [
          | inl l ↦ omega (arith, b.held k l v)
          | inr l ↦ omega (arith, b.inside k u l)
        ]

        by_opener : (o : ℕ) × Opened w d i o → suc d ≤ level w m
        by_opener q = omega (arith, a.deepest q.0 (opened-holds w d i q.0 q.1) (opened_over w d i j q.0 q.1 (omega (arith, b.since, b.before)) deep), level-at w q.0 q.1.from, q.1.on)

no_sync_between : (w : List Record) {n c : ℕ} (h : IsWellNested w n c) (i j r m s k : ℕ) → Pending (traced w h) i j r → depth w r ≡ suc (level w m) → Opened w (level w m) i s
    → s ≤ k → k ≤ j → OwnSync w m k → ⊥
no_sync_between w h i j r m s k b x o y z q = elim (cases_eq s k) [
  | inl e ↦ opens-no_sync (at w s) o.opens (ap (at w) e ∙ q.a_sync)
  | inr n ↦ elim (cases_lt r k) [
    | inl l ↦ b.unjoined k l z (omega (arith, q.on_level)) (joins-shape _ (at w k) (inl q.a_sync))
    | inr l ↦ elim (cases_lt i k) [
      | inl t ↦ omega (arith, b.inside k (omega arith) l, q.on_level)
      | inr t ↦ omega (arith, o.inside k (omega arith) t, q.on_level)
    ]
  ]
]

pub stand-after : (w : List Record) (m j e x : ℕ) → x ≤ j → depth w x ≡ level w m → IsStand w m j e → x ≤ e
stand-after w m j e x a b (itself o) = a
stand-after w m j e x a b (in_child c t) = elim (cases_lt e x) [
  | inl l ↦ absurd (let f : suc (depth w e) ≤ depth w x = holds-deeper w e j c.opens t x l a in omega (arith, c.own.on_level))
  | inr l ↦ l
]

pub stand-le : (w : List Record) (m j e : ℕ) → IsStand w m j e → e ≤ j
stand-le w m j e (itself o) = omega arith
stand-le w m j e (in_child c t) = omega (arith, t.after)

-- the child that holds i and is closed at r is opened where r's procedure is
opened-is : (w : List Record) (m i r s : ℕ) → i ≤ r → depth w r ≡ suc (level w m) → ((k : ℕ) → i ≤ k → k ≤ r → depth w r ≤ depth w k) → Opened w (level w m) i s → opener_of w r ≡ s
opened-is w m i r s l x inside o =
    opener-is w s r (record {
      before = omega (arith, o.before);
      above = omega (arith, o.on);
      last = λ k u v e. elim (cases_lt i k) [
        | inl t ↦ omega (arith, inside k (omega arith) (omega arith), o.on)
        | inr t ↦ omega (arith, o.inside k u t, o.on)
      ];
    })

spawned_opener : (w : List Record) {n c : ℕ} (h : IsWellNested w n c) (i j r m s : ℕ) → Pending (traced w h) i j r → depth w r ≡ suc (level w m) → Opened w (level w m) i s → at w s ≡ Some Spawn
spawned_opener w h i j r m s b x o = elim o.opens [
  | inl e ↦ e
  | inr e ↦ absurd (both_ways _ (shape-spawned _ (at w r) b.a_return) (call-is_call (at w (opener_of w r)) (ap (at w) (opened-is w m i r s b.since x b.inside o) ∙ e)))
]

pending_block : (w : List Record) {n c : ℕ} (h : IsWellNested w n c) (i j r m s e : ℕ) → Pending (traced w h) i j r → depth w r ≡ suc (level w m) → depth w (suc r) ≡ level w m
    → IsMeeting w i j m → Opened w (level w m) i s → IsStand w m j e → InOneBlock w m i j
pending_block w h i j r m s e b x y a o t = record {
  spawned_at = s;
  stand = e;
  child = opened-child w s m i o a.first;
  a_spawn = spawned_opener w h i j r m s b x o;
  inside = opened-holds w (level w m) i s o;
  of_second = t;
  one_block = block_same w m s e (omega (arith, stand-after w m j e (suc r) b.before y t, o.before, b.since))
      (λ k u v q. no_sync_between w h i j r m s k b x o u (omega (arith, stand-le w m j e t)) (own_sync-is w m k q));
}

parallel_block : (w : List Record) {n c : ℕ} → IsWellNested w n c → (i j m : ℕ) → IsPlace w i → IsPlace w j → i < j → IsMeeting w i j m → IsParallel w i j → InOneBlock w m i j
parallel_block w h i j m p q l a z = by_pending (parallel-pending w h i j p q l z)
  where
    by_pending : (r : ℕ) × Pending (traced w h) i j r → InOneBlock w m i j
    by_pending b =
        let x : depth w b.0 ≡ suc (depth w (suc b.0)) = leaves_by (traced w h) b.0 (omega (arith, p.0, b.1.since)) (omega (arith, b.1.before, q.1)) (spawned-returns (shape_at w b.0) b.1.a_return) in
        let y : level w m ≡ depth w (suc b.0) = pending_level w h i j b.0 m (depth w (suc b.0)) p b.1 x refl a in
        let o = opened_at w h (level w m) i p (omega (arith, b.1.inside i (omega arith) b.1.since)) in
        let e = stand_of w h i j m q a in
        pending_block w h i j b.0 m o.0 e.0 b.1 (omega arith) (sym y) a o.1 e.1

-- where the block is one

record FirstBelow (f : ℕ → ℕ) (m i j x : ℕ) : Type 0 where
  since : i ≤ x
  upto : x ≤ j
  below : f x < m
  before : (k : ℕ) → i ≤ k → k < x → m ≤ f k

first_below : (f : ℕ → ℕ) (m i j : ℕ) → i ≤ j → ((k : ℕ) → i ≤ k → k ≤ j → m ≤ f k) ⊎ ((x : ℕ) × FirstBelow f m i j x)
first_below f m i zero a = elim (cases_lt (f zero) m) [
  | inl l ↦ inr (zero, record { since = a; upto = omega arith; below = l; before = λ k x y. absurd (omega arith) })
  | inr l ↦ inl (λ k x y. let e : f k ≡ f zero = ap f (only k y) in omega arith)
]
  where
    only : (k : ℕ) → k ≤ 0 → k ≡ zero
    only k y = omega arith
first_below f m i (suc j) a = elim (cases_eq i (suc j)) [
  | inl e ↦ at_end e
  | inr n ↦ elim (first_below f m i j (omega arith)) [
    | inl all ↦ more all
    | inr b ↦ inr (b.0, record { since = b.1.since; upto = omega (arith, b.1.upto); below = b.1.below; before = b.1.before })
  ]
]
  where
    only : (k : ℕ) → i ≡ suc j → i ≤ k → k ≤ suc j → k ≡ suc j
    only k e x y = omega arith

    at_end : i ≡ suc j → ((k : ℕ) → i ≤ k → k ≤ suc j → m ≤ f k) ⊎ ((x : ℕ) × FirstBelow f m i (suc j) x)
    at_end e = elim (cases_lt (f (suc j)) m) [
      | inl l ↦ inr (suc j, record { since = a; upto = omega arith; below = l; before = λ k x y. absurd (omega arith) })
      | inr l ↦ inl (λ k x y. let g : f k ≡ f (suc j) = ap f (only k e x y) in omega arith)
    ]

    more : ((k : ℕ) → i ≤ k → k ≤ j → m ≤ f k) → ((k : ℕ) → i ≤ k → k ≤ suc j → m ≤ f k) ⊎ ((x : ℕ) × FirstBelow f m i (suc j) x)
    more all = elim (cases_lt (f (suc j)) m) [
      | inl l ↦ inr (suc j, record { since = a; upto = omega arith; below = l; before = λ k x y. all k x (omega arith) })
      | inr l ↦ inl (λ k x y. elim (cases_eq k (suc j)) [
        | inl e ↦ (let g : f k ≡ f (suc j) = ap f e in omega arith)
        | inr n ↦ all k x (omega arith)
      ])
    ]

pub before-stand : (w : List Record) (m j e k : ℕ) → k < j → OwnSync w m k → IsStand w m j e → k < e
before-stand w m j e k a o (itself q) = a
before-stand w m j e k a o (in_child c t) = elim (cases_order k e) [
  | inl q ↦ absurd (opens-no_sync (at w e) c.opens (sym (ap (at w) q) ∙ o.a_sync))
  | inr q ↦ elim q [
    | inl l ↦ l
    | inr l ↦ absurd (let f : suc (depth w e) ≤ depth w k = holds-deeper w e j c.opens t k l (omega arith) in omega (arith, c.own.on_level, o.on_level))
  ]
]

-- nothing waits between
not_joined : (w : List Record) {n c : ℕ} (h : IsWellNested w n c) (i j m k : ℕ) → IsPlace w j → (JoinsAt w j → ⊥) → IsMeeting w i j m → (b : InOneBlock w m i j)
    → i < k → k ≤ j → depth w k ≡ level w m → JoinsAt w k → ⊥
not_joined w h i j m k p n a b x y e t = elim (cases_eq k j) [
  | inl q ↦ n (subst (λ (z : ℕ). JoinsAt w z) q t)
  | inr q ↦ before (omega arith) t
]
  where
    before : k < j → JoinsAt w k → ⊥
    before l (inl s) =
        let o : OwnSync w m k = record { on_level = e; a_sync = s } in
        block_less w m b.spawned_at k b.stand (omega (arith, b.inside.after)) (before-stand w m j b.stand k l o b.of_second)
        (is_own_sync w m k (omega (arith, a.first.after)) e s) b.one_block
    before l (inr s) =
        let f : depth w k ≡ suc (depth w (suc k)) = leaves_by (traced w h) k (omega arith) (omega (arith, p.1)) (returns-shape _ (at w k) s) in
        omega (arith, a.second.inside (suc k) (omega (arith, a.first.after)) l)

left_at : (w : List Record) {n c : ℕ} (h : IsWellNested w n c) (i j m r : ℕ) → IsPlace w i → IsPlace w j → (JoinsAt w j → ⊥) → IsMeeting w i j m → (b : InOneBlock w m i j)
    → i ≤ r → suc r ≤ j → depth w (suc r) < suc (level w m) → ((k : ℕ) → i ≤ k → k ≤ r → suc (level w m) ≤ depth w k) → Pending (traced w h) i j r
left_at w h i j m r p q n a b x y l deep =
    let u : suc (level w m) ≤ depth w r = deep r x (omega arith) in
    let o : Opened w (level w m) i b.spawned_at = record {
      from = omega (arith, b.child.own.held.after);
      before = b.inside.after;
      opens = b.child.opens;
      on = b.child.own.on_level;
      inside = λ k c d. omega (arith, holds-deeper w b.spawned_at i b.child.opens b.inside k c d, b.child.own.on_level);
    } in
    let s : returns (shape_at w r) ≡ true = falls (traced w h) r (omega (arith, p.0)) (omega (arith, q.1)) (omega arith) in
    let f : depth w r ≡ suc (depth w (suc r)) = leaves_by (traced w h) r (omega (arith, p.0)) (omega (arith, q.1)) s in
    record {
      since = x;
      before = y;
      a_return = spawned_shape w r (shape-return _ (at w r) s)
          (ap (at w) (opened-is w m i r b.spawned_at x (omega (arith, a.second.inside (suc r) (omega (arith, a.first.after)) y)) (λ k c d. omega (arith, deep k c d, f, l)) o) ∙ b.a_spawn);
      inside = λ k c d. omega (arith, deep k c d);
      held = λ k c d. omega (arith, a.second.inside k (omega (arith, a.first.after)) d);
      unjoined = λ k c d e t. not_joined w h i j m k q n a b (omega arith) d (omega arith) (shape-joins _ (at w k) t);
    }

block_parallel : (w : List Record) {n c : ℕ} → IsWellNested w n c → (i j m : ℕ) → IsPlace w i → IsPlace w j → (JoinsAt w j → ⊥) → i < j → IsMeeting w i j m → InOneBlock w m i j → IsParallel w i j
block_parallel w h i j m p q n l a b = elim (first_below (depth w) (suc (level w m)) i j (omega arith)) [
  | inl all ↦ absurd (too_deep all)
  | inr z ↦ by_first z.0 z.1
]
  where
    inner : (k : ℕ) → b.spawned_at < k → k ≤ i → suc (level w m) ≤ depth w k
    inner k x y = omega (arith, holds-deeper w b.spawned_at i b.child.opens b.inside k x y, b.child.own.on_level)

    too_deep : ((k : ℕ) → i ≤ k → k ≤ j → suc (level w m) ≤ depth w k) → ⊥
    too_deep all =
        let over : Holds w b.spawned_at j = holds_from w b.spawned_at j b.child.opens (omega (arith, b.inside.after)) (λ k x y. elim (cases_lt i k) [
          | inl t ↦ omega (arith, all k (omega arith) y, b.child.own.on_level)
          | inr t ↦ omega (arith, inner k x t, b.child.own.on_level)
        ]) in
        omega (arith, a.deepest b.spawned_at b.inside over, level-at w b.spawned_at (omega (arith, b.child.own.held.after)), b.child.own.on_level)

    by_first : (x : ℕ) → FirstBelow (depth w) (suc (level w m)) i j x → IsParallel w i j
    by_first zero z = absurd (omega (arith, z.since, p.0))
    by_first (suc r) z =
        let x : i ≤ r = after_first z in
        pending-parallel w h i j r p q l (left_at w h i j m r p q n a b x z.upto z.below (λ k c d. z.before k c (omega arith)))
      where
        after_first : FirstBelow (depth w) (suc (level w m)) i j (suc r) → i ≤ r
        after_first z = elim (cases_eq i (suc r)) [
          | inl e ↦ absurd (let f : depth w i ≡ depth w (suc r) = ap (depth w) e in omega (arith, inner i b.inside.after (omega arith), z.below))
          | inr t ↦ omega (arith, z.since)
        ]

-- there is one meeting procedure, and one stand

one_meeting : (w : List Record) (i j m k : ℕ) → IsMeeting w i j m → IsMeeting w i j k → k ≡ m
one_meeting w i j m k a b = elim (cases_order k m) [
  | inl e ↦ e
  | inr q ↦ elim q [
    | inl l ↦ absurd (let f : level w k ≤ depth w m = b.first.inside m l (omega (arith, a.first.after)) in
        omega (arith, b.deepest m a.first a.second, level-at w m (omega arith)))
    | inr l ↦ absurd (let f : level w m ≤ depth w k = a.first.inside k l (omega (arith, b.first.after)) in
        omega (arith, a.deepest k b.first b.second, level-at w k (omega arith)))
  ]
]

pub exactly_one_meeting : (w : List Record) {n c : ℕ} → IsWellNested w n c → (i j : ℕ) → IsPlace w i → i < j → ExactlyOne (IsMeeting w i j)
exactly_one_meeting w h i j p l = let m = meeting_of w h i j p l in (m.0, m.1, λ k a. one_meeting w i j m.0 k m.1 a)

stand-level : (w : List Record) (m j e : ℕ) → IsStand w m j e → depth w e ≡ level w m
stand-level w m j e (itself o) = o.on_level
stand-level w m j e (in_child c t) = c.own.on_level

one_stand : (w : List Record) (m j e k : ℕ) → IsStand w m j e → IsStand w m j k → k ≡ e
one_stand w m j e k a b = omega (
  arith,
  stand-after w m j e k (stand-le w m j k b) (stand-level w m j k b) a,
  stand-after w m j k e (stand-le w m j e a) (stand-level w m j e a) b,
)

pub exactly_one_stand : (w : List Record) {n c : ℕ} → IsWellNested w n c → (m j : ℕ) → IsPlace w j → Holds w m j → ExactlyOne (IsStand w m j)
exactly_one_stand w h m j p a = let e = stand_in w h m j p a in (e.0, e.1, λ k b. one_stand w m j e.0 k e.1 b)

-- the law of meetings
pub parallel-block : (w : List Record) {n c : ℕ} → IsWellNested w n c → (i j m : ℕ) → IsAccessPlace w i → IsAccessPlace w j → i < j → IsMeeting w i j m → IsParallel w i j ↔ InOneBlock w m i j
parallel-block w h i j m p q l a = (
  (λ z. parallel_block w h i j m (access-place w i p) (access-place w j q) l a z),
  (λ b. block_parallel w h i j m (access-place w i p) (access-place w j q) (access-not_joins w j q) l a b),
)
