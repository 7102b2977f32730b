-- Where a place stands once t records are done, at the level d of an active procedure: kept parallel by
-- a child that returned and wasn't waited for, or serial to a place of that level.
use Rattle.dag.proofs.Common.{◌≡◌, ℕ, suc, ◌<◌, ◌≤◌, true, false, inl, inr, refl, sym, subst, ap, arith, cases_lt, cases_eq}
use Rattle.dag.proofs.World.{World, spawned_return, called_return, joins, returns, next, comes_back, sound, reach-return, Pending, leaves_by, spawned-returns, spawned-joins, pending-shorter, all_more}

pub record Kept (v : World) (t d i : ℕ) : Type 0 where
  pub closer : ℕ
  pub since : i ≤ closer
  pub upto : closer ≤ t
  pub a_return : v.shape closer ≡ spawned_return
  pub level : v.depth closer ≡ suc d
  pub inside : (k : ℕ) → i ≤ k → k ≤ closer → suc d ≤ v.depth k
  pub after : (k : ℕ) → closer < k → k ≤ suc t → d ≤ v.depth k
  pub unjoined : (k : ℕ) → closer < k → k ≤ t → v.depth k ≡ d → joins (v.shape k) ≡ true → ⊥

pub record Serial (v : World) (t d i : ℕ) : Type 0 where
  pub spot : ℕ
  pub since : i ≤ spot
  pub upto : spot ≤ suc t
  pub level : v.depth spot ≡ d
  pub above : (k : ℕ) → i ≤ k → k ≤ suc t → d ≤ v.depth k
  pub clear : (r : ℕ) → Pending v i spot r → ⊥

-- one record more, which leaves the level alone

pub kept_stays : (v : World) (t d i : ℕ) → d ≤ v.depth (suc (suc t)) → (v.depth (suc t) ≡ d → joins (v.shape (suc t)) ≡ true → ⊥) → Kept v t d i → Kept v (suc t) d i
kept_stays v t d i l n h = record {
  closer = h.closer;
  since = h.since;
  upto = omega (arith, h.upto);
  a_return = h.a_return;
  level = h.level;
  inside = h.inside;
  after = all_more v.depth d (suc h.closer) (suc t) h.after l;
  unjoined = λ k x y e s. elim (cases_eq k (suc t)) [
    | inl q ↦ (let f : v.depth k ≡ v.depth (suc t) = ap v.depth q in
        let g : v.shape k ≡ v.shape (suc t) = ap v.shape q in
        n (omega arith) (cc))
    | inr q ↦ h.unjoined k x (omega arith) e s
  ];
}

pub serial_stays : (v : World) (t d i : ℕ) → d ≤ v.depth (suc (suc t)) → Serial v t d i → Serial v (suc t) d i
serial_stays v t d i l h = record {
  spot = h.spot;
  since = h.since;
  upto = omega (arith, h.upto);
  level = h.level;
  above = all_more v.depth d i (suc t) h.above l;
  clear = h.clear;
}

pub kept-above : (v : World) (t d i : ℕ) → Kept v t d i → (k : ℕ) → i ≤ k → k ≤ suc t → d ≤ v.depth k
kept-above v t d i h k x y = elim (cases_lt h.closer k) [
  | inl l ↦ h.after k l y
  | inr l ↦ omega (arith, h.inside k x l)
]

-- a sync of the level

not_pending_at_sync : (v : World) (t i r : ℕ) → 1 ≤ i → suc t ≤ v.size → (h : Kept v t (v.depth (suc t)) i) → joins (v.shape (suc t)) ≡ true → Pending v i (suc t) r → ⊥
not_pending_at_sync v t i r a b h s p =
    let c : v.depth r ≤ suc (v.depth (suc t)) = p.held (suc t) p.before (omega arith) in
    elim (cases_eq (suc (v.depth (suc t))) (v.depth r)) [
      | inl e ↦ p.unjoined (suc t) p.before (omega arith) e s
      | inr n ↦ elim (cases_lt h.closer r) [
        | inl l ↦ (let d : v.depth (suc t) ≤ v.depth r = h.after r l (omega (arith, p.before)) in
            h.unjoined r l (omega (arith, p.before)) (omega arith) (spawned-joins (v.shape r) p.a_return))
        | inr l ↦ omega (arith, h.inside r p.since l)
      ]
    ]

pub kept_synced : (v : World) (t d i : ℕ) → 1 ≤ i → suc t ≤ v.size → joins (v.shape (suc t)) ≡ true → v.depth (suc t) ≡ d → d ≤ v.depth (suc (suc t)) → Kept v t d i → Serial v (suc t) d i
kept_synced v t d i a b s e l h = record {
  spot = suc t;
  since = omega (arith, h.since, h.upto);
  upto = omega arith;
  level = e;
  above = all_more v.depth d i (suc t) (kept-above v t d i h) l;
  clear = λ r p. not_pending_at_sync v t i r a b (subst (λ (z : ℕ). Kept v t z i) (sym e) h) s p;
}

-- a return to the level, by which a child is closed

pub returned : (v : World) (t d i : ℕ) → i ≤ suc t → v.shape (suc t) ≡ spawned_return → v.depth (suc t) ≡ suc d → v.depth (suc (suc t)) ≡ d
    → ((k : ℕ) → i ≤ k → k ≤ suc t → suc d ≤ v.depth k) → Kept v (suc t) d i
returned v t d i a s e f h = record {
  closer = suc t;
  since = a;
  upto = omega arith;
  a_return = s;
  level = e;
  inside = h;
  after = λ k x y. (let g : v.depth k ≡ v.depth (suc (suc t)) = ap v.depth (between k t x y) in omega arith);
  unjoined = λ k x y. absurd (omega arith);
}
  where
    between : (k t : ℕ) → suc t < k → k ≤ suc (suc t) → k ≡ suc (suc t)
    between k t x y = omega arith

-- a called return to the level, from which a path leads on

pub returned_call : (v : World) (t d i : ℕ) → 1 ≤ i → i ≤ suc t → suc (suc t) ≤ v.size → v.shape (suc t) ≡ called_return → v.depth (suc t) ≡ suc d → v.depth (suc (suc t)) ≡ d
    → ((k : ℕ) → i ≤ k → k ≤ suc t → suc d ≤ v.depth k) → Serial v (suc t) d i
returned_call v t d i a b c s e f h = record {
  spot = suc (suc t);
  since = omega arith;
  upto = omega arith;
  level = f;
  above = all_more v.depth d i (suc t) (λ k x y. omega (arith, h k x y)) (omega arith);
  clear = λ r p. sound v i (suc (suc t)) r (next (reach-return v i (suc t) a (omega arith) (record {
    upto = b;
    a_return = ap returns s;
    inside = λ k x y. omega (arith, h k x y);
  })) (record { from = omega arith; to = c; forth = omega arith; kind = comes_back s refl })) p;
}

-- the place that comes next

pub serial_now : (v : World) (t d : ℕ) → v.depth (suc t) ≡ d → Serial v t d (suc t)
serial_now v t d e = record {
  spot = suc t;
  since = omega arith;
  upto = omega arith;
  level = e;
  above = λ k x y. (let f : v.depth k ≡ v.depth (suc t) = ap v.depth (only k t x y) in omega arith);
  clear = λ r p. omega (arith, p.since, p.before);
}
  where
    only : (k t : ℕ) → suc t ≤ k → k ≤ suc t → k ≡ suc t
    only k t x y = omega arith

-- what a procedure's own place says of the level at which it stands

pub own-serial : (v : World) (t d e i : ℕ) → i ≤ suc t → v.depth i ≡ e → ((k : ℕ) → i ≤ k → k ≤ suc t → e ≤ v.depth k) → Serial v t d i → d ≡ e
own-serial v t d e i a l h s =
    let x : e ≤ v.depth s.spot = h s.spot s.since s.upto in
    let y : d ≤ v.depth i = s.above i (omega arith) a in
    omega (arith, s.level)

pub own-kept : (v : World) (t d e i : ℕ) → 1 ≤ i → suc t ≤ v.size → v.depth i ≡ e → ((k : ℕ) → i ≤ k → k ≤ suc t → e ≤ v.depth k) → Kept v t d i → ⊥
own-kept v t d e i a b l h s =
    let f : v.depth s.closer ≡ suc (v.depth (suc s.closer)) = leaves_by v s.closer (omega (arith, s.since)) (omega (arith, s.upto)) (spawned-returns (v.shape s.closer) s.a_return) in
    let x : e ≤ v.depth (suc s.closer) = h (suc s.closer) (omega (arith, s.since)) (omega (arith, s.upto)) in
    let y : suc d ≤ v.depth i = s.inside i (omega arith) s.since in
    omega (arith, s.level)

-- what standing says of paths

pub kept-pending : (v : World) (t d i : ℕ) → joins (v.shape (suc t)) ≡ false → (h : Kept v t d i) → Pending v i (suc t) h.closer
kept-pending v t d i n h = record {
  since = h.since;
  before = omega (arith, h.upto);
  a_return = h.a_return;
  inside = λ k x y. omega (arith, h.inside k x y, h.level);
  held = λ k x y. omega (arith, h.after k x y, h.level);
  unjoined = λ k x y e s. elim (cases_eq k (suc t)) [
    | inl q ↦ (let g : joins (v.shape k) ≡ joins (v.shape (suc t)) = ap (λ (z : ℕ). joins (v.shape z)) q in cc)
    | inr q ↦ h.unjoined k x (omega arith) (omega (arith, h.level)) s
  ];
}

pub serial-not_pending : (v : World) (t d i r : ℕ) → 1 ≤ i → suc t ≤ v.size → Serial v t d i → Pending v i (suc t) r → ⊥
serial-not_pending v t d i r a b h p = elim (cases_lt r h.spot) [
  | inl l ↦ h.clear r (pending-shorter v i h.spot (suc t) r p l h.upto)
  | inr l ↦
      (let c : v.depth r ≤ v.depth h.spot = p.inside h.spot h.since l in
      let f : v.depth r ≡ suc (v.depth (suc r)) = leaves_by v r (omega (arith, p.since)) (omega (arith, p.before)) (spawned-returns (v.shape r) p.a_return) in
      let g : d ≤ v.depth (suc r) = h.above (suc r) (omega (arith, p.since)) p.before in
      omega (arith, h.level))
]
