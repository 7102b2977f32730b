-- The longest paths of a well nested trace, one place after another.
use Rattle.audit.proofs.Common.{◌≡◌, ◌≢◌, ℕ, zero, suc, ◌<◌, ◌≤◌, max, Bool, true, false, List, [], ◌∷◌, length, Option, Some, ◌⊎◌, inl, inr, refl, sym, ◌∙◌, subst, ap, arith, cases_lt, cases_eq, Record, Spawn, Call, Return, Sync, at, depth, IsPlace, IsWellNested, Edge, continuation, spawn, call, comes_back, join, IsContinuation, IsComeback, IsJoin, JoinsAt, IsPath, end_of, Opens, Suspended, PathTo, IsLongestTo, LastOn, IsReturnOf, LeadsOn, at_start, own, opened, came_back, IsUnjoinedReturn, IsLongestUnjoined, opened_by, IsSuspended, Holds, level}
use Rattle.dag.proofs.World.{Step, Reach, here, next, leaves, leaves_by, reach-return}
use Rattle.dag.proofs.Traced.{traced, shape_of, is_call, opener_of, opener-is, shape-return, returns-shape, step_at, edge_from, edge_to, trace_edge}

-- paths that end at a place

-- a path of a list leads to its last place
pub path_to : (w : List Record) (i : ℕ) (p : List ℕ) → IsPath w (i ∷ p) → PathTo w (length (i ∷ p)) (end_of i p)
path_to w i p a = record { first = i; rest = p; path = a; ends = refl; count = refl }

pub path_list : (w : List Record) (x j : ℕ) → PathTo w x j → (p : List ℕ) × IsPath w p × (length p ≡ x)
path_list w x j p = (p.first ∷ p.rest, p.path, p.count)

alone : {w : List Record} {j : ℕ} → IsPlace w j → PathTo w 1 j
alone {w} {j} p = record { first = j; rest = []; path = p; ends = refl; count = refl }

ends_later : (w : List Record) (i j k : ℕ) (p : List ℕ) → IsPath w (i ∷ p) → end_of i p ≡ j → Edge w j k → (q : List ℕ) × IsPath w (i ∷ q) × (end_of i q ≡ k) × (length q ≡ suc (length p))
ends_later w i j k [] a e d = (k ∷ [], (subst (λ (z : ℕ). Edge w z k) (sym e) d, edge_to w j k d), refl, refl)
ends_later w i j k (h ∷ p) a e d = let q = ends_later w h j k p a.1 e d in (h ∷ q.0, (a.0, q.1), q.2, ap suc q.3)

longer : {w : List Record} {x i j : ℕ} → PathTo w x i → Edge w i j → PathTo w (suc x) j
longer {w} {x} {i} {j} p d =
    let q = ends_later w p.first i j p.rest p.path p.ends d in
    record { first = p.first; rest = q.0; path = q.1; ends = q.2; count = ap suc (q.3 ∙ p.count) }

-- a path is one place alone, or a path and an edge more
last_edge : (w : List Record) (i : ℕ) (p : List ℕ) → IsPath w (i ∷ p) → (p ≡ []) ⊎ ((q : List ℕ) × IsPath w (i ∷ q) × Edge w (end_of i q) (end_of i p) × (length p ≡ suc (length q)))
last_edge w i [] a = inl refl
last_edge w i (j ∷ []) a = inr ([], edge_from w i j a.0, a.0, refl)
last_edge w i (j ∷ k ∷ p) a = elim (last_edge w j (k ∷ p) a.1) [
  | inl e ↦ absurd (cc)
  | inr q ↦ inr (j ∷ q.0, (a.0, q.1), q.2, ap suc q.3)
]

shortened : (w : List Record) (x j : ℕ) → PathTo w x j → (x ≡ 1) ⊎ ((y i : ℕ) × PathTo w y i × Edge w i j × (x ≡ suc y))
shortened w x j p = elim (last_edge w p.first p.rest p.path) [
  | inl e ↦ inl (sym p.count ∙ ap (λ (q : List ℕ). suc (length q)) e)
  | inr q ↦ inr (
    length (p.first ∷ q.0),
    end_of p.first q.0,
    path_to w p.first q.0 q.1,
    subst (λ (k : ℕ). Edge w (end_of p.first q.0) k) p.ends q.2,
    sym p.count ∙ ap suc q.3,
  )
]

ends_at_place : (w : List Record) (i : ℕ) (p : List ℕ) → IsPath w (i ∷ p) → IsPlace w (end_of i p)
ends_at_place w i [] a = a
ends_at_place w i (j ∷ p) a = ends_at_place w j p a.1

pub path_place : (w : List Record) (x j : ℕ) → PathTo w x j → IsPlace w j
path_place w x j p = subst (IsPlace w) p.ends (ends_at_place w p.first p.rest p.path)

-- the records that open a procedure, and returns by the record that opened theirs

pub opened_by-opens : (c : Bool) (o : Option Record) → o ≡ Some (opened_by c) → Opens o
opened_by-opens true o e = inr e
opened_by-opens false o e = inl e

pub opens_no_return : (o : Option Record) → Opens o → o ≡ Some Return → ⊥
opens_no_return o (inl e) q = cc
opens_no_return o (inr e) q = cc

pub opens_no_join : (o : Option Record) → Opens o → (o ≡ Some Sync) ⊎ (o ≡ Some Return) → ⊥
opens_no_join o (inl e) (inl q) = cc
opens_no_join o (inl e) (inr q) = cc
opens_no_join o (inr e) (inl q) = cc
opens_no_join o (inr e) (inr q) = cc

called_or_spawned : (o : Option Record) → o ≡ Some Call → o ≡ Some Spawn → ⊥
called_or_spawned o e q = cc

pub one_opener : (w : List Record) (r : ℕ) → IsReturnOf w Call r → IsReturnOf w Spawn r → ⊥
one_opener w r a b =
    called_or_spawned (at w (opener_of w r)) (ap (at w) (opener-is w a.opener r a.opened) ∙ a.record_is) (ap (at w) (opener-is w b.opener r b.opened) ∙ b.record_is)

module _ (w : List Record) {n d : ℕ} (h : IsWellNested w n d) where
  -- how the record at a place changes the depth
  pub step_by : (t : ℕ) (r : Record) → suc (suc t) ≤ length w → at w (suc t) ≡ Some r → Step (shape_of (is_call (at w (opener_of w (suc t)))) (Some r)) (depth w (suc t)) (depth w (suc (suc t)))
  step_by t r b e = subst (λ (o : Option Record). Step (shape_of (is_call (at w (opener_of w (suc t)))) o) (depth w (suc t)) (depth w (suc (suc t)))) e (step_at w h (suc t) (omega arith) b)

  pub step_in : (t : ℕ) → suc (suc t) ≤ length w → Opens (at w (suc t)) → depth w (suc (suc t)) ≡ suc (depth w (suc t))
  step_in t b (inl e) = step_by t Spawn b e
  step_in t b (inr e) = step_by t Call b e

  pub step_out : (t : ℕ) → suc (suc t) ≤ length w → at w (suc t) ≡ Some Return → depth w (suc t) ≡ suc (depth w (suc (suc t)))
  step_out t b e = leaves_by (traced w h) (suc t) (omega arith) b (returns-shape _ (at w (suc t)) e)

  deeper_after : (t : ℕ) → 1 ≤ t → t < length w → Opens (at w t) → depth w (suc t) ≡ suc (depth w t)
  deeper_after zero a b s = absurd (omega arith)
  deeper_after (suc t) a b s = step_in t b s

  -- a path goes on where one leads
  further : (x i j : ℕ) → PathTo w x i → Reach (traced w h) i j → (z : ℕ) × PathTo w z j × (x ≤ z)
  further x i j p (here a b) = (x, p, omega arith)
  further x i j p (next {j = k} q e) = let f = further x i k p q in (suc f.0, longer f.1 (trace_edge w h k j e), omega (arith, f.2))

  -- edges to the place after t

  -- where a called child returned at t, its procedure went on from the call, and from there a path leads through the child
  caller : (t i : ℕ) (r : IsReturnOf w Call t) → depth w t ≡ suc (depth w (suc t)) → i < suc t → IsContinuation w i (suc t) → i ≡ r.opener
  caller t i r e b c = elim (cases_lt r.opener i) [
    | inl q ↦ elim (cases_eq i t) [
      | inl f ↦ absurd (let g : depth w i ≡ depth w t = ap (depth w) f in omega (arith, c.same_depth, e))
      | inr f ↦ absurd (r.opened.last i q (omega arith) (omega (arith, c.same_depth, e, r.opened.above)))
    ]
    | inr q ↦ elim (cases_eq i r.opener) [
      | inl f ↦ f
      | inr f ↦ absurd (omega (arith, c.deeper_between r.opener (omega arith) (omega (arith, r.opened.before)), c.same_depth, e, r.opened.above))
    ]
  ]

  through_child : (t i y : ℕ) → IsReturnOf w Call t → depth w t ≡ suc (depth w (suc t)) → t < length w → 1 ≤ i → i < suc t → IsContinuation w i (suc t) → PathTo w y i → (z : ℕ) × PathTo w z t × (y ≤ z)
  through_child t i y r e l a b c p =
      let o : i ≡ r.opener = caller t i r e b c in
      let s : at w i ≡ Some Call = ap (at w) o ∙ r.record_is in
      let m : i < t = omega (arith, r.opened.before) in
      let f = further (suc y) (suc i) t (longer p (call (a, omega arith) (omega arith, omega arith) (omega arith) (record { a_call = s; next = omega arith })))
      (reach-return (traced w h) (suc i) t (omega arith) (omega arith) (record {
        upto = m;
        a_return = returns-shape _ (at w t) r.a_return;
        inside = λ k u v. omega (arith, c.deeper_between k u (omega arith), c.same_depth, e);
      })) in
      (f.0, f.1, omega (arith, f.2))

  into_own : (t x i y : ℕ) → LeadsOn w t (depth w (suc t)) x → t < length w → 1 ≤ i → i < suc t → IsContinuation w i (suc t) → PathTo w y i → y ≤ x
  into_own t x i y (at_start e) j a b c p = absurd (omega arith)
  into_own t x i y (own l n) j a b c p = elim (cases_lt l.last i) [
    | inl q ↦ absurd (omega (arith, l.deeper i q (omega arith), c.same_depth))
    | inr q ↦ elim (cases_eq i l.last) [
      | inl e ↦ l.longest.most y (subst (λ (z : ℕ). PathTo w y z) e p)
      | inr e ↦ absurd (omega (arith, c.deeper_between l.last (omega arith) (omega (arith, l.upto)), l.level, c.same_depth))
    ]
  ]
  into_own t x i y (opened s e l) j a b c p = elim (cases_eq i t) [
    | inl q ↦ absurd (let f : depth w i ≡ depth w t = ap (depth w) q in omega (arith, c.same_depth))
    | inr q ↦ absurd (omega (arith, c.deeper_between t (omega arith) (omega arith), c.same_depth))
  ]
  into_own t x i y (came_back r e l) j a b c p = let q = through_child t i y r e j a b c p in omega (arith, l.most q.0 q.1, q.2)

  into_child : (t x y : ℕ) → LeadsOn w t (depth w (suc t)) x → 1 ≤ t → t < length w → Opens (at w t) → PathTo w y t → y ≤ x
  into_child t x y (at_start e) a b s p = absurd (omega arith)
  into_child t x y (opened o e l) a b s p = l.most y p
  into_child t x y (came_back r e l) a b s p = l.most y p
  into_child t x y (own l n) a b s p =
      let r : depth w (suc t) ≡ suc (depth w t) = deeper_after t a b s in
      elim (cases_eq l.last t) [
        | inl e ↦ absurd (let f : depth w l.last ≡ depth w t = ap (depth w) e in omega (arith, l.level))
        | inr e ↦ absurd (omega (arith, l.deeper t (apart l.last t l.upto e) (omega arith)))
      ]
    where
      apart : (x y : ℕ) → x ≤ y → (x ≡ y → ⊥) → x < y
      apart x y l n = omega arith

  into_caller : (t x y : ℕ) → LeadsOn w t (depth w (suc t)) x → 1 ≤ t → IsComeback w t (suc t) → PathTo w y t → y ≤ x
  into_caller t x y (at_start e) a c p = absurd (omega arith)
  into_caller t x y (opened o e l) a c p = l.most y p
  into_caller t x y (came_back r e l) a c p = l.most y p
  into_caller t x y (own l n) a c p = absurd (n (record { a_return = c.a_return; opener = c.opener; opened = c.opened; record_is = c.a_call }))

  -- all edges but those that join
  into : (t x i y : ℕ) → LeadsOn w t (depth w (suc t)) x → t < length w → PathTo w y i → Edge w i (suc t) → (y ≤ x) ⊎ ((i < suc t) × IsJoin w i (suc t))
  into t x i y l j p (continuation a b f c) = inl (into_own t x i y l j a.0 f c p)
  into t x i y l j p (spawn a b f c) =
      let e : i ≡ t = omega (arith, c.next) in
      inl (into_child t x y l (omega (arith, a.0)) j (inl (subst (λ (z : ℕ). at w z ≡ Some Spawn) e c.a_spawn)) (subst (λ (z : ℕ). PathTo w y z) e p))
  into t x i y l j p (call a b f c) =
      let e : i ≡ t = omega (arith, c.next) in
      inl (into_child t x y l (omega (arith, a.0)) j (inr (subst (λ (z : ℕ). at w z ≡ Some Call) e c.a_call)) (subst (λ (z : ℕ). PathTo w y z) e p))
  into t x i y l j p (comes_back a b f c) =
      let e : i ≡ t = omega (arith, c.next) in
      inl (into_caller t x y l (omega (arith, a.0)) (subst (λ (z : ℕ). IsComeback w z (suc t)) e c) (subst (λ (z : ℕ). PathTo w y z) e p))
  into t x i y l j p (join a b f c) = inr (f, c)

  into_join : (t y i z : ℕ) → IsLongestUnjoined w t (depth w (suc t)) y → i < suc t → IsJoin w i (suc t) → PathTo w z i → z ≤ y
  into_join t y i z u b c p = u.most i z (record {
    upto = omega arith;
    returned = record { a_return = c.a_return; opener = c.opener; opened = c.opened; record_is = c.a_spawn };
    level = omega (arith, c.above);
    not_yet = λ k f g e q. c.first k f (omega arith) e q;
  }) p

  path_own : (t x : ℕ) → suc t ≤ length w → LeadsOn w t (depth w (suc t)) x → PathTo w (suc x) (suc t)
  path_own t x b (at_start e) = alone (omega arith, b)
  path_own t x b (own l n) = longer l.longest.reached (continuation l.place (omega arith, b) (omega (arith, l.upto))
      (record { no_return = l.goes_on; same_depth = sym l.level; deeper_between = λ k f g. omega (arith, l.deeper k f (omega arith), l.level) }))
  path_own t x b (opened (inl s) e l) =
      let p : IsPlace w t = path_place w x t l.reached in
      longer l.reached (spawn p (omega arith, b) (omega arith) (record { a_spawn = s; next = omega arith }))
  path_own t x b (opened (inr s) e l) =
      let p : IsPlace w t = path_place w x t l.reached in
      longer l.reached (call p (omega arith, b) (omega arith) (record { a_call = s; next = omega arith }))
  path_own t x b (came_back r e l) =
      let p : IsPlace w t = path_place w x t l.reached in
      longer l.reached (comes_back p (omega arith, b) (omega arith) (record { a_return = r.a_return; opener = r.opener; opened = r.opened; a_call = r.record_is; next = omega arith }))

  -- the longest path to the place after t, where that doesn't wait for children, and where it does
  pub longest_on : (t x : ℕ) → suc t ≤ length w → (JoinsAt w (suc t) → ⊥) → LeadsOn w t (depth w (suc t)) x → IsLongestTo w (suc t) (suc x)
  longest_on t x b n l = record { reached = path_own t x b l; most = most }
    where
      most : (y : ℕ) → PathTo w y (suc t) → y ≤ suc x
      most y p = elim (shortened w y (suc t) p) [
        | inl e ↦ omega arith
        | inr q ↦ elim (into t x q.1 q.0 l b q.2 q.3) [
          | inl f ↦ omega (arith, q.4, f)
          | inr f ↦ absurd (n f.1.joins)
        ]
      ]

  pub longest_joined : (t x y : ℕ) → suc t ≤ length w → JoinsAt w (suc t) → LeadsOn w t (depth w (suc t)) x → IsLongestUnjoined w t (depth w (suc t)) y → IsLongestTo w (suc t) (suc (max x y))
  longest_joined t x y b j l u = record { reached = reached; most = most }
    where
      most : (z : ℕ) → PathTo w z (suc t) → z ≤ suc (max x y)
      most z p = elim (shortened w z (suc t) p) [
        | inl e ↦ omega arith
        | inr q ↦ elim (into t x q.1 q.0 l b q.2 q.3) [
          | inl f ↦ omega (arith, q.4, f)
          | inr f ↦ omega (arith, q.4, into_join t y q.1 q.0 u f.0 f.1 q.2)
        ]
      ]

      by_child : (r : ℕ) → IsUnjoinedReturn w t (depth w (suc t)) r → PathTo w y r → PathTo w (suc y) (suc t)
      by_child r q p = longer p (join (path_place w y r p) (omega arith, b) (omega (arith, q.upto)) (record {
        a_return = q.returned.a_return;
        opener = q.returned.opener;
        opened = q.returned.opened;
        a_spawn = q.returned.record_is;
        above = omega (arith, q.level);
        joins = j;
        first = λ k f g e i. q.not_yet k f (omega arith) e i;
      }))

      by_longer : x < y → (y ≡ 0) ⊎ ((r : ℕ) × IsUnjoinedReturn w t (depth w (suc t)) r × PathTo w y r) → PathTo w (suc (max x y)) (suc t)
      by_longer f (inl e) = absurd (omega arith)
      by_longer f (inr (r, q, p)) = let e : suc y ≡ suc (max x y) = omega arith in subst (λ (z : ℕ). PathTo w z (suc t)) e (by_child r q p)

      reached : PathTo w (suc (max x y)) (suc t)
      reached = elim (cases_lt x y) [
        | inl f ↦ by_longer f u.reached
        | inr f ↦ (let e : suc x ≡ suc (max x y) = omega arith in subst (λ (z : ℕ). PathTo w z (suc t)) e (path_own t x b l))
      ]

  -- what is kept of a level, one place later

  pub last_kept : (t k x : ℕ) → k < depth w (suc t) → LastOn w t k x → LastOn w (suc t) k x
  last_kept t k x b l = record {
    last = l.last;
    place = l.place;
    upto = omega (arith, l.upto);
    level = l.level;
    goes_on = l.goes_on;
    deeper = λ q f g. elim (cases_eq q (suc t)) [
      | inl e ↦ (let i : depth w q ≡ depth w (suc t) = ap (depth w) e in omega arith)
      | inr e ↦ l.deeper q f (omega arith)
    ];
    longest = l.longest;
  }

  pub last_here : (t x : ℕ) → suc t ≤ length w → at w (suc t) ≢ Some Return → IsLongestTo w (suc t) x → LastOn w (suc t) (depth w (suc t)) x
  last_here t x b m l = record {
    last = suc t;
    place = (omega arith, b);
    upto = omega arith;
    level = refl;
    goes_on = m;
    deeper = λ q f g. absurd (omega arith);
    longest = l;
  }

  -- a procedure stays suspended, and becomes so
  pub waits_on : (t k : ℕ) (f : Suspended) → k < depth w (suc t) → IsLongestUnjoined w (suc t) k f.longest.unjoined → IsSuspended w t k f → IsSuspended w (suc t) k f
  waits_on t k f b u l = record {
    own = record {
      last = l.own.last;
      place = l.own.place;
      upto = omega (arith, l.own.upto);
      level = l.own.level;
      goes_on = l.own.goes_on;
      deeper = λ q g i. elim (cases_eq q (suc t)) [
        | inl e ↦ (let j : depth w q ≡ depth w (suc t) = ap (depth w) e in omega arith)
        | inr e ↦ l.own.deeper q g (omega arith)
      ];
      longest = l.own.longest;
    };
    opener = l.opener;
    unjoined = u;
  }

  pub waits_here : (t k : ℕ) (f : Suspended) → suc t ≤ length w → depth w (suc t) ≡ k → at w (suc t) ≡ Some (opened_by f.calls) → IsLongestTo w (suc t) f.longest.own → IsLongestUnjoined w (suc t) k f.longest.unjoined
      → IsSuspended w (suc t) k f
  waits_here t k f b e s l u = record {
    own = record {
      last = suc t;
      place = (omega arith, b);
      upto = omega arith;
      level = e;
      goes_on = opens_no_return (at w (suc t)) (opened_by-opens f.calls (at w (suc t)) s);
      deeper = λ q g i. absurd (omega arith);
      longest = l;
    };
    opener = s;
    unjoined = u;
  }

  earlier : (t k r : ℕ) → (r ≡ suc t → ⊥) → IsUnjoinedReturn w (suc t) k r → IsUnjoinedReturn w t k r
  earlier t k r m u = record {
    upto = omega (arith, u.upto, m);
    returned = u.returned;
    level = u.level;
    not_yet = λ q f g. u.not_yet q f (omega arith);
  }

  later : (t k r : ℕ) → (depth w (suc t) ≡ k → JoinsAt w (suc t) → ⊥) → IsUnjoinedReturn w t k r → IsUnjoinedReturn w (suc t) k r
  later t k r m u = record {
    upto = omega (arith, u.upto);
    returned = u.returned;
    level = u.level;
    not_yet = λ q f g e j. elim (cases_eq q (suc t)) [
      | inl i ↦ m (sym (ap (depth w) i) ∙ e) (subst (λ (z : ℕ). JoinsAt w z) i j)
      | inr i ↦ u.not_yet q f (omega arith) e j
    ];
  }

  later_reached : (t k y : ℕ) → (depth w (suc t) ≡ k → JoinsAt w (suc t) → ⊥) → (y ≡ 0) ⊎ ((r : ℕ) × IsUnjoinedReturn w t k r × PathTo w y r) → (y ≡ 0) ⊎ ((r : ℕ) × IsUnjoinedReturn w (suc t) k r × PathTo w y r)
  later_reached t k y m (inl e) = inl e
  later_reached t k y m (inr (r, u, p)) = inr (r, later t k r m u, p)

  not_the_return : (t k : ℕ) → (IsReturnOf w Spawn (suc t) → depth w (suc t) ≡ suc k → ⊥) → (r : ℕ) → IsUnjoinedReturn w (suc t) k r → r ≡ suc t → ⊥
  not_the_return t k m r u e = m (subst (λ (z : ℕ). IsReturnOf w Spawn z) e u.returned) (sym (ap (depth w) e) ∙ u.level)

  pub unjoined_kept : (t k y : ℕ) → (depth w (suc t) ≡ k → JoinsAt w (suc t) → ⊥) → (IsReturnOf w Spawn (suc t) → depth w (suc t) ≡ suc k → ⊥) → IsLongestUnjoined w t k y → IsLongestUnjoined w (suc t) k y
  unjoined_kept t k y m o u = record {
    most = λ r x q p. u.most r x (earlier t k r (not_the_return t k o r q) q) p;
    reached = later_reached t k y m u.reached;
  }

  -- a sync waits for all
  pub unjoined_synced : (t : ℕ) → at w (suc t) ≡ Some Sync → IsLongestUnjoined w (suc t) (depth w (suc t)) 0
  unjoined_synced t s = record { most = λ r x q p. absurd (none r q); reached = inl refl }
    where
      none : (r : ℕ) → IsUnjoinedReturn w (suc t) (depth w (suc t)) r → ⊥
      none r q = elim (cases_eq r (suc t)) [
        | inl e ↦ (let f : at w r ≡ at w (suc t) = ap (at w) e in let g : at w r ≡ Some Return = q.returned.a_return in cc)
        | inr e ↦ q.not_yet (suc t) (omega (arith, q.upto)) (omega arith) refl (inl s)
      ]

  -- a child begins with no children
  pub unjoined_opened : (t : ℕ) → suc t ≤ length w → Opens (at w (suc t)) → IsLongestUnjoined w (suc t) (suc (depth w (suc t))) 0
  unjoined_opened t b s = record { most = λ r x q p. absurd (none r (path_place w x r p) q); reached = inl refl }
    where
      left : (r : ℕ) → 1 ≤ r → r ≤ t → IsUnjoinedReturn w (suc t) (suc (depth w (suc t))) r → ⊥
      left r a c q =
          let f : depth w r ≡ suc (depth w (suc r)) = leaves_by (traced w h) r a (omega arith) (returns-shape _ (at w r) q.returned.a_return) in
          let z = leaves (traced w h) (depth w (suc t)) (suc r) (suc t) (omega arith) (omega arith) b (omega (arith, q.level)) (omega arith) in
          q.not_yet z.0 (omega (arith, z.1.since)) (omega (arith, z.1.before)) z.1.level (inr (shape-return _ (at w z.0) z.1.a_return))

      none : (r : ℕ) → IsPlace w r → IsUnjoinedReturn w (suc t) (suc (depth w (suc t))) r → ⊥
      none r a q = elim (cases_eq r (suc t)) [
        | inl e ↦ opens_no_return (at w (suc t)) s (sym (ap (at w) e) ∙ q.returned.a_return)
        | inr e ↦ left r a.0 (omega (arith, q.upto)) q
      ]

  -- a child returns that was spawned
  pub unjoined_returned : (t k y z : ℕ) → IsReturnOf w Spawn (suc t) → depth w (suc t) ≡ suc k → IsLongestTo w (suc t) z → IsLongestUnjoined w t k y → IsLongestUnjoined w (suc t) k (max y z)
  unjoined_returned t k y z s e l u = record { most = most; reached = reached (cases_lt y z) }
    where
      elsewhere : depth w (suc t) ≡ k → JoinsAt w (suc t) → ⊥
      elsewhere f j = omega arith

      here : IsUnjoinedReturn w (suc t) k (suc t)
      here = record { upto = omega arith; returned = s; level = e; not_yet = λ q f g. absurd (omega arith) }

      most : (r x : ℕ) → IsUnjoinedReturn w (suc t) k r → PathTo w x r → x ≤ max y z
      most r x q p = elim (cases_eq r (suc t)) [
        | inl f ↦ omega (arith, l.most x (subst (λ (i : ℕ). PathTo w x i) f p))
        | inr f ↦ omega (arith, u.most r x (earlier t k r f q) p)
      ]

      reached : (y < z) ⊎ (z ≤ y) → (max y z ≡ 0) ⊎ ((r : ℕ) × IsUnjoinedReturn w (suc t) k r × PathTo w (max y z) r)
      reached (inl f) = let i : z ≡ max y z = omega arith in inr (suc t, here, subst (λ (x : ℕ). PathTo w x (suc t)) i l.reached)
      reached (inr f) = let i : y ≡ max y z = omega arith in
          subst (λ (x : ℕ). (x ≡ 0) ⊎ ((r : ℕ) × IsUnjoinedReturn w (suc t) k r × PathTo w x r)) i (later_reached t k y elsewhere u.reached)

-- a procedure that holds a place, and the next one

pub holds_on : (w : List Record) (m j : ℕ) → Holds w m j → level w m ≤ depth w (suc j) → Holds w m (suc j)
holds_on w m j x l = record {
  opener = x.opener;
  after = omega (arith, x.after);
  inside = λ q y z. elim (cases_eq q (suc j)) [
    | inl i ↦ (let e : depth w q ≡ depth w (suc j) = ap (depth w) i in omega arith)
    | inr i ↦ x.inside q y (omega arith)
  ];
}
