-- Where an earlier access and the next place meet, by the active procedures, and that these are kept.
use Rattle.audit.proofs.Common.{◌≡◌, ℕ, suc, ◌-◌, ◌<◌, ◌≤◌, ◌↔◌, Bool, true, false, List, [], ◌∷◌, ◌++◌, length, take, slice_get, get_or, nat_lt, Some, ◌⊎◌, inl, inr, refl, sym, ◌∙◌, subst, ap, arith, append_assoc, length-append, cases_lt, cases_eq, ltb-true, ltb-false, length-take-le, slice_get_within, slice_get-get_or, get_or_from_slice_get, IsPartitionedBy, IsPartitionPoint, IsPartitionedBy-ltb, Record, Spawn, Call, Return, Sync, Placed, at, depth, IsPlace, IsWellNested, IsParallel, IsAccessPlace, level, Opens, Holds, IsMeeting, IsOwn, InOneBlock, access-place, level-at, opens-no_sync, root-holds, holds_from, holds-deeper, holds-shorter, Opened, opened_at, opened-holds, opened_below, opened-child, stand_of, OwnSync, own_sync-is, is_own_sync, block_same, block_less, stand-after, stand-le, before-stand, parallel-block, Active, Turn, Meetings, ComesAfter, WhateverComes, IsActive, AreActive, ActiveAt, waits, executes, IsActivesOwn, HasTurn, AreTurns, AreMet, HasMet, IsLastOpenedBefore, DecidesUnjoined, DecidesUnjoinedAfter, DecidesTurn, DecidesParallel, EndsIn, TakesTurn, OpensChild, Leaves, Syncs, Moves, slice_get-front, slice_get-last, element_at}
use Rattle.dag.specs.declared.records.Record.TheVariants.{Read, Write}
use Rattle.audit.proofs.ListLemmas.{slice_get-push, slice_get-take, take-slice_get, place_there, record_there}
use Rattle.audit.proofs.PathLemmas.{step_by, step_out, holds_on}

module _ (w : List Record) {n d : ℕ} (h : IsWellNested w n d) (t : ℕ) (e : Active) (xs : List Active) (a : AreActive w t e xs) where
  is_active : (k : ℕ) (f : Active) → ActiveAt e xs k f → IsActive w t k f
  is_active k f (waits s) = a.waits k f s
  is_active k f (executes i g) = subst (λ (z : ℕ). IsActive w t z f) (sym (i ∙ a.level)) (subst (IsActive w t (depth w (suc t))) (sym g) a.executes)

  active_at : (k : ℕ) → k ≤ length xs → (f : Active) × ActiveAt e xs k f
  active_at k l = elim (cases_lt k (length xs)) [
    | inl q ↦ (let f = element_at xs k q in (f.0, waits f.1))
    | inr q ↦ (e, executes (omega arith) refl)
  ]

  -- procedures at greater depths were opened later
  increasing : (k l : ℕ) (f g : Active) → k < l → IsActive w t k f → IsActive w t l g → f.opened < g.opened
  increasing k l f g q x y = elim (cases_lt f.opened g.opened) [
    | inl z ↦ z
    | inr z ↦ elim (cases_eq f.opened g.opened) [
      | inl i ↦ absurd (let j : level w f.opened ≡ level w g.opened = ap (level w) i in omega (arith, x.on_level, y.on_level))
      | inr i ↦ absurd (omega (arith, y.holds.inside f.opened (omega arith) (omega (arith, x.holds.after)), level-at w f.opened (omega arith), x.on_level, y.on_level))
    ]
  ]

  partitioned : (place : ℕ) → IsPartitionedBy (λ (f : Active). nat_lt f.opened place) xs
  partitioned place = IsPartitionedBy-ltb (λ (f : Active). f.opened) xs place (λ i j f l m. elim (cases_eq i j) [
    | inl q ↦ (let z : (get_or xs i f).opened ≡ (get_or xs j f).opened = ap (λ (k : ℕ). (get_or xs k f).opened) q in omega arith)
    | inr q ↦ (let z : (get_or xs i f).opened < (get_or xs j f).opened =
        increasing i j (get_or xs i f) (get_or xs j f) (omega arith) (a.waits i _ (slice_get-get_or xs i f (omega arith))) (a.waits j _ (slice_get-get_or xs j f m)) in
        omega arith)
  ])

  -- the keeper is the meeting procedure of the place and the next one
  keeper-meeting : (i k : ℕ) (f : Active) → 1 ≤ i → i ≤ t → IsLastOpenedBefore e xs i k f → IsMeeting w i (suc t) f.opened
  keeper-meeting i k f b l q = record {
    first = holds-shorter w f.opened i (suc t) q.before (omega arith) x.holds;
    second = x.holds;
    deepest = λ p y z. omega (arith, no_deeper p y z, x.on_level);
  }
    where
      x : IsActive w t k f
      x = is_active k f q.there

      no_deeper : (p : ℕ) → Holds w p i → Holds w p (suc t) → level w p ≤ k
      no_deeper p y z = elim (cases_lt k (level w p)) [
        | inr c ↦ c
        | inl c ↦ absurd (let g = active_at (level w p) (omega (arith, z.inside (suc t) z.after (omega arith), a.level)) in
            let v = is_active (level w p) g.0 g.1 in
            let c' : i ≤ g.0.opened = q.deeper (level w p) g.0 c g.1 in
            omega (arith, z.inside g.0.opened (omega (arith, y.after)) (omega (arith, v.holds.after)), level-at w g.0.opened (omega arith), v.on_level))
      ]

  turns_partitioned : (ts : List Turn) → AreTurns w t e xs ts → (place : ℕ) → IsPartitionedBy (λ (x : Turn). nat_lt x.opened place) ts
  turns_partitioned ts turned place = IsPartitionedBy-ltb (λ (x : Turn). x.opened) ts place (λ i j x l m. elim (cases_eq i j) [
    | inl q ↦ (let z : (get_or ts i x).opened ≡ (get_or ts j x).opened = ap (λ (k : ℕ). (get_or ts k x).opened) q in omega arith)
    | inr q ↦ omega (arith, turned.ascending i j (get_or ts i x) (get_or ts j x) (omega arith) (slice_get-get_or ts i x (omega arith)) (slice_get-get_or ts j x m))
  ])

  module _ (i k : ℕ) (f : Active) (p : IsAccessPlace w i) (r : IsAccessPlace w (suc t)) (l : i ≤ t) (q : IsLastOpenedBefore e xs i k f) where
    keeper : IsActive w t k f
    keeper = is_active k f q.there

    place : IsPlace w i
    place = access-place w i p

    meets : IsMeeting w i (suc t) f.opened
    meets = keeper-meeting i k f place.0 l q

    law : IsParallel w i (suc t) ↔ InOneBlock w f.opened i (suc t)
    law = parallel-block w h i (suc t) f.opened p r (omega arith) meets

    -- the last sync stands before the child that holds the place
    before_child : (s : ℕ) → Opened w (level w f.opened) i s → f.synced < i → f.synced < s
    before_child s o c = elim (cases_lt f.synced s) [
      | inl z ↦ z
      | inr z ↦ by_sync z keeper.last_sync
    ]
      where
        by_sync : s ≤ f.synced → (f.synced ≡ f.opened) ⊎ (IsOwn w f.opened f.synced × (at w f.synced ≡ Some Sync)) → f.synced < s
        by_sync z (inl y) = absurd (omega (arith, opened_below w s f.opened i o meets.first))
        by_sync z (inr y) = elim (cases_eq s f.synced) [
          | inl j ↦ absurd (opens-no_sync (at w s) o.opens (ap (at w) j ∙ y.1))
          | inr j ↦ absurd (omega (arith, o.inside f.synced (omega arith) (omega arith), y.0.on_level))
        ]

    spawned_child : (y : InOneBlock w f.opened i (suc t)) → Opened w (level w f.opened) i y.spawned_at
    spawned_child y = record {
      from = omega (arith, y.child.own.held.after);
      before = y.inside.after;
      opens = y.child.opens;
      on = y.child.own.on_level;
      inside = λ z c g. omega (arith, holds-deeper w y.spawned_at i y.child.opens y.inside z c g, y.child.own.on_level);
    }

    unjoined : InOneBlock w f.opened i (suc t) → (k < depth w i) × (f.synced < i)
    unjoined y = (deep, early)
      where
        child : Opened w (level w f.opened) i y.spawned_at
        child = spawned_child y

        deep : k < depth w i
        deep = omega (arith, child.inside i child.before (omega arith), keeper.on_level)

        by_sync : i ≤ f.synced → (f.synced ≡ f.opened) ⊎ (IsOwn w f.opened f.synced × (at w f.synced ≡ Some Sync)) → f.synced < i
        by_sync z (inl c) = absurd (omega (arith, q.before))
        by_sync z (inr c) =
            let own : OwnSync w f.opened f.synced = record { on_level = c.0.on_level; a_sync = c.1 } in
            absurd (block_less w f.opened y.spawned_at f.synced y.stand (omega (arith, y.inside.after)) (before-stand w f.opened (suc t) y.stand f.synced (omega (arith, keeper.upto)) own y.of_second)
            (is_own_sync w f.opened f.synced c.0.held.after c.0.on_level c.1) y.one_block)

        early : f.synced < i
        early = elim (cases_lt f.synced i) [ inl z ↦ z | inr z ↦ by_sync z keeper.last_sync ]

    -- a parallel place lies in a child of its keeper, which hasn't synced since
    parallel-unjoined : IsParallel w i (suc t) → (k < depth w i) × (f.synced < i)
    parallel-unjoined z = unjoined (law.0 z)

    module _ (ts : List Turn) (b : Bool) (turned : AreTurns w t e xs ts) (decides : DecidesTurn ts i b) where
      -- no turn begins inside the child that holds the place
      none_inside : (s : ℕ) → Opened w (level w f.opened) i s → (j : ℕ) (y : Turn) → slice_get ts j ≡ Some y → s < y.opened → i ≤ y.opened
      none_inside s o j y g c = elim (cases_lt y.opened i) [
        | inr z ↦ z
        | inl z ↦ absurd (by_owner z (turned.owned j y g))
      ]
        where
          by_owner : y.opened < i → IsActivesOwn w e xs y.opened → ⊥
          by_owner z v =
              let deep : suc (level w f.opened) ≤ depth w y.opened = o.inside y.opened c (omega arith) in
              let late : i ≤ v.owner.opened = q.deeper v.on v.owner (omega (arith, v.on_level, keeper.on_level)) v.active in
              omega (arith, v.after)

      -- the answer decides whether the child was spawned
      of_child : (s : ℕ) → Opened w (level w f.opened) i s → f.synced < s → (b ≡ true) ↔ (at w s ≡ Some Spawn)
      of_child s o c =
          let v : HasTurn w ts s = turned.children k f q.there s c (omega (arith, o.before)) (o.on ∙ keeper.on_level) o.opens in
          let z : b ≡ v.turn.is_spawned = decides (turns_partitioned ts turned i) v.index v.turn v.there (omega (arith, v.begun, o.before)) (λ j y u g. none_inside s o j y g (v.last j y u g)) in
          (λ g. v.kind.0 (sym z ∙ g), λ g. z ∙ v.kind.1 g)

      one_block : k < depth w i → f.synced < i → b ≡ true → InOneBlock w f.opened i (suc t)
      one_block g c is =
          let s = opened_at w h (level w f.opened) i place (omega (arith, keeper.on_level)) in
          let v = stand_of w h i (suc t) f.opened (access-place w (suc t) r) meets in
          let early : f.synced < s.0 = before_child s.0 s.1 c in
          record {
            spawned_at = s.0;
            stand = v.0;
            child = opened-child w s.0 f.opened i s.1 meets.first;
            a_spawn = (of_child s.0 s.1 early).0 is;
            inside = opened-holds w (level w f.opened) i s.0 s.1;
            of_second = v.1;
            one_block = block_same w f.opened s.0 v.0 (stand-after w f.opened (suc t) v.0 s.0 (omega (arith, s.1.before)) s.1.on v.1)
                (λ z y u o. let own = own_sync-is w f.opened z o in
                keeper.none_since z (omega arith) (omega (arith, stand-le w f.opened (suc t) v.0 v.1)) (own.on_level ∙ keeper.on_level) own.a_sync);
          }

      -- The place and the next one lie in one block exactly where its keeper's last sync stands before the place, and
      -- the last turn before that is one of spawned children.
      parallel-keeper : ((k < depth w i) × (f.synced < i) × (b ≡ true)) ↔ IsParallel w i (suc t)
      parallel-keeper = (λ z. law.1 (one_block z.0 z.1 z.2), λ z. back (law.0 z))
        where
          back : InOneBlock w f.opened i (suc t) → (k < depth w i) × (f.synced < i) × (b ≡ true)
          back y = let u = unjoined y in (u.0, u.1, (of_child y.spawned_at (spawned_child y) (before_child y.spawned_at (spawned_child y) u.1)).1 y.a_spawn)

  -- some active procedure was opened before every place
  root_before : (i : ℕ) → 1 ≤ i → (f : Active) × ActiveAt e xs 0 f × (f.opened < i)
  root_before i b =
      let f = active_at 0 (omega arith) in
      let x = is_active 0 f.0 f.1 in
      (f.0, f.1, elim (cases_lt f.0.opened i) [ inl z ↦ z | inr z ↦ absurd (omega (arith, level-at w f.0.opened (omega arith), x.on_level)) ])

-- what an answer has to be: whether the place lies deeper than its keeper, and behind the keeper's last sync
abbrev pub Decides : Bool → ℕ → ℕ → ℕ → Active → Type 0
Decides b k deep place f = (b ≡ true) ↔ ((k < deep) × (f.synced < place))

-- what both answers decide together
module _ (m : Meetings) (u : List Record) (place deep : ℕ) (met : HasMet m u) where
  -- a child of the keeper holds the place, and it hasn't synced since
  pub decided_unjoined : (a b : Bool) → a ≡ true → DecidesUnjoinedAfter m u place deep a → DecidesTurn m.turns.items place b → DecidesParallel u place deep b
  decided_unjoined a b so decides turn w rest is n d h p l q r = (λ z. law.0 (omega (arith, lies.0), lies.1, z), λ z. (law.1 z).2)
    where
      next : suc (length u) ≤ length w
      next = (access-place w _ r).1

      all : AreMet w (length u) m.executing m.suspended.items m.turns.items
      all = met w rest is n d h next

      decided : DecidesUnjoined m.executing m.suspended.items place deep a
      decided = decides w rest is n d h (access-place w place p).0 next

      lies : (decided.on < deep) × (decided.keeper.synced < place)
      lies = decided.decides.0 so

      law : ((decided.on < depth w place) × (decided.keeper.synced < place) × (b ≡ true)) ↔ IsParallel w place (suc (length u))
      law = parallel-keeper w h (length u) m.executing m.suspended.items all.active place decided.on decided.keeper p r l decided.keeps m.turns.items b all.turned turn

  -- the keeper holds the place itself, or has synced since
  pub decided_joined : (a : Bool) → a ≡ false → DecidesUnjoinedAfter m u place deep a → DecidesParallel u place deep a
  decided_joined a so decides w rest is n d h p l q r = (λ z. absurd (let y : false ≡ true = sym so ∙ z in cc), back)
    where
      next : suc (length u) ≤ length w
      next = (access-place w _ r).1

      decided : DecidesUnjoined m.executing m.suspended.items place deep a
      decided = decides w rest is n d h (access-place w place p).0 next

      back : IsParallel w place (suc (length u)) → a ≡ true
      back z =
          let y = parallel-unjoined w h (length u) m.executing m.suspended.items (met w rest is n d h next).active place decided.on decided.keeper p r l decided.keeps z in
          decided.decides.1 (omega (arith, y.0), y.1)

-- the executing procedure keeps the place
pub decided_executing : (m : Meetings) (u : List Record) (place deep : ℕ) (b : Bool) → HasMet m u → m.executing.opened < place → Decides b (length m.suspended.items) deep place m.executing → DecidesUnjoinedAfter m u place deep b
decided_executing m u place deep b met before s w rest is n d h p l =
    record { on = length m.suspended.items; keeper = m.executing; keeps = record { there = executes refl refl; before = before; deeper = deeper }; decides = s }
  where
    deeper : (l : ℕ) (g : Active) → length m.suspended.items < l → ActiveAt m.executing m.suspended.items l g → place ≤ g.opened
    deeper l g c (waits i) = absurd (omega (arith, slice_get_within m.suspended.items l g i))
    deeper l g c (executes i j) = absurd (omega arith)

-- how many of the suspended procedures were opened before a place
abbrev pub IsCountBefore : List Active → ℕ → ℕ → Type 0
IsCountBefore xs place n = IsPartitionedBy (λ (f : Active). nat_lt f.opened place) xs → IsPartitionPoint (λ (f : Active). nat_lt f.opened place ≡ true) (λ (f : Active). nat_lt f.opened place ≡ false) xs n

-- procedures from the count on were opened later, and so was the executing one
none_later : (e : Active) (xs : List Active) (place n : ℕ) → place ≤ e.opened → IsPartitionPoint (λ (f : Active). nat_lt f.opened place ≡ true) (λ (f : Active). nat_lt f.opened place ≡ false) xs n
    → (l : ℕ) (g : Active) → n ≤ l → ActiveAt e xs l g → place ≤ g.opened
none_later e xs place n late point l g c (waits i) =
    let z : nat_lt (get_or xs l g).opened place ≡ false = point.1 l g c (slice_get_within xs l g i) in
    let y : (get_or xs l g).opened ≡ g.opened = ap (λ (f : Active). f.opened) (get_or_from_slice_get xs l g g i) in
    omega (arith, ltb-false _ _ z)
none_later e xs place n late point l g c (executes i j) = let y : g.opened ≡ e.opened = ap (λ (f : Active). f.opened) j in omega arith

-- a suspended procedure keeps it
pub decided_suspended : (m : Meetings) (u : List Record) (place deep n k : ℕ) (f : Active) (b : Bool) → HasMet m u → place ≤ m.executing.opened → n ≤ length m.suspended.items → IsCountBefore m.suspended.items place n → n ≡ suc k
    → slice_get m.suspended.items k ≡ Some f → Decides b k deep place f → DecidesUnjoinedAfter m u place deep b
decided_suspended m u place deep n k f b met late within count is there s w rest begins records depths h p l =
    record { on = k; keeper = f; keeps = record { there = waits there; before = before; deeper = λ i g c. none_later m.executing m.suspended.items place n late point i g (omega arith) }; decides = s }
  where
    active : AreActive w (length u) m.executing m.suspended.items
    active = (met w rest begins records depths h l).active

    point : IsPartitionPoint (λ (f : Active). nat_lt f.opened place ≡ true) (λ (f : Active). nat_lt f.opened place ≡ false) m.suspended.items n
    point = count (partitioned w h (length u) m.executing m.suspended.items active place)

    before : f.opened < place
    before =
        let z : nat_lt (get_or m.suspended.items k f).opened place ≡ true = point.0 k f (omega arith) (omega arith) in
        let y : (get_or m.suspended.items k f).opened ≡ f.opened = ap (λ (g : Active). g.opened) (get_or_from_slice_get m.suspended.items k f f there) in
        omega (arith, ltb-true _ _ z)

-- no procedure keeps it: that doesn't happen
pub decided_none : (m : Meetings) (u : List Record) (place deep n : ℕ) (b : Bool) → HasMet m u → place ≤ m.executing.opened → IsCountBefore m.suspended.items place n → n ≡ 0 → DecidesUnjoinedAfter m u place deep b
decided_none m u place deep n b met late count is w rest begins records depths h p l =
    absurd (let f = root_before w h (length u) m.executing m.suspended.items active place p in
    omega (arith, none_later m.executing m.suspended.items place n late point 0 f.0 (omega arith) f.1, f.2))
  where
    active : AreActive w (length u) m.executing m.suspended.items
    active = (met w rest begins records depths h l).active

    point : IsPartitionPoint (λ (f : Active). nat_lt f.opened place ≡ true) (λ (f : Active). nat_lt f.opened place ≡ false) m.suspended.items n
    point = count (partitioned w h (length u) m.executing m.suspended.items active place)

-- the last of the turns that began before a place
last_begun : (ts : List Turn) (place n i : ℕ) (x : Turn) → n ≤ length ts → IsPartitionPoint (λ (y : Turn). nat_lt y.opened place ≡ true) (λ (y : Turn). nat_lt y.opened place ≡ false) ts n
    → slice_get ts i ≡ Some x → x.opened < place → ((j : ℕ) (y : Turn) → i < j → slice_get ts j ≡ Some y → place ≤ y.opened) → n ≡ suc i
last_begun ts place n i x within point there begun later = elim (cases_lt i n) [
  | inl c ↦ elim (cases_eq n (suc i)) [
    | inl q ↦ q
    | inr q ↦ absurd (too_early (omega arith))
  ]
  | inr c ↦ absurd (let z : nat_lt (get_or ts i x).opened place ≡ false = point.1 i x c (slice_get_within ts i x there) in
      let y : (get_or ts i x).opened ≡ x.opened = ap (λ (v : Turn). v.opened) (get_or_from_slice_get ts i x x there) in
      omega (arith, ltb-false _ _ z))
]
  where
    too_early : suc i < n → ⊥
    too_early c =
        let y = element_at ts (suc i) (omega arith) in
        let z : nat_lt (get_or ts (suc i) y.0).opened place ≡ true = point.0 (suc i) y.0 (omega arith) c in
        let v : (get_or ts (suc i) y.0).opened ≡ y.0.opened = ap (λ (g : Turn). g.opened) (get_or_from_slice_get ts (suc i) y.0 y.0 y.1) in
        omega (arith, ltb-true _ _ z, later (suc i) y.0 (omega arith) y.1)

-- how many turns began before a place
abbrev pub IsTurnCount : List Turn → ℕ → ℕ → Type 0
IsTurnCount ts place n = IsPartitionedBy (λ (x : Turn). nat_lt x.opened place) ts → IsPartitionPoint (λ (x : Turn). nat_lt x.opened place ≡ true) (λ (x : Turn). nat_lt x.opened place ≡ false) ts n

pub decided_turn : (ts : List Turn) (place n k : ℕ) (y : Turn) → n ≤ length ts → IsTurnCount ts place n → n ≡ suc k → slice_get ts k ≡ Some y → DecidesTurn ts place y.is_spawned
decided_turn ts place n k y within count is there sorted i x here begun later =
    let last : n ≡ suc i = last_begun ts place n i x within (count sorted) here begun later in
    let same : k ≡ i = omega arith in
    let q : Some y ≡ Some x = sym there ∙ ap (slice_get ts) same ∙ here in
    let z : y ≡ x = cc in
    ap (λ (v : Turn). v.is_spawned) z

pub decided_no_turn : (ts : List Turn) (place n : ℕ) (b : Bool) → n ≤ length ts → IsTurnCount ts place n → n ≡ 0 → DecidesTurn ts place b
decided_no_turn ts place n b within count is sorted i x here begun later = absurd (let last : n ≡ suc i = last_begun ts place n i x within (count sorted) here begun later in omega arith)

-- no record was seen

pub met_none : (xs : List Active) (ts : List Turn) → xs ≡ [] → ts ≡ [] → WhateverComes [] (λ w. 1 ≤ length w → AreMet w 0 (record { opened = 0; synced = 0; turns = 0 }) xs ts)
met_none xs ts empty none w rest begins n d h b =
    subst (λ (ys : List Active). AreMet w 0 (record { opened = 0; synced = 0; turns = 0 }) ys ts) (sym empty)
    (subst (λ (us : List Turn). AreMet w 0 (record { opened = 0; synced = 0; turns = 0 }) [] us) (sym none) (record { active = active; turned = turned }))
  where
    active : AreActive w 0 (record { opened = 0; synced = 0; turns = 0 }) []
    active = record {
      level = omega arith;
      executes = record {
        on_level = omega arith;
        holds = root-holds w 1 (omega arith);
        last_sync = inl refl;
        upto = omega arith;
        none_since = λ k y z i j. omega arith;
      };
      waits = λ k f s. absurd (cc);
    }

    turned : AreTurns w 0 (record { opened = 0; synced = 0; turns = 0 }) [] []
    turned = record {
      ascending = λ i j x y l s g. absurd (omega (arith, slice_get_within [] i x s));
      upto = λ i x s. absurd (omega (arith, slice_get_within [] i x s));
      owned = λ i x s. absurd (omega (arith, slice_get_within [] i x s));
      within = λ k f g. within k f g;
      before = λ k f g i x s l. absurd (omega (arith, slice_get_within [] i x s));
      behind = λ k f g i x s l. absurd (omega (arith, slice_get_within [] i x s));
      children = λ k f g c l m y o. absurd (omega arith);
    }
      where
        within : (k : ℕ) (f : Active) → ActiveAt (record { opened = 0; synced = 0; turns = 0 }) [] k f → f.turns ≤ 0
        within k f (waits s) = absurd (omega (arith, slice_get_within [] k f s))
        within k f (executes i j) = let z : f.turns ≡ 0 = ap (λ (v : Active). v.turns) j in omega arith

-- one record more

module _ (w : List Record) {n d : ℕ} (h : IsWellNested w n d) (t : ℕ) where
  stays : (k : ℕ) (f : Active) → k ≤ depth w (suc (suc t)) → (depth w (suc t) ≡ k → at w (suc t) ≡ Some Sync → ⊥) → IsActive w t k f → IsActive w (suc t) k f
  stays k f l m x = record {
    on_level = x.on_level;
    holds = holds_on w _ (suc t) x.holds (omega (arith, x.on_level));
    last_sync = x.last_sync;
    upto = omega (arith, x.upto);
    none_since = λ q y z i s. elim (cases_eq q (suc t)) [
      | inl j ↦ m (sym (ap (depth w) j) ∙ i) (sym (ap (at w) j) ∙ s)
      | inr j ↦ x.none_since q y (omega arith) i s
    ];
  }

  synced : (f : Active) → depth w (suc (suc t)) ≡ depth w (suc t) → at w (suc t) ≡ Some Sync → IsActive w t (depth w (suc t)) f
      → IsActive w (suc t) (depth w (suc (suc t))) (record { opened = f.opened; synced = suc t; turns = f.turns })
  synced f e s x = record {
    on_level = x.on_level ∙ sym e;
    holds = holds_on w _ (suc t) x.holds (omega (arith, x.on_level));
    last_sync = inr (record { held = x.holds; on_level = sym x.on_level }, s);
    upto = omega arith;
    none_since = λ q y z i j. omega arith;
  }

  opened : (turns : ℕ) → depth w (suc (suc t)) ≡ suc (depth w (suc t)) → Opens (at w (suc t)) → IsActive w (suc t) (depth w (suc (suc t))) (record { opened = suc t; synced = suc t; turns = turns })
  opened turns e s = record {
    on_level = sym e;
    holds = holds_from w (suc t) (suc (suc t)) s (omega arith) (λ q y z. let i : q ≡ suc (suc t) = omega arith in let j : depth w q ≡ depth w (suc (suc t)) = ap (depth w) i in omega arith);
    last_sync = inl refl;
    upto = omega arith;
    none_since = λ q y z i j. omega arith;
  }

  other : (r q : Record) → at w (suc t) ≡ Some r → (r ≡ q → ⊥) → at w (suc t) ≡ Some q → ⊥
  other r q s a e = let f : Some r ≡ Some q = sym s ∙ e in let g : r ≡ q = cc in a g

  opens_none : (r : Record) → at w (suc t) ≡ Some r → (r ≡ Spawn → ⊥) → (r ≡ Call → ⊥) → Opens (at w (suc t)) → ⊥
  opens_none r s a b (inl e) = other r Spawn s a e
  opens_none r s a b (inr e) = other r Call s b e

  -- those that wait, where the next place is no less deep
  wait_on : (e : Active) (xs : List Active) → AreActive w t e xs → depth w (suc t) ≤ depth w (suc (suc t)) → (k : ℕ) (f : Active) → slice_get xs k ≡ Some f → IsActive w (suc t) k f
  wait_on e xs a l k f s = let b : k < length xs = slice_get_within xs k f s in stays k f (omega (arith, a.level)) (λ z y. omega (arith, a.level)) (a.waits k f s)

  module _ (e : Active) (xs : List Active) (ts : List Turn) (a : AreActive w t e xs) (v : AreTurns w t e xs ts) where
    -- an access

    same_active : depth w (suc (suc t)) ≡ depth w (suc t) → (at w (suc t) ≡ Some Sync → ⊥) → AreActive w (suc t) e xs
    same_active q no_sync = record {
      level = a.level ∙ sym q;
      executes = subst (λ (z : ℕ). IsActive w (suc t) z e) (sym q) (stays (depth w (suc t)) e (omega arith) (λ z y. no_sync y) a.executes);
      waits = wait_on e xs a (omega arith);
    }

    -- a child that was opened up to place t, and not at the next
    earlier : (Opens (at w (suc t)) → ⊥) → (c : ℕ) → c ≤ suc t → Opens (at w c) → c ≤ t
    earlier none c l o = elim (cases_eq c (suc t)) [
      | inl q ↦ absurd (none (subst (λ (z : ℕ). Opens (at w z)) q o))
      | inr q ↦ omega arith
    ]

    same_turns : (Opens (at w (suc t)) → ⊥) → AreTurns w (suc t) e xs ts
    same_turns none = record {
      ascending = v.ascending;
      upto = λ i x s. omega (arith, v.upto i x s);
      owned = v.owned;
      within = v.within;
      before = v.before;
      behind = v.behind;
      children = λ k f g c l m y o. v.children k f g c l (earlier none c m o) y o;
    }

    -- the executing procedure's turns are cut off

    module _ (e' : Active) (xs' : List Active) (none : Opens (at w (suc t)) → ⊥)
        (kept : (k : ℕ) (f : Active) → ActiveAt e' xs' k f → (slice_get xs k ≡ Some f) ⊎ ((f.opened ≡ e.opened) × (f.turns ≡ e.turns) × (suc t ≤ f.synced)))
        (still : (k : ℕ) (f : Active) → ActiveAt e xs k f → f.opened < e.opened → ActiveAt e' xs' k f) where
      -- the executing procedure's turns
      executing : ActiveAt e xs (length xs) e
      executing = executes refl refl

      front : (i : ℕ) (x : Turn) → slice_get (take e.turns ts) i ≡ Some x → (i < e.turns) × (slice_get ts i ≡ Some x)
      front i x s = slice_get-take e.turns ts i x s

      cut_owned : (x : Turn) → x.opened ≤ e.opened → IsActivesOwn w e xs x.opened → IsActivesOwn w e' xs' x.opened
      cut_owned x l o = record { on = o.on; owner = o.owner; active = still o.on o.owner o.active (omega (arith, o.after)); after = o.after; on_level = o.on_level }

      -- a suspended procedure was opened before its turns
      fewer : (k : ℕ) (f : Active) → slice_get xs k ≡ Some f → f.turns ≤ e.turns
      fewer k f s = elim (cases_lt e.turns f.turns) [
        | inr c ↦ c
        | inl c ↦ absurd (let x = element_at ts e.turns (omega (arith, v.within k f (waits s))) in
            let p : e.opened < x.0.opened = v.behind (length xs) e executing e.turns x.0 x.1 (omega arith) in
            let q : x.0.opened ≤ f.opened = v.before k f (waits s) e.turns x.0 x.1 c in
            let y : f.opened < e.opened = increasing w h t e xs a k (depth w (suc t)) f e (omega (arith, slice_get_within xs k f s, a.level)) (a.waits k f s) a.executes in
            omega arith)
      ]

      cut_length : length (take e.turns ts) ≡ e.turns
      cut_length = length-take-le e.turns ts (v.within (length xs) e executing)

      cut_within : (k : ℕ) (f : Active) → (slice_get xs k ≡ Some f) ⊎ ((f.opened ≡ e.opened) × (f.turns ≡ e.turns) × (suc t ≤ f.synced)) → f.turns ≤ length (take e.turns ts)
      cut_within k f (inl s) = omega (arith, fewer k f s, cut_length)
      cut_within k f (inr q) = omega (arith, q.1, cut_length)

      cut_before : (k : ℕ) (f : Active) → (slice_get xs k ≡ Some f) ⊎ ((f.opened ≡ e.opened) × (f.turns ≡ e.turns) × (suc t ≤ f.synced)) → (i : ℕ) (x : Turn) → slice_get ts i ≡ Some x → i < f.turns → x.opened ≤ f.opened
      cut_before k f (inl s) i x g l = v.before k f (waits s) i x g l
      cut_before k f (inr q) i x g l = omega (arith, q.0, v.before (length xs) e executing i x g (omega (arith, q.1)))

      cut_behind : (k : ℕ) (f : Active) → (slice_get xs k ≡ Some f) ⊎ ((f.opened ≡ e.opened) × (f.turns ≡ e.turns) × (suc t ≤ f.synced)) → (i : ℕ) (x : Turn) → slice_get ts i ≡ Some x → f.turns ≤ i → f.opened < x.opened
      cut_behind k f (inl s) i x g l = v.behind k f (waits s) i x g l
      cut_behind k f (inr q) i x g l = omega (arith, q.0, v.behind (length xs) e executing i x g (omega (arith, q.1)))

      -- the turn of a suspended procedure's child
      cut_turn : (k : ℕ) (f : Active) (c : ℕ) → slice_get xs k ≡ Some f → c ≤ t → depth w c ≡ k → HasTurn w ts c → HasTurn w (take e.turns ts) c
      cut_turn k f c s l y g = record {
        index = g.index;
        turn = g.turn;
        there = take-slice_get e.turns ts g.index g.turn early g.there;
        begun = g.begun;
        last = λ j x z q. g.last j x z (front j x q).1;
        kind = g.kind;
      }
        where
          above : c ≤ e.opened
          above = elim (cases_lt e.opened c) [
            | inr z ↦ z
            | inl z ↦ absurd (omega (arith, a.executes.holds.inside c z (omega arith), a.executes.on_level, a.level, slice_get_within xs k f s))
          ]

          early : g.index < e.turns
          early = elim (cases_lt g.index e.turns) [
            | inl z ↦ z
            | inr z ↦ absurd (omega (arith, v.behind (length xs) e executing g.index g.turn g.there z, g.begun, above))
          ]

      cut_children : (k : ℕ) (f : Active) → (slice_get xs k ≡ Some f) ⊎ ((f.opened ≡ e.opened) × (f.turns ≡ e.turns) × (suc t ≤ f.synced)) → (c : ℕ) → f.synced < c → c ≤ suc t → depth w c ≡ k → Opens (at w c) → HasTurn w (take e.turns ts) c
      cut_children k f (inl s) c l m y o = let u : c ≤ t = earlier none c m o in cut_turn k f c s u y (v.children k f (waits s) c l u y o)
      cut_children k f (inr q) c l m y o = absurd (omega (arith, q.2))

      cut_turns : AreTurns w (suc t) e' xs' (take e.turns ts)
      cut_turns = record {
        ascending = λ i j x y l s g. v.ascending i j x y l (front i x s).1 (front j y g).1;
        upto = λ i x s. omega (arith, v.upto i x (front i x s).1);
        owned = λ i x s. (let q = front i x s in cut_owned x (v.before (length xs) e executing i x q.1 q.0) (v.owned i x q.1));
        within = λ k f g. cut_within k f (kept k f g);
        before = λ k f g i x s l. cut_before k f (kept k f g) i x (front i x s).1 l;
        behind = λ k f g i x s l. cut_behind k f (kept k f g) i x (front i x s).1 l;
        children = λ k f g c l m y o. cut_children k f (kept k f g) c l m y o;
      }

    -- a sync

    met_sync : depth w (suc (suc t)) ≡ depth w (suc t) → at w (suc t) ≡ Some Sync → AreMet w (suc t) (record { opened = e.opened; synced = suc t; turns = e.turns }) xs (take e.turns ts)
    met_sync q s = record {
      active = record {
        level = a.level ∙ sym q;
        executes = synced e q s a.executes;
        waits = wait_on e xs a (omega arith);
      };
      turned = cut_turns (record { opened = e.opened; synced = suc t; turns = e.turns }) xs (opens_none Sync s (λ z. cc) (λ z. cc)) kept still;
    }
      where
        kept : (k : ℕ) (f : Active) → ActiveAt (record { opened = e.opened; synced = suc t; turns = e.turns }) xs k f → (slice_get xs k ≡ Some f) ⊎ ((f.opened ≡ e.opened) × (f.turns ≡ e.turns) × (suc t ≤ f.synced))
        kept k f (waits g) = inl g
        kept k f (executes i j) = inr (ap (λ (z : Active). z.opened) j, ap (λ (z : Active). z.turns) j, (let y : f.synced ≡ suc t = ap (λ (z : Active). z.synced) j in omega arith))

        still : (k : ℕ) (f : Active) → ActiveAt e xs k f → f.opened < e.opened → ActiveAt (record { opened = e.opened; synced = suc t; turns = e.turns }) xs k f
        still k f (waits g) l = waits g
        still k f (executes i j) l = absurd (let y : f.opened ≡ e.opened = ap (λ (z : Active). z.opened) j in omega arith)

    -- a return

    met_return : (e' : Active) (ys : List Active) → suc (suc t) ≤ length w → at w (suc t) ≡ Some Return → xs ≡ ys ++ e' ∷ [] → AreMet w (suc t) e' ys (take e.turns ts)
    met_return e' ys b s q = record {
      active = record {
        level = sym level;
        executes = subst (λ (z : ℕ). IsActive w (suc t) z e') (sym level) (later (length ys) e' last (omega arith));
        waits = λ k f g. later k f (front_of k f g) (omega (arith, slice_get_within ys k f g));
      };
      turned = cut_turns e' ys (opens_none Return s (λ z. cc) (λ z. cc)) (λ k f g. inl (kept k f g)) still;
    }
      where
        last : slice_get xs (length ys) ≡ Some e'
        last = ap (λ (z : List Active). slice_get z (length ys)) q ∙ slice_get-last ys e'

        front_of : (k : ℕ) (f : Active) → slice_get ys k ≡ Some f → slice_get xs k ≡ Some f
        front_of k f i = ap (λ (z : List Active). slice_get z k) q ∙ slice_get-front ys (e' ∷ []) k f i

        deeper : depth w (suc t) ≡ suc (length ys)
        deeper = omega (arith, a.level, ap length q, length-append ys (e' ∷ []))

        level : depth w (suc (suc t)) ≡ length ys
        level = let z : depth w (suc t) ≡ suc (depth w (suc (suc t))) = step_out w h t b s in omega (arith, deeper)

        later : (k : ℕ) (f : Active) → slice_get xs k ≡ Some f → k ≤ length ys → IsActive w (suc t) k f
        later k f g l = stays k f (omega (arith, level)) (λ z. other Return Sync s (λ y. cc)) (a.waits k f g)

        kept : (k : ℕ) (f : Active) → ActiveAt e' ys k f → slice_get xs k ≡ Some f
        kept k f (waits g) = front_of k f g
        kept k f (executes i j) = ap (slice_get xs) i ∙ last ∙ ap (λ (z : Active). Some z) (sym j)

        still_waits : (k : ℕ) (f : Active) → (slice_get ys k ≡ Some f) ⊎ ((k ≡ length ys) × (e' ≡ f)) → ActiveAt e' ys k f
        still_waits k f (inl g) = waits g
        still_waits k f (inr g) = executes g.0 (sym g.1)

        still : (k : ℕ) (f : Active) → ActiveAt e xs k f → f.opened < e.opened → ActiveAt e' ys k f
        still k f (waits g) l = still_waits k f (slice_get-push ys e' k f (sym (ap (λ (z : List Active). slice_get z k) q) ∙ g))
        still k f (executes i j) l = absurd (let y : f.opened ≡ e.opened = ap (λ (z : Active). z.opened) j in omega arith)

    -- a child is opened

    module _ (is_spawned : Bool) (ts' : List Turn) (taken : TakesTurn (suc t) is_spawned ts ts') (rises : depth w (suc (suc t)) ≡ suc (depth w (suc t))) (opens : Opens (at w (suc t)))
        (kind : (is_spawned ≡ true) ↔ (at w (suc t) ≡ Some Spawn)) where
      abbrev child : Active
      child = record { opened = suc t; synced = suc t; turns = length ts' }

      abbrev begun_here : Turn
      begun_here = record { opened = suc t; is_spawned = is_spawned }

      -- the active procedures before
      was : (k : ℕ) (f : Active) → ActiveAt child (xs ++ e ∷ []) k f → ActiveAt e xs k f ⊎ (f ≡ child)
      was k f (waits s) = elim (slice_get-push xs e k f s) [
        | inl g ↦ inl (waits g)
        | inr g ↦ inl (executes g.0 (sym g.1))
      ]
      was k f (executes i j) = inr j

      still_there : (k : ℕ) (f : Active) → ActiveAt e xs k f → ActiveAt child (xs ++ e ∷ []) k f
      still_there k f (waits s) = waits (slice_get-front xs (e ∷ []) k f s)
      still_there k f (executes i j) = waits (ap (slice_get (xs ++ e ∷ [])) i ∙ slice_get-last xs e ∙ ap (λ (z : Active). Some z) (sym j))

      -- the turns before
      turn_was : (i : ℕ) (x : Turn) → slice_get ts' i ≡ Some x → (slice_get ts i ≡ Some x) ⊎ ((i ≡ length ts) × (x.opened ≡ suc t))
      turn_was i x s = elim taken [
        | inl q ↦ elim (slice_get-push ts begun_here i x (sym (ap (λ (z : List Turn). slice_get z i) q) ∙ s)) [
          | inl g ↦ inl g
          | inr g ↦ inr (g.0, sym (ap (λ (z : Turn). z.opened) g.1))
        ]
        | inr q ↦ inl (sym (ap (λ (z : List Turn). slice_get z i) q.0) ∙ s)
      ]

      still_turn : (i : ℕ) (x : Turn) → slice_get ts i ≡ Some x → slice_get ts' i ≡ Some x
      still_turn i x s = elim taken [
        | inl q ↦ ap (λ (z : List Turn). slice_get z i) q ∙ slice_get-front ts (begun_here ∷ []) i x s
        | inr q ↦ ap (λ (z : List Turn). slice_get z i) q.0 ∙ s
      ]

      no_fewer : length ts ≤ length ts'
      no_fewer = elim taken [
        | inl q ↦ omega (arith, ap length q, length-append ts (begun_here ∷ []))
        | inr q ↦ omega (arith, ap length q.0)
      ]

      -- a turn that stands before has begun up to t
      turn_upto : (i : ℕ) (x : Turn) → slice_get ts' i ≡ Some x → x.opened ≤ suc t
      turn_upto i x s = elim (turn_was i x s) [
        | inl g ↦ omega (arith, v.upto i x g)
        | inr g ↦ omega (arith, g.1)
      ]

      turn_owned : (x : Turn) → IsActivesOwn w e xs x.opened → IsActivesOwn w child (xs ++ e ∷ []) x.opened
      turn_owned x o = record { on = o.on; owner = o.owner; active = still_there o.on o.owner o.active; after = o.after; on_level = o.on_level }

      owned_here : (x : Turn) → x.opened ≡ suc t → IsActivesOwn w child (xs ++ e ∷ []) x.opened
      owned_here x q = record { on = length xs; owner = e; active = waits (slice_get-last xs e); after = omega (arith, a.executes.holds.after); on_level = ap (depth w) q ∙ sym a.level }

      turn_before : (k : ℕ) (f : Active) → ActiveAt e xs k f ⊎ (f ≡ child) → (i : ℕ) (x : Turn) → slice_get ts' i ≡ Some x → i < f.turns → x.opened ≤ f.opened
      turn_before k f (inl g) i x s l = elim (turn_was i x s) [
        | inl y ↦ v.before k f g i x y l
        | inr y ↦ absurd (omega (arith, v.within k f g, y.0))
      ]
      turn_before k f (inr g) i x s l = let y : f.opened ≡ suc t = ap (λ (z : Active). z.opened) g in omega (arith, turn_upto i x s)

      turn_behind : (k : ℕ) (f : Active) → ActiveAt e xs k f ⊎ (f ≡ child) → (i : ℕ) (x : Turn) → slice_get ts' i ≡ Some x → f.turns ≤ i → f.opened < x.opened
      turn_behind k f (inl g) i x s l = elim (turn_was i x s) [
        | inl y ↦ v.behind k f g i x y l
        | inr y ↦ omega (arith, (is_active w h t e xs a k f g).holds.after, y.1)
      ]
      turn_behind k f (inr g) i x s l = absurd (let y : f.turns ≡ length ts' = ap (λ (z : Active). z.turns) g in omega (arith, slice_get_within ts' i x s))

      -- the child's own turn is the last one
      turn_here : HasTurn w ts' (suc t)
      turn_here = elim taken [
        | inl q ↦ subst (λ (z : List Turn). HasTurn w z (suc t)) (sym q) (record {
          index = length ts;
          turn = begun_here;
          there = slice_get-last ts begun_here;
          begun = omega arith;
          last = λ j x l s. absurd (omega (arith, slice_get_within (ts ++ begun_here ∷ []) j x s, length-append ts (begun_here ∷ [])));
          kind = kind;
        })
        | inr q ↦ subst (λ (z : List Turn). HasTurn w z (suc t)) (sym q.0) (goes_on q.1)
      ]
        where
          goes_on : EndsIn ts is_spawned → HasTurn w ts (suc t)
          goes_on y = record {
            index = length ts - 1;
            turn = y.0;
            there = y.1;
            begun = omega (arith, v.upto (length ts - 1) y.0 y.1);
            last = λ j x l s. absurd (omega (arith, slice_get_within ts j x s));
            kind = (λ z. kind.0 (sym y.2 ∙ z), λ z. y.2 ∙ kind.1 z);
          }

      turn_still : (c : ℕ) → c ≤ t → HasTurn w ts c → HasTurn w ts' c
      turn_still c l g = record {
        index = g.index;
        turn = g.turn;
        there = still_turn g.index g.turn g.there;
        begun = g.begun;
        last = λ j x z s. elim (turn_was j x s) [
          | inl y ↦ g.last j x z y
          | inr y ↦ omega (arith, y.1)
        ];
        kind = g.kind;
      }

      turn_children : (k : ℕ) (f : Active) → ActiveAt e xs k f ⊎ (f ≡ child) → (c : ℕ) → f.synced < c → c ≤ suc t → depth w c ≡ k → Opens (at w c) → HasTurn w ts' c
      turn_children k f (inl g) c l m y o = elim (cases_eq c (suc t)) [
        | inl q ↦ subst (λ (z : ℕ). HasTurn w ts' z) (sym q) turn_here
        | inr q ↦ turn_still c (omega arith) (v.children k f g c l (omega arith) y o)
      ]
      turn_children k f (inr g) c l m y o = absurd (let z : f.synced ≡ suc t = ap (λ (x : Active). x.synced) g in omega arith)

      turn_within : (k : ℕ) (f : Active) → ActiveAt e xs k f ⊎ (f ≡ child) → f.turns ≤ length ts'
      turn_within k f (inl g) = omega (arith, v.within k f g, no_fewer)
      turn_within k f (inr g) = let z : f.turns ≡ length ts' = ap (λ (x : Active). x.turns) g in omega arith

      turns_ascend : (i j : ℕ) (x y : Turn) → i < j → slice_get ts' i ≡ Some x → slice_get ts' j ≡ Some y → x.opened < y.opened
      turns_ascend i j x y l s g = elim (turn_was j y g) [
        | inl q ↦ v.ascending i j x y l (before_it (omega (arith, slice_get_within ts j y q))) q
        | inr q ↦ omega (arith, v.upto i x (before_it (omega (arith, q.0))), q.1)
      ]
        where
          before_it : j ≤ length ts → slice_get ts i ≡ Some x
          before_it m = elim (turn_was i x s) [
            | inl q ↦ q
            | inr q ↦ absurd (omega (arith, q.0))
          ]

      met_open : AreMet w (suc t) child (xs ++ e ∷ []) ts'
      met_open = record {
        active = record {
          level = omega (arith, a.level, length-append xs (e ∷ []));
          executes = opened (length ts') rises opens;
          waits = λ k f g. by_place k f (slice_get-push xs e k f g);
        };
        turned = record {
          ascending = turns_ascend;
          upto = turn_upto;
          owned = λ i x s. elim (turn_was i x s) [
            | inl g ↦ turn_owned x (v.owned i x g)
            | inr g ↦ owned_here x g.1
          ];
          within = λ k f g. turn_within k f (was k f g);
          before = λ k f g. turn_before k f (was k f g);
          behind = λ k f g. turn_behind k f (was k f g);
          children = λ k f g. turn_children k f (was k f g);
        };
      }
        where
          by_place : (k : ℕ) (f : Active) → (slice_get xs k ≡ Some f) ⊎ ((k ≡ length xs) × (e ≡ f)) → IsActive w (suc t) k f
          by_place k f (inl g) = wait_on e xs a (omega arith) k f g
          by_place k f (inr (g, y)) =
              let z : depth w (suc t) ≡ k = sym (g ∙ a.level) in
              subst (λ (c : ℕ). IsActive w (suc t) c f) z (subst (λ (c : Active). IsActive w (suc t) (depth w (suc t)) c) y
              (stays (depth w (suc t)) e (omega arith) (λ c. opens-no_sync (at w (suc t)) opens) a.executes))

  -- each record

  met_opened : (m m' : Meetings) (is_spawned : Bool) → depth w (suc (suc t)) ≡ suc (depth w (suc t)) → Opens (at w (suc t)) → (is_spawned ≡ true) ↔ (at w (suc t) ≡ Some Spawn)
      → AreMet w t m.executing m.suspended.items m.turns.items → OpensChild (suc t) is_spawned m m' → AreMet w (suc t) m'.executing m'.suspended.items m'.turns.items
  met_opened m m' is_spawned rises opens kind a moved =
      subst (λ (e : Active). AreMet w (suc t) e m'.suspended.items m'.turns.items) (sym moved.executing)
      (subst (λ (xs : List Active). AreMet w (suc t) (record { opened = suc t; synced = suc t; turns = length m'.turns.items }) xs m'.turns.items) (sym moved.suspended)
      (met_open m.executing m.suspended.items m.turns.items a.active a.turned is_spawned m'.turns.items moved.turns rises opens kind))

  met_left : (m m' : Meetings) → suc (suc t) ≤ length w → at w (suc t) ≡ Some Return → AreMet w t m.executing m.suspended.items m.turns.items → Leaves m m' → AreMet w (suc t) m'.executing m'.suspended.items m'.turns.items
  met_left m m' b s a moved =
      subst (AreMet w (suc t) m'.executing m'.suspended.items) (sym moved.turns)
      (met_return m.executing m.suspended.items m.turns.items a.active a.turned m'.executing m'.suspended.items b s moved.suspended)

  met_synced : (m m' : Meetings) → depth w (suc (suc t)) ≡ depth w (suc t) → at w (suc t) ≡ Some Sync → AreMet w t m.executing m.suspended.items m.turns.items → Syncs (suc t) m m' → AreMet w (suc t) m'.executing m'.suspended.items m'.turns.items
  met_synced m m' q s a moved =
      subst (λ (e : Active). AreMet w (suc t) e m'.suspended.items m'.turns.items) (sym moved.executing)
      (subst (λ (xs : List Active). AreMet w (suc t) (record { opened = m.executing.opened; synced = suc t; turns = m.executing.turns }) xs m'.turns.items) (sym moved.suspended)
      (subst (AreMet w (suc t) (record { opened = m.executing.opened; synced = suc t; turns = m.executing.turns }) m.suspended.items) (sym moved.turns)
      (met_sync m.executing m.suspended.items m.turns.items a.active a.turned q s)))

  met_same : (m m' : Meetings) → depth w (suc (suc t)) ≡ depth w (suc t) → (at w (suc t) ≡ Some Sync → ⊥) → (Opens (at w (suc t)) → ⊥) → AreMet w t m.executing m.suspended.items m.turns.items → m' ≡ m → AreMet w (suc t) m'.executing m'.suspended.items m'.turns.items
  met_same m m' q no_sync none a same =
      subst (λ (z : Meetings). AreMet w (suc t) z.executing z.suspended.items z.turns.items) (sym same)
      (record { active = same_active m.executing m.suspended.items m.turns.items a.active a.turned q no_sync; turned = same_turns m.executing m.suspended.items m.turns.items a.active a.turned none })

  pub met_more : (r : Record) (m m' : Meetings) → suc (suc t) ≤ length w → at w (suc t) ≡ Some r → AreMet w t m.executing m.suspended.items m.turns.items → Moves (suc t) r m m' → AreMet w (suc t) m'.executing m'.suspended.items m'.turns.items
  met_more Spawn m m' b s a moved = met_opened m m' true (step_by w h t Spawn b s) (inl s) (λ z. s, λ z. refl) a moved
  met_more Call m m' b s a moved = met_opened m m' false (step_by w h t Call b s) (inr s) (λ z. absurd (cc), λ z. absurd (other Call Spawn s (λ y. cc) z)) a moved
  met_more Return m m' b s a (inl z) =
      absurd (let y : length m.suspended.items ≡ 0 = ap length z in h.no_earlier (suc t) b (record { a_return = s; at_zero = omega (arith, a.active.level) }))
  met_more Return m m' b s a (inr moved) = met_left m m' b s a moved
  met_more Sync m m' b s a moved = met_synced m m' (step_by w h t Sync b s) s a moved
  met_more (Read i) m m' b s a moved = met_same m m' (step_by w h t (Read i) b s) (other (Read i) Sync s (λ y. cc)) (opens_none (Read i) s (λ y. cc) (λ y. cc)) a moved
  met_more (Write i) m m' b s a moved = met_same m m' (step_by w h t (Write i) b s) (other (Write i) Sync s (λ y. cc)) (opens_none (Write i) s (λ y. cc) (λ y. cc)) a moved

-- the next record moves the active procedures
pub met_next : (m m' : Meetings) (u : List Record) (p : Placed) → HasMet m u → ComesAfter u p → Moves p.place p.what m m' → HasMet m' (u ++ p.what ∷ [])
met_next m m' u p met c moves w rest is n d h b =
    subst (λ (z : ℕ). AreMet w z m'.executing m'.suspended.items m'.turns.items) longer
    (met_more w h (length u) p.what m m' (omega (arith, longer)) (record_there w u rest p.what is)
    (met w (p.what ∷ rest) (is ∙ append_assoc u (p.what ∷ []) rest) n d h (place_there w u rest p.what is))
    (subst (λ (z : ℕ). Moves z p.what m m') place moves))
  where
    longer : suc (length u) ≡ length (u ++ p.what ∷ [])
    longer = omega (arith, length-append u (p.what ∷ []))

    place : p.place ≡ suc (length u)
    place = omega (arith, c.place_is)
