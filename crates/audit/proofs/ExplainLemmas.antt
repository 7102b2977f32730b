-- The race that is reported of a location and why it is one, one record after another.
use Rattle.audit.proofs.Common.{◌≡◌, ◌≢◌, ℕ, suc, ◌≤◌, ◌↔◌, Bool, true, false, List, [], ◌∷◌, ◌++◌, length, drop, Option, Some, None, MatchOption, is_some, IfSome, IfNone, inl, inr, refl, sym, ◌∙◌, subst, ap, arith, append_assoc, length-append, Result, Ok, Err, OnOk, cases_eq, cases_order, append-nil, Record, Kind, Read, Write, Access, Placed, writes, IsRaceShape, at, depth, IsWellNested, IsParallel, JoinsAt, level, Holds, IsMeeting, access, IsAccess, IsRead, IsWrite, IsAccessPlace, IsRace, IsReported, IsLastWrite, IsKeptReader, nothing_yet, no_read, first_read, replaces, stays, ComesAfter, IsPlace-at, access-place, leads_or_parallel, parallel-block, IsAccessPlace-at, read_or_write, kept_reads, NoneBefore, NoWrite, NoRead, last_write_parallel, reported_by_write, reported_by_reader, no_race_at_read, no_race_at_write, no_read_parallel, Opener, Explained, Meetings, Trail, Explaining, WhateverComes, HasMet, DecidesParallel, Moves, AreOpeners, WaitsAt, IsNextWait, AreJoined, IsExplained, Explains, IsTrail, Follows, KeepsWrite, KeepsReader, HasSought, IsUnjoined, reported_race, HasFoundRace, Stands, DecidesNow, IsRival, Joins, NextJoined, ReportsIt, Keeps, Sees, Seeks, HasExplained, explanation, read_no_write}
use Rattle.dag.specs.declared.records.Record.TheVariants as records
use Rattle.dag.specs.Bounds.{most_records}
use Rattle.audit.specs.declared.explanations.Reported.{Reported}
use Rattle.audit.proofs.ListLemmas.{place_there, record_there}
use Rattle.audit.proofs.PathLemmas.{step_by, step_out, holds_on}
use Rattle.audit.proofs.MeetingLemmas.{met_next}
use Rattle.audit.proofs.PairLemmas.{race_writes}
use Rattle.audit.proofs.TrailLemmas.{IsOpenerCount, IsLastOpener, openers_below, meeting_at_last, trail_next}

-- what is known of an access that is kept
pub record IsKept (w : List Record) (t : ℕ) (x : Trail) : Type 0 where
  pub accesses : IsAccessPlace w x.place
  pub upto : x.place ≤ t
  pub trail : IsTrail w x.place x.openers.items

kept_write : (w : List Record) (l t : ℕ) (x : Trail) → IsLastWrite w l (suc t) x.place × IsTrail w x.place x.openers.items → IsKept w t x
kept_write w l t x (a, b) = record { accesses = (l, inr a.a_write); upto = omega (arith, a.before); trail = b }

kept_read : (w : List Record) (l t : ℕ) (x : Trail) → IsKeptReader w l (suc t) (Some x.place) × IsTrail w x.place x.openers.items → IsKept w t x
kept_read w l t x (a, b) = let y = kept_reads w l a x.place refl in record { accesses = (l, inl y.0); upto = omega (arith, y.1); trail = b }

-- an access leaves the openers as they are
trail_access : (w : List Record) {n c : ℕ} → IsWellNested w n c → (t : ℕ) → suc (suc t) ≤ length w → (l : ℕ) (k : Kind) → IsAccess w l (suc t) k → (xs : List Opener) → IsTrail w (suc t) xs → IsTrail w (suc (suc t)) xs
trail_access w h t b l Read y xs r = trail_next w h t b (records.Read l) xs xs y refl r
trail_access w h t b l Write y xs r = trail_next w h t b (records.Write l) xs xs y refl r

-- an answer of an access that is kept
reported_kept : (m : Meetings) (u : List Record) (x : Trail) (b : Bool) → HasMet m u → DecidesNow m b x → WhateverComes u (λ w. IsKept w (length u) x → IsAccessPlace w (suc (length u)) → (b ≡ true) ↔ IsParallel w x.place (suc (length u)))
reported_kept m u x b met decides w rest is n d h k p = decides u met w rest is n d h k.accesses k.upto (sym k.trail.all) p

reported_parallel : (m : Meetings) (u : List Record) (x : Trail) → HasMet m u → DecidesNow m true x → WhateverComes u (λ w. IsKept w (length u) x → IsAccessPlace w (suc (length u)) → IsParallel w x.place (suc (length u)))
reported_parallel m u x met decides w rest is n d h k p = (reported_kept m u x true met decides w rest is n d h k p).0 refl

reported_ordered : (m : Meetings) (u : List Record) (x : Trail) → HasMet m u → DecidesNow m false x → WhateverComes u (λ w. IsKept w (length u) x → IsAccessPlace w (suc (length u)) → IsParallel w x.place (suc (length u)) → ⊥)
reported_ordered m u x met decides w rest is n d h k p q = let e : false ≡ true = (reported_kept m u x false met decides w rest is n d h k p).1 q in cc

-- an access that is kept isn't parallel to place j
abbrev pub IsOrdered : List Record → ℕ → Option Trail → Type 0
IsOrdered w j kept = (x : Trail) → kept ≡ Some x → IsParallel w x.place j → ⊥

ordered_write : (m : Meetings) (u : List Record) (l : ℕ) (kept : Option Trail) → HasMet m u → IfSome kept (DecidesNow m false) → WhateverComes u (λ w. KeepsWrite w l (length u) kept → IsAccessPlace w (suc (length u)) → IsOrdered w (suc (length u)) kept)
ordered_write m u l None met decides w rest is n d h k p x e = absurd (cc)
ordered_write m u l (Some y) met decides w rest is n d h k p x e =
    let s : y ≡ x = cc in
    subst (λ (z : Trail). IsParallel w z.place (suc (length u)) → ⊥) s (reported_ordered m u y met decides w rest is n d h (kept_write w l (length u) y k) p)

ordered_read : (m : Meetings) (u : List Record) (l : ℕ) (kept : Option Trail) → HasMet m u → IfSome kept (DecidesNow m false) → WhateverComes u (λ w. KeepsReader w l (length u) kept → IsAccessPlace w (suc (length u)) → IsOrdered w (suc (length u)) kept)
ordered_read m u l None met decides w rest is n d h k p x e = absurd (cc)
ordered_read m u l (Some y) met decides w rest is n d h k p x e =
    let s : y ≡ x = cc in
    subst (λ (z : Trail). IsParallel w z.place (suc (length u)) → ⊥) s (reported_ordered m u y met decides w rest is n d h (kept_read w l (length u) y k) p)

-- the answers of `if_parallel`

pub decides_now : (m : Meetings) (x : Trail) (deep : ℕ) (a b : Bool) → deep ≡ length x.openers.items → a ≡ b → ((u : List Record) → HasMet m u → DecidesParallel u x.place deep a) → DecidesNow m b x
decides_now m x deep a b e q decides u met = subst (λ (z : ℕ). DecidesParallel u x.place z b) e (subst (DecidesParallel u x.place deep) q (decides u met))

pub some_of : {A B : Type 0} (f : A → B) (P : B → Type 0) (o : Option A) → is_some o ≡ true → IfSome o (λ a. P (f a)) → (x : B) × P x
some_of f P None e h = absurd (cc)
some_of f P (Some a) e h = (f a, h)

pub match_none : {A N : Type 0} (S : A → Type 0) (o : Option A) → o ≡ None → N → MatchOption o N S
match_none S None e n = n
match_none S (Some a) e n = absurd (cc)

pub none_of : {A Q : Type 0} (o : Option A) → is_some o ≡ false → IfNone o Q → Q
none_of None e h = h
none_of (Some a) e h = absurd (cc)

-- an access of the location, where no race is reported

module _ (w : List Record) {n d : ℕ} (h : IsWellNested w n d) (l t : ℕ) where
  none_before : (a b : Option Trail) → HasSought w l t a b → NoneBefore w l (suc t)
  none_before a b s i k r c = s.none_reported i k r (omega arith)

  one_last_write : (i k : ℕ) → IsLastWrite w l (suc t) i → IsLastWrite w l (suc t) k → i ≡ k
  one_last_write i k a b = elim (cases_order i k) [
    | inl s ↦ s
    | inr c ↦ elim c [
      | inl s ↦ absurd (a.none_between k s b.before b.a_write)
      | inr s ↦ absurd (b.none_between i s a.before a.a_write)
    ]
  ]

  no_last_write : (a : Option Trail) → KeepsWrite w l t a → IsOrdered w (suc t) a → (k : ℕ) → IsLastWrite w l (suc t) k → IsParallel w k (suc t) → ⊥
  no_last_write None s o k b p = s k (omega (arith, b.before)) b.a_write
  no_last_write (Some x) s o k b p = o x refl (subst (λ (z : ℕ). IsParallel w z (suc t)) (one_last_write k x.place b s.0) p)

  no_write : (a b : Option Trail) → HasSought w l t a b → IsAccessPlace w (suc t) → IsOrdered w (suc t) a → NoWrite w l (suc t)
  no_write None b s y o i c q p = s.writes i (omega arith) c
  no_write (Some x) b s y o i c q p = o x refl (last_write_parallel w h l (suc t) i x.place y (none_before (Some x) b s) c q p s.writes.0)

  reader_is : (b : Option Trail) → KeepsReader w l t b → IsOrdered w (suc t) b → (o : Option ℕ) × IsKeptReader w l (suc t) o × ((k : ℕ) → o ≡ Some k → IsParallel w k (suc t) → ⊥)
  reader_is None s o = (None, s, λ k e. absurd (cc))
  reader_is (Some x) s o = (Some x.place, s.0, λ k e p. (let z : x.place ≡ k = cc in o x refl (subst (λ (v : ℕ). IsParallel w v (suc t)) (sym z) p)))

  no_reader : (b : Option Trail) → KeepsReader w l t b → IsAccessPlace w (suc t) → IsOrdered w (suc t) b → NoRead w l (suc t)
  no_reader b s y o = let z = reader_is b s o in no_read_parallel w h l (suc t) y z.0 z.1 z.2

  -- the last write races with it
  rival_write : (a b : Option Trail) (k : Kind) (x : Trail) → HasSought w l t a b → IsAccess w l (suc t) k → a ≡ Some x → (IsKept w t x → IsParallel w x.place (suc t)) → IsRival w l Write x (record { kind = k; place = suc t })
  rival_write a b k x s c e p =
      let v : IsLastWrite w l (suc t) x.place × IsTrail w x.place x.openers.items = subst (KeepsWrite w l t) e s.writes in
      let q = p (kept_write w l t x v) in
      record {
        reported = reported_by_write w l x.place (suc t) k (none_before a b s) c v.0 q;
        race = record { in_order = v.0.before; first = inr v.0.a_write; second = read_or_write w l (suc t) k c; one_writes = inl v.0.a_write; parallel = q };
        trail = v.1;
      }

  -- the kept reader races with it
  rival_reader : (a b : Option Trail) (x : Trail) → HasSought w l t a b → IsWrite w l (suc t) → IsOrdered w (suc t) a → b ≡ Some x → (IsKept w t x → IsParallel w x.place (suc t)) → IsRival w l Read x (record { kind = Write; place = suc t })
  rival_reader a b x s c o e p =
      let v : IsKeptReader w l (suc t) (Some x.place) × IsTrail w x.place x.openers.items = subst (KeepsReader w l t) e s.reads in
      let q = p (kept_read w l t x v) in
      let y = kept_reads w l v.0 x.place refl in
      record {
        reported = reported_by_reader w l x.place (suc t) (none_before a b s) c (no_last_write a s.writes o) v.0 q;
        race = record { in_order = y.1; first = inl y.0; second = inr c; one_writes = inr c; parallel = q };
        trail = v.1;
      }

  -- what is kept, where none races

  none_reported_next : (a b : Option Trail) → HasSought w l t a b → ((i : ℕ) → IsRace w l i (suc t) → ⊥) → (i k : ℕ) → IsRace w l i k → k ≤ suc t → ⊥
  none_reported_next a b s none i k r c = elim (cases_eq k (suc t)) [
    | inl e ↦ none i (subst (λ (z : ℕ). IsRace w l i z) e r)
    | inr e ↦ s.none_reported i k r (omega arith)
  ]

  writes_same : (a : Option Trail) → KeepsWrite w l t a → (IsWrite w l (suc t) → ⊥) → KeepsWrite w l (suc t) a
  writes_same None s none = λ i c y. elim (cases_eq i (suc t)) [
    | inl e ↦ none (subst (IsWrite w l) e y)
    | inr e ↦ s i (omega arith) y
  ]
  writes_same (Some x) s none = (
    record {
      before = omega (arith, s.0.before);
      a_write = s.0.a_write;
      none_between = λ k c q y. elim (cases_eq k (suc t)) [
        | inl e ↦ none (subst (IsWrite w l) e y)
        | inr e ↦ s.0.none_between k c (omega arith) y
      ];
    },
    s.1,
  )

  reads_same : (b : Option Trail) → KeepsReader w l t b → (IsRead w l (suc t) → ⊥) → KeepsReader w l (suc t) b
  reads_same None s none = no_read none s
  reads_same (Some x) s none = (no_read none s.0, s.1)

  -- another record
  pub sought_other : (a b : Option Trail) → HasSought w l t a b → ((k : Kind) → IsAccess w l (suc t) k → ⊥) → HasSought w l (suc t) a b
  sought_other a b s none = record {
    none_reported = none_reported_next a b s (λ i r. elim r.second [ inl c ↦ none Read c | inr c ↦ none Write c ]);
    writes = writes_same a s.writes (none Write);
    reads = reads_same b s.reads (none Read);
  }

  -- a write is kept
  pub sought_write : (a b : Option Trail) (x : Trail) → HasSought w l t a b → IsWrite w l (suc t) → ((i : ℕ) → IsRace w l i (suc t) → ⊥) → x.place ≡ suc t → IsTrail w (suc t) x.openers.items → HasSought w l (suc t) (Some x) b
  sought_write a b x s c none e r = record {
    none_reported = none_reported_next a b s none;
    writes = (
      record { before = omega arith; a_write = subst (IsWrite w l) (sym e) c; none_between = λ k q v y. omega arith },
      subst (λ (z : ℕ). IsTrail w z x.openers.items) (sym e) r,
    );
    reads = reads_same b s.reads (λ y. read_no_write w l (suc t) y c);
  }

  -- a read is kept, or not
  pub sought_read : (a b c : Option Trail) → HasSought w l t a b → IsRead w l (suc t) → ((i : ℕ) → IsRace w l i (suc t) → ⊥) → KeepsReader w l (suc t) c → HasSought w l (suc t) a c
  sought_read a b c s y none r = record {
    none_reported = none_reported_next a b s none;
    writes = writes_same a s.writes (λ z. read_no_write w l (suc t) y z);
    reads = r;
  }

  pub reader_stays : (b : Option Trail) (x : Trail) → KeepsReader w l t b → IsRead w l (suc t) → b ≡ Some x → (IsKept w t x → IsParallel w x.place (suc t)) → KeepsReader w l (suc t) b
  reader_stays b x s y e p =
      let v : IsKeptReader w l (suc t) (Some x.place) × IsTrail w x.place x.openers.items = subst (KeepsReader w l t) e s in
      let q = p (kept_read w l t x v) in
      subst (KeepsReader w l (suc t)) (sym e) (stays y q.not_forth v.0, v.1)

  reader_after : (b : Option Trail) → KeepsReader w l t b → IsRead w l (suc t) → IsOrdered w (suc t) b → IsKeptReader w l (suc (suc t)) (Some (suc t))
  reader_after None s y o = first_read y s
  reader_after (Some x) s y o =
      let v = kept_reads w l s.0 x.place refl in
      elim (leads_or_parallel w h x.place (suc t) (IsPlace-at w x.place _ v.0) (IsPlace-at w (suc t) _ y) v.1) [
        | inl p ↦ replaces y p s.0
        | inr p ↦ absurd (o x refl p)
      ]

  pub reader_moves : (b : Option Trail) (x : Trail) → KeepsReader w l t b → IsRead w l (suc t) → IsOrdered w (suc t) b → x.place ≡ suc t → IsTrail w (suc t) x.openers.items → KeepsReader w l (suc t) (Some x)
  reader_moves b x s y o e r = (
    subst (λ (z : ℕ). IsKeptReader w l (suc (suc t)) (Some z)) (sym e) (reader_after b s y o),
    subst (λ (z : ℕ). IsTrail w z x.openers.items) (sym e) r,
  )

-- the answers of `rival`

module _ (m : Meetings) (u : List Record) (l : ℕ) (a b : Option Trail) (met : HasMet m u) where
  pub by_write : (k : Kind) (x : Trail) → a ≡ Some x → DecidesNow m true x → WhateverComes u (λ w. IsAccess w l (suc (length u)) k → HasSought w l (length u) a b → IsRival w l Write x (record { kind = k; place = suc (length u) }))
  by_write k x e decides w rest is n d h c s = rival_write w h l (length u) a b k x s c e (λ q. reported_parallel m u x met decides w rest is n d h q (IsAccessPlace-at w l (suc (length u)) k c))

  pub by_reader : (k : Kind) (x : Trail) → k ≡ Write → IfSome a (DecidesNow m false) → b ≡ Some x → DecidesNow m true x
      → WhateverComes u (λ w. IsAccess w l (suc (length u)) k → HasSought w l (length u) a b → IsRival w l Read x (record { kind = k; place = suc (length u) }))
  by_reader k x is-write ordered e decides w rest is n d h c s =
      let y : IsWrite w l (suc (length u)) = subst (IsAccess w l (suc (length u))) is-write c in
      let p : IsAccessPlace w (suc (length u)) = (l, inr y) in
      subst (λ (z : Kind). IsRival w l Read x (record { kind = z; place = suc (length u) })) (sym is-write)
      (rival_reader w h l (length u) a b x s y (ordered_write m u l a met ordered w rest is n d h s.writes p) e (λ q. reported_parallel m u x met decides w rest is n d h q p))

  pub none_at_read : (k : Kind) → k ≡ Read → IfSome a (DecidesNow m false) → WhateverComes u (λ w. IsAccess w l (suc (length u)) k → HasSought w l (length u) a b → (i : ℕ) → IsRace w l i (suc (length u)) → ⊥)
  none_at_read k is-read ordered w rest is n d h c s =
      let y : IsRead w l (suc (length u)) = subst (IsAccess w l (suc (length u))) is-read c in
      let p : IsAccessPlace w (suc (length u)) = (l, inl y) in
      no_race_at_read w l (suc (length u)) y (no_write w h l (length u) a b s p (ordered_write m u l a met ordered w rest is n d h s.writes p))

  pub none_at_write : (k : Kind) → k ≡ Write → IfSome a (DecidesNow m false) → IfSome b (DecidesNow m false) → WhateverComes u (λ w. IsAccess w l (suc (length u)) k → HasSought w l (length u) a b → (i : ℕ) → IsRace w l i (suc (length u)) → ⊥)
  none_at_write k is-write first second w rest is n d h c s =
      let y : IsWrite w l (suc (length u)) = subst (IsAccess w l (suc (length u))) is-write c in
      let p : IsAccessPlace w (suc (length u)) = (l, inr y) in
      no_race_at_write w l (suc (length u)) (no_write w h l (length u) a b s p (ordered_write m u l a met first w rest is n d h s.writes p))
      (no_reader w h l (length u) b s.reads p (ordered_read m u l b met second w rest is n d h s.reads p))

-- what `keep` keeps

module _ (s : Explaining) (a : Access) where
  pub keeps_write : (s' : Explaining) (x : Trail) → a.kind ≡ Write → s'.last_write ≡ Some x → s'.kept_reader ≡ s.kept_reader → x.place ≡ a.place → x.openers.items ≡ s.openers.items → Keeps s a s'
  keeps_write s' x k e f place openers l u met is w rest begins n d h c none r sought =
      let y : IsWrite w l (suc (length u)) = subst (λ (z : ℕ). IsWrite w l z) is (subst (IsAccess w l a.place) k c) in
      let v : IsTrail w (suc (length u)) x.openers.items = subst (IsTrail w (suc (length u))) (sym openers) (subst (λ (z : ℕ). IsTrail w z s.openers.items) is r) in
      subst (λ (z : Option Trail). HasSought w l (suc (length u)) z s'.kept_reader) (sym e) (subst (HasSought w l (suc (length u)) (Some x)) (sym f)
      (sought_write w h l (length u) s.last_write s.kept_reader x sought y (λ i q. none i (subst (λ (z : ℕ). IsRace w l i z) (sym is) q)) (place ∙ is) v))

  module _ (s' : Explaining) (k : a.kind ≡ Read) (e : s'.last_write ≡ s.last_write) where
    keeps_read : ((l : ℕ) (u : List Record) → HasMet s.meetings u → a.place ≡ suc (length u)
        → WhateverComes u (λ w. IsRead w l (suc (length u)) → IsTrail w (suc (length u)) s.openers.items → KeepsReader w l (length u) s.kept_reader → KeepsReader w l (suc (length u)) s'.kept_reader)) → Keeps s a s'
    keeps_read next l u met is w rest begins n d h c none r sought =
        let y : IsRead w l (suc (length u)) = subst (λ (z : ℕ). IsRead w l z) is (subst (IsAccess w l a.place) k c) in
        let v : IsTrail w (suc (length u)) s.openers.items = subst (λ (z : ℕ). IsTrail w z s.openers.items) is r in
        subst (λ (z : Option Trail). HasSought w l (suc (length u)) z s'.kept_reader) (sym e)
        (sought_read w h l (length u) s.last_write s.kept_reader s'.kept_reader sought y (λ i q. none i (subst (λ (z : ℕ). IsRace w l i z) (sym is) q)) (next l u met is w rest begins n d h y v sought.reads))

    pub keeps_no_read : (x : Trail) → s.kept_reader ≡ Some x → DecidesNow s.meetings true x → s'.kept_reader ≡ s.kept_reader → Keeps s a s'
    keeps_no_read x there decides f = keeps_read (λ l u met at-next w rest is n d h y v r. subst (KeepsReader w l (suc (length u))) (sym f)
        (reader_stays w h l (length u) s.kept_reader x r y there (λ q. reported_parallel s.meetings u x met decides w rest is n d h q (l, inl y))))

    pub keeps_this_read : (x : Trail) → IfSome s.kept_reader (DecidesNow s.meetings false) → s'.kept_reader ≡ Some x → x.place ≡ a.place → x.openers.items ≡ s.openers.items → Keeps s a s'
    keeps_this_read x ordered f place openers = keeps_read (λ l u met at-next w rest is n d h y v r. subst (KeepsReader w l (suc (length u))) (sym f)
        (reader_moves w h l (length u) s.kept_reader x r y (ordered_read s.meetings u l s.kept_reader met ordered w rest is n d h r (l, inl y)) (place ∙ at-next) (subst (IsTrail w (suc (length u))) (sym openers) v)))

module _ (w : List Record) {n c : ℕ} (h : IsWellNested w n c) (t : ℕ) where
  access_depth : (l : ℕ) (k : Kind) → at w (suc t) ≡ Some (access k l) → suc (suc t) ≤ length w → depth w (suc (suc t)) ≡ depth w (suc t)
  access_depth l Read e b = step_by w h t (records.Read l) b e
  access_depth l Write e b = step_by w h t (records.Write l) b e

  -- it goes on where it doesn't return
  no_less : (m : ℕ) (r : Record) → at w (suc t) ≡ Some r → suc (suc t) ≤ length w → level w m ≤ depth w (suc t) → (depth w (suc t) ≡ level w m → Joins r → ⊥) → level w m ≤ depth w (suc (suc t))
  no_less m records.Spawn e b l f = let z : depth w (suc (suc t)) ≡ suc (depth w (suc t)) = step_by w h t records.Spawn b e in omega arith
  no_less m records.Call e b l f = let z : depth w (suc (suc t)) ≡ suc (depth w (suc t)) = step_by w h t records.Call b e in omega arith
  no_less m records.Return e b l f =
      let z : depth w (suc t) ≡ suc (depth w (suc (suc t))) = step_out w h t b e in
      elim (cases_eq (depth w (suc t)) (level w m)) [
        | inl q ↦ absurd (f q (inr refl))
        | inr q ↦ omega arith
      ]
  no_less m records.Sync e b l f = let z : depth w (suc (suc t)) ≡ depth w (suc t) = step_by w h t records.Sync b e in omega arith
  no_less m (records.Read i) e b l f = let z : depth w (suc (suc t)) ≡ depth w (suc t) = step_by w h t (records.Read i) b e in omega arith
  no_less m (records.Write i) e b l f = let z : depth w (suc (suc t)) ≡ depth w (suc t) = step_by w h t (records.Write i) b e in omega arith

  joins_at : (r : Record) → at w (suc t) ≡ Some r → Joins r → JoinsAt w (suc t)
  joins_at r e (inl q) = inl (e ∙ ap (λ (z : Record). Some z) q)
  joins_at r e (inr q) = inr (e ∙ ap (λ (z : Record). Some z) q)

  joins_by : (r : Record) → at w (suc t) ≡ Some r → JoinsAt w (suc t) → Joins r
  joins_by r e (inl q) = let z : Some r ≡ Some records.Sync = sym e ∙ q in inl (cc)
  joins_by r e (inr q) = let z : Some r ≡ Some records.Return = sym e ∙ q in inr (cc)

  -- the join that is looked for, one record further
  joined_next : (m j deep lev : ℕ) (p : Placed) (o next : Option ℕ) → j ≤ t → level w m ≡ lev → depth w (suc t) ≡ deep → at w (suc t) ≡ Some p.what → p.place ≡ suc t
      → MatchOption o (IsUnjoined w m j t) (IsNextWait w m j) → NextJoined p deep lev o next → MatchOption next (IsUnjoined w m j (suc t)) (IsNextWait w m j)
  joined_next m j deep lev p (Some k) next b on lies e place s q = subst (λ (z : Option ℕ). MatchOption z (IsUnjoined w m j (suc t)) (IsNextWait w m j)) (sym q) s
  joined_next m j deep lev p None next b on lies e place s (inl q) =
      subst (λ (z : Option ℕ). MatchOption z (IsUnjoined w m j (suc t)) (IsNextWait w m j)) (sym q.2)
      (subst (IsNextWait w m j) (sym place) (record {
        after = omega arith;
        waits = (record { held = s.holds (IsPlace-at w (suc t) p.what e).1; on_level = lies ∙ q.0 ∙ sym on }, joins_at p.what e q.1);
        none_between = λ i x y z. s.none i x (omega arith) z;
      }))
  joined_next m j deep lev p None next b on lies e place s (inr q) =
      subst (λ (z : Option ℕ). MatchOption z (IsUnjoined w m j (suc t)) (IsNextWait w m j)) (sym q.1)
      (record {
        none = λ k x y z. elim (cases_eq k (suc t)) [
          | inl i ↦ (let v : WaitsAt w m (suc t) = subst (WaitsAt w m) i z in q.0 (sym lies ∙ v.0.on_level ∙ on) (joins_by p.what e v.1))
          | inr i ↦ s.none k x (omega arith) z
        ];
        holds = λ z. (let x = s.holds (omega arith) in holds_on w m (suc t) x (no_less m p.what e z (x.inside (suc t) x.after (omega arith)) (λ i v. q.0 (sym lies ∙ i ∙ on) v)));
      })

  reported_next : (l deep : ℕ) (p : Placed) (d : Reported) (next : Option ℕ) → depth w (suc t) ≡ deep → at w (suc t) ≡ Some p.what → p.place ≡ suc t → HasFoundRace w l t d → NextJoined p deep d.level d.joined next → HasFoundRace w l (suc t) (record d { joined = next })
  reported_next l deep p d next lies e place s q = record {
    reported = s.reported;
    race = s.race;
    meets = s.meets;
    on_level = s.on_level;
    first = s.first;
    second = s.second;
    upto = omega (arith, s.upto);
    joined = joined_next d.meeting d.second.place deep d.level p d.joined next s.upto s.on_level lies e place s.joined q;
  }

-- a race is reported

module _ (d : Reported) (xs ys : List Opener) (within : d.level ≤ length xs) (count : IsOpenerCount xs d.first.place d.level) (last : IsLastOpener xs d.level d.meeting)
    (firsts : d.level ≤ length ys → d.first_openers.items ≡ drop d.level ys) (seconds : d.level ≤ length xs → d.second_openers.items ≡ drop d.level xs) (joined : d.joined ≡ None)
    (w : List Record) (l t : ℕ) {n c : ℕ} (h : IsWellNested w n c) (is : d.second.place ≡ suc t) (reported : IsReported w (reported_race l d)) (race : IsRace w l d.first.place d.second.place)
    (first : IsTrail w d.first.place ys) (second : IsTrail w d.second.place xs) where
  from_one : 1 ≤ d.first.place
  from_one = (access-place w d.first.place (IsAccessPlace-at w l d.first.place d.first.kind reported.first_kind)).0

  meeting : IsMeeting w d.first.place d.second.place d.meeting × (level w d.meeting ≡ d.level)
  meeting = meeting_at_last w d.first.place d.second.place d.level d.meeting xs second from_one race.in_order within count last

  shorter : d.level ≤ length ys
  shorter = let x = meeting.0.first in omega (arith, meeting.1, first.all, x.inside d.first.place x.after (omega arith))

  unjoined : IsUnjoined w d.meeting d.second.place (suc t)
  unjoined = record {
    none = λ k x y z. omega arith;
    holds = λ b. (let x : Holds w d.meeting (suc t) = subst (Holds w d.meeting) is meeting.0.second in
        holds_on w d.meeting (suc t) x (omega (arith, x.inside (suc t) x.after (omega arith), access_depth w h t l d.second.kind (sym (ap (at w) is) ∙ reported.second_kind) b)));
  }

  pub reports_it : HasFoundRace w l (suc t) d
  reports_it = record {
    reported = reported;
    race = race;
    meets = meeting.0;
    on_level = meeting.1;
    first = subst (AreOpeners w d.meeting d.first.place) (sym (firsts shorter)) (openers_below w d.first.place ys first d.meeting d.level meeting.0.first meeting.1);
    second = subst (AreOpeners w d.meeting d.second.place) (sym (seconds within)) (openers_below w d.second.place xs second d.meeting d.level meeting.0.second meeting.1);
    upto = omega arith;
    joined = subst (λ (z : Option ℕ). MatchOption z (IsUnjoined w d.meeting d.second.place (suc t)) (IsNextWait w d.meeting d.second.place)) (sym joined) unjoined;
  }

-- one record more, where no race was reported

-- what stands where no race is reported
abbrev pub StandsOpen : List Record → ℕ → ℕ → Explaining → Type 0
StandsOpen w l t s = HasSought w l t s.last_write s.kept_reader × (suc t ≤ length w → IsTrail w (suc t) s.openers.items)

abbrev pub StandsBy : List Record → ℕ → ℕ → Explaining → Option Reported → Type 0
StandsBy w l t s reported = MatchOption reported (StandsOpen w l t s) (HasFoundRace w l t)

stands_open : (w : List Record) (l t : ℕ) (s : Explaining) → s.reported ≡ None → Stands w l t s → StandsOpen w l t s
stands_open w l t s e x = subst (StandsBy w l t s) e x

stands_reported : (w : List Record) (l t : ℕ) (s : Explaining) (d : Reported) → s.reported ≡ Some d → Stands w l t s → HasFoundRace w l t d
stands_reported w l t s d e x = subst (StandsBy w l t s) e x

-- an access, which a kept one races with
pub sees_reported : (s : Explaining) (a : Access) (k : Kind) (first : Trail) (d : Reported) (xs : List Opener) → s.openers.items ≡ xs → ReportsIt k first a xs d
    → ((l : ℕ) (u : List Record) → HasMet s.meetings u → WhateverComes u (λ w. IsAccess w l (suc (length u)) a.kind → HasSought w l (length u) s.last_write s.kept_reader → IsRival w l k first (record { kind = a.kind; place = suc (length u) })))
    → (l : ℕ) (u : List Record) → HasMet s.meetings u → a.place ≡ suc (length u) → s.reported ≡ None → WhateverComes u (λ w. IsAccess w l a.place a.kind → Stands w l (length u) s → HasFoundRace w l (suc (length u)) d)
sees_reported s a k first d xs same decides rival l u met is none w rest begins n c h y x =
    let v = stands_open w l (length u) s none x in
    let z : IsAccess w l (suc (length u)) a.kind = subst (λ (i : ℕ). IsAccess w l i a.kind) is y in
    let r : IsRival w l k first a = subst (λ (i : ℕ). IsRival w l k first (record { kind = a.kind; place = i })) (sym is) (rival l u met w rest begins n c h z v.0) in
    let q : IsTrail w a.place xs = subst (IsTrail w a.place) same (subst (λ (i : ℕ). IsTrail w i s.openers.items) (sym is) (v.1 (IsPlace-at w (suc (length u)) _ z).1)) in
    decides w l (length u) n c h is r q

-- an access, which no kept one races with
pub sees_kept : (s s' : Explaining) (a : Access) → s'.reported ≡ s.reported → s'.openers.items ≡ s.openers.items → Keeps s a s'
    → ((l : ℕ) (u : List Record) → HasMet s.meetings u → WhateverComes u (λ w. IsAccess w l (suc (length u)) a.kind → HasSought w l (length u) s.last_write s.kept_reader → (i : ℕ) → IsRace w l i (suc (length u)) → ⊥))
    → Sees s a s'
sees_kept s s' a reported openers keeps rival l u met is none w rest begins n c h y x =
    let v = stands_open w l (length u) s none x in
    let z : IsAccess w l (suc (length u)) a.kind = subst (λ (i : ℕ). IsAccess w l i a.kind) is y in
    let q : IsTrail w a.place s.openers.items = subst (λ (i : ℕ). IsTrail w i s.openers.items) (sym is) (v.1 (IsPlace-at w (suc (length u)) _ z).1) in
    subst (StandsBy w l (suc (length u)) s') (sym (reported ∙ none)) (
      keeps l u met is w rest begins n c h y (λ i r. rival l u met w rest begins n c h z v.0 i (subst (λ (j : ℕ). IsRace w l i j) is r)) q v.0,
      λ b. subst (IsTrail w (suc (suc (length u)))) (sym openers) (trail_access w h (length u) b l a.kind z s.openers.items (v.1 (omega arith))),
    )

-- another record
pub seeks_other : (s s' : Explaining) (p : Placed) → ((k : Kind) → p.what ≢ access k s.location) → s'.reported ≡ s.reported → s'.last_write ≡ s.last_write → s'.kept_reader ≡ s.kept_reader → Follows p.place p.what s.openers.items s'.openers.items → Seeks s p s'
seeks_other s s' p never reported writes reads follows u met is none w rest begins n c h y x =
    let v = stands_open w s.location (length u) s none x in
    let z : at w (suc (length u)) ≡ Some p.what = sym (ap (at w) is) ∙ y in
    let f : Follows (suc (length u)) p.what s.openers.items s'.openers.items = subst (λ (i : ℕ). Follows i p.what s.openers.items s'.openers.items) is follows in
    subst (StandsBy w s.location (suc (length u)) s') (sym (reported ∙ none)) (
      subst (λ (o : Option Trail). HasSought w s.location (suc (length u)) o s'.kept_reader) (sym writes) (subst (HasSought w s.location (suc (length u)) s.last_write) (sym reads)
          (sought_other w h s.location (length u) s.last_write s.kept_reader v.0 (λ k e. (let q : Some p.what ≡ Some (access k s.location) = sym z ∙ e in let i : p.what ≡ access k s.location = cc in never k i)))),
      λ b. trail_next w h (length u) b p.what s.openers.items s'.openers.items z f (v.1 (omega arith)),
    )

-- an access of the location
pub seeks_access : (s s' : Explaining) (p : Placed) (a : Access) → a.place ≡ p.place → p.what ≡ access a.kind s.location → Sees s a s' → Seeks s p s'
seeks_access s s' p a place what sees u met is none w rest begins n c h y x =
    sees s.location u met (place ∙ is) none w rest begins n c h (ap (at w) place ∙ y ∙ ap (λ (z : Record). Some z) what) x

-- what follows where no growth was refused
pub on_ok : {T E P Q : Type 0} (o : Result T E) → (P → Q) → OnOk o P → OnOk o Q
on_ok (Ok t) f p = f p
on_ok (Err e) f p = tt

-- the records that were seen

pub explaining_none : (s : Explaining) (l : ℕ) → s.location ≡ l → HasMet s.meetings [] → s.openers.items ≡ [] → s.last_write ≡ None → s.kept_reader ≡ None → s.reported ≡ None → HasExplained l [] s
explaining_none s l same met openers writes reads reported = record {
  location_is = same;
  met = met;
  stands = λ w rest is n d h. subst (StandsBy w l 0 s) (sym reported) (
    subst (λ (o : Option Trail). HasSought w l 0 o s.kept_reader) (sym writes) (subst (HasSought w l 0 None) (sym reads) (record {
      none_reported = λ i k r b. omega (arith, r.in_order);
      writes = λ i b y. omega (arith, (IsPlace-at w i _ y).0);
      reads = nothing_yet;
    })),
    λ b. subst (IsTrail w 1) (sym openers) (record { all = omega arith; each = λ k f g. absurd (cc) }),
  );
}

module _ (s s' : Explaining) (l : ℕ) (u : List Record) (p : Placed) (h : HasExplained l u s) (c : ComesAfter u p) (same : s'.location ≡ s.location) (moves : Moves p.place p.what s.meetings s'.meetings) where
  longer : suc (length u) ≡ length (u ++ p.what ∷ [])
  longer = omega (arith, length-append u (p.what ∷ []))

  at_next : p.place ≡ suc (length u)
  at_next = omega (arith, c.place_is)

  explaining_next : ((w rest : List Record) → w ≡ (u ++ p.what ∷ []) ++ rest → (n d : ℕ) → IsWellNested w n d → Stands w l (length u) s → Stands w l (suc (length u)) s') → HasExplained l (u ++ p.what ∷ []) s'
  explaining_next next = record {
    location_is = same ∙ h.location_is;
    met = met_next s.meetings s'.meetings u p h.met c moves;
    stands = λ w rest is n d i. subst (λ (z : ℕ). Stands w l z s') longer (next w rest is n d i (h.stands w (p.what ∷ rest) (is ∙ append_assoc u (p.what ∷ []) rest) n d i));
  }

  -- a race was reported
  explaining_reported : (d : Reported) (next : Option ℕ) (deep : ℕ) → s.reported ≡ Some d → s'.reported ≡ Some (record d { joined = next }) → deep ≡ length s.meetings.suspended.items → NextJoined p deep d.level d.joined next → HasExplained l (u ++ p.what ∷ []) s'
  explaining_reported d next deep reported now level q = explaining_next (λ w rest is n c i x. subst (StandsBy w l (suc (length u)) s') (sym now)
      (reported_next w i (length u) l deep p d next
      (sym (level ∙ (h.met w (p.what ∷ rest) (is ∙ append_assoc u (p.what ∷ []) rest) n c i (place_there w u rest p.what is)).active.level))
      (record_there w u rest p.what is) at_next (stands_reported w l (length u) s d reported x) q))

  -- no race was reported
  explaining_sought : (now : Explaining) → s.reported ≡ None → Seeks s p now → s'.reported ≡ now.reported → s'.last_write ≡ now.last_write → s'.kept_reader ≡ now.kept_reader → s'.openers.items ≡ now.openers.items → HasExplained l (u ++ p.what ∷ []) s'
  explaining_sought now none seeks reported writes reads openers = explaining_next (λ w rest is n c i x. moved w
      (subst (λ (z : ℕ). Stands w z (suc (length u)) now) h.location_is
      (seeks u h.met at_next none w (p.what ∷ rest) (is ∙ append_assoc u (p.what ∷ []) rest) n c i (ap (at w) at_next ∙ record_there w u rest p.what is)
      (subst (λ (z : ℕ). Stands w z (length u) s) (sym h.location_is) x))))
    where
      by_reported : (w : List Record) (o : Option Reported) → StandsBy w l (suc (length u)) now o → StandsBy w l (suc (length u)) s' o
      by_reported w None x = (
        subst (λ (o : Option Trail). HasSought w l (suc (length u)) o s'.kept_reader) (sym writes) (subst (HasSought w l (suc (length u)) now.last_write) (sym reads) x.0),
        λ b. subst (IsTrail w (suc (suc (length u)))) (sym openers) (x.1 b),
      )
      by_reported w (Some d) x = x

      moved : (w : List Record) → Stands w l (suc (length u)) now → Stands w l (suc (length u)) s'
      moved w x = subst (StandsBy w l (suc (length u)) s') (sym reported) (by_reported w now.reported x)

-- the same, where no growth was refused

pub explaining_reported_if : {T E : Type 0} (s s' : Explaining) (p : Placed) (d d' : Reported) (deep : ℕ) (o : Result T E) → s'.location ≡ s.location → s.reported ≡ Some d → s'.reported ≡ Some d' → d' ≡ record d { joined = d'.joined }
    → deep ≡ length s.meetings.suspended.items → NextJoined p deep d.level d.joined d'.joined → OnOk o (Moves p.place p.what s.meetings s'.meetings)
    → OnOk o ((first : Explaining) (u : List Record) → HasExplained first.location u s → ComesAfter u p → HasExplained first.location (u ++ p.what ∷ []) s')
explaining_reported_if s s' p d d' deep (Ok t) same reported now rest level q moves = λ first u h c. explaining_reported s s' first.location u p h c same moves d d'.joined deep reported (now ∙ ap (λ (z : Reported). Some z) rest) level q
explaining_reported_if s s' p d d' deep (Err t) same reported now rest level q moves = tt

pub explaining_sought_if : {T E : Type 0} (s s' : Explaining) (p : Placed) (now : Explaining) (o : Result T E) → s'.location ≡ s.location → s.reported ≡ None → Seeks s p now
    → s'.reported ≡ now.reported → s'.last_write ≡ now.last_write → s'.kept_reader ≡ now.kept_reader → s'.openers.items ≡ now.openers.items → OnOk o (Moves p.place p.what s.meetings s'.meetings)
    → OnOk o ((first : Explaining) (u : List Record) → HasExplained first.location u s → ComesAfter u p → HasExplained first.location (u ++ p.what ∷ []) s')
explaining_sought_if s s' p now (Ok t) same none seeks reported writes reads openers moves = λ first u h c. explaining_sought s s' first.location u p h c same moves now none seeks reported writes reads openers
explaining_sought_if s s' p now (Err t) same none seeks reported writes reads openers moves = tt

-- the answer of a whole trace

stands_at_end : (s : Explaining) (l : ℕ) (w : List Record) {n d : ℕ} → IsWellNested w n d → HasExplained l w s → Stands w l (length w) s
stands_at_end s l w h a = a.stands w [] (sym (append-nil w)) _ _ h

-- the race that is reported has the shape of one
pub race_shape : (s : Explaining) (l : ℕ) (w : List Record) {n d : ℕ} → IsWellNested w n d → n ≤ most_records → HasExplained l w s → IfSome s.reported (λ d. IsRaceShape d.first d.second)
race_shape s l w h b a = by_reported s.reported (stands_at_end s l w h a)
  where
    by_reported : (o : Option Reported) → StandsBy w l (length w) s o → IfSome o (λ d. IsRaceShape d.first d.second)
    by_reported None x = tt
    by_reported (Some d) x = record {
      from_one = (access-place w d.first.place (IsAccessPlace-at w l d.first.place d.first.kind x.reported.first_kind)).0;
      in_order = x.race.in_order;
      to_limit = omega (arith, x.upto, h.within);
      one_writes = race_writes w l d.first.place d.second.place d.first.kind d.second.kind x.reported.first_kind x.reported.second_kind x.race;
    }

joined_at_end : (w : List Record) (m j : ℕ) (o : Option ℕ) → MatchOption o (IsUnjoined w m j (length w)) (IsNextWait w m j) → AreJoined w m j o
joined_at_end w m j None x = λ k c z. x.none k c (within k z.1) z
  where
    within : (k : ℕ) → JoinsAt w k → k ≤ length w
    within k (inl e) = (IsPlace-at w k _ e).1
    within k (inr e) = (IsPlace-at w k _ e).1
joined_at_end w m j (Some k) x = x

pub explains : (s : Explaining) (l : ℕ) (answer : Option Explained) (w : List Record) {n d : ℕ} → IsWellNested w n d → HasExplained l w s
    → MatchOption s.reported (answer ≡ None) (λ d. answer ≡ Some (explanation s.location d)) → Explains w l answer
explains s l answer w h a q = by_reported s.reported (stands_at_end s l w h a) q
  where
    no_race : StandsOpen w l (length w) s → (i j : ℕ) → IsRace w l i j → ⊥
    no_race x i j r = x.0.none_reported i j r (elim r.second [ inl e ↦ (IsPlace-at w j _ e).1 | inr e ↦ (IsPlace-at w j _ e).1 ])

    reported_is : (d : Reported) → HasFoundRace w l (length w) d → IsExplained w (explanation l d)
    reported_is d x = record {
      reported = x.reported;
      meets = x.meets;
      first = x.first;
      second = x.second;
      unjoined = (parallel-block w h d.first.place d.second.place d.meeting (IsAccessPlace-at w l d.first.place d.first.kind x.reported.first_kind) (IsAccessPlace-at w l d.second.place d.second.kind x.reported.second_kind) x.race.in_order x.meets).0 x.race.parallel;
      joined = joined_at_end w d.meeting d.second.place d.joined x.joined;
    }

    by_reported : (o : Option Reported) → StandsBy w l (length w) s o → MatchOption o (answer ≡ None) (λ d. answer ≡ Some (explanation s.location d)) → Explains w l answer
    by_reported None x e = subst (Explains w l) (sym e) (no_race x)
    by_reported (Some d) x e = subst (Explains w l) (sym (e ∙ ap (λ (z : ℕ). Some (explanation z d)) a.location_is)) (refl, reported_is d x)
