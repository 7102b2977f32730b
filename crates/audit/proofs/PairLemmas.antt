-- The races of one location, one access after another.
use Rattle.audit.proofs.Common.{◌≡◌, ◌≢◌, ℕ, suc, ◌+◌, ◌<◌, ◌≤◌, true, false, ◌||◌, List, [], ◌∷◌, ◌++◌, length, slice_get, get_or, Some, ◌⊎◌, inl, inr, refl, sym, ◌∙◌, subst, ap, arith, Contains, append_assoc, length-append, Result, Ok, Err, OnOk, cases_eq, append-nil, Contains-push, Contains-push_cases, slice_get_within, slice_get-get_or, get_or_from_slice_get, Record, Kind, Read, Write, Access, Placed, writes, at, depth, IsWellNested, IsParallel, access, IsAccess, IsWrite, IsAccessPlace, IsRace, access-place, IsAccessPlace-at, read_or_write, kind_once, same_access, Meetings, KeptAccess, Pairing, ComesAfter, HasMet, DecidesParallel, Moves, IsPair, IsBefore, ArePairs, IsKept, IsAmong, AreKept, ArePairsTo, ArePairsWith, AddsPairs, HasPaired, slice_get-front, slice_get-last}
use Rattle.std.proofs.lemmas.List.Quantifiers.{all_pairs_push}
use Rattle.dag.specs.declared.records.Record.TheVariants as records
use Rattle.audit.proofs.ListLemmas.{slice_get-push, place_there, record_there}
use Rattle.audit.proofs.MeetingLemmas.{met_next}

-- kinds of accesses

one_writes : (w : List Record) (l i j : ℕ) (k q : Kind) → IsAccess w l i k → IsAccess w l j q → (writes k || writes q) ≡ true → IsWrite w l i ⊎ IsWrite w l j
one_writes w l i j Write q a b e = inl a
one_writes w l i j Read Write a b e = inr b
one_writes w l i j Read Read a b e = absurd (cc)

writes_one : (w : List Record) (l i j : ℕ) (k q : Kind) → IsAccess w l i k → IsAccess w l j q → IsWrite w l i ⊎ IsWrite w l j → (writes k || writes q) ≡ true
writes_one w l i j Write q a b e = refl
writes_one w l i j Read Write a b e = refl
writes_one w l i j Read Read a b (inl e) = absurd (let f : Some (records.Read l) ≡ Some (records.Write l) = sym a ∙ e in cc)
writes_one w l i j Read Read a b (inr e) = absurd (let f : Some (records.Read l) ≡ Some (records.Write l) = sym b ∙ e in cc)

-- two accesses race exactly where one writes and they are parallel
pub race_by : (w : List Record) (l i j : ℕ) (k q : Kind) → i < j → IsAccess w l i k → IsAccess w l j q → (writes k || writes q) ≡ true → IsParallel w i j → IsRace w l i j
race_by w l i j k q s a b e p = record { in_order = s; first = read_or_write w l i k a; second = read_or_write w l j q b; one_writes = one_writes w l i j k q a b e; parallel = p }

pub race_writes : (w : List Record) (l i j : ℕ) (k q : Kind) → IsAccess w l i k → IsAccess w l j q → IsRace w l i j → (writes k || writes q) ≡ true
race_writes w l i j k q a b r = writes_one w l i j k q a b r.one_writes

-- equal accesses

pair_same : (p : Access × Access) (a b : Access) → a ≡ p.0 → b ≡ p.1 → (a, b) ≡ p
pair_same p a b e f = λ i. (e i, f i)

-- the element that is contained stands somewhere
contained_at : {A : Type 0} (xs : List A) (k : ℕ) (d : A) → k < length xs → Contains xs (get_or xs k d)
contained_at xs k d l = (k, l, by_default xs k d (get_or xs k d) l)
  where
    by_default : {A : Type 0} (xs : List A) (k : ℕ) (d e : A) → k < length xs → get_or xs k e ≡ get_or xs k d
    by_default xs k d e l = get_or_from_slice_get xs k (get_or xs k d) e (slice_get-get_or xs k d l)

contained_earlier : {A : Type 0} (xs : List A) (x y : A) → Contains xs x → Contains (xs ++ y ∷ []) x
contained_earlier xs x y (k, l, e) =
    let s : slice_get xs k ≡ Some x = slice_get-get_or xs k x l ∙ ap (λ z. Some z) e in
    (k, omega (arith, length-append xs (y ∷ [])), get_or_from_slice_get (xs ++ y ∷ []) k x x (slice_get-front xs (y ∷ []) k x s))

-- one more access that is kept is compared

module _ (w : List Record) (l t n : ℕ) (ks : List KeptAccess) (b : Access) (a : KeptAccess) (keeps : AreKept w l t ks) (is : b.place ≡ suc t) (there : slice_get ks n ≡ Some a) (second : IsAccess w l b.place b.kind) where
  first : IsKept w l t a
  first = keeps.each n a there

  among_more : (i : ℕ) → IsAmong n ks i → IsAmong (n + 1) ks i
  among_more i (k, c, f, s, e) = (k, c, omega arith, s, e)

  among_cases : (i : ℕ) → IsAmong (n + 1) ks i → IsAmong n ks i ⊎ (a.access.place ≡ i)
  among_cases i (k, c, f, s, e) = elim (cases_eq k n) [
    | inl q ↦ inr (same c (sym (ap (slice_get ks) q) ∙ s) e)
    | inr q ↦ inl (k, c, omega arith, s, e)
  ]
    where
      same : (c : KeptAccess) → slice_get ks n ≡ Some c → c.access.place ≡ i → a.access.place ≡ i
      same c s e = let f : Some a ≡ Some c = sym there ∙ s in let g : a ≡ c = cc in ap (λ (z : KeptAccess). z.access.place) g ∙ e

  -- a race of place t + 1 whose first place is that of a
  the_pair : (p : Access × Access) → IsPair w l p → p.1.place ≡ suc t → a.access.place ≡ p.0.place → (a.access, b) ≡ p
  the_pair p r e f = pair_same p a.access b
      (same_access a.access p.0 (kind_once w l p.0.place a.access.kind p.0.kind (subst (λ (z : ℕ). IsAccess w l z a.access.kind) f first.access) r.first_kind) f)
      (same_access b p.1 (kind_once w l p.1.place b.kind p.1.kind (subst (λ (z : ℕ). IsAccess w l z b.kind) (is ∙ sym e) second) r.second_kind) (is ∙ sym e))

  pub pair_added : (ps : List (Access × Access)) → IsRace w l a.access.place b.place → ArePairsWith w l t n ks ps → ArePairsWith w l t (n + 1) ks (ps ++ (a.access, b) ∷ [])
  pair_added ps r h = record {
    ascending = all_pairs_push IsBefore ps (a.access, b) h.ascending (λ k d c. before (get_or ps k d) ((h.exactly (get_or ps k d)).0 (contained_at ps k d c)));
    exactly = λ p. ((λ c. forth p (Contains-push_cases ps (a.access, b) p c)), (λ q. back p q.0 q.1));
  }
    where
      before : (p : Access × Access) → IsPair w l p × ((p.1.place ≤ t) ⊎ ((p.1.place ≡ suc t) × IsAmong n ks p.0.place)) → IsBefore p (a.access, b)
      before p (q, inl z) = inl (omega arith)
      before p (q, inr (z, (k, c, f, s, e))) = inr (z ∙ sym is, omega (arith, keeps.ascending k n c a f s there))

      forth : (p : Access × Access) → Contains ps p ⊎ ((a.access, b) ≡ p) → IsPair w l p × ((p.1.place ≤ t) ⊎ ((p.1.place ≡ suc t) × IsAmong (n + 1) ks p.0.place))
      forth p (inl c) = more ((h.exactly p).0 c)
        where
          more : IsPair w l p × ((p.1.place ≤ t) ⊎ ((p.1.place ≡ suc t) × IsAmong n ks p.0.place)) → IsPair w l p × ((p.1.place ≤ t) ⊎ ((p.1.place ≡ suc t) × IsAmong (n + 1) ks p.0.place))
          more (q, inl z) = (q, inl z)
          more (q, inr z) = (q, inr (z.0, among_more p.0.place z.1))
      forth p (inr e) =
          let P : Access × Access → Type 0 = λ q. IsPair w l q × ((q.1.place ≤ t) ⊎ ((q.1.place ≡ suc t) × IsAmong (n + 1) ks q.0.place)) in
          subst P e (record { race = r; first_kind = first.access; second_kind = second }, inr (is, (n, a, omega arith, there, refl)))

      back : (p : Access × Access) → IsPair w l p → (p.1.place ≤ t) ⊎ ((p.1.place ≡ suc t) × IsAmong (n + 1) ks p.0.place) → Contains (ps ++ (a.access, b) ∷ []) p
      back p q (inl z) = contained_earlier ps p (a.access, b) ((h.exactly p).1 (q, inl z))
      back p q (inr (z, m)) = elim (among_cases p.0.place m) [
        | inl y ↦ contained_earlier ps p (a.access, b) ((h.exactly p).1 (q, inr (z, y)))
        | inr y ↦ (let P : Access × Access → Type 0 = Contains (ps ++ (a.access, b) ∷ []) in subst P (the_pair p q z y) (Contains-push ps (a.access, b)))
      ]

  pub pair_skipped : (ps : List (Access × Access)) → (IsRace w l a.access.place b.place → ⊥) → ArePairsWith w l t n ks ps → ArePairsWith w l t (n + 1) ks ps
  pair_skipped ps never h = record { ascending = h.ascending; exactly = λ p. ((λ c. forth p ((h.exactly p).0 c)), (λ q. back p q.0 q.1)) }
    where
      forth : (p : Access × Access) → IsPair w l p × ((p.1.place ≤ t) ⊎ ((p.1.place ≡ suc t) × IsAmong n ks p.0.place)) → IsPair w l p × ((p.1.place ≤ t) ⊎ ((p.1.place ≡ suc t) × IsAmong (n + 1) ks p.0.place))
      forth p (q, inl z) = (q, inl z)
      forth p (q, inr z) = (q, inr (z.0, among_more p.0.place z.1))

      back : (p : Access × Access) → IsPair w l p → (p.1.place ≤ t) ⊎ ((p.1.place ≡ suc t) × IsAmong (n + 1) ks p.0.place) → Contains ps p
      back p q (inl z) = (h.exactly p).1 (q, inl z)
      back p q (inr (z, m)) = elim (among_cases p.0.place m) [
        | inl y ↦ (h.exactly p).1 (q, inr (z, y))
        | inr y ↦ absurd (never (subst (λ (v : ℕ). IsRace w l a.access.place v) (z ∙ sym is) (subst (λ (v : ℕ). IsRace w l v p.1.place) (sym y) q.race)))
      ]

module _ (m : Meetings) (ks : List KeptAccess) (b : Access) (n : ℕ) (a : KeptAccess) (there : slice_get ks n ≡ Some a) (old ps : List (Access × Access)) where
  -- it races with the access
  pub adds_pair : (writes a.access.kind || writes b.kind) ≡ true → ((u : List Record) → HasMet m u → DecidesParallel u a.access.place a.depth true) → AddsPairs m ks b n old ps → AddsPairs m ks b (n + 1) old (ps ++ (a.access, b) ∷ [])
  adds_pair one decides adds l u met is w rest begins c d h keeps second to =
      pair_added w l (length u) n ks b a keeps is there second ps race (adds l u met is w rest begins c d h keeps second to)
    where
      kept : IsKept w l (length u) a
      kept = keeps.each n a there

      parallel : IsParallel w a.access.place (suc (length u))
      parallel = (decides u met w rest begins c d h (IsAccessPlace-at w l a.access.place a.access.kind kept.access) kept.upto kept.at_depth
          (subst (IsAccessPlace w) is (IsAccessPlace-at w l b.place b.kind second))).0 refl

      race : IsRace w l a.access.place b.place
      race = race_by w l a.access.place b.place a.access.kind b.kind (omega (arith, kept.upto)) kept.access second one (subst (λ (z : ℕ). IsParallel w a.access.place z) (sym is) parallel)

  -- both read
  pub adds_no_read : (writes a.access.kind || writes b.kind) ≡ false → AddsPairs m ks b n old ps → AddsPairs m ks b (n + 1) old ps
  adds_no_read none adds l u met is w rest begins c d h keeps second to =
      pair_skipped w l (length u) n ks b a keeps is there second ps (λ r. both (race_writes w l a.access.place b.place a.access.kind b.kind (keeps.each n a there).access second r)) (adds l u met is w rest begins c d h keeps second to)
    where
      both : (writes a.access.kind || writes b.kind) ≡ true → ⊥
      both e = cc

  -- a path leads
  pub adds_no_parallel : ((u : List Record) → HasMet m u → DecidesParallel u a.access.place a.depth false) → AddsPairs m ks b n old ps → AddsPairs m ks b (n + 1) old ps
  adds_no_parallel decides adds l u met is w rest begins c d h keeps second to =
      pair_skipped w l (length u) n ks b a keeps is there second ps never (adds l u met is w rest begins c d h keeps second to)
    where
      kept : IsKept w l (length u) a
      kept = keeps.each n a there

      never : IsRace w l a.access.place b.place → ⊥
      never r =
          let z : false ≡ true = (decides u met w rest begins c d h (IsAccessPlace-at w l a.access.place a.access.kind kept.access) kept.upto kept.at_depth
          (subst (IsAccessPlace w) is (IsAccessPlace-at w l b.place b.kind second))).1 (subst (λ (v : ℕ). IsParallel w a.access.place v) is r.parallel) in
          cc

-- one place further

pub pairs_with_all : (w : List Record) (l t : ℕ) (ks : List KeptAccess) (ps : List (Access × Access)) → AreKept w l t ks → ArePairsWith w l t (length ks) ks ps → ArePairsTo w l (suc t) ps
pairs_with_all w l t ks ps keeps h = record { ascending = h.ascending; exactly = λ p. ((λ c. forth p ((h.exactly p).0 c)), (λ q. back p q.0 q.1)) }
  where
    forth : (p : Access × Access) → IsPair w l p × ((p.1.place ≤ t) ⊎ ((p.1.place ≡ suc t) × IsAmong (length ks) ks p.0.place)) → IsPair w l p × (p.1.place ≤ suc t)
    forth p (q, inl z) = (q, omega arith)
    forth p (q, inr z) = (q, omega (arith, z.0))

    back : (p : Access × Access) → IsPair w l p → p.1.place ≤ suc t → Contains ps p
    back p q z = elim (cases_eq p.1.place (suc t)) [
      | inl y ↦ (h.exactly p).1 (q, inr (y, keeps.all p.0.place p.0.kind (omega (arith, q.race.in_order)) q.first_kind))
      | inr y ↦ (h.exactly p).1 (q, inl (omega arith))
    ]

pub pairs_same : (w : List Record) (l t : ℕ) (ps : List (Access × Access)) → ((k : Kind) → IsAccess w l (suc t) k → ⊥) → ArePairsTo w l t ps → ArePairsTo w l (suc t) ps
pairs_same w l t ps never h = record { ascending = h.ascending; exactly = λ p. ((λ c. let q = (h.exactly p).0 c in (q.0, omega (arith, q.1))), (λ q. back p q.0 q.1)) }
  where
    back : (p : Access × Access) → IsPair w l p → p.1.place ≤ suc t → Contains ps p
    back p q z = elim (cases_eq p.1.place (suc t)) [
      | inl y ↦ absurd (never p.1.kind (subst (λ (v : ℕ). IsAccess w l v p.1.kind) y q.second_kind))
      | inr y ↦ (h.exactly p).1 (q, omega arith)
    ]

kept_later : (w : List Record) (l t : ℕ) (a : KeptAccess) → IsKept w l t a → IsKept w l (suc t) a
kept_later w l t a k = record { access = k.access; upto = omega (arith, k.upto); at_depth = k.at_depth }

pub kept_same : (w : List Record) (l t : ℕ) (ks : List KeptAccess) → ((k : Kind) → IsAccess w l (suc t) k → ⊥) → AreKept w l t ks → AreKept w l (suc t) ks
kept_same w l t ks never h = record {
  each = λ k a s. kept_later w l t a (h.each k a s);
  all = λ i k z a. elim (cases_eq i (suc t)) [
    | inl y ↦ absurd (never k (subst (λ (v : ℕ). IsAccess w l v k) y a))
    | inr y ↦ h.all i k (omega arith) a
  ];
  ascending = h.ascending;
}

pub kept_push : (w : List Record) (l t : ℕ) (ks : List KeptAccess) (b : KeptAccess) → b.access.place ≡ suc t → IsAccess w l b.access.place b.access.kind → depth w b.access.place ≡ b.depth → AreKept w l t ks → AreKept w l (suc t) (ks ++ b ∷ [])
kept_push w l t ks b is here deep h = record {
  each = λ k a s. each k a (slice_get-push ks b k a s);
  all = all;
  ascending = λ j k a c z s y. ascending j k a c z s (slice_get-push ks b k c y);
}
  where
    each : (k : ℕ) (a : KeptAccess) → (slice_get ks k ≡ Some a) ⊎ ((k ≡ length ks) × (b ≡ a)) → IsKept w l (suc t) a
    each k a (inl s) = kept_later w l t a (h.each k a s)
    each k a (inr (s, e)) = subst (IsKept w l (suc t)) e (record { access = here; upto = omega arith; at_depth = deep })

    later : (i : ℕ) → IsAmong (length ks) ks i → IsAmong (length (ks ++ b ∷ [])) (ks ++ b ∷ []) i
    later i (k, a, f, s, e) = (k, a, omega (arith, length-append ks (b ∷ [])), slice_get-front ks (b ∷ []) k a s, e)

    all : (i : ℕ) (k : Kind) → i ≤ suc t → IsAccess w l i k → IsAmong (length (ks ++ b ∷ [])) (ks ++ b ∷ []) i
    all i k z a = elim (cases_eq i (suc t)) [
      | inl y ↦ (length ks, b, omega (arith, length-append ks (b ∷ [])), slice_get-last ks b, is ∙ sym y)
      | inr y ↦ later i (h.all i k (omega arith) a)
    ]

    earlier : (j : ℕ) (a : KeptAccess) → slice_get (ks ++ b ∷ []) j ≡ Some a → j < length ks → slice_get ks j ≡ Some a
    earlier j a s z = by_place (slice_get-push ks b j a s)
      where
        by_place : (slice_get ks j ≡ Some a) ⊎ ((j ≡ length ks) × (b ≡ a)) → slice_get ks j ≡ Some a
        by_place (inl y) = y
        by_place (inr y) = absurd (omega (arith, y.0))

    ascending : (j k : ℕ) (a c : KeptAccess) → j < k → slice_get (ks ++ b ∷ []) j ≡ Some a → (slice_get ks k ≡ Some c) ⊎ ((k ≡ length ks) × (b ≡ c)) → a.access.place < c.access.place
    ascending j k a c z s (inl y) = h.ascending j k a c z (earlier j a s (omega (arith, slice_get_within ks k c y))) y
    ascending j k a c z s (inr (y, e)) =
        let v : a.access.place ≤ t = (h.each j a (earlier j a s (omega arith))).upto in
        let x : b.access.place ≡ c.access.place = ap (λ (q : KeptAccess). q.access.place) e in
        omega arith

-- what is seen of the next record

module _ (s s' : Pairing) (l : ℕ) (u : List Record) (p : Placed) (h : HasPaired l u s) (c : ComesAfter u p) (same : s'.location ≡ s.location)
    (moves : Moves p.place p.what s.meetings s'.meetings) where
  longer : suc (length u) ≡ length (u ++ p.what ∷ [])
  longer = omega (arith, length-append u (p.what ∷ []))

  -- it accesses another location, or none
  pub paired_other : ((k : Kind) → p.what ≢ access k s.location) → s'.kept.items ≡ s.kept.items → s'.pairs.items ≡ s.pairs.items → HasPaired l (u ++ p.what ∷ []) s'
  paired_other never ks ps = record {
    location_is = same ∙ h.location_is;
    met = met_next s.meetings s'.meetings u p h.met c moves;
    kept = λ w rest is n d i. subst (λ (z : ℕ). AreKept w l z s'.kept.items) longer (subst (AreKept w l (suc (length u))) (sym ks)
        (kept_same w l (length u) s.kept.items (none w rest is) (h.kept w (p.what ∷ rest) (is ∙ append_assoc u (p.what ∷ []) rest) n d i)));
    pairs = λ w rest is n d i. subst (λ (z : ℕ). ArePairsTo w l z s'.pairs.items) longer (subst (ArePairsTo w l (suc (length u))) (sym ps)
        (pairs_same w l (length u) s.pairs.items (none w rest is) (h.pairs w (p.what ∷ rest) (is ∙ append_assoc u (p.what ∷ []) rest) n d i)));
  }
    where
      none : (w rest : List Record) → w ≡ (u ++ p.what ∷ []) ++ rest → (k : Kind) → IsAccess w l (suc (length u)) k → ⊥
      none w rest is k a =
          let e : Some p.what ≡ Some (access k l) = sym (record_there w u rest p.what is) ∙ a in
          let f : p.what ≡ access k l = cc in
          never k (f ∙ ap (access k) (sym h.location_is))

  -- it is an access of the location
  pub paired_access : (a : Access) (deep : ℕ) (ps : List (Access × Access)) → a.place ≡ p.place → p.what ≡ access a.kind s.location → deep ≡ length s.meetings.suspended.items
      → AddsPairs s.meetings s.kept.items a (length s.kept.items) s.pairs.items ps → s'.kept.items ≡ s.kept.items ++ record { access = a; depth = deep } ∷ [] → s'.pairs.items ≡ ps → HasPaired l (u ++ p.what ∷ []) s'
  paired_access a deep ps place what level adds ks qs = record {
    location_is = same ∙ h.location_is;
    met = met_next s.meetings s'.meetings u p h.met c moves;
    kept = λ w rest is n d i. subst (λ (z : ℕ). AreKept w l z s'.kept.items) longer (subst (AreKept w l (suc (length u))) (sym ks)
        (kept_push w l (length u) s.kept.items (record { access = a; depth = deep }) at_next (here w rest is) (deep_is w rest is i) (before w rest is i)));
    pairs = λ w rest is n d i. subst (λ (z : ℕ). ArePairsTo w l z s'.pairs.items) longer (subst (ArePairsTo w l (suc (length u))) (sym qs)
        (pairs_with_all w l (length u) s.kept.items ps (before w rest is i)
        (adds l u h.met at_next w (p.what ∷ rest) (is ∙ append_assoc u (p.what ∷ []) rest) n d i (before w rest is i) (here w rest is)
        (h.pairs w (p.what ∷ rest) (is ∙ append_assoc u (p.what ∷ []) rest) n d i))));
  }
    where
      at_next : a.place ≡ suc (length u)
      at_next = omega (arith, c.place_is)

      here : (w rest : List Record) → w ≡ (u ++ p.what ∷ []) ++ rest → IsAccess w l a.place a.kind
      here w rest is = ap (at w) at_next ∙ record_there w u rest p.what is ∙ ap (λ (z : Record). Some z) (what ∙ ap (access a.kind) h.location_is)

      before : (w rest : List Record) → w ≡ (u ++ p.what ∷ []) ++ rest → {n d : ℕ} → IsWellNested w n d → AreKept w l (length u) s.kept.items
      before w rest is i = h.kept w (p.what ∷ rest) (is ∙ append_assoc u (p.what ∷ []) rest) _ _ i

      deep_is : (w rest : List Record) → w ≡ (u ++ p.what ∷ []) ++ rest → {n d : ℕ} → IsWellNested w n d → depth w a.place ≡ deep
      deep_is w rest is i =
          ap (depth w) at_next ∙ sym (level ∙ (h.met w (p.what ∷ rest) (is ∙ append_assoc u (p.what ∷ []) rest) _ _ i (place_there w u rest p.what is)).active.level)

-- the races of a whole trace
pub pairs_of : (s : Pairing) (l : ℕ) (w : List Record) {n d : ℕ} → IsWellNested w n d → HasPaired l w s → ArePairs w l s.pairs.items
pairs_of s l w h a =
    let to : ArePairsTo w l (length w) s.pairs.items = a.pairs w [] (sym (append-nil w)) _ _ h in
    record {
      ascending = to.ascending;
      exactly = λ p. ((λ c. ((to.exactly p).0 c).0), (λ q. (to.exactly p).1 (q, (access-place w p.1.place (IsAccessPlace-at w l p.1.place p.1.kind q.second_kind)).1)));
    }

-- the same, where no growth was refused

pub paired_other_if : {T E : Type 0} (s s' : Pairing) (p : Placed) (o : Result T E) → s'.location ≡ s.location → ((k : Kind) → p.what ≢ access k s.location) → s'.kept.items ≡ s.kept.items → s'.pairs.items ≡ s.pairs.items
    → OnOk o (Moves p.place p.what s.meetings s'.meetings)
    → OnOk o ((first : Pairing) (u : List Record) → HasPaired first.location u s → ComesAfter u p → HasPaired first.location (u ++ p.what ∷ []) s')
paired_other_if s s' p (Ok t) same never ks ps moves = λ first u h c. paired_other s s' first.location u p h c same moves never ks ps
paired_other_if s s' p (Err t) same never ks ps moves = tt

pub paired_access_if : {T E : Type 0} (s s' : Pairing) (p : Placed) (a : Access) (deep : ℕ) (ps : List (Access × Access)) (o : Result T E) → s'.location ≡ s.location → a.place ≡ p.place → p.what ≡ access a.kind s.location → deep ≡ length s.meetings.suspended.items
    → AddsPairs s.meetings s.kept.items a (length s.kept.items) s.pairs.items ps → s'.kept.items ≡ s.kept.items ++ record { access = a; depth = deep } ∷ [] → s'.pairs.items ≡ ps
    → OnOk o (Moves p.place p.what s.meetings s'.meetings)
    → OnOk o ((first : Pairing) (u : List Record) → HasPaired first.location u s → ComesAfter u p → HasPaired first.location (u ++ p.what ∷ []) s')
paired_access_if s s' p a deep ps (Ok t) same place what level adds ks qs moves = λ first u h c. paired_access s s' first.location u p h c same moves a deep ps place what level adds ks qs
paired_access_if s s' p a deep ps (Err t) same place what level adds ks qs moves = tt
