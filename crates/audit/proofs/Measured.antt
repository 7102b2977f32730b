-- One more record is measured: its longest path, the active procedures after it, and the numbers at the end.
use Rattle.audit.proofs.Common.{◌≡◌, ◌≢◌, ℕ, zero, suc, ◌+◌, ◌<◌, ◌≤◌, max, Bool, true, false, List, [], ◌∷◌, ◌++◌, length, count_by, slice_get, Some, ◌⊎◌, inl, inr, refl, sym, ◌∙◌, subst, ap, arith, cond, append_assoc, length-append, Result, Ok, Err, OnOk, append-nil, cases_lt, cases_eq, slice_get_within, Record, Spawn, Call, Return, Sync, Placed, at, depth, IsPlace, IsWellNested, JoinsAt, IsPath, Opens, Suspended, Measuring, is_spawn, IsMeasure, IsSpan, IsGreatestDepth, ComesAfter, PathTo, IsLongestTo, IsReturnOf, LeadsOn, at_start, own, opened, came_back, IsLongestUnjoined, opened_by, IsSuspended, AreLongest, IsSpanTo, IsDepthTo, HasMeasuredTo, IsWithin, HasMeasured, through, after_child, Advances, slice_get-front, slice_get-last}
use Rattle.std.proofs.lemmas.List.Sums.{sum_by-append}
use Rattle.dag.specs.declared.records.Record.TheVariants.{Read, Write}
use Rattle.audit.specs.declared.measures.Longest.{Longest}
use Rattle.audit.proofs.ListLemmas.{slice_get-push, place_there, record_there}
use Rattle.audit.proofs.PathLemmas.{path_to, path_list, path_place, opened_by-opens, opens_no_return, opens_no_join, one_opener, step_by, step_in, step_out, longest_on, longest_joined, last_kept, last_here, waits_on, waits_here, unjoined_kept, unjoined_synced, unjoined_opened, unjoined_returned}

-- the active procedures, where the next place is at depth d
active_at : (w : List Record) (t d : ℕ) (e : Longest) (xs : List Suspended) → depth w (suc t) ≡ d → length xs ≡ d → LeadsOn w t d e.own → IsLongestUnjoined w t d e.unjoined
    → ((k : ℕ) (f : Suspended) → slice_get xs k ≡ Some f → IsSuspended w t k f) → AreLongest w t e xs
active_at w t d e xs q l o u a = record {
  level = l ∙ sym q;
  own = subst (λ (z : ℕ). LeadsOn w t z e.own) (sym q) o;
  unjoined = subst (λ (z : ℕ). IsLongestUnjoined w t z e.unjoined) (sym q) u;
  waits = a;
}

module _ (w : List Record) {n d : ℕ} (h : IsWellNested w n d) (t : ℕ) where
  not_joined : (r : Record) → at w (suc t) ≡ Some r → (r ≡ Sync → ⊥) → (r ≡ Return → ⊥) → JoinsAt w (suc t) → ⊥
  not_joined r s a b (inl e) = let f : Some r ≡ Some Sync = sym s ∙ e in let g : r ≡ Sync = cc in a g
  not_joined r s a b (inr e) = let f : Some r ≡ Some Return = sym s ∙ e in let g : r ≡ Return = cc in b g

  other : (r q : Record) → at w (suc t) ≡ Some r → (r ≡ q → ⊥) → at w (suc t) ≢ Some q
  other r q s a e = let f : Some r ≡ Some q = sym s ∙ e in let g : r ≡ q = cc in a g

  -- the longest path to the next place
  longest_plain : (r : Record) (e : Longest) (xs : List Suspended) (x : ℕ) → suc t ≤ length w → AreLongest w t e xs → (JoinsAt w (suc t) → ⊥) → x ≡ e.own + 1 → IsLongestTo w (suc t) x
  longest_plain r e xs x b a j q = let f : suc e.own ≡ x = omega arith in subst (λ (z : ℕ). IsLongestTo w (suc t) z) f (longest_on w h t e.own b j a.own)

  longest_waits : (e : Longest) (xs : List Suspended) (x : ℕ) → suc t ≤ length w → AreLongest w t e xs → JoinsAt w (suc t) → x ≡ max e.own e.unjoined + 1 → IsLongestTo w (suc t) x
  longest_waits e xs x b a j q = let f : suc (max e.own e.unjoined) ≡ x = omega arith in subst (λ (z : ℕ). IsLongestTo w (suc t) z) f (longest_joined w h t e.own e.unjoined b j a.own a.unjoined)

  pub longest_at : (r : Record) (e : Longest) (xs : List Suspended) (x : ℕ) → suc t ≤ length w → at w (suc t) ≡ Some r → AreLongest w t e xs → x ≡ through e r → IsLongestTo w (suc t) x
  longest_at Spawn e xs x b s a q = longest_plain Spawn e xs x b a (not_joined Spawn s (λ z. cc) (λ z. cc)) q
  longest_at Call e xs x b s a q = longest_plain Call e xs x b a (not_joined Call s (λ z. cc) (λ z. cc)) q
  longest_at Return e xs x b s a q = longest_waits e xs x b a (inr s) q
  longest_at Sync e xs x b s a q = longest_waits e xs x b a (inl s) q
  longest_at (Read l) e xs x b s a q = longest_plain (Read l) e xs x b a (not_joined (Read l) s (λ z. cc) (λ z. cc)) q
  longest_at (Write l) e xs x b s a q = longest_plain (Write l) e xs x b a (not_joined (Write l) s (λ z. cc) (λ z. cc)) q

  -- those that wait stand above the place
  above : (e : Longest) (xs : List Suspended) (k : ℕ) (f : Suspended) → AreLongest w t e xs → slice_get xs k ≡ Some f → k < depth w (suc t)
  above e xs k f a s = omega (arith, a.level, slice_get_within xs k f s)

  wait_on : (e : Longest) (xs : List Suspended) → AreLongest w t e xs → (IsReturnOf w Spawn (suc t) → ⊥) → (k : ℕ) (f : Suspended) → slice_get xs k ≡ Some f → IsSuspended w (suc t) k f
  wait_on e xs a m k f s =
      let l : k < depth w (suc t) = above e xs k f a s in
      let i : IsSuspended w t k f = a.waits k f s in
      waits_on w h t k f l (unjoined_kept w h t k f.longest.unjoined (λ z j. omega arith) (λ z y. m z) i.unjoined) i

  -- an access
  next_plain : (r : Record) (e e' : Longest) (xs xs' : List Suspended) (x : ℕ) → suc (suc t) ≤ length w → (JoinsAt w (suc t) → ⊥) → at w (suc t) ≢ Some Return → depth w (suc (suc t)) ≡ depth w (suc t)
      → AreLongest w t e xs → IsLongestTo w (suc t) x → e' ≡ record { own = x; unjoined = e.unjoined } → xs' ≡ xs → AreLongest w (suc t) e' xs'
  next_plain r e e' xs xs' x b j m z a l p q =
      let o : x ≡ e'.own = sym (ap (λ (f : Longest). f.own) p) in
      let u : e.unjoined ≡ e'.unjoined = sym (ap (λ (f : Longest). f.unjoined) p) in
      subst (λ (ys : List Suspended). AreLongest w (suc t) e' ys) (sym q)
      (active_at w (suc t) (depth w (suc t)) e' xs z a.level
      (subst (λ (y : ℕ). LeadsOn w (suc t) (depth w (suc t)) y) o (own (last_here w h t x (omega arith) m l) (λ c. m c.a_return)))
      (subst (λ (y : ℕ). IsLongestUnjoined w (suc t) (depth w (suc t)) y) u (unjoined_kept w h t (depth w (suc t)) e.unjoined (λ y. j) (λ y. absurd (m y.a_return)) a.unjoined))
      (wait_on e xs a (λ c. m c.a_return)))

  next_sync : (e e' : Longest) (xs xs' : List Suspended) (x : ℕ) → suc (suc t) ≤ length w → at w (suc t) ≡ Some Sync → AreLongest w t e xs → IsLongestTo w (suc t) x
      → e' ≡ record { own = x; unjoined = 0 } → xs' ≡ xs → AreLongest w (suc t) e' xs'
  next_sync e e' xs xs' x b s a l p q =
      let m : at w (suc t) ≢ Some Return = other Sync Return s (λ z. cc) in
      let o : x ≡ e'.own = sym (ap (λ (f : Longest). f.own) p) in
      let u : 0 ≡ e'.unjoined = sym (ap (λ (f : Longest). f.unjoined) p) in
      subst (λ (ys : List Suspended). AreLongest w (suc t) e' ys) (sym q)
      (active_at w (suc t) (depth w (suc t)) e' xs (step_by w h t Sync b s) a.level
      (subst (λ (y : ℕ). LeadsOn w (suc t) (depth w (suc t)) y) o (own (last_here w h t x (omega arith) m l) (λ c. m c.a_return)))
      (subst (λ (y : ℕ). IsLongestUnjoined w (suc t) (depth w (suc t)) y) u (unjoined_synced w h t s))
      (wait_on e xs a (λ c. m c.a_return)))

  -- a spawn or a call
  next_opened : (c : Bool) (e e' : Longest) (xs xs' : List Suspended) (x : ℕ) → suc (suc t) ≤ length w → at w (suc t) ≡ Some (opened_by c) → AreLongest w t e xs → IsLongestTo w (suc t) x
      → e' ≡ record { own = x; unjoined = 0 } → xs' ≡ xs ++ record { longest = record { own = x; unjoined = e.unjoined }; calls = c } ∷ [] → AreLongest w (suc t) e' xs'
  next_opened c e e' xs xs' x b s a l p q =
      subst (λ (ys : List Suspended). AreLongest w (suc t) e' ys) (sym q)
      (active_at w (suc t) (suc (depth w (suc t))) e' (xs ++ parent ∷ []) (step_in w h t b opens) (omega (arith, a.level, length-append xs (parent ∷ [])))
      (subst (λ (y : ℕ). LeadsOn w (suc t) (suc (depth w (suc t))) y) o (opened opens refl l))
      (subst (λ (y : ℕ). IsLongestUnjoined w (suc t) (suc (depth w (suc t))) y) u (unjoined_opened w h t (omega arith) opens))
      (λ k f g. by_place k f (slice_get-push xs parent k f g)))
    where
      parent : Suspended
      parent = record { longest = record { own = x; unjoined = e.unjoined }; calls = c }

      opens : Opens (at w (suc t))
      opens = opened_by-opens c (at w (suc t)) s

      m : at w (suc t) ≢ Some Return
      m = opens_no_return (at w (suc t)) opens

      o : x ≡ e'.own
      o = sym (ap (λ (f : Longest). f.own) p)

      u : 0 ≡ e'.unjoined
      u = sym (ap (λ (f : Longest). f.unjoined) p)

      here : IsSuspended w (suc t) (length xs) (record { longest = record { own = x; unjoined = e.unjoined }; calls = c })
      here = waits_here w h t (length xs) (record { longest = record { own = x; unjoined = e.unjoined }; calls = c }) (omega arith) (sym a.level) s l
          (subst (λ (k : ℕ). IsLongestUnjoined w (suc t) k e.unjoined) (sym a.level)
          (unjoined_kept w h t (depth w (suc t)) e.unjoined (λ y. opens_no_join (at w (suc t)) opens) (λ y. absurd (m y.a_return)) a.unjoined))

      by_place : (k : ℕ) (f : Suspended) → (slice_get xs k ≡ Some f) ⊎ ((k ≡ length xs) × (record { longest = record { own = x; unjoined = e.unjoined }; calls = c } ≡ f)) → IsSuspended w (suc t) k f
      by_place k f (inl g) = wait_on e xs a (λ y. m y.a_return) k f g
      by_place k f (inr (i, g)) = subst (λ (y : Suspended). IsSuspended w (suc t) k y) g (subst (λ (y : ℕ). IsSuspended w (suc t) y (record { longest = record { own = x; unjoined = e.unjoined }; calls = c })) (sym i) here)

  next_return : (e e' : Longest) (xs ys : List Suspended) (f : Suspended) (x : ℕ) → suc (suc t) ≤ length w → at w (suc t) ≡ Some Return → AreLongest w t e xs → IsLongestTo w (suc t) x
      → xs ≡ ys ++ f ∷ [] → e' ≡ after_child x f.calls f.longest → AreLongest w (suc t) e' ys
  next_return e e' xs ys f x b s a l q p = subst (λ (g : Longest). AreLongest w (suc t) g ys) (sym p) (by f.calls returned)
    where
      last : slice_get xs (length ys) ≡ Some f
      last = ap (λ (z : List Suspended). slice_get z (length ys)) q ∙ slice_get-last ys f

      front : (k : ℕ) (g : Suspended) → slice_get ys k ≡ Some g → slice_get xs k ≡ Some g
      front k g i = ap (λ (z : List Suspended). slice_get z k) q ∙ slice_get-front ys (f ∷ []) k g i

      waited : IsSuspended w t (length ys) f
      waited = a.waits (length ys) f last

      deeper : depth w (suc t) ≡ suc (length ys)
      deeper = omega (arith, a.level, ap length q, length-append ys (f ∷ []))

      level : depth w (suc (suc t)) ≡ length ys
      level = omega (arith, deeper, step_out w h t b s)

      returned : IsReturnOf w (opened_by f.calls) (suc t)
      returned = record {
        a_return = s;
        opener = waited.own.last;
        opened = record {
          before = omega (arith, waited.own.upto);
          above = omega (arith, waited.own.level, deeper);
          last = λ k c i z. omega (arith, waited.own.deeper k c (omega arith), waited.own.level);
        };
        record_is = waited.opener;
      }

      below : (k : ℕ) (g : Suspended) → slice_get ys k ≡ Some g → IsSuspended w (suc t) k g
      below k g i =
          let j : k < length ys = slice_get_within ys k g i in
          let v : IsSuspended w t k g = a.waits k g (front k g i) in
          waits_on w h t k g (omega (arith, deeper)) (unjoined_kept w h t k g.longest.unjoined (λ z c. omega (arith, deeper)) (λ z c. omega (arith, deeper)) v.unjoined) v

      by : (c : Bool) → IsReturnOf w (opened_by c) (suc t) → AreLongest w (suc t) (after_child x c f.longest) ys
      by true r = active_at w (suc t) (length ys) (record { own = x; unjoined = f.longest.unjoined }) ys level refl (came_back r deeper l)
          (unjoined_kept w h t (length ys) f.longest.unjoined (λ z c. omega (arith, deeper)) (λ z c. one_opener w (suc t) r z) waited.unjoined) below
      by false r = active_at w (suc t) (length ys) (record { own = f.longest.own; unjoined = max f.longest.unjoined x }) ys level refl
          (own (last_kept w h t (length ys) f.longest.own (omega (arith, deeper)) waited.own) (λ c. one_opener w (suc t) c r))
          (unjoined_returned w h t (length ys) f.longest.unjoined x r deeper l waited.unjoined) below

  -- the root's return is the last record
  only_root : (e : Longest) (xs : List Suspended) → AreLongest w t e xs → at w (suc t) ≡ Some Return → xs ≡ [] → suc (suc t) ≤ length w → ⊥
  only_root e xs a s q b =
      let z : length xs ≡ 0 = ap length q in
      h.no_earlier (suc t) b (record { a_return = s; at_zero = omega (arith, a.level) })

  pub active_next : (r : Record) (e e' : Longest) (xs xs' : List Suspended) (x : ℕ) → suc (suc t) ≤ length w → at w (suc t) ≡ Some r → AreLongest w t e xs → IsLongestTo w (suc t) x → Advances x r e xs e' xs' → AreLongest w (suc t) e' xs'
  active_next Spawn e e' xs xs' x b s a l (p, q) = next_opened false e e' xs xs' x b s a l p q
  active_next Call e e' xs xs' x b s a l (p, q) = next_opened true e e' xs xs' x b s a l p q
  active_next Return e e' xs xs' x b s a l (inl z) = absurd (only_root e xs a s z.0 b)
  active_next Return e e' xs xs' x b s a l (inr (f, q, p)) = next_return e e' xs xs' f x b s a l q p
  active_next Sync e e' xs xs' x b s a l (p, q) = next_sync e e' xs xs' x b s a l p q
  active_next (Read i) e e' xs xs' x b s a l (p, q) = next_plain (Read i) e e' xs xs' x b (not_joined (Read i) s (λ z. cc) (λ z. cc)) (other (Read i) Return s (λ z. cc)) (step_by w h t (Read i) b s) a l p q
  active_next (Write i) e e' xs xs' x b s a l (p, q) = next_plain (Write i) e e' xs xs' x b (not_joined (Write i) s (λ z. cc) (λ z. cc)) (other (Write i) Return s (λ z. cc)) (step_by w h t (Write i) b s) a l p q

  -- the span and the depth so far

  pub span_next : (s x s' : ℕ) → IsLongestTo w (suc t) x → IsSpanTo w t s → s' ≡ max s x → IsSpanTo w (suc t) s'
  span_next s x s' l p q = record { most = most; reached = inr (reached (cases_lt s x) p.reached) }
    where
      most : (j y : ℕ) → j ≤ suc t → PathTo w y j → y ≤ s'
      most j y b r = elim (cases_eq j (suc t)) [
        | inl e ↦ omega (arith, l.most y (subst (λ (z : ℕ). PathTo w y z) e r))
        | inr e ↦ omega (arith, p.most j y (omega arith) r)
      ]

      here : s ≤ x → (j : ℕ) × PathTo w s' j
      here f = let e : x ≡ s' = omega arith in (suc t, subst (λ (z : ℕ). PathTo w z (suc t)) e l.reached)

      reached : (s < x) ⊎ (x ≤ s) → ((t ≡ 0) × (s ≡ 0)) ⊎ ((j : ℕ) × PathTo w s j) → (j : ℕ) × PathTo w s' j
      reached (inl f) o = here (omega arith)
      reached (inr f) (inl o) = here (omega (arith, o.1))
      reached (inr f) (inr (j, o)) = let e : s ≡ s' = omega arith in (j, subst (λ (z : ℕ). PathTo w z j) e o)

  pub depth_next : (g x g' : ℕ) → suc t ≤ length w → depth w (suc t) ≡ x → IsDepthTo w t g → g' ≡ max g x → IsDepthTo w (suc t) g'
  depth_next g x g' b l p q = record { most = most; reached = inr (reached (cases_lt g x) p.reached) }
    where
      most : (i : ℕ) → i ≤ suc t → depth w i ≤ g'
      most i c = elim (cases_eq i (suc t)) [
        | inl e ↦ (let f : depth w i ≡ depth w (suc t) = ap (depth w) e in omega arith)
        | inr e ↦ omega (arith, p.most i (omega arith))
      ]

      here : g ≤ x → (i : ℕ) × IsPlace w i × (depth w i ≡ g')
      here f = (suc t, (omega arith, b), omega arith)

      reached : (g < x) ⊎ (x ≤ g) → ((t ≡ 0) × (g ≡ 0)) ⊎ ((i : ℕ) × IsPlace w i × (depth w i ≡ g)) → (i : ℕ) × IsPlace w i × (depth w i ≡ g')
      reached (inl f) o = here (omega arith)
      reached (inr f) (inl o) = here (omega (arith, o.1))
      reached (inr f) (inr (i, o, c)) = (i, o, omega arith)

-- what each record adds to the spawns
spawns-push : (u : List Record) (r : Record) → count_by is_spawn (u ++ r ∷ []) ≡ count_by is_spawn u + count_by is_spawn (r ∷ [])
spawns-push u r = sum_by-append (λ x. cond (is_spawn x) 1 0) u (r ∷ [])

pub spawns-more : (u : List Record) (r : Record) → r ≡ Spawn → count_by is_spawn (u ++ r ∷ []) ≡ count_by is_spawn u + 1
spawns-more u r e = spawns-push u r ∙ ap (λ (x : Record). count_by is_spawn u + count_by is_spawn (x ∷ [])) e

pub spawns-same : (u : List Record) (r : Record) → (r ≡ Spawn → ⊥) → count_by is_spawn (u ++ r ∷ []) ≡ count_by is_spawn u
spawns-same u r n = go r n (spawns-push u r)
  where
    go : (r' : Record) → (r' ≡ Spawn → ⊥) → count_by is_spawn (u ++ r' ∷ []) ≡ count_by is_spawn u + count_by is_spawn (r' ∷ []) → count_by is_spawn (u ++ r' ∷ []) ≡ count_by is_spawn u
    go Spawn m e = absurd (m refl)
    go Call m e = omega arith
    go Return m e = omega arith
    go Sync m e = omega arith
    go (Read l) m e = omega arith
    go (Write l) m e = omega arith

-- paths to one place more
within_one : (n k : ℕ) (f : Longest) → n ≤ k → IsWithin n f → IsWithin k f
within_one n k f l i = record { own = omega (arith, i.own); unjoined = omega (arith, i.unjoined) }

through-within : (n : ℕ) (f : Longest) (r : Record) → IsWithin n f → through f r ≤ n + 1
through-within n f Spawn i = omega (arith, i.own)
through-within n f Call i = omega (arith, i.own)
through-within n f Return i = omega (arith, i.own, i.unjoined)
through-within n f Sync i = omega (arith, i.own, i.unjoined)
through-within n f (Read l) i = omega (arith, i.own)
through-within n f (Write l) i = omega (arith, i.own)

within_of : (n a b : ℕ) (f : Longest) → a ≤ n → b ≤ n → f ≡ record { own = a; unjoined = b } → IsWithin n f
within_of n a b f x y e = subst (IsWithin n) (sym e) (record { own = x; unjoined = y })

record StayWithin (n : ℕ) (e : Longest) (xs : List Suspended) : Type 0 where
  executing : IsWithin n e
  suspended : (k : ℕ) (f : Suspended) → slice_get xs k ≡ Some f → IsWithin n f.longest

all_later : (n k : ℕ) (xs ys : List Suspended) → n ≤ k → ys ≡ xs → ((i : ℕ) (f : Suspended) → slice_get xs i ≡ Some f → IsWithin n f.longest) → (i : ℕ) (f : Suspended) → slice_get ys i ≡ Some f → IsWithin k f.longest
all_later n k xs ys l e a i f s = within_one n k f.longest l (a i f (sym (ap (λ (z : List Suspended). slice_get z i) e) ∙ s))

stay_opened : (n x : ℕ) (c : Bool) (e e' : Longest) (xs xs' : List Suspended) → x ≤ n + 1 → IsWithin n e → ((k : ℕ) (f : Suspended) → slice_get xs k ≡ Some f → IsWithin n f.longest) → e' ≡ record { own = x; unjoined = 0 }
    → xs' ≡ xs ++ record { longest = record { own = x; unjoined = e.unjoined }; calls = c } ∷ [] → StayWithin (n + 1) e' xs'
stay_opened n x c e e' xs xs' l i a p q = record {
  executing = within_of (n + 1) x 0 e' l (omega arith) p;
  suspended = λ k f s. by_place k f (slice_get-push xs _ k f (sym (ap (λ (z : List Suspended). slice_get z k) q) ∙ s));
}
  where
    by_place : (k : ℕ) (f : Suspended) → (slice_get xs k ≡ Some f) ⊎ ((k ≡ length xs) × (record { longest = record { own = x; unjoined = e.unjoined }; calls = c } ≡ f)) → IsWithin (n + 1) f.longest
    by_place k f (inl s) = within_one n (n + 1) f.longest (omega arith) (a k f s)
    by_place k f (inr (s, g)) = within_of (n + 1) x e.unjoined f.longest l (omega (arith, i.unjoined)) (sym (ap (λ (z : Suspended). z.longest) g))

after_child-within : (n x : ℕ) (c : Bool) (f : Longest) → x ≤ n → IsWithin n f → IsWithin n (after_child x c f)
after_child-within n x true f l i = record { own = l; unjoined = i.unjoined }
after_child-within n x false f l i = record { own = i.own; unjoined = omega (arith, i.unjoined) }

stay_within : (n x : ℕ) (r : Record) (e e' : Longest) (xs xs' : List Suspended) → x ≤ n + 1 → IsWithin n e → ((k : ℕ) (f : Suspended) → slice_get xs k ≡ Some f → IsWithin n f.longest) → Advances x r e xs e' xs' → StayWithin (n + 1) e' xs'
stay_within n x Spawn e e' xs xs' l i a (p, q) = stay_opened n x false e e' xs xs' l i a p q
stay_within n x Call e e' xs xs' l i a (p, q) = stay_opened n x true e e' xs xs' l i a p q
stay_within n x Return e e' xs xs' l i a (inl (p, q, g)) = record {
  executing = subst (IsWithin (n + 1)) (sym g) (within_one n (n + 1) e (omega arith) i);
  suspended = all_later n (n + 1) xs xs' (omega arith) (q ∙ sym p) a;
}
stay_within n x Return e e' xs xs' l i a (inr (f, q, p)) = record {
  executing = subst (IsWithin (n + 1)) (sym p) (after_child-within (n + 1) x f.calls f.longest l (within_one n (n + 1) f.longest (omega arith) last));
  suspended = λ k g s. within_one n (n + 1) g.longest (omega arith) (a k g (ap (λ (z : List Suspended). slice_get z k) q ∙ slice_get-front xs' (f ∷ []) k g s));
}
  where
    last : IsWithin n f.longest
    last = a (length xs') f (ap (λ (z : List Suspended). slice_get z (length xs')) q ∙ slice_get-last xs' f)
stay_within n x Sync e e' xs xs' l i a (p, q) = record { executing = within_of (n + 1) x 0 e' l (omega arith) p; suspended = all_later n (n + 1) xs xs' (omega arith) q a }
stay_within n x (Read j) e e' xs xs' l i a (p, q) = record { executing = within_of (n + 1) x e.unjoined e' l (omega (arith, i.unjoined)) p; suspended = all_later n (n + 1) xs xs' (omega arith) q a }
stay_within n x (Write j) e e' xs xs' l i a (p, q) = record { executing = within_of (n + 1) x e.unjoined e' l (omega (arith, i.unjoined)) p; suspended = all_later n (n + 1) xs xs' (omega arith) q a }

-- no record was measured
pub measured_none : (m : Measuring) → m.executing ≡ record { own = 0; unjoined = 0 } → m.suspended.items ≡ [] → m.work ≡ 0 → m.span ≡ 0 → m.spawns ≡ 0 → m.depth ≡ 0 → HasMeasured m []
measured_none m e q a b c g = record {
  work = a;
  spawns = c;
  executing = within_of 0 0 0 m.executing (omega arith) (omega arith) e;
  suspended = λ k f s. absurd (none k f s);
  measured = λ w rest is n d h. record {
    span = record { most = λ j x l p. absurd (no_place w j l (path_place w x j p)); reached = inl (refl, b) };
    depth = record { most = λ i l. flat w i l; reached = inl (refl, g) };
    active = λ l. active_at w 0 0 m.executing m.suspended.items (first w) (ap length q)
        (subst (λ (z : ℕ). LeadsOn w 0 0 z) (sym (ap (λ (f : Longest). f.own) e)) (at_start refl))
        (subst (λ (z : ℕ). IsLongestUnjoined w 0 0 z) (sym (ap (λ (f : Longest). f.unjoined) e)) (record { most = λ r y u p. absurd (no_place w r u.upto (path_place w y r p)); reached = inl refl }))
        (λ k f s. absurd (none k f s));
  };
}
  where
    none : (k : ℕ) (f : Suspended) → slice_get m.suspended.items k ≡ Some f → ⊥
    none k f s = let z : slice_get {X = Suspended} [] k ≡ Some f = sym (ap (λ (y : List Suspended). slice_get y k) q) ∙ s in cc

    no_place : (w : List Record) (j : ℕ) → j ≤ 0 → IsPlace w j → ⊥
    no_place w j l p = omega (arith, p.0)

    first : (w : List Record) → depth w 1 ≡ 0
    first w = omega arith

    flat : (w : List Record) (i : ℕ) → i ≤ 0 → depth w i ≤ m.depth
    flat w zero l = omega arith
    flat w (suc i) l = absurd (omega arith)

-- one record more is measured
pub measured_next : (m m' : Measuring) (u : List Record) (p : Placed) (x : ℕ) → HasMeasured m u → ComesAfter u p → x ≡ through m.executing p.what
    → Advances x p.what m.executing m.suspended.items m'.executing m'.suspended.items → m'.work ≡ p.place → m'.span ≡ max m.span x → m'.depth ≡ max m.depth (length m.suspended.items)
    → m'.spawns ≡ count_by is_spawn (u ++ p.what ∷ []) → HasMeasured m' (u ++ p.what ∷ [])
measured_next m m' u p x h c e a wk sp dp ss = record {
  work = wk ∙ c.place_is ∙ sym (length-append u (p.what ∷ []));
  spawns = ss;
  executing = subst (λ (z : ℕ). IsWithin z m'.executing) longer stay.executing;
  suspended = λ k f s. subst (λ (z : ℕ). IsWithin z f.longest) longer (stay.suspended k f s);
  measured = λ w rest is n d i. subst (λ (z : ℕ). HasMeasuredTo w z m') longer' (next w rest is i);
}
  where
    longer : length u + 1 ≡ length (u ++ p.what ∷ [])
    longer = sym (length-append u (p.what ∷ []))

    longer' : suc (length u) ≡ length (u ++ p.what ∷ [])
    longer' = omega (arith, length-append u (p.what ∷ []))

    stay : StayWithin (length u + 1) m'.executing m'.suspended.items
    stay = stay_within (length u) x p.what m.executing m'.executing m.suspended.items m'.suspended.items (omega (arith, through-within (length u) m.executing p.what h.executing)) h.executing h.suspended a

    next : (w rest : List Record) → w ≡ (u ++ p.what ∷ []) ++ rest → {n d : ℕ} → IsWellNested w n d → HasMeasuredTo w (suc (length u)) m'
    next w rest is i = record {
      span = span_next w i (length u) m.span x m'.span longest before.span sp;
      depth = depth_next w i (length u) m.depth (length m.suspended.items) m'.depth here (sym active.level) before.depth dp;
      active = λ b. active_next w i (length u) p.what m.executing m'.executing m.suspended.items m'.suspended.items x b there active longest a;
    }
      where
        before : HasMeasuredTo w (length u) m
        before = h.measured w (p.what ∷ rest) (is ∙ append_assoc u (p.what ∷ []) rest) _ _ i

        here : suc (length u) ≤ length w
        here = place_there w u rest p.what is

        there : at w (suc (length u)) ≡ Some p.what
        there = record_there w u rest p.what is

        active : AreLongest w (length u) m.executing m.suspended.items
        active = before.active here

        longest : IsLongestTo w (suc (length u)) x
        longest = longest_at w i (length u) p.what m.executing m.suspended.items x here there active e

-- the same, where no growth was refused
pub measured_if : {T E : Type 0} (m m' : Measuring) (p : Placed) (x : ℕ) (e : Longest) (xs : List Suspended) (o : Result T E) → e ≡ m.executing → xs ≡ m.suspended.items → x ≡ through m.executing p.what
    → OnOk o (Advances x p.what e xs m'.executing m'.suspended.items) → m'.work ≡ p.place → m'.span ≡ max m.span x → m'.depth ≡ max m.depth (length m.suspended.items)
    → ((u : List Record) → m.spawns ≡ count_by is_spawn u → m'.spawns ≡ count_by is_spawn (u ++ p.what ∷ []))
    → OnOk o ((first : Measuring) (u : List Record) → HasMeasured m u → ComesAfter u p → HasMeasured m' (u ++ p.what ∷ []))
measured_if m m' p x e xs (Ok t) f g is a wk sp dp ss = λ first u h c. measured_next m m' u p x h c is advances wk sp dp (ss u h.spawns)
  where
    advances : Advances x p.what m.executing m.suspended.items m'.executing m'.suspended.items
    advances =
        let P : Longest → Type 0 = λ y. Advances x p.what y m.suspended.items m'.executing m'.suspended.items in
        let Q : List Suspended → Type 0 = λ ys. Advances x p.what e ys m'.executing m'.suspended.items in
        subst P f (subst Q g a)
measured_if m m' p x e xs (Err t) f g is a wk sp dp ss = tt

-- the measure of a whole trace

span_of : (w : List Record) (s : ℕ) → 1 ≤ length w → IsSpanTo w (length w) s → IsSpan w s
span_of w s some p = record { reached = reached p.reached; most = most }
  where
    reached : ((length w ≡ 0) × (s ≡ 0)) ⊎ ((j : ℕ) × PathTo w s j) → (q : List ℕ) × IsPath w q × (length q ≡ s)
    reached (inl e) = absurd (omega (arith, e.0))
    reached (inr (j, q)) = path_list w s j q

    most : (q : List ℕ) → IsPath w q → length q ≤ s
    most [] a = absurd a
    most (i ∷ q) a = let l = path_to w i q a in p.most _ _ (path_place w _ _ l).1 l

depth_of : (w : List Record) (g : ℕ) → 1 ≤ length w → IsDepthTo w (length w) g → IsGreatestDepth w g
depth_of w g some p = record { reached = reached p.reached; most = λ i a. p.most i a.1 }
  where
    reached : ((length w ≡ 0) × (g ≡ 0)) ⊎ ((i : ℕ) × IsPlace w i × (depth w i ≡ g)) → (i : ℕ) × IsPlace w i × (depth w i ≡ g)
    reached (inl e) = absurd (omega (arith, e.0))
    reached (inr q) = q

pub measure_of : (m : Measuring) (w : List Record) {n d : ℕ} → IsWellNested w n d → HasMeasured m w → IsMeasure w (record { work = m.work; span = m.span; spawns = m.spawns; depth = m.depth })
measure_of m w h a =
    let to : HasMeasuredTo w (length w) m = a.measured w [] (sym (append-nil w)) _ _ h in
    record { work = a.work; span = span_of w m.span h.some to.span; spawns = a.spawns; depth = depth_of w m.depth h.some to.depth }

-- no place is deeper than the limit
pub depth_fits : (m : Measuring) (w : List Record) {n d : ℕ} → IsWellNested w n d → HasMeasured m w → m.depth ≤ d
depth_fits m w h a =
    let to : HasMeasuredTo w (length w) m = a.measured w [] (sym (append-nil w)) _ _ h in
    let g = (depth_of w m.depth h.some to.depth).reached in
    omega (arith, g.2, h.not_too_deep g.0 g.1)
