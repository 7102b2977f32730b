-- The kept reader of a location: there is one and only one, and it is parallel to an access where any
-- read before it is. From this the rules see the first race of a location.
use Rattle.dag.proofs.Common.{◌≡◌, ℕ, zero, suc, ◌<◌, ◌≤◌, List, Option, Some, None, ◌⊎◌, inl, inr, ⊎_elim, refl, sym, ap, subst, ◌∙◌, arith, cases_eq, cases_lt, cases_order, Record, Kind, at, IsWellNested, Leads, IsParallel, IsAccess, IsAccessPlace, IsRead, IsWrite, IsRace, IsSecond, IsLastWrite, IsKeptReader, IsReported, nothing_yet, no_read, first_read, replaces, stays, last_write, kept_reader}
use Rattle.dag.specs.declared.records.Record.TheVariants as records
use Rattle.dag.specs.declared.records.Kind.TheVariants.{Read, Write}
use Rattle.dag.proofs.Paths.{IsPlace-at, leads_or_parallel, parallel_through, parallel_after}

pub IsAccessPlace-at : (w : List Record) (l i : ℕ) (k : Kind) → IsAccess w l i k → IsAccessPlace w i
IsAccessPlace-at w l i Read a = (l, inl a)
IsAccessPlace-at w l i Write a = (l, inr a)

pub read_or_write : (w : List Record) (l i : ℕ) (k : Kind) → IsAccess w l i k → IsRead w l i ⊎ IsWrite w l i
read_or_write w l i Read a = inl a
read_or_write w l i Write a = inr a

same_record : (l : ℕ) (o : Option Record) → (o ≡ Some (records.Read l)) ⊎ (o ≡ Some (records.Read l) → ⊥)
same_record l None = inr (λ e. cc)
same_record l (Some records.Spawn) = inr (λ e. cc)
same_record l (Some records.Call) = inr (λ e. cc)
same_record l (Some records.Return) = inr (λ e. cc)
same_record l (Some records.Sync) = inr (λ e. cc)
same_record l (Some (records.Write m)) = inr (λ e. cc)
same_record l (Some (records.Read m)) = ⊎_elim (λ e. inl (ap (λ (z : ℕ). Some (records.Read z)) e)) (λ n. inr (λ e. n (cc))) (cases_eq m l)

-- whether a place reads the location
pub read_or_not : (w : List Record) (l i : ℕ) → IsRead w l i ⊎ (IsRead w l i → ⊥)
read_or_not w l i = same_record l (at w i)

-- how the kept reader changes at a read at place j
abbrev Next : List Record → ℕ → Option ℕ → Option ℕ → Type 0
Next w j None o = o ≡ Some j
Next w j (Some k) o = (Leads w k j × (o ≡ Some j)) ⊎ ((Leads w k j → ⊥) × (o ≡ Some k))

abbrev Step : List Record → ℕ → ℕ → Option ℕ → Option ℕ → Type 0
Step w l j k o = ((IsRead w l j → ⊥) × (o ≡ k)) ⊎ (IsRead w l j × Next w j k o)

abbrev Before : List Record → ℕ → Option ℕ → ℕ → Type 0
Before w l o j = (k : Option ℕ) × IsKeptReader w l j k × Step w l j k o

-- what was kept one place before
last_step : (w : List Record) (l : ℕ) {p : ℕ} {o : Option ℕ} → IsKeptReader w l p o → (j : ℕ) → p ≡ suc j → 1 ≤ j → Before w l o j
last_step w l nothing_yet j e h = absurd (omega arith)
last_step w l (no_read {j = i} {k = k} n r) j e h = subst (Before w l k) (omega arith) (k, r, inl (n, refl))
last_step w l (first_read {j = i} a r) j e h = subst (Before w l (Some i)) (omega arith) (None, r, inr (a, refl))
last_step w l (replaces {j = i} {k = k} a p r) j e h = subst (Before w l (Some i)) (omega arith) (Some k, r, inr (a, inl (p, refl)))
last_step w l (stays {j = i} {k = k} a p r) j e h = subst (Before w l (Some k)) (omega arith) (Some k, r, inr (a, inr (p, refl)))

-- nothing is said of place 0
pub after_zero : (w : List Record) (l : ℕ) {p : ℕ} {o : Option ℕ} → IsKeptReader w l p o → 1 ≤ p
after_zero w l nothing_yet = omega arith
after_zero w l (no_read n r) = omega arith
after_zero w l (first_read a r) = omega arith
after_zero w l (replaces a p r) = omega arith
after_zero w l (stays a p r) = omega arith

at_one : (w : List Record) (l : ℕ) {p : ℕ} {o : Option ℕ} → IsKeptReader w l p o → p ≡ 1 → o ≡ None
at_one w l nothing_yet e = refl
at_one w l (no_read n r) e = let h = after_zero w l r in absurd (omega arith)
at_one w l (first_read a r) e = let h = after_zero w l r in absurd (omega arith)
at_one w l (replaces a p r) e = let h = after_zero w l r in absurd (omega arith)
at_one w l (stays a p r) e = let h = after_zero w l r in absurd (omega arith)

same_next : (w : List Record) (j : ℕ) (k o p : Option ℕ) → Next w j k o → Next w j k p → o ≡ p
same_next w j None o p a b = cc
same_next w j (Some k) o p (inl a) (inl b) = let x = a.1 in let y = b.1 in cc
same_next w j (Some k) o p (inl a) (inr b) = absurd (b.0 a.0)
same_next w j (Some k) o p (inr a) (inl b) = absurd (a.0 b.0)
same_next w j (Some k) o p (inr a) (inr b) = let x = a.1 in let y = b.1 in cc

same_step : (w : List Record) (l j : ℕ) (k o p : Option ℕ) → Step w l j k o → Step w l j k p → o ≡ p
same_step w l j k o p (inl a) (inl b) = let x = a.1 in let y = b.1 in cc
same_step w l j k o p (inl a) (inr b) = absurd (a.0 b.0)
same_step w l j k o p (inr a) (inl b) = absurd (b.0 a.0)
same_step w l j k o p (inr a) (inr b) = same_next w j k o p a.1 b.1

-- there is no more than one kept reader
pub kept_once : (w : List Record) (l t : ℕ) (o p : Option ℕ) → IsKeptReader w l (suc t) o → IsKeptReader w l (suc t) p → o ≡ p
kept_once w l zero o p a b = let x = at_one w l a refl in let y = at_one w l b refl in cc
kept_once w l (suc t) o p a b =
    let x = last_step w l a (suc t) refl (omega arith) in
    let y = last_step w l b (suc t) refl (omega arith) in
    let e = kept_once w l t x.0 y.0 x.1 y.1 in
    same_step w l (suc t) y.0 o p (subst (λ (k : Option ℕ). Step w l (suc t) k o) e x.2) y.2

-- the kept reader reads the location, below the place
pub kept_reads : (w : List Record) (l : ℕ) {p : ℕ} {o : Option ℕ} → IsKeptReader w l p o → (k : ℕ) → o ≡ Some k → IsRead w l k × (k < p)
kept_reads w l nothing_yet k e = absurd (cc)
kept_reads w l (no_read n r) k e = let x = kept_reads w l r k e in (x.0, omega arith)
kept_reads w l (first_read {j = j} a r) k e = let s : j ≡ k = cc in (subst (IsRead w l) s a, omega arith)
kept_reads w l (replaces {j = j} a p r) k e = let s : j ≡ k = cc in (subst (IsRead w l) s a, omega arith)
kept_reads w l (stays a p r) k e = let x = kept_reads w l r k e in (x.0, omega arith)

abbrev AnyKept : List Record → ℕ → ℕ → Type 0
AnyKept w l j = (o : Option ℕ) × IsKeptReader w l j o

-- there is a kept reader before each place, or still nothing
pub kept_exists : (w : List Record) {n d : ℕ} → IsWellNested w n d → (l t : ℕ) → (o : Option ℕ) × IsKeptReader w l (suc t) o
kept_exists w v l zero = (None, nothing_yet)
kept_exists w v l (suc t) = go (kept_exists w v l t) (read_or_not w l (suc t))
  where
    go : AnyKept w l (suc t) → IsRead w l (suc t) ⊎ (IsRead w l (suc t) → ⊥) → AnyKept w l (suc (suc t))
    go (o, r) (inr n) = (o, no_read n r)
    go (None, r) (inl a) = (Some (suc t), first_read a r)
    go (Some k, r) (inl a) =
        let x = kept_reads w l r k refl in
        ⊎_elim (λ p. (Some (suc t), replaces a p r)) (λ p. (Some k, stays a p.not_forth r))
        (leads_or_parallel w v k (suc t) (IsPlace-at w k _ x.0) (IsPlace-at w (suc t) _ a) x.1)

abbrev KeptParallel : List Record → ℕ → Option ℕ → Type 0
KeptParallel w j o = (k : ℕ) × (o ≡ Some k) × IsParallel w k j

-- a read to which a path leads from a parallel one is parallel
replaced : (w : List Record) {n d : ℕ} → IsWellNested w n d → (l m k j : ℕ) → IsAccessPlace w j → IsRead w l m → Leads w k m → IsKeptReader w l m (Some k) → suc m ≤ j → (q : ℕ) → Some k ≡ Some q → IsParallel w q j → KeptParallel w j (Some m)
replaced w v l m k j y c p r h q e z =
    let x = kept_reads w l r k refl in
    let s : q ≡ k = cc in
    (m, refl, parallel_after w v k m j x.1 h (l, inl x.0) (l, inl c) y p (subst (λ (z : ℕ). IsParallel w z j) s z))

-- a kept reader that is parallel to a later read is parallel to what that one is parallel to
stayed : (w : List Record) {n d : ℕ} → IsWellNested w n d → (l m k j : ℕ) → IsAccessPlace w j → IsRead w l m → (Leads w k m → ⊥) → IsKeptReader w l m (Some k) → suc m ≤ j → IsParallel w m j → KeptParallel w j (Some k)
stayed w v l m k j y c p r h q =
    let x = kept_reads w l r k refl in (
      k,
      refl,
      ⊎_elim (λ z. absurd (p z)) (λ z. parallel_through w v k m j x.1 h (l, inl x.0) (l, inl c) y z q)
          (leads_or_parallel w v k m (IsPlace-at w k _ x.0) (IsPlace-at w m _ c) x.1),
    )

-- where any read before an access is parallel to it, the kept one is
pub kept_parallel : (w : List Record) {n d : ℕ} → IsWellNested w n d → (l j : ℕ) → IsAccessPlace w j → {p : ℕ} {o : Option ℕ} → IsKeptReader w l p o → p ≤ j → (i : ℕ) → IsRead w l i → i < p → IsParallel w i j → (k : ℕ) × (o ≡ Some k) × IsParallel w k j
kept_parallel w v l j y nothing_yet h i a b q = let x = IsPlace-at w i _ a in absurd (omega arith)
kept_parallel w v l j y (no_read {j = m} f r) h i a b q =
    let ne : i ≡ m → ⊥ = λ e. f (subst (IsRead w l) e a) in
    kept_parallel w v l j y r (omega arith) i a (omega arith) q
kept_parallel w v l j y (first_read {j = m} c r) h i a b q =
    ⊎_elim
    (λ (s : i < m). let x = kept_parallel w v l j y r (omega arith) i a s q in let z = x.1 in absurd (cc))
    (λ (s : m ≤ i). (m, refl, subst (λ (z : ℕ). IsParallel w z j) (omega arith) q))
    (cases_lt i m)
kept_parallel w v l j y (replaces {j = m} {k = k} c p r) h i a b q =
    ⊎_elim
    (λ (s : i < m). let x = kept_parallel w v l j y r (omega arith) i a s q in replaced w v l m k j y c p r h x.0 x.1 x.2)
    (λ (s : m ≤ i). (m, refl, subst (λ (z : ℕ). IsParallel w z j) (omega arith) q))
    (cases_lt i m)
kept_parallel w v l j y (stays {j = m} {k = k} c p r) h i a b q =
    ⊎_elim
    (λ (s : i < m). kept_parallel w v l j y r (omega arith) i a s q)
    (λ (s : m ≤ i). stayed w v l m k j y c p r h (subst (λ (z : ℕ). IsParallel w z j) (omega arith) q))
    (cases_lt i m)

-- no race of the location has its second place before j
abbrev pub NoneBefore : List Record → ℕ → ℕ → Type 0
NoneBefore w l j = (h k : ℕ) → IsRace w l h k → k < j → ⊥

-- where any write before an access is parallel to it, the last one is, unless an earlier place ends a race
pub last_write_parallel : (w : List Record) {n d : ℕ} → IsWellNested w n d → (l j i k : ℕ) → IsAccessPlace w j → NoneBefore w l j → IsWrite w l i → i < j → IsParallel w i j → IsLastWrite w l j k → IsParallel w k j
last_write_parallel w v l j i k y f a h p b =
    ⊎_elim (λ e. subst (λ (z : ℕ). IsParallel w z j) e p)
    (λ c. ⊎_elim
    (λ (s : i < k). ⊎_elim
    (λ q. parallel_after w v i k j s b.before (l, inr a) (l, inr b.a_write) y q p)
    (λ q. absurd (f i k (record { in_order = s; first = inr a; second = inr b.a_write; one_writes = inl a; parallel = q }) b.before))
    (leads_or_parallel w v i k (IsPlace-at w i _ a) (IsPlace-at w k _ b.a_write) s))
    (λ (s : k < i). absurd (b.none_between i s h a)) c)
    (cases_order i k)

second_from : (w : List Record) (l i j : ℕ) → NoneBefore w l j → IsRace w l i j → IsSecond w l j
second_from w l i j f r = record { race = (i, r); least = λ h k q. ⊎_elim (λ (s : k < j). absurd (f h k q s)) (λ s. s) (cases_lt k j) }

-- the race with the last write
pub reported_by_write : (w : List Record) (l i j : ℕ) (k : Kind) → NoneBefore w l j → IsAccess w l j k → IsLastWrite w l j i → IsParallel w i j
    → IsReported w (record { location = l; first = record { kind = Write; place = i }; second = record { kind = k; place = j } })
reported_by_write w l i j k f a b p = record {
  second = second_from w l i j f (record { in_order = b.before; first = inr b.a_write; second = read_or_write w l j k a; one_writes = inl b.a_write; parallel = p });
  first = last_write b p;
  first_kind = b.a_write;
  second_kind = a;
}

-- the race with the kept reader
pub reported_by_reader : (w : List Record) (l i j : ℕ) → NoneBefore w l j → IsWrite w l j → ((k : ℕ) → IsLastWrite w l j k → IsParallel w k j → ⊥) → IsKeptReader w l j (Some i) → IsParallel w i j
    → IsReported w (record { location = l; first = record { kind = Read; place = i }; second = record { kind = Write; place = j } })
reported_by_reader w l i j f a g r p =
    let x = kept_reads w l r i refl in
    record {
      second = second_from w l i j f (record { in_order = x.1; first = inl x.0; second = inr a; one_writes = inr a; parallel = p });
      first = kept_reader g r;
      first_kind = x.0;
      second_kind = a;
    }

-- no write before place j is parallel to it
abbrev pub NoWrite : List Record → ℕ → ℕ → Type 0
NoWrite w l j = (i : ℕ) → IsWrite w l i → i < j → IsParallel w i j → ⊥

-- no read before place j is parallel to it
abbrev pub NoRead : List Record → ℕ → ℕ → Type 0
NoRead w l j = (i : ℕ) → IsRead w l i → i < j → IsParallel w i j → ⊥

pub no_race_at_read : (w : List Record) (l j : ℕ) → IsRead w l j → NoWrite w l j → (i : ℕ) → IsRace w l i j → ⊥
no_race_at_read w l j a f i r =
    ⊎_elim (λ b. f i b r.in_order r.parallel) (λ b. let e : Some (records.Read l) ≡ Some (records.Write l) = sym a ∙ b in absurd (cc)) r.one_writes

pub no_race_at_write : (w : List Record) (l j : ℕ) → NoWrite w l j → NoRead w l j → (i : ℕ) → IsRace w l i j → ⊥
no_race_at_write w l j f g i r = ⊎_elim (λ a. g i a r.in_order r.parallel) (λ a. f i a r.in_order r.parallel) r.first

-- where the kept reader isn't parallel to an access, no read is
pub no_read_parallel : (w : List Record) {n d : ℕ} → IsWellNested w n d → (l j : ℕ) → IsAccessPlace w j → (o : Option ℕ) → IsKeptReader w l j o → ((k : ℕ) → o ≡ Some k → IsParallel w k j → ⊥) → NoRead w l j
no_read_parallel w v l j y o r f i a h p = let x = kept_parallel w v l j y r (omega arith) i a h p in f x.0 x.1 x.2

-- where any read before an access is parallel to it, there is a kept reader, and it is parallel
pub kept_parallel_at : (w : List Record) {n d : ℕ} → IsWellNested w n d → (l i j : ℕ) → i < j → IsRead w l i → IsAccessPlace w j → IsParallel w i j → (k : ℕ) × IsKeptReader w l j (Some k) × IsParallel w k j
kept_parallel_at w v l i zero h a y p = absurd (omega arith)
kept_parallel_at w v l i (suc t) h a y p =
    let o = kept_exists w v l t in
    let x = kept_parallel w v l (suc t) y o.1 (omega arith) i a h p in
    (x.0, subst (IsKeptReader w l (suc t)) x.1 o.1, x.2)
