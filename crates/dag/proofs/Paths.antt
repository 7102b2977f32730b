-- Paths of a well nested trace: where one leads and where two places are parallel, that parallel
-- accesses are so through others, and the one way out of a procedure.
use Rattle.dag.proofs.Common.{◌≡◌, ℕ, zero, suc, ◌<◌, ◌≤◌, List, Some, ◌⊎◌, inl, inr, sym, arith, Record, at, IsPlace, IsWellNested, JoinsAt, Leads, IsParallel, IsInPart, OneWayOut, IsAccessPlace, access, slice_get_within}
use Rattle.dag.specs.declared.records.Kind.TheVariants.{Read, Write}
use Rattle.dag.proofs.World.{Pending, Within, decided, sound, not-reach, pending_through, pending_after, way_out, way_from}
use Rattle.dag.proofs.Traced.{traced, returns-shape, leads-reach, reach-leads, leads-le}

-- a pending return makes two places parallel
pub pending-parallel : (w : List Record) {n d : ℕ} (h : IsWellNested w n d) (i j r : ℕ) → IsPlace w i → IsPlace w j → i < j → Pending (traced w h) i j r → IsParallel w i j
pending-parallel w h i j r a b l p = record {
  first = a;
  second = b;
  apart = λ e. omega arith;
  not_forth = λ q. sound (traced w h) i j r (leads-reach w h i j q) p;
  not_back = λ q. (let b : j ≤ i = leads-le w j i q in omega arith);
}

pub parallel-pending : (w : List Record) {n d : ℕ} (h : IsWellNested w n d) (i j : ℕ) → IsPlace w i → IsPlace w j → i < j → IsParallel w i j → (r : ℕ) × Pending (traced w h) i j r
parallel-pending w h i j a b l p = not-reach (traced w h) i j a.0 (omega arith) b.1 (λ q. p.not_forth (reach-leads w h i j q))

-- of two places a path leads, or they are parallel
pub leads_or_parallel : (w : List Record) {n d : ℕ} → IsWellNested w n d → (i j : ℕ) → IsPlace w i → IsPlace w j → i < j → Leads w i j ⊎ IsParallel w i j
leads_or_parallel w h i j a b l = elim (decided (traced w h) i j a.0 (omega arith) b.1) [
  | inl p ↦ inr (pending-parallel w h i j p.0 a b l p.1)
  | inr q ↦ inl (reach-leads w h i j q)
]

pub parallel_either_way : (w : List Record) (i j : ℕ) → IsParallel w i j → IsPlace w i × IsPlace w j × IsParallel w j i
parallel_either_way w i j p = (p.first, p.second, record { first = p.second; second = p.first; apart = λ e. p.apart (sym e); not_forth = p.not_back; not_back = p.not_forth })

-- pseudotransitivity of places

pub parallel_places_through : (w : List Record) {n d : ℕ} → IsWellNested w n d → (i j k : ℕ) → i < j → j < k → IsPlace w i → IsPlace w k → IsParallel w i j → IsParallel w j k → IsParallel w i k
parallel_places_through w h i j k l m a c p q =
    let b : IsPlace w j = (omega (arith, a.0), omega (arith, c.1)) in
    let r = parallel-pending w h i j a b l p in
    let s = parallel-pending w h j k b c m q in
    let t = pending_through (traced w h) i j k r.0 s.0 r.1 s.1 in
    pending-parallel w h i k t.0 a c (omega arith) t.1

pub parallel_places_after : (w : List Record) {n d : ℕ} → IsWellNested w n d → (i j k : ℕ) → i < j → j < k → IsPlace w i → IsPlace w k → Leads w i j → IsParallel w i k → IsParallel w j k
parallel_places_after w h i j k l m a c p q =
    let s = parallel-pending w h i k a c (omega arith) q in
    pending-parallel w h j k s.0 (omega (arith, a.0), omega (arith, c.1)) c m (pending_after (traced w h) i j k s.0 a.0 (omega arith) (omega arith) c.1 (leads-reach w h i j p) s.1)

-- where a record stands there is a place
pub IsPlace-at : (w : List Record) (i : ℕ) (r : Record) → at w i ≡ Some r → IsPlace w i
IsPlace-at w zero r e = absurd (cc)
IsPlace-at w (suc i) r e = (omega arith, slice_get_within w i r e)

pub access-place : (w : List Record) (i : ℕ) → IsAccessPlace w i → IsPlace w i
access-place w i (l, inl e) = IsPlace-at w i (access Read l) e
access-place w i (l, inr e) = IsPlace-at w i (access Write l) e

pub access-not_joins : (w : List Record) (i : ℕ) → IsAccessPlace w i → JoinsAt w i → ⊥
access-not_joins w i (l, inl e) (inl q) = cc
access-not_joins w i (l, inl e) (inr q) = cc
access-not_joins w i (l, inr e) (inl q) = cc
access-not_joins w i (l, inr e) (inr q) = cc

pub parallel_through : (w : List Record) {n d : ℕ} → IsWellNested w n d → (i j k : ℕ) → i < j → j < k → IsAccessPlace w i → IsAccessPlace w j → IsAccessPlace w k → IsParallel w i j → IsParallel w j k → IsParallel w i k
parallel_through w h i j k l m a b c p q = parallel_places_through w h i j k l m (access-place w i a) (access-place w k c) p q

pub parallel_after : (w : List Record) {n d : ℕ} → IsWellNested w n d → (i j k : ℕ) → i < j → j < k → IsAccessPlace w i → IsAccessPlace w j → IsAccessPlace w k → Leads w i j → IsParallel w i k → IsParallel w j k
parallel_after w h i j k l m a b c p q = parallel_places_after w h i j k l m (access-place w i a) (access-place w k c) p q

-- the one way out

pub in_part-within : (w : List Record) {n d : ℕ} (h : IsWellNested w n d) (i r : ℕ) → IsInPart w i r → Within (traced w h) i r
in_part-within w h i r p = record { upto = p.upto; a_return = returns-shape _ (at w r) p.a_return; inside = p.inside }

pub one_way_out : (w : List Record) {n d : ℕ} → IsWellNested w n d → OneWayOut w
one_way_out w h i r j a b p l = (
  (λ q. reach-leads w h r j (way_out (traced w h) i r j a.0 (omega arith) b.1 (in_part-within w h i r p) (leads-reach w h i j q))),
  (λ q. reach-leads w h i j (way_from (traced w h) i r j a.0 (omega (arith, b.1)) (in_part-within w h i r p) (leads-reach w h r j q))),
)
