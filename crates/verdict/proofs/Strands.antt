-- Accesses of one strand: no structure record between, and a path from each to the next.
use Rattle.verdict.proofs.Common.{false, Some, ◌≡◌, ℕ, zero, suc, ◌+◌, ◌<◌, ◌≤◌, true, ◌↔◌, List, [], ◌∷◌, length, take, inl, inr, refl, sym, ap, subst, ◌∙◌, arith, cases_Bool, cases_lt, Record, Spawn, Call, Return, Sync, Read, Write, at, depth, IsWellNested, IsAccessPlace, element_at, access-place, access-not_joins, in_p, current, is_structure}
use Rattle.dag.specs.Dag.{Edge, continuation, Leads, IsParallel}
use Rattle.dag.proofs.Openers.{stays_deep}
use Rattle.bags.proofs.BagPaths.{in_p-parallel}
use Rattle.verdict.proofs.Structure.{structure, number, number-le, number-lt, access-structure, bags_at, same_bags}

-- only accesses stand after place s and up to place t
abbrev pub OneStrand : List Record → ℕ → ℕ → Type 0
OneStrand w s t = (m : ℕ) → s < m → m ≤ t → IsAccessPlace w m

access_record : (w : List Record) (m : ℕ) (r : Record) → at w m ≡ Some r → is_structure r ≡ false → IsAccessPlace w m
access_record w m Spawn e n = absurd (cc)
access_record w m Call e n = absurd (cc)
access_record w m Return e n = absurd (cc)
access_record w m Sync e n = absurd (cc)
access_record w m (Read l) e n = (l, inl e)
access_record w m (Write l) e n = (l, inr e)

pub no_structure : (w : List Record) (m : ℕ) (r : Record) → IsAccessPlace w m → at w m ≡ Some r → is_structure r ≡ false
no_structure w m r (l, inl e) a = let f : Read l ≡ r = cc in subst (λ (z : Record). is_structure z ≡ false) f refl
no_structure w m r (l, inr e) a = let f : Write l ≡ r = cc in subst (λ (z : Record). is_structure z ≡ false) f refl

one_access : (w : List Record) (t : ℕ) → IsAccessPlace w (suc t) → structure (take (suc t) w) ≡ structure (take t w)
one_access w t (l, inl e) = access-structure w t (Read l) e refl
one_access w t (l, inr e) = access-structure w t (Write l) e refl

pub one_strand-structure : (w : List Record) (s t : ℕ) → s ≤ t → OneStrand w s t → structure (take t w) ≡ structure (take s w)
one_strand-structure w s zero h f = let e : zero ≡ s = omega arith in ap (λ (z : ℕ). structure (take z w)) e
one_strand-structure w s (suc t) h f = elim (cases_lt s (suc t)) [
  | inl a ↦ one_access w t (f (suc t) a (omega arith)) ∙ one_strand-structure w s t (omega arith) (λ m b c. f m b (omega arith))
  | inr a ↦ (let e : suc t ≡ s = omega arith in ap (λ (z : ℕ). structure (take z w)) e)
]

between : (w : List Record) (s t k : ℕ) → number w s ≡ number w t → t ≤ length w → s ≤ k → k < t → IsAccessPlace w (suc k)
between w s t k e l a b =
    let q = element_at w k (omega arith) in
    elim (cases_Bool (is_structure q.0)) [
      | inl y ↦ absurd (omega (arith, number-le w s k a, number-lt w k t q.0 b q.1 y))
      | inr n ↦ access_record w (suc k) q.0 q.1 n
    ]

-- where no structure record stands between
pub one_strand : (w : List Record) (s t : ℕ) → number w s ≡ number w t → t ≤ length w → OneStrand w s t
one_strand w s t e l zero a b = absurd (omega arith)
one_strand w s t e l (suc k) a b = between w s t k e l (omega arith) (omega arith)

access_deep : (w : List Record) {n d : ℕ} → IsWellNested w n d → (i : ℕ) → 1 ≤ i → i < length w → IsAccessPlace w i → depth w (suc i) ≡ depth w i
access_deep w h i a b (l, inl e) = stays_deep w h i (Read l) a b e (inr (inl (l, refl)))
access_deep w h i a b (l, inr e) = stays_deep w h i (Write l) a b e (inr (inr (l, refl)))

one_edge : (w : List Record) {n d : ℕ} → IsWellNested w n d → (i : ℕ) → IsAccessPlace w i → i < length w → Edge w i (suc i)
one_edge w h i a b =
    let p = access-place w i a in
    continuation p (omega arith, omega arith) (omega arith) (record {
      no_return = λ e. access-not_joins w i a (inr e);
      same_depth = access_deep w h i p.0 b a;
      deeper_between = λ k x y. absurd (omega arith);
    })

pub strand_leads : (w : List Record) {n d : ℕ} → IsWellNested w n d → (k s t : ℕ) → t ≡ s + suc k → OneStrand w s t → IsAccessPlace w (suc t) → Leads w (suc s) (suc t)
strand_leads w h zero s t e f a =
    let g : suc (suc s) ≡ suc t = omega arith in
    let p = access-place w (suc t) a in
    (suc t ∷ [], (subst (Edge w (suc s)) g (one_edge w h (suc s) (f (suc s) (omega arith) (omega arith)) (omega (arith, p.1))), p), refl)
strand_leads w h (suc k) s t e f a =
    let q = strand_leads w h k (suc s) t (omega arith) (λ m b c. f m (omega arith) c) a in
    let p = access-place w (suc t) a in
    (suc (suc s) ∷ q.0, (one_edge w h (suc s) (f (suc s) (omega arith) (omega arith)) (omega (arith, p.1)), q.1), q.2)

-- whether two accesses are parallel is known by the bags before each of them
pub parallel-bags : (w : List Record) {n d : ℕ} → IsWellNested w n d → (s t : ℕ) → s < t → IsAccessPlace w (suc s) → IsAccessPlace w (suc t)
    → (in_p (bags_at w t).active (current (bags_at w s).active) ≡ true) ↔ IsParallel w (suc s) (suc t)
parallel-bags w h s t l a b = in_p-parallel w h (suc s) t (access-place w (suc s) a) (omega arith) b

pub parallel-moved : (w v : List Record) {n d m c : ℕ} → IsWellNested w n d → IsWellNested v m c → (s t p q : ℕ) → s < t → p < q
    → IsAccessPlace w (suc s) → IsAccessPlace w (suc t) → IsAccessPlace v (suc p) → IsAccessPlace v (suc q)
    → structure (take s w) ≡ structure (take p v) → structure (take t w) ≡ structure (take q v) → IsParallel w (suc s) (suc t) → IsParallel v (suc p) (suc q)
parallel-moved w v h k s t p q l r a b x y c d z =
    let e = same_bags w v s p c in
    let f = same_bags w v t q d in
    let i : in_p (bags_at w t).active (current (bags_at w s).active) ≡ in_p (bags_at v q).active (current (bags_at v p).active) = λ j. in_p (f j).active (current (e j).active) in
    (parallel-bags v k p q r x y).0 (sym i ∙ (parallel-bags w h s t l a b).1 z)
