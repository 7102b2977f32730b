-- Where accesses of one strand change their order the trace stays well nested, and the same locations have races.
use Rattle.verdict.proofs.Common.{◌≡◌, ℕ, zero, suc, ◌<◌, ◌≤◌, ◌↔◌, Bool, true, false, cond, List, [], ◌∷◌, ◌++◌, length, take, slice_get, Some, inl, inr, refl, sym, ap, subst, ◌∙◌, length-append, arith, All, Contains, cases_lt, Record, Return, depth, IsPlace, IsRootReturn, IsWellNested, HasRace, element_at, slice_get-front, is_structure, IsReordered}
use Rattle.std.specs.List.Sorted.{IsPermutation}
use Rattle.std.proofs.lemmas.List.Elements.{All-head, All-tail}
use Rattle.std.proofs.lemmas.List.Sorted.{IsPermutation-sym, length_permutation, All-permutation, Contains-permutation}
use Rattle.std.proofs.lemmas.Option.{get_or_from_slice_get, slice_get-get_or, slice_get_within}
use Rattle.verdict.proofs.Structure.{structure, take-none, same_depth}
use Rattle.verdict.proofs.Racy.{Accesses, Stands, racy-stands}

abbrev AreAccesses : List Record → Type 0
AreAccesses s = All (λ r. is_structure r ≡ false) s

head-structure : (x : Record) (s u : List Record) → AreAccesses (x ∷ s) → structure (x ∷ u) ≡ structure u
head-structure x s u a = ap (λ (c : Bool). cond c (x ∷ structure u) (structure u)) (All-head (λ r. is_structure r ≡ false) x s a)

tail : (x : Record) (s : List Record) → AreAccesses (x ∷ s) → AreAccesses s
tail x s a = All-tail (λ r. is_structure r ≡ false) x s a

-- within the strand there is no structure record
within-structure : (s after : List Record) (t : ℕ) → AreAccesses s → t ≤ length s → structure (take t (s ++ after)) ≡ []
within-structure s after zero a l = ap structure (take-none (s ++ after))
within-structure [] after (suc t) a l = absurd (omega arith)
within-structure (x ∷ s) after (suc t) a l = head-structure x s (take t (s ++ after)) a ∙ within-structure s after t (tail x s a) (omega arith)

-- the same ones stand before each place
same-structure : (s o after : List Record) (t : ℕ) → AreAccesses s → AreAccesses o → length o ≡ length s → structure (take t (o ++ after)) ≡ structure (take t (s ++ after))
same-structure [] [] after t a b l = refl
same-structure [] (y ∷ o) after t a b l = absurd (omega arith)
same-structure (x ∷ s) [] after t a b l = absurd (omega arith)
same-structure (x ∷ s) (y ∷ o) after zero a b l = refl
same-structure (x ∷ s) (y ∷ o) after (suc t) a b l =
    head-structure y o (take t (o ++ after)) b
    ∙ (same-structure s o after t (tail x s a) (tail y o b) (omega arith)
    ∙ sym (head-structure x s (take t (s ++ after)) a))

-- each record after the strand keeps its place
later : (s o after : List Record) (t : ℕ) → length o ≡ length s → length s ≤ t → slice_get (o ++ after) t ≡ slice_get (s ++ after) t
later [] [] after t l m = refl
later [] (y ∷ o) after t l m = absurd (omega arith)
later (x ∷ s) [] after t l m = absurd (omega arith)
later (x ∷ s) (y ∷ o) after zero l m = absurd (omega arith)
later (x ∷ s) (y ∷ o) after (suc t) l m = later s o after t (omega arith) (omega arith)

-- and each structure record does
structure_same : (s o after : List Record) (t : ℕ) (r : Record) → AreAccesses o → length o ≡ length s → is_structure r ≡ true → slice_get (o ++ after) t ≡ Some r → slice_get (s ++ after) t ≡ Some r
structure_same [] [] after t r b l y g = g
structure_same [] (z ∷ o) after t r b l y g = absurd (omega arith)
structure_same (x ∷ s) [] after t r b l y g = absurd (omega arith)
structure_same (x ∷ s) (z ∷ o) after zero r b l y g =
    let n : is_structure z ≡ false = All-head (λ r. is_structure r ≡ false) z o b in
    let e : z ≡ r = cc in
    absurd (cc)
structure_same (x ∷ s) (z ∷ o) after (suc t) r b l y g = structure_same s o after t r (tail z o b) (omega arith) y g

-- a record stands in v at some index, in the strand of index t of w
record Moved (w v : List Record) (t : ℕ) (r : Record) : Type 0 where
  p : ℕ
  there : slice_get v p ≡ Some r
  strand : structure (take p v) ≡ structure (take t w)

moved-later : (x : Record) (w v : List Record) (t : ℕ) (r : Record) → Moved w v t r → Moved (x ∷ w) (x ∷ v) (suc t) r
moved-later x w v t r m = record { p = suc m.p; there = m.there; strand = ap (λ (u : List Record). cond (is_structure x) (x ∷ u) u) m.strand }

contains_at : (s : List Record) (t : ℕ) (r : Record) → slice_get s t ≡ Some r → Contains s r
contains_at s t r g = (t, slice_get_within s t r g, get_or_from_slice_get s t r r g)

at_contains : (s : List Record) (r : Record) → Contains s r → (k : ℕ) × (slice_get s k ≡ Some r)
at_contains s r c = (c.0, slice_get-get_or s c.0 r c.1 ∙ ap Some c.2)

module _ (s o after : List Record) (a : AreAccesses s) (m : IsPermutation s o) where
  b : AreAccesses o
  b = All-permutation (λ r. is_structure r ≡ false) s o m a

  same_length : length o ≡ length s
  same_length = length_permutation s o m

  moved-within : (t : ℕ) (r : Record) → t < length s → slice_get s t ≡ Some r → Moved (s ++ after) (o ++ after) t r
  moved-within t r l g =
      let k = at_contains o r (Contains-permutation s o r m (contains_at s t r g)) in
      record {
        p = k.0;
        there = slice_get-front o after k.0 r k.1;
        strand = within-structure o after k.0 b (omega (arith, slice_get_within o k.0 r k.1)) ∙ sym (within-structure s after t a (omega arith));
      }

  moved-here : (t : ℕ) (r : Record) → slice_get (s ++ after) t ≡ Some r → Moved (s ++ after) (o ++ after) t r
  moved-here t r g = elim (cases_lt t (length s)) [
    | inl l ↦ (let q = element_at s t l in moved-within t r l (q.1 ∙ (sym (slice_get-front s after t q.0 q.1) ∙ g)))
    | inr l ↦ record { p = t; there = later s o after t same_length l ∙ g; strand = same-structure s o after t a b same_length }
  ]

  moved-there : (before : List Record) (t : ℕ) (r : Record) → slice_get (before ++ (s ++ after)) t ≡ Some r → Moved (before ++ (s ++ after)) (before ++ (o ++ after)) t r
  moved-there [] t r g = moved-here t r g
  moved-there (x ∷ before) zero r g = record { p = 0; there = g; strand = refl }
  moved-there (x ∷ before) (suc t) r g = moved-later x _ _ t r (moved-there before t r g)

  structure-there : (before : List Record) (t : ℕ) → structure (take t (before ++ (o ++ after))) ≡ structure (take t (before ++ (s ++ after)))
  structure-there [] t = same-structure s o after t a b same_length
  structure-there (x ∷ before) zero = refl
  structure-there (x ∷ before) (suc t) = ap (λ (u : List Record). cond (is_structure x) (x ∷ u) u) (structure-there before t)

  there_same : (before : List Record) (t : ℕ) (r : Record) → is_structure r ≡ true → slice_get (before ++ (o ++ after)) t ≡ Some r → slice_get (before ++ (s ++ after)) t ≡ Some r
  there_same [] t r y g = structure_same s o after t r b same_length y g
  there_same (x ∷ before) zero r y g = g
  there_same (x ∷ before) (suc t) r y g = there_same before t r y g

  pub length-there : (before : List Record) → length (before ++ (o ++ after)) ≡ length (before ++ (s ++ after))
  length-there before = omega (arith, length-append before (o ++ after), length-append before (s ++ after), length-append o after, length-append s after, same_length)

  pub stands-there : (before : List Record) (l t : ℕ) → Accesses (before ++ (s ++ after)) l (suc t) → Stands (before ++ (s ++ after)) (before ++ (o ++ after)) l t
  stands-there before l t (inl g) =
      let k = moved-there before t _ g in
      record { s = k.p; strand = k.strand; accesses = inl k.there; covers = inr g }
  stands-there before l t (inr g) =
      let k = moved-there before t _ g in
      record { s = k.p; strand = k.strand; accesses = inr k.there; covers = inl k.there }

  root_return : (before : List Record) (i : ℕ) → IsRootReturn (before ++ (o ++ after)) i → IsRootReturn (before ++ (s ++ after)) i
  root_return before zero x = let e = x.a_return in absurd (cc)
  root_return before (suc t) x = record { a_return = there_same before t Return refl x.a_return; at_zero = sym (same_depth _ _ t t (structure-there before t)) ∙ x.at_zero }

-- the other order is as well nested
module _ (w v : List Record) (n d : ℕ) (h : IsWellNested w n d) (l : length v ≡ length w) (same : (t : ℕ) → structure (take t v) ≡ structure (take t w))
    (forth : (i : ℕ) → IsRootReturn w i → IsRootReturn v i) (back : (i : ℕ) → IsRootReturn v i → IsRootReturn w i) where
  not_too_deep : (i : ℕ) → IsPlace v i → depth v i ≤ d
  not_too_deep zero p = absurd (omega (arith, p.0))
  not_too_deep (suc t) p = omega (arith, h.not_too_deep (suc t) (omega arith, omega (arith, p.1, l)), same_depth v w t t (same t))

  nested-same : IsWellNested v n d
  nested-same = record {
    some = omega (arith, h.some);
    within = omega (arith, h.within);
    last = subst (IsRootReturn v) (sym l) (forth (length w) h.last);
    no_earlier = λ i b x. h.no_earlier i (omega arith) (back i x);
    not_too_deep = λ i p. not_too_deep i p;
  }

other_way : (w v : List Record) → IsReordered w v → IsReordered v w
other_way w v r = record {
  before = r.before;
  strand = r.other;
  other = r.strand;
  after = r.after;
  accesses = All-permutation (λ r. is_structure r ≡ false) r.strand r.other r.permuted r.accesses;
  permuted = IsPermutation-sym r.strand r.other r.permuted;
  was = r.is;
  is = r.was;
}

reordered-length : (w v : List Record) → IsReordered w v → length v ≡ length w
reordered-length w v r = ap length r.is ∙ (length-there r.strand r.other r.after r.accesses r.permuted r.before ∙ sym (ap length r.was))

reordered-structure : (w v : List Record) → IsReordered w v → (t : ℕ) → structure (take t v) ≡ structure (take t w)
reordered-structure w v r t =
    ap (λ (u : List Record). structure (take t u)) r.is
    ∙ (structure-there r.strand r.other r.after r.accesses r.permuted r.before t
    ∙ sym (ap (λ (u : List Record). structure (take t u)) r.was))

reordered-return : (w v : List Record) → IsReordered w v → (i : ℕ) → IsRootReturn v i → IsRootReturn w i
reordered-return w v r i x =
    subst (λ (u : List Record). IsRootReturn u i) (sym r.was)
    (root_return r.strand r.other r.after r.accesses r.permuted r.before i (subst (λ (u : List Record). IsRootReturn u i) r.is x))

pub reordered-nested : (w v : List Record) (n d : ℕ) → IsWellNested w n d → IsReordered w v → IsWellNested v n d
reordered-nested w v n d h r = nested-same w v n d h (reordered-length w v r) (reordered-structure w v r) (reordered-return v w (other_way w v r)) (reordered-return w v r)

reordered-stands : (w v : List Record) → IsReordered w v → (l t : ℕ) → Accesses w l (suc t) → Stands w v l t
reordered-stands w v r l t a =
    subst (λ (u : List Record). Stands w u l t) (sym r.is)
    (subst (λ (u : List Record). Accesses u l (suc t) → Stands u (r.before ++ (r.other ++ r.after)) l t) (sym r.was)
    (stands-there r.strand r.other r.after r.accesses r.permuted r.before l t) a)

pub reordered-racy : (w v : List Record) (n d : ℕ) → IsWellNested w n d → IsReordered w v → (l : ℕ) → HasRace v l ↔ HasRace w l
reordered-racy w v n d h r l =
    let k = reordered-nested w v n d h r in
    ((λ x. racy-stands v w k h l (reordered-stands v w (other_way w v r) l) x), (λ x. racy-stands w v h k l (reordered-stands w v r l) x))
