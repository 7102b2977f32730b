-- Where for each access of a location another trace has one in the same strand, the races of the location are there too.
use Rattle.verdict.proofs.Common.{◌≡◌, ℕ, zero, suc, ◌-◌, ◌<◌, List, length, take, ◌⊎◌, inl, inr, refl, sym, ap, ◌∙◌, arith, cases_lt, Record, at, IsWellNested, IsRead, IsWrite, IsRace, HasRace, access-place}
use Rattle.verdict.proofs.Structure.{structure, number, number-le}
use Rattle.verdict.proofs.Strands.{one_strand, strand_leads, parallel-moved}

abbrev pub Accesses : List Record → ℕ → ℕ → Type 0
Accesses w l i = IsRead w l i ⊎ IsWrite w l i

pub no_access_at_0 : (w : List Record) (l : ℕ) → Accesses w l 0 → ⊥
no_access_at_0 w l (inl e) = absurd (cc)
no_access_at_0 w l (inr e) = absurd (cc)

pub one_location : (w : List Record) (l m i : ℕ) → Accesses w l i → Accesses w m i → m ≡ l
one_location w l m i (inl a) (inl b) = cc
one_location w l m i (inl a) (inr b) = absurd (cc)
one_location w l m i (inr a) (inl b) = absurd (cc)
one_location w l m i (inr a) (inr b) = cc

pub read_or_write : (w : List Record) (l i : ℕ) → Accesses w l i → IsWrite w l i ⊎ IsRead w l i
read_or_write w l i (inl a) = inr a
read_or_write w l i (inr a) = inl a

pub moved : (w v : List Record) (l i j : ℕ) → at w i ≡ at v j → Accesses v l j → Accesses w l i
moved w v l i j e (inl a) = inl (e ∙ a)
moved w v l i j e (inr a) = inr (e ∙ a)

-- An access of v in the strand of the access of w at place suc t: of the same location, and it writes where that does.
pub record Stands (w v : List Record) (l t : ℕ) : Type 0 where
  pub s : ℕ
  pub strand : structure (take s v) ≡ structure (take t w)
  pub accesses : Accesses v l (suc s)
  pub covers : IsWrite v l (suc s) ⊎ IsRead w l (suc t)

abbrev pub itself : (w : List Record) (l t : ℕ) → Accesses w l (suc t) → Stands w w l t
itself w l t a = record { s = t; strand = refl; accesses = a; covers = read_or_write w l (suc t) a }

pub writes_too : (w v : List Record) (l i j : ℕ) → IsWrite v l i ⊎ IsRead w l j → IsWrite w l j → IsWrite v l i
writes_too w v l i j (inl a) b = a
writes_too w v l i j (inr a) b = absurd (cc)

-- the accesses of a race lie in two strands, since a path leads from each access of a strand to the next
pub two_strands : (w : List Record) {n d : ℕ} → IsWellNested w n d → (l p q : ℕ) → IsRace w l (suc p) (suc q) → number w p ≡ number w q → ⊥
two_strands w h l p q x e =
    let o = x.in_order in
    let b = (access-place w (suc q) (l, x.second)).1 in
    x.parallel.not_forth (strand_leads w h (q - suc p) p q (omega arith) (one_strand w p q e (omega arith)) (l, x.second))

module _ (w v : List Record) {n d m c : ℕ} (h : IsWellNested w n d) (k : IsWellNested v m c) (l : ℕ) where
  in_order : (p q : ℕ) → IsRace w l (suc p) (suc q) → (a : Stands w v l p) (b : Stands w v l q) → a.s < b.s
  in_order p q x a b = elim (cases_lt a.s b.s) [
    | inl y ↦ y
    | inr y ↦ absurd
        (let o = x.in_order in
        let e : number v a.s ≡ number w p = ap length a.strand in
        let f : number v b.s ≡ number w q = ap length b.strand in
        two_strands w h l p q x (omega (arith, number-le v b.s a.s y, number-le w p q (omega arith))))
  ]

  one_stands : (p q : ℕ) (a : Stands w v l p) (b : Stands w v l q) → IsWrite w l (suc p) ⊎ IsWrite w l (suc q) → IsWrite v l (suc a.s) ⊎ IsWrite v l (suc b.s)
  one_stands p q a b (inl y) = inl (writes_too w v l (suc a.s) (suc p) a.covers y)
  one_stands p q a b (inr y) = inr (writes_too w v l (suc b.s) (suc q) b.covers y)

  pub race-stands : (p q : ℕ) → IsRace w l (suc p) (suc q) → (a : Stands w v l p) (b : Stands w v l q) → IsRace v l (suc a.s) (suc b.s)
  race-stands p q x a b =
      let o = x.in_order in
      let y = in_order p q x a b in
      record {
        in_order = omega arith;
        first = a.accesses;
        second = b.accesses;
        one_writes = one_stands p q a b x.one_writes;
        parallel = parallel-moved w v h k p q a.s b.s (omega arith) y (l, x.first) (l, x.second) (l, a.accesses) (l, b.accesses) (sym a.strand) (sym b.strand) x.parallel;
      }

  of_race : ((t : ℕ) → Accesses w l (suc t) → Stands w v l t) → (i j : ℕ) → IsRace w l i j → HasRace v l
  of_race f zero j x = absurd (no_access_at_0 w l x.first)
  of_race f (suc p) zero x = absurd (no_access_at_0 w l x.second)
  of_race f (suc p) (suc q) x = (_, _, race-stands p q x (f p x.first) (f q x.second))

  pub racy-stands : ((t : ℕ) → Accesses w l (suc t) → Stands w v l t) → HasRace w l → HasRace v l
  racy-stands f r = of_race f r.0 r.1 r.2
