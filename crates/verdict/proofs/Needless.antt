-- Where only needless accesses go the same locations have races.
use Rattle.verdict.proofs.Common.{◌≡◌, ℕ, zero, suc, ◌<◌, ◌≤◌, ◌↔◌, Bool, true, List, take, ◌⊎◌, inl, inr, sym, subst, ◌∙◌, arith, cases_Bool, cases_lt, Record, at, IsWellNested, IsAccessPlace, IsRead, IsWrite, IsRace, HasRace, IsSecond, access-place, IsRepeat, RepeatsGo, rest, place_in_rest, strand_of, IsCovered, IsAlone, NeedlessGo}
use Rattle.verdict.proofs.Structure.{structure, number-structure}
use Rattle.verdict.proofs.Strands.{one_strand-structure}
use Rattle.verdict.proofs.Lists.{passed, passed-structure, passed-le, passed-lt, passed-next, rest-at}
use Rattle.verdict.proofs.Nested.{CameFrom, came_from, AccessPlacesGo, access_places_go, rest-nested}
use Rattle.verdict.proofs.Racy.{Accesses, Stands, no_access_at_0, one_location, moved, writes_too, itself, two_strands, race-stands, racy-stands}

covers_through : (w : List Record) (l i j k : ℕ) → IsWrite w l i ⊎ IsRead w l j → IsWrite w l j ⊎ IsRead w l k → IsWrite w l i ⊎ IsRead w l k
covers_through w l i j k (inl a) b = inl a
covers_through w l i j k (inr a) (inl b) = absurd (cc)
covers_through w l i j k (inr a) (inr b) = inr b

-- An access that stays and stands for the access at place suc t.
record Kept (w : List Record) (stays : ℕ → Bool) (l t : ℕ) : Type 0 where
  one : Stands w w l t
  stayed : stays (suc one.s) ≡ true

kept-through : (w : List Record) (stays : ℕ → Bool) (l r t : ℕ) → structure (take r w) ≡ structure (take t w) → IsWrite w l (suc r) ⊎ IsRead w l (suc t) → Kept w stays l r → Kept w stays l t
kept-through w stays l r t e c k = record {
  one = record {
    s = k.one.s;
    strand = k.one.strand ∙ e;
    accesses = k.one.accesses;
    covers = covers_through w l (suc k.one.s) (suc r) (suc t) k.one.covers c;
  };
  stayed = k.stayed;
}

repeat-structure : (w : List Record) (l r t : ℕ) → r < t → Accesses w l (suc r) → ((m : ℕ) → suc r < m → m < suc t → IsAccessPlace w m) → structure (take r w) ≡ structure (take t w)
repeat-structure w l r t b a f = sym (one_strand-structure w r t (omega arith) (λ m x y. elim (cases_lt (suc r) m) [
  | inl u ↦ f m u (omega arith)
  | inr u ↦ (let e : suc r ≡ m = omega arith in subst (IsAccessPlace w) e (l, a))
]))

-- by the earlier access of a repeat
by_earlier : (w : List Record) (stays : ℕ → Bool) (l t i : ℕ) → i < suc t → Accesses w l i → ((m : ℕ) → i < m → m < suc t → IsAccessPlace w m) → IsWrite w l i ⊎ IsRead w l (suc t)
    → ((r : ℕ) → r < t → Accesses w l (suc r) → IsWrite w l (suc r) ⊎ IsRead w l (suc t) → Kept w stays l r) → Kept w stays l t
by_earlier w stays l t zero b a f c ih = absurd (no_access_at_0 w l a)
by_earlier w stays l t (suc r) b a f c ih = kept-through w stays l r t (repeat-structure w l r t (omega arith) a f) c (ih r (omega arith) a c)

of_repeat : (w : List Record) (stays : ℕ → Bool) (l t : ℕ) (b : IsRepeat w (suc t)) → b.location ≡ l
    → ((r : ℕ) → r < t → Accesses w l (suc r) → IsWrite w l (suc r) ⊎ IsRead w l (suc t) → Kept w stays l r) → Kept w stays l t
of_repeat w stays l t b e ih =
    by_earlier w stays l t b.earlier b.before (subst (λ (m : ℕ). Accesses w m b.earlier) e b.first) b.only_accesses
    (subst (λ (m : ℕ). IsWrite w m b.earlier ⊎ IsRead w m (suc t)) e b.covers) ih

by_write : (w : List Record) (stays : ℕ → Bool) (l t i : ℕ) → IsWrite w l i → strand_of w i ≡ strand_of w (suc t) → ((r : ℕ) → IsWrite w l (suc r) → Kept w stays l r) → Kept w stays l t
by_write w stays l t zero a e f = absurd (no_access_at_0 w l (inr a))
by_write w stays l t (suc r) a e f = kept-through w stays l r t (number-structure w r t e) (inl a) (f r a)

alone-no_race : (w : List Record) {n d : ℕ} → IsWellNested w n d → (l k i j : ℕ) → IsRace w l i j → ((m : ℕ) → Accesses w l m → strand_of w m ≡ strand_of w k) → ⊥
alone-no_race w h l k zero j x f = absurd (no_access_at_0 w l x.first)
alone-no_race w h l k (suc p) zero x f = absurd (no_access_at_0 w l x.second)
alone-no_race w h l k (suc p) (suc q) x f = two_strands w h l p q x (f (suc p) x.first ∙ sym (f (suc q) x.second))

read_or_write_not_both : (w : List Record) (l m i : ℕ) → IsRead w m i → IsWrite w l i → ⊥
read_or_write_not_both w l m i a b = absurd (cc)

-- Each access of a racy location is kept: first the writes, and by them the reads.
module _ (w : List Record) {n d : ℕ} (h : IsWellNested w n d) (stays : ℕ → Bool) (go : NeedlessGo w stays) (l : ℕ) (race : HasRace w l) where
  not_alone : (k : ℕ) (a : IsAlone w k) → a.location ≡ l → ⊥
  not_alone k a e = alone-no_race w h l k race.0 race.1 race.2 (subst (λ (m : ℕ). (j : ℕ) → Accesses w m j → strand_of w j ≡ strand_of w k) e a.one_strand)

  module _ (F : ℕ → Type 0) (accesses : (t : ℕ) → F t → Accesses w l (suc t)) (earlier : (r t : ℕ) → F t → Accesses w l (suc r) → IsWrite w l (suc r) ⊎ IsRead w l (suc t) → F r)
      (covered : (t : ℕ) → F t → (c : IsCovered w (suc t)) → c.location ≡ l → Kept w stays l t) where
    gone : (t : ℕ) (y : F t) → ((r : ℕ) → r < t → F r → Kept w stays l r) → IsRepeat w (suc t) ⊎ (IsCovered w (suc t) ⊎ IsAlone w (suc t)) → Kept w stays l t
    gone t y ih (inl b) = of_repeat w stays l t b (one_location w l b.location (suc t) (accesses t y) b.second) (λ r x a c. ih r x (earlier r t y a c))
    gone t y ih (inr (inl c)) = covered t y c (one_location w l c.location (suc t) (accesses t y) (inl c.a_read))
    gone t y ih (inr (inr a)) = absurd (not_alone (suc t) a (one_location w l a.location (suc t) (accesses t y) a.an_access))

    kept_below : (m t : ℕ) → t < m → F t → Kept w stays l t
    kept_below zero t b y = absurd (omega arith)
    kept_below (suc m) t b y = elim (cases_Bool (stays (suc t))) [
      | inl s ↦ record { one = itself w l t (accesses t y); stayed = s }
      | inr g ↦ gone t y (λ r x z. kept_below m r (omega arith) z) (go (suc t) (access-place w (suc t) (l, accesses t y)) g)
    ]

  write_kept : (t : ℕ) → IsWrite w l (suc t) → Kept w stays l t
  write_kept t y = kept_below (λ r. IsWrite w l (suc r)) (λ r z. inr z) (λ r s z a c. writes_too w w l (suc r) (suc s) c z) (λ r z c e. absurd (read_or_write_not_both w l c.location (suc r) c.a_read z)) (suc t) t (omega arith) y

  access_kept : (t : ℕ) → Accesses w l (suc t) → Kept w stays l t
  access_kept t y = kept_below (λ r. Accesses w l (suc r)) (λ r z. z) (λ r s z a c. a)
      (λ r z c e. by_write w stays l r c.write (subst (λ (m : ℕ). IsWrite w m c.write) e c.a_write) c.one_strand write_kept) (suc t) t (omega arith) y

access_of : (w : List Record) (k : ℕ) → IsRepeat w k ⊎ (IsCovered w k ⊎ IsAlone w k) → IsAccessPlace w k
access_of w k (inl b) = (b.location, b.second)
access_of w k (inr (inl c)) = (c.location, inl c.a_read)
access_of w k (inr (inr a)) = (a.location, a.an_access)

needless-accesses : (w : List Record) (stays : ℕ → Bool) → NeedlessGo w stays → AccessPlacesGo w stays
needless-accesses w stays go k p n = access_of w k (go k p n)

pub needless-nested : (w : List Record) (n d : ℕ) (stays : ℕ → Bool) → IsWellNested w n d → NeedlessGo w stays → IsWellNested (rest stays w) n d
needless-nested w n d stays h go = rest-nested w n d stays h (needless-accesses w stays go)

pub repeats-needless : (w : List Record) (stays : ℕ → Bool) → RepeatsGo w stays → NeedlessGo w stays
repeats-needless w stays go k p n = inl (go k p n)

write_or_read : (w v : List Record) (l i j : ℕ) → at v j ≡ at w i → Accesses w l i → IsWrite v l j ⊎ IsRead w l i
write_or_read w v l i j e (inl a) = inr a
write_or_read w v l i j e (inr a) = inl (e ∙ a)

covers_moved : (w v : List Record) (l i j t : ℕ) → at v j ≡ at w i → IsWrite w l i ⊎ IsRead w l t → IsWrite v l j ⊎ IsRead w l t
covers_moved w v l i j t e (inl a) = inl (e ∙ a)
covers_moved w v l i j t e (inr a) = inr a

module _ (w : List Record) (n d : ℕ) (stays : ℕ → Bool) (h : IsWellNested w n d) (go : NeedlessGo w stays) (l : ℕ) where
  accesses : AccessPlacesGo w stays
  accesses = needless-accesses w stays go

  nested : IsWellNested (rest stays w) n d
  nested = needless-nested w n d stays h go

  same_structure : (t : ℕ) → structure (take (passed stays 1 t w) (rest stays w)) ≡ structure (take t w)
  same_structure t = passed-structure stays 1 t w (access_places_go w stays accesses)

  -- from the rest to the trace

  came : (p : ℕ) → Accesses (rest stays w) l (suc p) → CameFrom w stays p
  came p a = came_from w stays p (access-place (rest stays w) (suc p) (l, a))

  abbrev from_rest : (p : ℕ) (c : CameFrom w stays p) → Accesses (rest stays w) l (suc p) → Stands (rest stays w) w l p
  from_rest p c a = record {
    s = c.t;
    strand = subst (λ (z : ℕ). structure (take c.t w) ≡ structure (take z (rest stays w))) c.counts (sym (same_structure c.t));
    accesses = moved w (rest stays w) l (suc c.t) (suc p) c.same a;
    covers = write_or_read (rest stays w) w l (suc p) (suc c.t) c.same a;
  }

  up_race : (p q : ℕ) → IsRace (rest stays w) l (suc p) (suc q) → (a : CameFrom w stays p) (b : CameFrom w stays q) → IsRace w l (suc a.t) (suc b.t)
  up_race p q x a b = race-stands (rest stays w) w nested h l p q x (from_rest p a x.first) (from_rest q b x.second)

  -- from the trace to the rest

  at_rest : (s : ℕ) → stays (suc s) ≡ true → Accesses w l (suc s) → at (rest stays w) (suc (passed stays 1 s w)) ≡ at w (suc s)
  at_rest s y (inl a) = rest-at stays 1 s (suc s) w _ (omega arith) y a ∙ sym a
  at_rest s y (inr a) = rest-at stays 1 s (suc s) w _ (omega arith) y a ∙ sym a

  abbrev in_rest : (t : ℕ) → Kept w stays l t → Stands w (rest stays w) l t
  in_rest t k =
      let e = at_rest k.one.s k.stayed k.one.accesses in
      record {
        s = passed stays 1 k.one.s w;
        strand = same_structure k.one.s ∙ k.one.strand;
        accesses = moved (rest stays w) w l (suc (passed stays 1 k.one.s w)) (suc k.one.s) e k.one.accesses;
        covers = covers_moved w (rest stays w) l (suc k.one.s) (suc (passed stays 1 k.one.s w)) (suc t) e k.one.covers;
      }

  up : HasRace (rest stays w) l → HasRace w l
  up r = racy-stands (rest stays w) w nested h l (λ p a. from_rest p (came p a) a) r

  down : HasRace w l → HasRace (rest stays w) l
  down r = racy-stands w (rest stays w) h nested l (λ t a. in_rest t (access_kept w h stays go l r t a)) r

  pub same-racy : HasRace (rest stays w) l ↔ HasRace w l
  same-racy = (up, down)

  not_sooner : (t : ℕ) → ((i j : ℕ) → IsRace w l i j → suc t ≤ j) → (i j : ℕ) → IsRace (rest stays w) l i j → suc (passed stays 1 t w) ≤ j
  not_sooner t f zero j x = absurd (no_access_at_0 (rest stays w) l x.first)
  not_sooner t f (suc p) zero x = absurd (no_access_at_0 (rest stays w) l x.second)
  not_sooner t f (suc p) (suc q) x =
      let a = came p x.first in
      let b = came q x.second in
      let c : suc t ≤ suc b.t = f (suc a.t) (suc b.t) (up_race p q x a b) in
      omega (arith, passed-le stays 1 t b.t w (omega arith), b.counts)

  passed_here : (t : ℕ) → stays (suc t) ≡ true → Accesses w l (suc t) → passed stays 1 (suc t) w ≡ suc (passed stays 1 t w)
  passed_here t y (inl a) = omega (arith, passed-lt stays 1 t (suc t) (suc t) w _ (omega arith) (omega arith) y a, passed-next stays 1 t w)
  passed_here t y (inr a) = omega (arith, passed-lt stays 1 t (suc t) (suc t) w _ (omega arith) (omega arith) y a, passed-next stays 1 t w)

  pub second_in_rest : (p t : ℕ) → IsRace w l (suc p) (suc t) → ((i j : ℕ) → IsRace w l i j → suc t ≤ j) → stays (suc t) ≡ true → IsSecond (rest stays w) l (passed stays 1 (suc t) w)
  second_in_rest p t x f y =
      let g : suc (passed stays 1 t w) ≡ passed stays 1 (suc t) w = sym (passed_here t y x.second) in
      let a = access_kept w h stays go l (_, _, x) p x.first in
      subst (IsSecond (rest stays w) l) g (record {
        race = (_, race-stands w (rest stays w) h nested l p t x (in_rest p a) (in_rest t (record { one = itself w l t x.second; stayed = y })));
        least = not_sooner t f;
      })

-- The second access of the reported race is no repeat, since the race with the earlier access would have a lesser one.

module _ (w : List Record) (n d : ℕ) (stays : ℕ → Bool) (h : IsWellNested w n d) (go : RepeatsGo w stays) (l : ℕ) where
  sooner : (p t i : ℕ) → IsRace w l (suc p) (suc t) → ((i j : ℕ) → IsRace w l i j → suc t ≤ j) → i < suc t → Accesses w l i → ((m : ℕ) → i < m → m < suc t → IsAccessPlace w m)
      → IsWrite w l i ⊎ IsRead w l (suc t) → ⊥
  sooner p t zero x f b a g c = absurd (no_access_at_0 w l a)
  sooner p t (suc r) x f b a g c =
      let k : Stands w w l t = record { s = r; strand = repeat-structure w l r t (omega arith) a g; accesses = a; covers = c } in
      let e : suc t ≤ suc r = f _ _ (race-stands w w h h l p t x (itself w l p x.first) k) in
      absurd (omega arith)

  no_repeat : (p t : ℕ) → IsRace w l (suc p) (suc t) → ((i j : ℕ) → IsRace w l i j → suc t ≤ j) → IsRepeat w (suc t) → ⊥
  no_repeat p t x f b =
      let e = one_location w l b.location (suc t) x.second b.second in
      sooner p t b.earlier x f b.before (subst (λ (m : ℕ). Accesses w m b.earlier) e b.first) b.only_accesses
      (subst (λ (m : ℕ). IsWrite w m b.earlier ⊎ IsRead w m (suc t)) e b.covers)

  second_stays : (p t : ℕ) → IsRace w l (suc p) (suc t) → ((i j : ℕ) → IsRace w l i j → suc t ≤ j) → stays (suc t) ≡ true
  second_stays p t x f = elim (cases_Bool (stays (suc t))) [
    | inl y ↦ y
    | inr g ↦ absurd (no_repeat p t x f (go (suc t) (access-place w (suc t) (l, x.second)) g))
  ]

  second_of : (t i : ℕ) → IsRace w l i (suc t) → ((i j : ℕ) → IsRace w l i j → suc t ≤ j) → (stays (suc t) ≡ true) × IsSecond (rest stays w) l (passed stays 1 (suc t) w)
  second_of t zero x f = absurd (no_access_at_0 w l x.first)
  second_of t (suc p) x f =
      let y = second_stays p t x f in
      (y, second_in_rest w n d stays h (repeats-needless w stays go) l p t x f y)

  pub same-second : (j : ℕ) → IsSecond w l j → (stays j ≡ true) × IsSecond (rest stays w) l (place_in_rest stays w j)
  same-second zero x = absurd (no_access_at_0 w l x.race.1.second)
  same-second (suc t) x = second_of t x.race.0 x.race.1 x.least
