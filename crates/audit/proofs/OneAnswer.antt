-- A question about a trace has one answer.
use Rattle.audit.proofs.Common.{◌≡◌, ℕ, suc, ◌<◌, List, [], ◌∷◌, Option, Some, None, ◌⊎◌, inl, inr, refl, sym, ap, subst, ◌∙◌, arith, All, AllPairs, AllByRecursion, cases_order, recursion_from_All, slice_get_within, get_or_from_slice_get, Record, Access, RaceAt, IsMeeting, IsRace, In, In_from, Contains_from, reported_once, Opener, Explained, AreOpeners, AreJoined, IsExplained, Explains, IsSameExplanation, IsSameAnswer, Confirm, Yes, No, IsMeasure, IsBefore, ArePairs, StatesRace, IsFirstWrong, Confirms}
use Rattle.audit.proofs.TrailLemmas.{same_place}
use Rattle.audit.specs.declared.answers.Measure.{Measure}

pub one_measure : (w : List Record) (m n : Measure) → IsMeasure w m → IsMeasure w n → m ≡ n
one_measure w m n a b =
    let work : m.work ≡ n.work = a.work ∙ sym b.work in
    let span : m.span ≡ n.span = omega (arith, a.span.most b.span.reached.0 b.span.reached.1, b.span.reached.2, b.span.most a.span.reached.0 a.span.reached.1, a.span.reached.2) in
    let spawns : m.spawns ≡ n.spawns = a.spawns ∙ sym b.spawns in
    let depth : m.depth ≡ n.depth = omega (arith, a.depth.most b.depth.reached.0 b.depth.reached.1, b.depth.reached.2, b.depth.most a.depth.reached.0 a.depth.reached.1, a.depth.reached.2) in
    λ i. record { work = work i; span = span i; spawns = spawns i; depth = depth i }

-- ---- lists in order

-- each element stands in the order with all later ones
abbrev Ordered : {X : Type 0} → (X → X → Type 0) → List X → Type 0
Ordered R [] = Unit {0}
Ordered R (x ∷ xs) = AllByRecursion (R x) xs × Ordered R xs

ordered_from : {X : Type 0} (R : X → X → Type 0) (xs : List X) → AllPairs R xs → Ordered R xs
ordered_from R [] h = tt
ordered_from R (x ∷ xs) h = (
  recursion_from_All (R x) xs (λ k d l. h 0 (suc k) d (omega arith) (omega arith)),
  ordered_from R xs (λ i j d l m. h (suc i) (suc j) d (omega arith) (omega arith)),
)

all_in : {X : Type 0} (P : X → Type 0) (xs : List X) (x : X) → AllByRecursion P xs → In x xs → P x
all_in P [] x a h = absurd h
all_in P (y ∷ ys) x a (inl e) = subst P e a.0
all_in P (y ∷ ys) x a (inr h) = all_in P ys x a.1 h

-- two lists with the same elements in one order, where no two elements are each before the other, are one
module _ {X : Type 0} (R : X → X → Type 0) (one_way : (x y : X) → R x y → R y x → ⊥) where
  same_head : (x y : X) (xs ys : List X) → Ordered R (x ∷ xs) → Ordered R (y ∷ ys) → (y ≡ x) ⊎ In x ys → (x ≡ y) ⊎ In y xs → x ≡ y
  same_head x y xs ys a b (inl e) q = sym e
  same_head x y xs ys a b (inr h) (inl e) = e
  same_head x y xs ys a b (inr h) (inr k) = absurd (one_way x y (all_in (R x) xs y a.0 k) (all_in (R y) ys x b.0 h))

  in_tail : (x y z : X) (xs ys : List X) → Ordered R (x ∷ xs) → x ≡ y → In z xs → (y ≡ z) ⊎ In z ys → In z ys
  in_tail x y z xs ys a e h (inr k) = k
  in_tail x y z xs ys a e h (inl k) = let s : R x x = subst (R x) (sym (e ∙ k)) (all_in (R x) xs z a.0 h) in absurd (one_way x x s s)

  same_ordered : (xs ys : List X) → Ordered R xs → Ordered R ys → ((x : X) → In x xs → In x ys) → ((x : X) → In x ys → In x xs) → xs ≡ ys
  same_ordered [] [] a b f g = refl
  same_ordered [] (y ∷ ys) a b f g = absurd (g y (inl refl))
  same_ordered (x ∷ xs) [] a b f g = absurd (f x (inl refl))
  same_ordered (x ∷ xs) (y ∷ ys) a b f g =
      let e : x ≡ y = same_head x y xs ys a b (f x (inl refl)) (g y (inl refl)) in
      let t : xs ≡ ys = same_ordered xs ys a.1 b.1
      (λ z h. in_tail x y z xs ys a e h (f z (inr h)))
      (λ z h. in_tail y x z ys xs b (sym e) h (g z (inr h))) in
      cc

-- ---- pairs

before_one_way : (p q : Access × Access) → IsBefore p q → IsBefore q p → ⊥
before_one_way p q (inl a) (inl b) = omega arith
before_one_way p q (inl a) (inr b) = omega (arith, b.0)
before_one_way p q (inr a) (inl b) = omega (arith, a.0)
before_one_way p q (inr a) (inr b) = omega (arith, a.1, b.1)

pub one_list_of_pairs : (w : List Record) (l : ℕ) (ps qs : List (Access × Access)) → ArePairs w l ps → ArePairs w l qs → ps ≡ qs
one_list_of_pairs w l ps qs a b = same_ordered IsBefore before_one_way ps qs (ordered_from IsBefore ps a.ascending) (ordered_from IsBefore qs b.ascending)
    (λ p h. In_from qs p ((b.exactly p).1 ((a.exactly p).0 (Contains_from ps p h))))
    (λ p h. In_from ps p ((a.exactly p).1 ((b.exactly p).0 (Contains_from qs p h))))

-- ---- whether entries are races

not_all : (w : List Record) (entries : List RaceAt) (n : ℕ) → All (StatesRace w) entries → IsFirstWrong w entries n → ⊥
not_all w entries n a b =
    b.wrong (subst (StatesRace w) (get_or_from_slice_get entries b.before b.race b.race b.there) (a b.before b.race (slice_get_within entries b.before b.race b.there)))

first_wrong_once : (w : List Record) (entries : List RaceAt) (m n : ℕ) → IsFirstWrong w entries m → IsFirstWrong w entries n → m ≡ n
first_wrong_once w entries m n a b = elim (cases_order a.before b.before) [
  | inl e ↦ a.from_one ∙ ap suc e ∙ sym b.from_one
  | inr c ↦ elim c [
    | inl l ↦ absurd (a.wrong (b.right_before a.before a.race l a.there))
    | inr l ↦ absurd (b.wrong (a.right_before b.before b.race l b.there))
  ]
]

pub one_confirm : (w : List Record) (entries : List RaceAt) (a b : Confirm) → Confirms w entries a → Confirms w entries b → a ≡ b
one_confirm w entries Yes Yes h k = refl
one_confirm w entries Yes (No n) h k = absurd (not_all w entries n h k)
one_confirm w entries (No m) Yes h k = absurd (not_all w entries m k h)
one_confirm w entries (No m) (No n) h k = ap No (first_wrong_once w entries m n h k)

-- ---- explanations

opener_one_way : (f g : Opener) → f.place < g.place → g.place < f.place → ⊥
opener_one_way f g a b = omega arith

one_list_of_openers : (w : List Record) (m i : ℕ) (fs gs : List Opener) → AreOpeners w m i fs → AreOpeners w m i gs → fs ≡ gs
one_list_of_openers w m i fs gs a b = same_ordered (λ (f g : Opener). f.place < g.place) opener_one_way fs gs (ordered_from (λ (f g : Opener). f.place < g.place) fs a.ascending) (ordered_from (λ (f g : Opener). f.place < g.place) gs b.ascending)
    (λ f h. In_from gs f ((b.exactly f).1 ((a.exactly f).0 (Contains_from fs f h))))
    (λ f h. In_from fs f ((a.exactly f).1 ((b.exactly f).0 (Contains_from gs f h))))

one_meeting : (w : List Record) (i j m k : ℕ) → IsMeeting w i j m → IsMeeting w i j k → m ≡ k
one_meeting w i j m k a b = same_place w i m k a.first b.first (omega (arith, a.deepest k b.first b.second, b.deepest m a.first a.second))

one_join : (w : List Record) (m j : ℕ) (a b : Option ℕ) → AreJoined w m j a → AreJoined w m j b → a ≡ b
one_join w m j None None x y = refl
one_join w m j None (Some k) x y = absurd (x k y.after y.waits)
one_join w m j (Some k) None x y = absurd (y k x.after x.waits)
one_join w m j (Some i) (Some k) x y = elim (cases_order i k) [
  | inl e ↦ ap (λ (z : ℕ). Some z) e
  | inr c ↦ elim c [
    | inl l ↦ absurd (y.none_between i x.after l x.waits)
    | inr l ↦ absurd (x.none_between k y.after l y.waits)
  ]
]

same_explanation : (w : List Record) (l : ℕ) (a b : Explained) → a.race.location ≡ l → b.race.location ≡ l → IsExplained w a → IsExplained w b → IsSameExplanation a b
same_explanation w l a b p q x y =
    let race : a.race ≡ b.race = reported_once w a.race b.race x.reported y.reported (p ∙ sym q) in
    let meets : IsMeeting w a.race.first.place a.race.second.place b.meeting = subst (λ (r : RaceAt). IsMeeting w r.first.place r.second.place b.meeting) (sym race) y.meets in
    let meeting : a.meeting ≡ b.meeting = one_meeting w a.race.first.place a.race.second.place a.meeting b.meeting x.meets meets in
    record {
      race = race;
      meeting = meeting;
      first = one_list_of_openers w b.meeting b.race.first.place a.first.items b.first.items (subst (λ (r : RaceAt). AreOpeners w b.meeting r.first.place a.first.items) race (subst (λ (m : ℕ). AreOpeners w m a.race.first.place a.first.items) meeting x.first)) y.first;
      second = one_list_of_openers w b.meeting b.race.second.place a.second.items b.second.items (subst (λ (r : RaceAt). AreOpeners w b.meeting r.second.place a.second.items) race (subst (λ (m : ℕ). AreOpeners w m a.race.second.place a.second.items) meeting x.second)) y.second;
      joined = one_join w b.meeting b.race.second.place a.joined b.joined (subst (λ (r : RaceAt). AreJoined w b.meeting r.second.place a.joined) race (subst (λ (m : ℕ). AreJoined w m a.race.second.place a.joined) meeting x.joined)) y.joined;
    }

pub one_explanation : (w : List Record) (l : ℕ) (a b : Option Explained) → Explains w l a → Explains w l b → IsSameAnswer a b
one_explanation w l None None x y = refl
one_explanation w l None (Some b) x y = absurd (let r = y.1.reported.second.race in x r.0 b.race.second.place (subst (λ (z : ℕ). IsRace w z r.0 b.race.second.place) y.0 r.1))
one_explanation w l (Some a) None x y = absurd (let r = x.1.reported.second.race in y r.0 a.race.second.place (subst (λ (z : ℕ). IsRace w z r.0 a.race.second.place) x.0 r.1))
one_explanation w l (Some a) (Some b) x y = same_explanation w l a b x.0 y.0 x.1 y.1
