-- What is kept of a location is the first least of the races that were handed back.
use Rattle.collect.proofs.Common.{◌≡◌, ◌≢◌, ℕ, ◌<◌, ◌≤◌, Bool, true, false, cond, eqb, ltb, List, [], ◌∷◌, ◌++◌, Option, Some, None, ◌⊎◌, inl, inr, Contains, fold, refl, arith, sym, ap, ◌∙◌, subst, append_assoc, append-nil, AllByRecursion, option_map_or, eqb-true, eqb-false, ltb-true, ltb-false, Back, RaceAt, In, In_from, Contains_from, NoneOn, races_of, race_on, better, kept_after, best, IsFirstLeast, AreFirstLeast, IsCollected}
use Rattle.collect.proofs.Ascending.{Ascends, Ascends-from_increasing}
use Rattle.collect.proofs.Sorted.{race_on-here, race_on-past}

-- what is said of the races before the first least one, and of those after it
abbrev pub Later : RaceAt → RaceAt → Type 0
Later r s = s.location ≡ r.location → r.second.place < s.second.place

abbrev pub NoSooner : RaceAt → RaceAt → Type 0
NoSooner r s = s.location ≡ r.location → r.second.place ≤ s.second.place

pub all_round : (P : RaceAt → Type 0) (rs ss : List RaceAt) (k : RaceAt) → AllByRecursion P rs → P k → AllByRecursion P ss → AllByRecursion P (rs ++ k ∷ ss)
all_round P [] ss k a p b = (p, b)
all_round P (r ∷ rs) ss k a p b = (a.0, all_round P rs ss k a.1 p b)

pub all_map : (P Q : RaceAt → Type 0) → ((s : RaceAt) → P s → Q s) → (rs : List RaceAt) → AllByRecursion P rs → AllByRecursion Q rs
all_map P Q f [] a = tt
all_map P Q f (r ∷ rs) a = (f r a.0, all_map P Q f rs a.1)

pub all_in : (P : RaceAt → Type 0) (rs : List RaceAt) (r : RaceAt) → AllByRecursion P rs → In r rs → P r
all_in P [] r a h = absurd h
all_in P (s ∷ rs) r a (inl e) = subst P e a.0
all_in P (s ∷ rs) r a (inr h) = all_in P rs r a.1 h

pub in_round : (rs ss : List RaceAt) (r : RaceAt) → In r (rs ++ r ∷ ss)
in_round [] ss r = inl refl
in_round (s ∷ rs) ss r = inr (in_round rs ss r)

-- ---- one more race

push_first : (l : ℕ) (seen : List RaceAt) (r : RaceAt) → r.location ≡ l → NoneOn l seen → IsFirstLeast (seen ++ r ∷ []) r
push_first l seen r e n = record {
  before = seen;
  after = [];
  came = refl;
  first = all_map (λ s. l ≢ s.location) (Later r) (λ s f g. absurd (f (sym (g ∙ e)))) seen n;
  least = tt;
}

push_later : (seen : List RaceAt) (k r : RaceAt) → NoSooner k r → IsFirstLeast seen k → IsFirstLeast (seen ++ r ∷ []) k
push_later seen k r n h = record {
  before = h.before;
  after = h.after ++ r ∷ [];
  came = ap (λ x. x ++ r ∷ []) h.came ∙ append_assoc h.before (k ∷ h.after) (r ∷ []);
  first = h.first;
  least = all_round (NoSooner k) h.after [] r h.least n tt;
}

push_sooner : (seen : List RaceAt) (k r : RaceAt) → r.location ≡ k.location → r.second.place < k.second.place → IsFirstLeast seen k → IsFirstLeast (seen ++ r ∷ []) r
push_sooner seen k r e l h = record {
  before = seen;
  after = [];
  came = refl;
  first = subst (AllByRecursion (Later r)) (sym h.came) (all_round (Later r) h.before h.after k
      (all_map (Later k) (Later r) (λ s f g. let z = f (g ∙ e) in omega arith) h.before h.first)
      (λ g. l)
      (all_map (NoSooner k) (Later r) (λ s f g. let z = f (g ∙ e) in omega arith) h.after h.least));
  least = tt;
}

-- what is kept of location l of the races seen
abbrev pub KeptOf : ℕ → List RaceAt → Option RaceAt → Type 0
KeptOf l seen None = NoneOn l seen
KeptOf l seen (Some k) = (k.location ≡ l) × IsFirstLeast seen k

kept_better : (l : ℕ) (seen : List RaceAt) (k r : RaceAt) (b : Bool) → ltb r.second.place k.second.place ≡ b → r.location ≡ l → k.location ≡ l → IsFirstLeast seen k → KeptOf l (seen ++ r ∷ []) (Some (cond b r k))
kept_better l seen k r true t e f h = (e, push_sooner seen k r (e ∙ sym f) (ltb-true r.second.place k.second.place t) h)
kept_better l seen k r false t e f h = (f, push_later seen k r (λ g. ltb-false r.second.place k.second.place t) h)

kept_step : (l : ℕ) (seen : List RaceAt) (o : Option RaceAt) (r : RaceAt) (b : Bool) → eqb r.location l ≡ b → KeptOf l seen o → KeptOf l (seen ++ r ∷ []) (cond b (Some (option_map_or (λ k. better k r) o r)) o)
kept_step l seen None r true e h = let here = eqb-true r.location l e in (here, push_first l seen r here h)
kept_step l seen None r false e h = all_round (λ s. l ≢ s.location) seen [] r h (λ q. eqb-false r.location l e (sym q)) tt
kept_step l seen (Some k) r true e h = kept_better l seen k r (ltb r.second.place k.second.place) refl (eqb-true r.location l e) h.0 h.1
kept_step l seen (Some k) r false e h = (h.0, push_later seen k r (λ g. absurd (eqb-false r.location l e (g ∙ h.0))) h.1)

kept_fold : (l : ℕ) (seen rs : List RaceAt) (o : Option RaceAt) → KeptOf l seen o → KeptOf l (seen ++ rs) (fold (kept_after l) o rs)
kept_fold l seen [] o h = subst (λ x. KeptOf l x o) (sym (append-nil seen)) h
kept_fold l seen (r ∷ rs) o h =
    subst (λ x. KeptOf l x (fold (kept_after l) (kept_after l o r) rs)) (append_assoc seen (r ∷ []) rs)
    (kept_fold l (seen ++ r ∷ []) rs (kept_after l o r) (kept_step l seen o r (eqb r.location l) refl h))

pub kept_best : (l : ℕ) (rs : List RaceAt) → KeptOf l rs (best l rs)
kept_best l rs = kept_fold l [] rs None tt

-- ---- there is one

-- two elements of a list are one, or one comes before the other
in_order : (a c b d : List RaceAt) (x y : RaceAt) → a ++ x ∷ b ≡ c ++ y ∷ d → (x ≡ y) ⊎ ((In y b × In x c) ⊎ (In x d × In y a))
in_order [] [] b d x y e = inl (cc)
in_order [] (z ∷ c) b d x y e = inr (inl (let f : c ++ y ∷ d ≡ b = cc in subst (In y) f (in_round c d y), inl (cc)))
in_order (z ∷ a) [] b d x y e = inr (inr (let f : a ++ x ∷ b ≡ d = cc in subst (In x) f (in_round a b x), inl (cc)))
in_order (z ∷ a) (v ∷ c) b d x y e = elim (in_order a c b d x y (cc)) [
  | inl f ↦ inl f
  | inr f ↦ elim f [
    | inl g ↦ inr (inl (g.0, inr g.1))
    | inr g ↦ inr (inr (g.0, inr g.1))
  ]
]

one_least : (rs : List RaceAt) (r s : RaceAt) → r.location ≡ s.location → IsFirstLeast rs r → IsFirstLeast rs s → r ≡ s
one_least rs r s e a b = elim (in_order a.before b.before a.after b.after r s (sym a.came ∙ b.came)) [
  | inl f ↦ f
  | inr f ↦ elim f [
    | inl g ↦ absurd (let x = all_in (NoSooner r) a.after s a.least g.0 (sym e) in let y = all_in (Later s) b.before r b.first g.1 e in omega arith)
    | inr g ↦ absurd (let x = all_in (NoSooner s) b.after r b.least g.0 e in let y = all_in (Later r) a.before s a.first g.1 (sym e) in omega arith)
  ]
]

kept_is : (rs : List RaceAt) (r : RaceAt) (o : Option RaceAt) → KeptOf r.location rs o → IsFirstLeast rs r → o ≡ Some r
kept_is rs r None n h = absurd (all_in (λ s. r.location ≢ s.location) rs r n (subst (In r) (sym h.came) (in_round h.before h.after r)) refl)
kept_is rs r (Some k) n h = ap Some (one_least rs k r n.0 n.1 h)

-- ---- the races of a report

pub race_on_in : (rs : List RaceAt) (r : RaceAt) → Ascends rs → In r rs → race_on r.location rs ≡ Some r
race_on_in [] r a h = absurd h
race_on_in (s ∷ rs) r a (inl e) = subst (λ x. race_on x.location (s ∷ rs) ≡ Some x) e (race_on-here s rs)
race_on_in (s ∷ rs) r a (inr h) =
    let above : s.location < r.location = all_in (λ x. s.location < x.location) rs r a.0 h in
    race_on-past r.location s rs (λ e. omega arith) ∙ race_on_in rs r a.1 h

in_race_on_at : (s r : RaceAt) (rs : List RaceAt) (o : Option RaceAt) (b : Bool) → cond b (Some s) o ≡ Some r → (o ≡ Some r → In r rs) → (s ≡ r) ⊎ In r rs
in_race_on_at s r rs o true e f = inl (cc)
in_race_on_at s r rs o false e f = inr (f e)

pub in_race_on : (l : ℕ) (rs : List RaceAt) (r : RaceAt) → race_on l rs ≡ Some r → In r rs
in_race_on l [] r e = absurd (cc)
in_race_on l (s ∷ rs) r e = in_race_on_at s r rs (race_on l rs) (eqb s.location l) e (in_race_on l rs r)

pub first_least : (g : List Back) (rs : List RaceAt) → IsCollected g rs → AreFirstLeast g rs
first_least g rs c r = (forth, back)
  where
    forth : Contains rs r → IsFirstLeast (races_of g) r
    forth h =
        let e : best r.location (races_of g) ≡ Some r = sym (c.best_on r.location) ∙ race_on_in rs r (Ascends-from_increasing rs c.is_report.ascending) (In_from rs r h) in
        (subst (KeptOf r.location (races_of g)) e (kept_best r.location (races_of g))).1

    back : IsFirstLeast (races_of g) r → Contains rs r
    back h = Contains_from rs r (in_race_on r.location rs r (c.best_on r.location ∙ kept_is (races_of g) r (best r.location (races_of g)) (kept_best r.location (races_of g)) h))
