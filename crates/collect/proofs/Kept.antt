-- Races put into an ascending list, each in the place of an earlier one on its location.
use Rattle.collect.proofs.Common.{◌≡◌, ℕ, ◌<◌, Bool, true, false, cond, eqb, List, [], ◌∷◌, Some, map, Result, Ok, Err, OnErr, refl, arith, sym, ap, ◌∙◌, subst, insert_entry, is_at, ranked, AllByRecursion, nat_cmp, match_ordering, is_eq, MatchOrdering, Less, Equal, Greater, eqb-true, nat_tests, RaceAt, race_on, IsEntry, IsReportList}
use Rattle.std.specs.Map.{lookup}
use Rattle.std.specs.declared.cmp.Ordering.{Ordering}
use Rattle.collect.specs.Keyed.{keyed, IsKeyed}
use Rattle.collect.proofs.Ascending.{Above, Above-trans, Ascends, Ascends-from_increasing, increasing_from_ascends}

-- where it holds, it holds on an error
pub on_err : {T E P : Type 0} (r : Result T E) → P → OnErr r P
on_err (Ok x) p = tt
on_err (Err e) p = p

-- by the order of two locations: before the first race, in its place, or further on
abbrev pub placed_at : Ordering → RaceAt → RaceAt → List RaceAt → List RaceAt → List RaceAt
placed_at o r s rs more = match_ordering o (r ∷ s ∷ rs) (r ∷ rs) (s ∷ more)

abbrev pub put : RaceAt → List RaceAt → List RaceAt
put r [] = r ∷ []
put r (s ∷ rs) = placed_at (nat_cmp r.location s.location) r s rs (put r rs)

pub values-keyed : (rs : List RaceAt) → map (λ e. e.1) (keyed rs) ≡ rs
values-keyed [] = refl
values-keyed (r ∷ rs) = ap (λ l. r ∷ l) (values-keyed rs)

-- ---- a map's insert is a put

insert_entry-at : (r s : RaceAt) (rs : List RaceAt) (o : Ordering) → MatchOrdering o (r.location < s.location) (r.location ≡ s.location) (s.location < r.location)
    → insert_entry nat_cmp (keyed rs) r.location r ≡ keyed (put r rs)
    → match_ordering o ((r.location, r) ∷ keyed (s ∷ rs)) ((s.location, r) ∷ keyed rs) ((s.location, s) ∷ insert_entry nat_cmp (keyed rs) r.location r)
    ≡ keyed (placed_at o r s rs (put r rs))
insert_entry-at r s rs Less h e = refl
insert_entry-at r s rs Equal h e = ap (λ l. (l, r) ∷ keyed rs) (sym h)
insert_entry-at r s rs Greater h e = ap (λ l. (s.location, s) ∷ l) e

pub insert_entry-keyed : (r : RaceAt) (rs : List RaceAt) → insert_entry nat_cmp (keyed rs) r.location r ≡ keyed (put r rs)
insert_entry-keyed r [] = refl
insert_entry-keyed r (s ∷ rs) = insert_entry-at r s rs (nat_cmp r.location s.location) (ranked r.location s.location (nat_cmp r.location s.location) refl) (insert_entry-keyed r rs)

same_test : (l m : ℕ) → is_eq (nat_cmp l m) ≡ eqb m l
same_test l m = grind (arith, nat_tests)

cond_same : {T : Type 0} (a b : Bool) (x y z : T) → a ≡ b → y ≡ z → cond a x y ≡ cond b x z
cond_same a b x y z p q = cc

pub lookup-keyed : (l : ℕ) (rs : List RaceAt) → lookup (is_at (nat_cmp l)) (keyed rs) ≡ race_on l rs
lookup-keyed l [] = refl
lookup-keyed l (r ∷ rs) = cond_same (is_at (nat_cmp l) r.location) (eqb r.location l) _ _ _ (same_test l r.location) (lookup-keyed l rs)

-- ---- a put keeps the order

Above-at : (l : ℕ) (r s : RaceAt) (rs more : List RaceAt) (o : Ordering) → l < r.location → Above l (s ∷ rs) → Above l more → Above l (placed_at o r s rs more)
Above-at l r s rs more Less h a b = (h, a)
Above-at l r s rs more Equal h a b = (h, a.1)
Above-at l r s rs more Greater h a b = (a.0, b)

pub Above-put : (l : ℕ) (r : RaceAt) (rs : List RaceAt) → l < r.location → Above l rs → Above l (put r rs)
Above-put l r [] h a = (h, tt)
Above-put l r (s ∷ rs) h a = Above-at l r s rs (put r rs) (nat_cmp r.location s.location) h a (Above-put l r rs h a.1)

Ascends-at : (r s : RaceAt) (rs : List RaceAt) (o : Ordering) → MatchOrdering o (r.location < s.location) (r.location ≡ s.location) (s.location < r.location)
    → Ascends (s ∷ rs) → Ascends (put r rs) → Ascends (placed_at o r s rs (put r rs))
Ascends-at r s rs Less h a b = ((h, Above-trans r.location s.location rs h a.0), a)
Ascends-at r s rs Equal h a b = (subst (λ l. Above l rs) (sym h) a.0, a.1)
Ascends-at r s rs Greater h a b = (Above-put s.location r rs h a.0, b)

pub Ascends-put : (r : RaceAt) (rs : List RaceAt) → Ascends rs → Ascends (put r rs)
Ascends-put r [] a = (tt, tt)
Ascends-put r (s ∷ rs) a = Ascends-at r s rs (nat_cmp r.location s.location) (ranked r.location s.location (nat_cmp r.location s.location) refl) a (Ascends-put r rs a.1)

-- ---- what holds of each race

All-at : (P : RaceAt → Type 0) (r s : RaceAt) (rs more : List RaceAt) (o : Ordering) → P r → AllByRecursion P (s ∷ rs) → AllByRecursion P more → AllByRecursion P (placed_at o r s rs more)
All-at P r s rs more Less p a b = (p, a)
All-at P r s rs more Equal p a b = (p, a.1)
All-at P r s rs more Greater p a b = (a.0, b)

pub All-put : (P : RaceAt → Type 0) (r : RaceAt) (rs : List RaceAt) → P r → AllByRecursion P rs → AllByRecursion P (put r rs)
All-put P r [] p a = (p, tt)
All-put P r (s ∷ rs) p a = All-at P r s rs (put r rs) (nat_cmp r.location s.location) p a (All-put P r rs p a.1)

-- ---- the race on a location after a put

cond_over : {T : Type 0} (a b : Bool) (x y z : T) → a ≡ b → cond a x z ≡ cond a x (cond b y z)
cond_over true b x y z e = refl
cond_over false b x y z e = ap (λ t. cond t y z) e

pub cond_swap : {T : Type 0} (a b : Bool) (x y z : T) → (a ≡ true → b ≡ true → ⊥) → cond a x (cond b y z) ≡ cond b y (cond a x z)
cond_swap true true x y z h = absurd (h refl refl)
cond_swap true false x y z h = refl
cond_swap false b x y z h = refl

race_on-at : (l : ℕ) (r s : RaceAt) (rs : List RaceAt) (o : Ordering) → MatchOrdering o (r.location < s.location) (r.location ≡ s.location) (s.location < r.location)
    → race_on l (put r rs) ≡ cond (eqb r.location l) (Some r) (race_on l rs)
    → race_on l (placed_at o r s rs (put r rs)) ≡ cond (eqb r.location l) (Some r) (race_on l (s ∷ rs))
race_on-at l r s rs Less h e = refl
race_on-at l r s rs Equal h e = cond_over (eqb r.location l) (eqb s.location l) _ _ _ (ap (λ m. eqb m l) h)
race_on-at l r s rs Greater h e =
    ap (λ o. cond (eqb s.location l) (Some s) o) e
    ∙ cond_swap (eqb s.location l) (eqb r.location l) _ _ _ (λ p q. let here = eqb-true s.location l p in let there = eqb-true r.location l q in omega arith)

pub race_on-put : (l : ℕ) (r : RaceAt) (rs : List RaceAt) → race_on l (put r rs) ≡ cond (eqb r.location l) (Some r) (race_on l rs)
race_on-put l r [] = refl
race_on-put l r (s ∷ rs) = race_on-at l r s rs (nat_cmp r.location s.location) (ranked r.location s.location (nat_cmp r.location s.location) refl) (race_on-put l r rs)

-- ---- what a map of races keeps

pub race_on-values : (l : ℕ) (es : List (ℕ × RaceAt)) → IsKeyed es → lookup (is_at (nat_cmp l)) es ≡ race_on l (map (λ e. e.1) es)
race_on-values l es h = ap (lookup (is_at (nat_cmp l))) h.keys ∙ lookup-keyed l (map (λ e. e.1) es)

pub insert_entry-values : (r : RaceAt) (es new : List (ℕ × RaceAt)) → IsKeyed es → new ≡ insert_entry nat_cmp es r.location r → new ≡ keyed (put r (map (λ e. e.1) es))
insert_entry-values r es new h e = e ∙ ap (λ l. insert_entry nat_cmp l r.location r) h.keys ∙ insert_entry-keyed r (map (λ e. e.1) es)

pub values-put : (r : RaceAt) (es new : List (ℕ × RaceAt)) → IsKeyed es → new ≡ insert_entry nat_cmp es r.location r → map (λ e. e.1) new ≡ put r (map (λ e. e.1) es)
values-put r es new h e = ap (map (λ e. e.1)) (insert_entry-values r es new h e) ∙ values-keyed (put r (map (λ e. e.1) es))

IsReportList-put : (r : RaceAt) (rs : List RaceAt) → IsEntry r → IsReportList rs → IsReportList (put r rs)
IsReportList-put r rs p h = record {
  ascending = increasing_from_ascends (put r rs) (Ascends-put r rs (Ascends-from_increasing rs h.ascending));
  entries = All-put IsEntry r rs p h.entries;
}

pub IsKeyed-put : (r : RaceAt) (es new : List (ℕ × RaceAt)) → IsEntry r → IsKeyed es → new ≡ insert_entry nat_cmp es r.location r → IsKeyed new
IsKeyed-put r es new p h e = record {
  keys = insert_entry-values r es new h e ∙ ap keyed (sym (values-put r es new h e));
  report = subst IsReportList (sym (values-put r es new h e)) (IsReportList-put r (map (λ e. e.1) es) p h.report);
}
