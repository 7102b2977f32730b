-- Races by ascending location: the same races, in order where no two are of one location.
use Rattle.shadow.proofs.Common.{◌≡◌, ◌≢◌, ℕ, ◌<◌, ltb, List, [], ◌∷◌, map, ◌⊎◌, inl, inr, ⊎_elim, arith, AllByRecursion, IsStrictlyIncreasing, cond_both, ltb-true, ltb-false, RaceAt, put_in, by_location, In, Rises, AllAbove, AllAbove-lower, increasing-from_rises, AreApart}

abbrev pub location_of : RaceAt → ℕ
location_of r = r.location

All-put_in : (P : RaceAt → Type 0) (r : RaceAt) (rs : List RaceAt) → P r → AllByRecursion P rs → AllByRecursion P (put_in r rs)
All-put_in P r [] h a = (h, tt)
All-put_in P r (s ∷ rs) h a = cond_both (ltb r.location s.location) (r ∷ s ∷ rs) (s ∷ put_in r rs) (AllByRecursion P) (λ e. (h, a)) (λ e. (a.0, All-put_in P r rs h a.1))

pub All-by_location : (P : RaceAt → Type 0) (rs : List RaceAt) → AllByRecursion P rs → AllByRecursion P (by_location rs)
All-by_location P [] a = tt
All-by_location P (r ∷ rs) a = All-put_in P r (by_location rs) a.0 (All-by_location P rs a.1)

AllAbove-put_in : (m : ℕ) (r : RaceAt) (rs : List RaceAt) → m < r.location → AllAbove location_of m rs → AllAbove location_of m (put_in r rs)
AllAbove-put_in m r [] h a = (h, tt)
AllAbove-put_in m r (s ∷ rs) h a = cond_both (ltb r.location s.location) (r ∷ s ∷ rs) (s ∷ put_in r rs) (AllAbove location_of m) (λ e. (h, a)) (λ e. (a.0, AllAbove-put_in m r rs h a.1))

below_front : (r s : RaceAt) (rs : List RaceAt) → r.location < s.location → Rises location_of (s ∷ rs) → Rises location_of (r ∷ s ∷ rs)
below_front r s rs h a = ((h, AllAbove-lower location_of r.location s.location rs (omega arith) a.0), a)

Rises-put_in : (r : RaceAt) (rs : List RaceAt) → Rises location_of rs → AllByRecursion (λ q. r.location ≢ q.location) rs → Rises location_of (put_in r rs)
Rises-put_in r [] a d = (tt, tt)
Rises-put_in r (s ∷ rs) a d = cond_both (ltb r.location s.location) (r ∷ s ∷ rs) (s ∷ put_in r rs) (Rises location_of)
    (λ e. below_front r s rs (ltb-true _ _ e) a)
    (λ e. let n = d.0 in let h = ltb-false _ _ e in (AllAbove-put_in s.location r rs (omega arith) a.0, Rises-put_in r rs a.1 d.1))

pub Rises-by_location : (rs : List RaceAt) → AreApart rs → Rises location_of (by_location rs)
Rises-by_location [] a = tt
Rises-by_location (r ∷ rs) a = Rises-put_in r (by_location rs) (Rises-by_location rs a.1) (All-by_location (λ q. r.location ≢ q.location) rs a.0)

-- where no two races are of one location, the locations rise
pub increasing-by_location : (rs : List RaceAt) → AreApart rs → IsStrictlyIncreasing (map (λ r. r.location) (by_location rs))
increasing-by_location rs a = increasing-from_rises location_of (by_location rs) (Rises-by_location rs a)

in_front : (x r s : RaceAt) (rs : List RaceAt) → In x (s ∷ put_in r rs) → (In x (put_in r rs) → (r ≡ x) ⊎ In x rs) → (r ≡ x) ⊎ In x (s ∷ rs)
in_front x r s rs (inl e) f = inr (inl e)
in_front x r s rs (inr h) f = ⊎_elim (λ e. inl e) (λ q. inr (inr q)) (f h)

In-from_put_in : (x r : RaceAt) (rs : List RaceAt) → In x (put_in r rs) → (r ≡ x) ⊎ In x rs
In-from_put_in x r [] h = h
In-from_put_in x r (s ∷ rs) h = cond_both (ltb r.location s.location) (r ∷ s ∷ rs) (s ∷ put_in r rs) (λ (z : List RaceAt). In x z → (r ≡ x) ⊎ In x (s ∷ rs)) (λ e q. q) (λ e q. in_front x r s rs q (In-from_put_in x r rs)) h

into_front : (x r s : RaceAt) (rs : List RaceAt) → (r ≡ x) ⊎ In x (s ∷ rs) → ((r ≡ x) ⊎ In x rs → In x (put_in r rs)) → In x (s ∷ put_in r rs)
into_front x r s rs (inl e) f = inr (f (inl e))
into_front x r s rs (inr (inl e)) f = inl e
into_front x r s rs (inr (inr h)) f = inr (f (inr h))

In-put_in : (x r : RaceAt) (rs : List RaceAt) → (r ≡ x) ⊎ In x rs → In x (put_in r rs)
In-put_in x r [] h = h
In-put_in x r (s ∷ rs) h = cond_both (ltb r.location s.location) (r ∷ s ∷ rs) (s ∷ put_in r rs) (In x) (λ e. h) (λ e. into_front x r s rs h (In-put_in x r rs))

-- the same races
pub In-from_by_location : (x : RaceAt) (rs : List RaceAt) → In x (by_location rs) → In x rs
In-from_by_location x [] h = h
In-from_by_location x (r ∷ rs) h = ⊎_elim (λ e. inl e) (λ q. inr (In-from_by_location x rs q)) (In-from_put_in x r (by_location rs) h)

pub In-by_location : (x : RaceAt) (rs : List RaceAt) → In x rs → In x (by_location rs)
In-by_location x [] h = h
In-by_location x (r ∷ rs) h = In-put_in x r (by_location rs) (⊎_elim (λ e. inl e) (λ q. inr (In-by_location x rs q)) h)
