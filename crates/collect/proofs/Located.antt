-- Races by their numbers in a part, of which those in front are at their locations already.
use Rattle.collect.proofs.Common.{◌≡◌, ℕ, zero, suc, ◌<◌, ◌≤◌, ◌^◌, ◌*◌, List, [], ◌∷◌, length, map, set, get_or, refl, ap, arith, AllByRecursion, mul-lt-mul_of_pos_right, Part, RaceAt, location_at, IsEntry, IsReportList, located_at, HaveLocations}
use Rattle.collect.proofs.Ascending.{Above, Ascends, Ascends-from_increasing, increasing_from_ascends}

-- the first so many races are at their locations
abbrev pub partly : Part → ℕ → List RaceAt → List RaceAt
partly part zero rs = rs
partly part (suc k) [] = []
partly part (suc k) (r ∷ rs) = located_at part r ∷ partly part k rs

pub partly-all : (part : Part) (k : ℕ) (rs : List RaceAt) → length rs ≤ k → partly part k rs ≡ map (located_at part) rs
partly-all part zero [] h = refl
partly-all part zero (r ∷ rs) h = absurd (omega (arith, h))
partly-all part (suc k) [] h = refl
partly-all part (suc k) (r ∷ rs) h = ap (λ (l : List RaceAt). located_at part r ∷ l) (partly-all part k rs (omega (arith, h)))

-- the next race is still by its number
pub partly-next : (part : Part) (k : ℕ) (rs : List RaceAt) (d : RaceAt) → k < length rs → get_or (partly part k rs) k d ≡ get_or rs k d
partly-next part zero rs d h = refl
partly-next part (suc k) [] d h = refl
partly-next part (suc k) (r ∷ rs) d h = partly-next part k rs d (omega (arith, h))

pub partly-set : (part : Part) (k : ℕ) (rs : List RaceAt) (d : RaceAt) → k < length rs → set (partly part k rs) k (located_at part (get_or rs k d)) ≡ partly part (suc k) rs
partly-set part zero [] d h = absurd (omega (arith, h))
partly-set part zero (r ∷ rs) d h = refl
partly-set part (suc k) [] d h = absurd (omega (arith, h))
partly-set part (suc k) (r ∷ rs) d h = ap (λ (l : List RaceAt). located_at part r ∷ l) (partly-set part k rs d (omega (arith, h)))

pub has_location : (part : Part) (rs : List RaceAt) (k : ℕ) (d : RaceAt) → k < length rs → HaveLocations part rs → location_at part (get_or rs k d).location < 2 ^ 64
has_location part [] k d h all = absurd (omega (arith, h))
has_location part (r ∷ rs) zero d h all = all.0
has_location part (r ∷ rs) (suc k) d h all = has_location part rs k d (omega (arith, h)) all.1

-- ---- at their locations they are a report's

above-located : (part : Part) (l : ℕ) (rs : List RaceAt) → Above l rs → Above (location_at part l) (map (located_at part) rs)
above-located part l [] a = tt
above-located part l (r ∷ rs) a =
    let lt : l * part.count < r.location * part.count = mul-lt-mul_of_pos_right a.0 part.count_within.0 in
    (omega (arith, lt), above-located part l rs a.1)

ascends-located : (part : Part) (rs : List RaceAt) → Ascends rs → Ascends (map (located_at part) rs)
ascends-located part [] a = tt
ascends-located part (r ∷ rs) a = (above-located part r.location rs a.0, ascends-located part rs a.1)

entries-located : (part : Part) (rs : List RaceAt) → AllByRecursion IsEntry rs → HaveLocations part rs → AllByRecursion IsEntry (map (located_at part) rs)
entries-located part [] a h = tt
entries-located part (r ∷ rs) a h = (record { fits = h.0; shape = a.0.shape }, entries-located part rs a.1 h.1)

pub list-located : (part : Part) (rs : List RaceAt) → IsReportList rs → HaveLocations part rs → IsReportList (map (located_at part) rs)
list-located part rs l h = record {
  ascending = increasing_from_ascends (map (located_at part) rs) (ascends-located part rs (Ascends-from_increasing rs l.ascending));
  entries = entries-located part rs l.entries h;
}
