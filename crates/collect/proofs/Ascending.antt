-- Lists of races that ascend by location, by recursion.
use Rattle.collect.proofs.Common.{◌≡◌, ℕ, ◌<◌, List, [], ◌∷◌, sym, arith, nat_cmp_is, ranked, AllByRecursion, nat_cmp, Less, RaceAt, locations}
use Rattle.std.specs.List.Sorted.{IsStrictlyIncreasing, IsStrictlySortedBy}
use Rattle.std.proofs.lemmas.Map.Keys.{sorted_head, sorted_tail, sorted_from_strictly_increasing, IsStrictlyIncreasing-from_sorted}

-- each location of the list is above l
abbrev pub Above : ℕ → List RaceAt → Type 0
Above l rs = AllByRecursion (λ r. l < r.location) rs

pub Above-trans : (l m : ℕ) (rs : List RaceAt) → l < m → Above m rs → Above l rs
Above-trans l m [] h a = tt
Above-trans l m (r ∷ rs) h a = (omega (arith, a.0), Above-trans l m rs h a.1)

abbrev pub Ascends : List RaceAt → Type 0
Ascends [] = Unit {0}
Ascends (r ∷ rs) = Above r.location rs × Ascends rs

Above-from_less : (l : ℕ) (rs : List RaceAt) → AllByRecursion (λ m. nat_cmp l m ≡ Less) (locations rs) → Above l rs
Above-from_less l [] h = tt
Above-from_less l (r ∷ rs) h = (ranked l r.location Less (sym h.0), Above-from_less l rs h.1)

less_from_above : (l : ℕ) (rs : List RaceAt) → Above l rs → AllByRecursion (λ m. nat_cmp l m ≡ Less) (locations rs)
less_from_above l [] h = tt
less_from_above l (r ∷ rs) h = (sym (nat_cmp_is l r.location Less h.0), less_from_above l rs h.1)

Ascends-from_sorted : (rs : List RaceAt) → IsStrictlySortedBy nat_cmp (locations rs) → Ascends rs
Ascends-from_sorted [] h = tt
Ascends-from_sorted (r ∷ rs) h =
    (Above-from_less r.location rs (sorted_head nat_cmp r.location (locations rs) h), Ascends-from_sorted rs (sorted_tail nat_cmp r.location (locations rs) h))

sorted_from_ascends : (rs : List RaceAt) → Ascends rs → IsStrictlySortedBy nat_cmp (locations rs)
unfolding IsStrictlySortedBy
sorted_from_ascends [] h = tt
sorted_from_ascends (r ∷ rs) h = (less_from_above r.location rs h.0, sorted_from_ascends rs h.1)

pub Ascends-from_increasing : (rs : List RaceAt) → IsStrictlyIncreasing (locations rs) → Ascends rs
Ascends-from_increasing rs h = Ascends-from_sorted rs (sorted_from_strictly_increasing (locations rs) h)

pub increasing_from_ascends : (rs : List RaceAt) → Ascends rs → IsStrictlyIncreasing (locations rs)
increasing_from_ascends rs h = IsStrictlyIncreasing-from_sorted (locations rs) (sorted_from_ascends rs h)
