-- The races found in a trace whose locations fit 64 bits.
use Rattle.detect_plain.proofs.Common.{◌≡◌, ℕ, suc, ◌<◌, ◌^◌, Bool, List, [], ◌∷◌, ◌++◌, Option, Some, None, option_to_list, refl, sym, subst, AllByRecursion, Record, Version, RaceAt, placed_from, Fits, AllFit, race_with, State, state_at_start, after_record, race_of, found_from, found, race_with-is}
use Rattle.dag.specs.declared.records.Record.TheVariants as records
use Rattle.dag.specs.declared.records.Kind.{Kind}
use Rattle.dag.specs.declared.records.Kind.TheVariants.{Read, Write}
use Rattle.dag.specs.declared.records.Access.{Access}

-- the location of the race fits 64 bits
abbrev pub HasFit : RaceAt → Type 0
HasFit r = r.location < 2 ^ 64

fit_next : (o : Option RaceAt) (rs : List RaceAt) → ((x : RaceAt) → o ≡ Some x → HasFit x) → AllByRecursion HasFit rs → AllByRecursion HasFit (option_to_list o ++ rs)
fit_next None rs f a = a
fit_next (Some x) rs f a = (f x refl, a)

fit_access : (l : ℕ) (q : Kind) (place : ℕ) (reported : Bool) (o : Option Access) (x : RaceAt) → l < 2 ^ 64 → race_with l q place reported o ≡ Some x → HasFit x
fit_access l q place reported o x h e = subst (λ (m : ℕ). m < 2 ^ 64) (sym (race_with-is l q place reported o x e).0) h

fit_race : (v : Version) (s : State) (place : ℕ) (r : Record) (x : RaceAt) → Fits v r → race_of s place r ≡ Some x → HasFit x
fit_race v s place records.Spawn x h e = absurd (cc)
fit_race v s place records.Call x h e = absurd (cc)
fit_race v s place records.Return x h e = absurd (cc)
fit_race v s place records.Sync x h e = absurd (cc)
fit_race v s place (records.Read l) x h e = fit_access l Read place _ _ x h e
fit_race v s place (records.Write l) x h e = fit_access l Write place _ _ x h e

fit_found : (v : Version) (s : State) (i : ℕ) (w : List Record) → AllFit v w → AllByRecursion HasFit (found_from s (placed_from i w))
fit_found v s i [] h = tt
fit_found v s i (r ∷ w) h = fit_next _ _ (λ x e. fit_race v s i r x h.0 e) (fit_found v (after_record s i r) (suc i) w h.1)

-- the races found in a trace whose locations fit 64 bits
pub fit-found : (v : Version) (w : List Record) → AllFit v w → AllByRecursion HasFit (found (placed_from 1 w))
fit-found v w h = fit_found v state_at_start 1 w h
