-- Private: races by their locations, as a map keeps them, and which races may join others.
use Rattle.std.specs.Prelude.{◌≡◌, ℕ, nat_lt, nat_le, Bool, false, List, map, ◌-◌, true, length, slice_get}
use Rattle.std.specs.Option.{option_map_or}
use Rattle.dag.specs.Accesses.{RaceAt}
use Rattle.collect.specs.Reports.{IsReportList}
use Rattle.collect.specs.Collected.{race_on}

abbrev pub keyed : List RaceAt → List (ℕ × RaceAt)
keyed rs = map (λ r. (r.location, r)) rs

-- each race stands under its location, and they are those of a report
pub record IsKeyed (es : List (ℕ × RaceAt)) : Type 0 where
  pub keys : es ≡ keyed (map (λ e. e.1) es)
  pub report : IsReportList (map (λ e. e.1) es)

-- whether a race of the list has the location of r, and a second place that is no later
abbrev pub has_better : List RaceAt → RaceAt → Bool
has_better rs r = option_map_or (λ k. nat_le k.second.place r.second.place) (race_on r.location rs) false

-- whether the location of a race is above that of the last of a list
abbrev pub may_follow : List RaceAt → RaceAt → Bool
may_follow rs r = option_map_or (λ last. nat_lt last.location r.location) (slice_get rs (length rs - 1)) true
