-- The report of a part, from the races found in its records by their numbers.
use Rattle.detect_plain.proofs.Common.{◌≡◌, ℕ, List, [], ◌∷◌, map, sym, ap, subst, ◌∙◌, AllByRecursion, Record, Version, Part, RaceAt, placed, IsWellNested, AllFit, records_of, races_of_part, state_at_start, found, by_location, verdict, found_from-apart, found-part}
use Rattle.shadow.proofs.Listed.{All-by_location}
use Rattle.shadow.proofs.PartListed.{located-by_location, filter-by_location}
use Rattle.collect.specs.Located.{located_at, HaveLocations}
use Rattle.detect_plain.proofs.Fitting.{HasFit, fit-found}
use Rattle.verdict.specs.Reported.{IsPartReportOf}
use Rattle.verdict.proofs.PartReports.{is_own, all-filter, part_report_is}

-- the races found by their numbers, at their locations
at_locations : (part : Part) (w : List Record) (rs : List RaceAt) → rs ≡ by_location (found (records_of part (placed w))) → map (located_at part) rs ≡ races_of_part part (verdict w)
at_locations part w rs is =
    ap (map (located_at part)) is
    ∙ located-by_location part (found (records_of part (placed w)))
    ∙ ap by_location (found-part part (placed w))
    ∙ sym (filter-by_location (is_own part) (found (placed w)) (found_from-apart state_at_start (placed w)))

have_locations : (part : Part) (rs : List RaceAt) → AllByRecursion HasFit (map (located_at part) rs) → HaveLocations part rs
have_locations part [] a = tt
have_locations part (r ∷ rs) a = (a.0, have_locations part rs a.1)

pub fit_part : (part : Part) (v : Version) (w : List Record) (rs : List RaceAt) → AllFit v w → rs ≡ by_location (found (records_of part (placed w))) → HaveLocations part rs
fit_part part v w rs fits is =
    have_locations part rs (subst (AllByRecursion HasFit) (sym (at_locations part w rs is)) (all-filter HasFit (is_own part) (verdict w) (All-by_location HasFit (found (placed w)) (fit-found v w fits))))

pub part_report : (part : Part) (w : List Record) {records depths : ℕ} (rs report : List RaceAt) → IsWellNested w records depths → rs ≡ by_location (found (records_of part (placed w))) → report ≡ map (located_at part) rs → IsPartReportOf part w report
part_report part w rs report nested is moved = part_report_is part w report nested (moved ∙ at_locations part w rs is)
