-- The report of a trace by the races found in it.
use Rattle.verdict.proofs.Common.{◌≡◌, ◌↔◌, ℕ, suc, ◌+◌, List, [], ◌∷◌, ◌++◌, length, sym, ◌∙◌, ap, subst, arith, Record, RaceAt, placed, placed_from, IsWellNested, HasRace, IsReport, found, by_location, verdict_is_report, racy, HasLocation, IsReportOf}
use Rattle.dag.specs.declared.records.Placed.{Placed}

-- the records of a list that is longer by one
placed-push : (i : ℕ) (w : List Record) (r : Record) → placed_from i (w ++ r ∷ []) ≡ placed_from i w ++ record { place = i + length w; what = r } ∷ []
placed-push i [] r = let e : i ≡ i + 0 = omega arith in ap (λ n. record { place = n; what = r } ∷ []) e
placed-push i (x ∷ w) r =
    let e : suc i + length w ≡ i + suc (length w) = omega arith in
    ap (λ (z : List Placed). record { place = i; what = x } ∷ z) (placed-push (suc i) w r ∙ ap (λ n. placed_from (suc i) w ++ record { place = n; what = r } ∷ []) e)

pub placed-next : (w : List Record) (p : Placed) → p.place ≡ length w + 1 → placed (w ++ p.what ∷ []) ≡ placed w ++ p ∷ []
placed-next w p is =
    let e : 1 + length w ≡ p.place = omega arith in
    placed-push 1 w p.what ∙ ap (λ n. placed w ++ record { place = n; what = p.what } ∷ []) e

-- the report of a trace by the races found in it
pub report_of : (w : List Record) {records depths : ℕ} (rs : List RaceAt) → IsWellNested w records depths → rs ≡ by_location (found (placed w)) → IsReportOf w rs
report_of w rs nested is =
    let P : List RaceAt → Type 0 = λ xs. IsReport w xs in
    record { is_verdict = is; is_report = subst P (sym is) (verdict_is_report w nested); racy = λ l. let Q : List RaceAt → Type 0 = λ xs. HasRace w l ↔ HasLocation xs l in subst Q (sym is) (racy w nested l) }
