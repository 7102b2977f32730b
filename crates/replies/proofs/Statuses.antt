-- What a status says of the races of a trace.
use Rattle.replies.proofs.Common.{◌≡◌, ◌↔◌, ℕ, ◌<◌, List, [], ◌∷◌, Option, None, Some, refl, arith, subst, ◌≤◌, ◌⊎◌, inl, inr, Record, IsWellNested, RaceAt, Access, IsPair, ArePairs, rtext, AnswersCheck, AnswersCheckOf, IsRacyIn}
use native.Mathlib.Decide.{dec_le}
use Rattle.std.specs.List.{Contains}
use Rattle.dag.specs.declared.part.Part.{Part}
use Rattle.dag.specs.declared.records.Kind.{Kind}
use Rattle.dag.specs.declared.records.Kind.TheVariants.{Read, Write}
use Rattle.dag.specs.Races.{IsAccess, IsRead, IsWrite, IsRace, HasRace}
use Rattle.dag.proofs.Lists.{Contains-nil}
use Rattle.audit.specs.declared.answers.Explained.{Explained}
use Rattle.audit.specs.Explanations.{Explains}
use Rattle.verdict.specs.Racy.{HasLocation}
use Rattle.detect.specs.declared.sharded.Run.{Run}
use Rattle.detect.specs.RunReports.{RunAnswers, RunAnswersPart}
use Rattle.detect.proofs.PartReports.{whole_answers}

no_location : (l : ℕ) → HasLocation [] l → ⊥
no_location l (r, (k, within, is), at) = absurd (omega arith)

some_race : (races : List RaceAt) (Racy : ℕ → Type 0) → ((l : ℕ) → Racy l ↔ HasLocation races l) → (races ≡ [] → ⊥) → (l : ℕ) × Racy l
some_race [] Racy racy some = absurd (some refl)
some_race (r ∷ rs) Racy racy some = (r.location, (racy r.location).1 (r, (0, omega arith, refl), refl))

-- where the status is 0 exactly for no race of the report, it is 1 exactly where there is a location that is reported
pub one_exactly : (status : ℕ) (races : List RaceAt) (Racy : ℕ → Type 0) → status < 2 → (status ≡ 0) ↔ (races ≡ []) → ((l : ℕ) → Racy l ↔ HasLocation races l) → (status ≡ 1) ↔ ((l : ℕ) × Racy l)
one_exactly status races Racy low none racy = (to, from)
  where
    to : status ≡ 1 → (l : ℕ) × Racy l
    to one = some_race races Racy racy (λ e. let zero : status ≡ 0 = none.1 e in absurd (omega arith))

    from : (l : ℕ) × Racy l → status ≡ 1
    from (l, race) = go (dec_le status 0)
      where
        go : Dec (status ≤ 0) → status ≡ 1
        go (yes zero) =
            let e : races ≡ [] = none.0 (omega arith) in
            let P : List RaceAt → Type 0 = λ rs. HasLocation rs l in
            absurd (no_location l (subst P e ((racy l).0 race)))
        go (no more) = omega arith

-- the report of a run over the whole answers `check`
whole_answered : (shards status : ℕ) (run : Run) (w : List Record) → status < 2 → (status ≡ 0) ↔ (run.report ≡ []) → RunAnswers shards run w → AnswersCheck w (rtext run.report) status
whole_answered shards status run w low zero answers = record {
  races = run.report;
  reported = answers.reported;
  is_text = refl;
  zero = zero;
  one = one_exactly status run.report (HasRace w) low zero answers.reported.racy;
}

-- the report of a run over a part answers `check`
pub check_answered : (part : Part) (shards status : ℕ) (run : Run) (w : List Record) {records depths : ℕ} → IsWellNested w records depths → status < 2 → (status ≡ 0) ↔ (run.report ≡ []) → RunAnswersPart part shards run w
    → AnswersCheckOf part w (rtext run.report) status
check_answered part shards status run w nested low zero answers = record {
  of_part = record {
    races = run.report;
    reported = answers.reported;
    is_text = refl;
    zero = zero;
    one = one_exactly status run.report (IsRacyIn part w) low zero (λ l. let racy = answers.reported.racy l in (racy.1, racy.0));
  };
  of_whole = λ one. whole_answered shards status run w low zero (whole_answers part shards w run one nested answers);
}

kind_at : (w : List Record) (l i : ℕ) → IsRead w l i ⊎ IsWrite w l i → (k : Kind) × IsAccess w l i k
kind_at w l i (inl r) = (Read, r)
kind_at w l i (inr r) = (Write, r)

-- where the status is 0 exactly for no pair of the location, it is 1 exactly where it has a race
pub pairs_one : (status : ℕ) (w : List Record) (l : ℕ) (pairs : List (Access × Access)) → ArePairs w l pairs → status < 2 → (status ≡ 0) ↔ (pairs ≡ []) → (status ≡ 1) ↔ HasRace w l
pairs_one status w l pairs are low none = (to pairs (λ p. (are.exactly p).0) none.1, from)
  where
    to : (ps : List (Access × Access)) → ((p : Access × Access) → Contains ps p → IsPair w l p) → (ps ≡ [] → status ≡ 0) → status ≡ 1 → HasRace w l
    to [] each empty one = let zero : status ≡ 0 = empty refl in absurd (omega arith)
    to (p ∷ ps) each empty one = (p.0.place, p.1.place, (each p (0, omega arith, refl)).race)

    from : HasRace w l → status ≡ 1
    from (i, j, race) = go (dec_le status 0)
      where
        go : Dec (status ≤ 0) → status ≡ 1
        go (yes zero) =
            let e : pairs ≡ [] = none.0 (omega arith) in
            let first = kind_at w l i race.first in
            let second = kind_at w l j race.second in
            let p : Access × Access = (record { kind = first.0; place = i }, record { kind = second.0; place = j }) in
            let is : IsPair w l p = record { race = race; first_kind = first.1; second_kind = second.1 } in
            let P : List (Access × Access) → Type 0 = λ ps. Contains ps p in
            absurd (Contains-nil p (subst P e ((are.exactly p).1 is)))
        go (no more) = omega arith

-- where the status is 0 exactly for no explanation of the location, it is 1 exactly where it has a race
pub explain_one : (status : ℕ) (w : List Record) (l : ℕ) (answer : Option Explained) → Explains w l answer → status < 2 → (status ≡ 0) ↔ (answer ≡ None) → (status ≡ 1) ↔ HasRace w l
explain_one status w l None none low zero = (λ one. let is : status ≡ 0 = zero.1 refl in absurd (omega arith), λ race. absurd (none race.0 race.1 race.2))
explain_one status w l (Some e) says low zero = (λ one. has, λ race. is_one (dec_le status 0))
  where
    has : HasRace w l
    has =
        let race = says.1.reported.second.race in
        let At : ℕ → Type 0 = λ m. IsRace w m race.0 e.race.second.place in
        (race.0, e.race.second.place, subst At says.0 race.1)

    is_one : Dec (status ≤ 0) → status ≡ 1
    is_one (yes least) = let none : Some e ≡ None = zero.0 (omega arith) in absurd (cc)
    is_one (no more) = omega arith
