-- Reports on their way into a collector, and the one that is made of them.
use Rattle.replies.proofs.Common.{◌≡◌, ℕ, suc, ◌+◌, ◌<◌, List, [], ◌∷◌, ◌++◌, length, map, get_or, take, drop, Option, Result, String, string_bytes, sym, ap, ◌∙◌, subst, arith, take-append-drop, drop-cons, length-take-le, RaceAt, ReportRefusal, Input, HasReadReport, IsRefusedReport, HaveReadReports, IsFirstRefused, HasTakenReport, HaveTaken}
use Rattle.std.proofs.lemmas.List.{take_more, flat_map_more}
use Rattle.dag.specs.declared.back.Back.{Back}
use Rattle.dag.specs.declared.back.Back.TheVariants.{Race}
use Rattle.collect.specs.Collected.{Collection, KeepsBest}
use Rattle.collect.specs.Merged.{backs_of_reports}

module _ {F E : Type 0} (Gives : List ℕ → Result F E → Type 0) (known : Input F → Option (List ℕ)) {A : Type 0} where
  read_more : (names : List (String A)) (name : String A) (reports : List (List RaceAt)) (entries : List RaceAt) → HaveReadReports Gives known names reports → HasReadReport Gives known (string_bytes name) entries
      → HaveReadReports Gives known (names ++ name ∷ []) (reports ++ entries ∷ [])
  read_more [] name [] entries none one = (one, tt)
  read_more [] name (rs ∷ reports) entries none one = absurd none
  read_more (n ∷ names) name [] entries none one = absurd none
  read_more (n ∷ names) name (rs ∷ reports) entries more one = (more.0, read_more names name reports entries more.1 one)

  -- one more report was taken
  pub taken_more : (names : List (String A)) (i : ℕ) (name : String A) (c d : Collection) → i < length names → name ≡ get_or names i name → HaveTaken Gives known (take i names) c → HasTakenReport Gives known (string_bytes name) c d
      → HaveTaken Gives known (take (i + 1) names) d
  taken_more names i name c d within is before one =
      let all : take (i + 1) names ≡ take i names ++ name ∷ [] = take_more names i name within ∙ ap (λ n. take i names ++ n ∷ []) (sym is) in
      let P : List (String A) → Type 0 = λ ns. HaveReadReports Gives known ns (before.reports ++ one.entries ∷ []) in
      let Q : List Back → Type 0 = λ g. KeepsBest g d in
      record {
        reports = before.reports ++ one.entries ∷ [];
        read = subst P (sym all) (read_more (take i names) name before.reports one.entries before.read one.read);
        kept = subst Q (flat_map_more (map Race) [] before.reports one.entries) (one.took (backs_of_reports before.reports) before.kept);
      }

  -- the reports before this one were taken, and it wasn't
  pub first_refused : (names : List (String A)) (i number : ℕ) (name : String A) (c : Collection) (refusal : ReportRefusal) → i < length names → name ≡ get_or names i name → number ≡ i → HaveTaken Gives known (take i names) c
      → IsRefusedReport Gives known (string_bytes name) refusal → IsFirstRefused Gives known names (number + 1) refusal
  first_refused names i number name c refusal within is counted before why = record {
    before = take i names;
    name = name;
    after = drop (suc i) names;
    names_are = sym (take-append-drop i names) ∙ ap (λ l. take i names ++ l) (drop-cons names i name within ∙ ap (λ n. n ∷ drop (suc i) names) (sym is));
    number_is = let long = length-take-le i names (omega (arith, within)) in omega (arith, long, counted);
    earlier = (before.reports, before.read);
    refused = why;
  }
