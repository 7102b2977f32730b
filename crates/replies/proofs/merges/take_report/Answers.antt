use Rattle.replies.proofs.Common.{◌≡◌, ℕ, List, Option, Result, Ok, Err, IsErrAnd, refl, sym, ap, subst, inl, inr, MatchResult, RaceAt, Device, ◌⇝◌, ReportRefusal, refused_for, Input, StandsFor, known_bytes, untried, HasReadReport, IsRefusedReport}
use Rattle.collect.specs.declared.bounded.ReportRefusal.TheVariants as refusals
use Rattle.collect.specs.ReportBytes.{GivesReport, IsRefusal}
use Rattle.replies.proofs.Named.{is_untried}
use Rattle.replies.proofs.merges.take_report.Goals as goal

-- a report that was opened and then refused
refused_opened : {F E : Type 0} (Gives : List ℕ → Result F E → Type 0) (known : Input F → Option (List ℕ)) {name : List ℕ} (report : Input F) (refusal : ReportRefusal) (before after : Device)
    → StandsFor Gives name report → before ≡ untried (known report) → IsRefusal (before ⇝ after) refusal → IsRefusedReport Gives known name refusal
refused_opened Gives known report refusal before after stands is refused =
    let P : Device → Type 0 = λ d. IsRefusal (d ⇝ after) refusal in
    inr (record { report = report; stands = stands; left = after; refused = subst P is refused })

-- a report that was opened and read
read_opened : {F E : Type 0} (Gives : List ℕ → Result F E → Type 0) (known : Input F → Option (List ℕ)) {name : List ℕ} (report : Input F) (entries : List RaceAt) (before after : Device)
    → StandsFor Gives name report → before ≡ untried (known report) → GivesReport (before ⇝ after) entries → HasReadReport Gives known name entries
read_opened Gives known report entries before after stands is given =
    let P : Device → Type 0 = λ d. GivesReport (d ⇝ after) entries in
    record { report = report; stands = stands; left = after; given = subst P is given }

err_is : {A B : Type 0} (P : A → Type 0) (Q : B → Type 0) (r : Result A B) (b : B) → IsErrAnd r (λ e. e ≡ b) → Q b → MatchResult r P Q
err_is P Q (Ok a) b is q = absurd is
err_is P Q (Err e) b is q = subst Q (sym is) q

pub returns-in_default : goal.returns-in_default
returns-in_default g c = inl (c.in_default.ensures.cannot, refl)

pub returns-in_err-report : goal.returns-in_err-report
returns-in_err-report g c = err_is _ _ _ _ c.from_residual.ensures.1 (refused_opened _ (known_bytes g.F.Read.remaining) c.in-Some.input _ _ _ c.in-Some.ensures.opened (is_untried (ap (known_bytes g.F.Read.remaining) c.new-source.ensures.device) c.new-source.ensures.none) c.in_err-report.ensures)

pub returns-in-Ok : goal.returns-in-Ok
returns-in-Ok g c = record {
  entries = _;
  read = read_opened _ (known_bytes g.F.Read.remaining) c.in-Some.input _ _ _ c.in-Some.ensures.opened (is_untried (ap (known_bytes g.F.Read.remaining) c.new-source.ensures.device) c.new-source.ensures.none) c.in_ok-report.ensures;
  took = c.in-Ok.ensures.ok;
}

pub returns : goal.returns
returns g c =
    let source = untried (known_bytes g.F.Read.remaining c.in-Some.input) in
    inr (record { report = c.in-Some.input; stands = c.in-Some.ensures.opened; left = source; refused = refused_for (source ⇝ source) refusals.NoMemory tt })
