-- What was answered of the files that one opening gives was answered of those that a more general one may give.
use Rattle.replies.proofs.Common.{ℕ, List, [], ◌∷◌, Option, Result, Ok, Err, String, string_bytes, inl, inr, RaceAt, Change, ReportRefusal, trace_name, Input, IsOpened, StandsFor, CannotOpen, HasNotOpened, HasReadReport, HaveReadReports, IsRefusedReport, IsFirstRefused, IsAnsweredOf}
use Rattle.words.specs.declared.asking.Asked.{Asked}
use Rattle.words.specs.declared.asking.Asked.TheVariants as asked
use Rattle.replies.specs.declared.input.Input.TheVariants.{File, Standard}

module _ {F E : Type 0} (Gives May : List ℕ → Result F E → Type 0) (may : (name : List ℕ) (r : Result F E) → Gives name r → May name r) (known : Input F → Option (List ℕ)) where
  opened_so : (name : List ℕ) (i : Input F) → IsOpened (Gives name) i → IsOpened (May name) i
  opened_so name (File f) opened = may name (Ok f) opened
  opened_so name (Standard s) opened = opened

  stands_so : (name : List ℕ) (i : Input F) → StandsFor Gives name i → StandsFor May name i
  stands_so name i stands = record { standard = stands.standard; opened = opened_so name i stands.opened }

  cannot_so : (name : List ℕ) → CannotOpen Gives name → CannotOpen May name
  cannot_so name cannot = record { no_standard = cannot.no_standard; error = cannot.error; given = may name (Err cannot.error) cannot.given }

  not_so : (name : List ℕ) (out err : Change) (status : ℕ) → HasNotOpened Gives name out err status → HasNotOpened May name out err status
  not_so name out err status none = record { cannot = cannot_so name none.cannot; untouched = none.untouched; said = none.said; is_two = none.is_two }

  read_so : (name : List ℕ) (entries : List RaceAt) → HasReadReport Gives known name entries → HasReadReport May known name entries
  read_so name entries read = record { report = read.report; stands = stands_so name read.report read.stands; left = read.left; given = read.given }

  all_read_so : {A : Type 0} (names : List (String A)) (reports : List (List RaceAt)) → HaveReadReports Gives known names reports → HaveReadReports May known names reports
  all_read_so [] [] read = read
  all_read_so [] (entries ∷ reports) read = read
  all_read_so (name ∷ names) [] read = read
  all_read_so (name ∷ names) (entries ∷ reports) read = (read_so (string_bytes name) entries read.0, all_read_so names reports read.1)

  refused_so : (name : List ℕ) (refusal : ReportRefusal) → IsRefusedReport Gives known name refusal → IsRefusedReport May known name refusal
  refused_so name refusal (inl (cannot, read)) = inl (cannot_so name cannot, read)
  refused_so name refusal (inr refused) = inr (record { report = refused.report; stands = stands_so name refused.report refused.stands; left = refused.left; refused = refused.refused })

  first_so : {A : Type 0} (names : List (String A)) (number : ℕ) (refusal : ReportRefusal) → IsFirstRefused Gives known names number refusal → IsFirstRefused May known names number refusal
  first_so names number refusal first = record {
    before = first.before;
    name = first.name;
    after = first.after;
    names_are = first.names_are;
    number_is = first.number_is;
    earlier = (first.earlier.0, all_read_so first.before first.earlier.0 first.earlier.1);
    refused = refused_so (string_bytes first.name) refusal first.refused;
  }

  pub answered_so : (a : Asked) (out err : Change) (status : ℕ) → IsAnsweredOf Gives known a out err status → IsAnsweredOf May known a out err status
  answered_so (asked.Question q) out err status (inl none) = inl (not_so (trace_name q) out err status none)
  answered_so (asked.Question q) out err status (inr answered) = inr (record {
    trace = answered.trace;
    stands = stands_so (trace_name q) answered.trace answered.stands;
    left = answered.left;
    answered = answered.answered;
  })
  answered_so (asked.Confirm c) out err status (inl none) = inl (not_so (string_bytes c.trace) out err status none)
  answered_so (asked.Confirm c) out err status (inr (inl none)) = inr (inl (not_so (string_bytes c.report) out err status none))
  answered_so (asked.Confirm c) out err status (inr (inr answered)) = inr (inr (record {
    trace = answered.trace;
    report = answered.report;
    trace_stands = stands_so (string_bytes c.trace) answered.trace answered.trace_stands;
    report_stands = stands_so (string_bytes c.report) answered.report answered.report_stands;
    trace_left = answered.trace_left;
    report_left = answered.report_left;
    confirmed = answered.confirmed;
  }))
  answered_so (asked.Merge m) out err status (inl merged) = inl (record { reports = merged.reports; read = all_read_so m.reports.items merged.reports merged.read; written = merged.written })
  answered_so (asked.Merge m) out err status (inr none) = inr (record {
    number = none.number;
    refusal = none.refusal;
    first = first_so m.reports.items none.number none.refusal none.first;
    untouched = none.untouched;
    said = none.said;
    is_two = none.is_two;
  })
