-- The names of other crates and of the definitions that the proofs here cite.
pub use Rattle.std.proofs.Common.{refl, subst, ℕ, List, ◌≡◌, inl, inr, sym, ap, ◌<◌, [], Option, arith, Result, ◌∙◌, ◌∷◌, None, string_bytes, ◌↔◌, Ok, Err, String, ◌+◌, take, Some, ◌≤◌, ◌⊎◌, false, suc, ◌++◌, length, map, get_or, drop, take-append-drop, drop-cons, length-take-le, IsErrAnd, MatchResult}
pub use Rattle.std.proofs.KnownBytes.{Keeps-refl}
pub use Rattle.std.specs.Fn.{FnReturnsAt}
pub use Rattle.std.specs.Prelude.{⊤}
pub use Rattle.dag.specs.Accesses.{RaceAt}
pub use Rattle.dag.specs.Traces.{IsWellNested}
pub use Rattle.dag.specs.declared.records.Access.{Access}
pub use Rattle.dag.specs.declared.records.Record.{Record}
pub use Rattle.trace.specs.Devices.{◌⇝◌, Change, Device}
pub use Rattle.trace.specs.Writers.{IsUntouched, WasGiven}
pub use Rattle.collect.proofs.Refusals.{refused_for}
pub use Rattle.collect.specs.ReportText.{rtext}
pub use Rattle.collect.specs.declared.bounded.ReportRefusal.{ReportRefusal}
pub use Rattle.audit.specs.Pairs.{ArePairs, IsPair}
pub use Rattle.texts.specs.Messages.{message}
pub use Rattle.texts.specs.Texts.{confirm_text, explained_text, pairs_text, measure_text}
pub use Rattle.words.specs.Asked.{trace_name, depth_of}
pub use Rattle.replies.specs.Answered.{IsAnswered, IsConfirmed}
pub use Rattle.replies.specs.Files.{HasAnsweredOpened, HasConfirmedOpened, IsAnsweredOf}
pub use Rattle.replies.specs.Inputs.{known_bytes, StandsFor, CannotOpen, HasNotOpened, IsOpened, untried}
pub use Rattle.replies.specs.Merges.{HasReadReport, IsRefusedReport, HaveReadReports, IsFirstRefused}
pub use Rattle.replies.specs.Merging.{HaveTaken, HasTakenReport}
pub use Rattle.replies.specs.Questions.{AnswersCheck, AnswersCheckOf, IsRacyIn, Answers, IsWant, status_of}
pub use Rattle.replies.specs.declared.input.Input.{Input}
