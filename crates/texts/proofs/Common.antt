-- The names of other crates and of the definitions that the proofs here cite.
pub use Rattle.std.proofs.Common.{codes, ◌≡◌, ◌++◌, Err, subst, rules, List, ℕ, decimal, length, take, flat_map, Result, append_assoc, arith, ap, [], Ok, MatchResult, sym, ◌<◌, ◌≤◌, ◌^◌, ◌∙◌, length-append, take_all}
pub use Rattle.dag.specs.Accesses.{RaceAt}
pub use Rattle.trace.proofs.SpelledLines.{length-decimal-20}
pub use Rattle.trace.specs.Devices.{◌⇝◌, Device, Change}
pub use Rattle.trace.specs.Writers.{Took, Puts, TookFront, IsUntouched}
pub use Rattle.collect.proofs.Takings.{front_more, puts_after, took_both, took_into, took_line, front_line, given_as, took_then_none, took_then_failed}
pub use Rattle.collect.specs.ReportText.{access_text, race_line}
pub use Rattle.audit.specs.declared.answers.Opener.{Opener}
pub use Rattle.texts.specs.Texts.{side_line, number_line, pair_line, opener_text}
