-- The names of other crates and of the definitions that the proofs here cite.
pub use Rattle.std.proofs.Common.{sym, subst, ◌≡◌, [], ◌∷◌, ℕ, List, option_to_list, refl, ◌++◌, Option, Some, None, ap, ◌∙◌, map, arith, append-nil, suc, ◌<◌, ◌^◌, Bool, length-append, ◌/◌, ◌%◌, true, get_or, ⊎_elim, ap₂}
pub use Rattle.std.proofs.lemmas.List.{map-append}
pub use Rattle.std.specs.List.{AllByRecursion}
pub use Rattle.dag.specs.Accesses.{RaceAt}
pub use Rattle.dag.specs.Parts.{records_of, races_of_part, numbered, numbered_at}
pub use Rattle.dag.specs.Traces.{placed, placed_from, IsWellNested}
pub use Rattle.dag.specs.declared.part.Part.{Part}
pub use Rattle.dag.specs.declared.records.Placed.{Placed}
pub use Rattle.dag.specs.declared.records.Record.{Record}
pub use Rattle.dag.specs.declared.records.Version.{Version}
pub use Rattle.trace.specs.Text.{AllFit, Fits}
pub use Rattle.shadow.proofs.FoundLaws.{found_from-apart, race_with-is}
pub use Rattle.shadow.proofs.Parted.{found-part}
pub use Rattle.shadow.proofs.StateLemmas.{map_OnOk}
pub use Rattle.shadow.specs.Cells.{race_with}
pub use Rattle.shadow.specs.Found.{state_at_start, found, by_location, State, after_record, race_of, found_from, verdict, put_in}
pub use Rattle.verdict.proofs.Reports.{placed-next, report_of}
pub use Rattle.shadow.specs.SpBags.{SpBags, HasApplied, state_of}
pub use Rattle.detect_plain.specs.Detected.{HasFollowed, HasSeenTrace, HasDetected, HasSeenPart}
pub use Rattle.detect_plain.specs.Taking.{TakesRecord}
pub use Rattle.detect_plain.specs.declared.detector.PlainDetector.{PlainDetector}
