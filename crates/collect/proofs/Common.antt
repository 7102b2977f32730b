-- The names of other crates and of the definitions that the proofs here cite.
pub use Rattle.std.proofs.Common.{◌≡◌, arith, List, ap, ◌∙◌, ℕ, ◌++◌, sym, length, ◌<◌, subst, [], ◌∷◌, refl, ◌≤◌, Some, ◌^◌, Option, append-nil, true, false, Bool, None, ◌+◌, take, get_or, eqb, append_assoc, ◌≢◌, cond, ltb, eqb-true, map, suc, drop, decimal, take-append-drop, ltb-true, ltb-false, Err, nat_cmp, length-append, ◌-◌, flat_map, ◌⊎◌, inl, inr, fold, Result, Ok, Less, eq-eqb, leb, set, drop-cons, codes, rules, Contains, OnErr, is_eq, Equal, Greater, slice_get, zero, ◌*◌, mul-lt-mul_of_pos_right, IfSome, IfNone, MatchOption, IsTrue, length-take, get_or-take, ◌%◌, filter, mod-lt, Bor, ap₂}
pub use Rattle.std.proofs.KnownBytes.{Appends-trans, Appends-kept}
pub use Rattle.std.proofs.lemmas.Bool.{eqb-false}
pub use Rattle.std.proofs.lemmas.Bool.Decides.{nat_tests, Decides-eqb}
pub use Rattle.std.proofs.lemmas.Fmt.{length-decimal-le, digits_decimal, digits_value-decimal}
pub use Rattle.std.proofs.lemmas.List.{take_more}
pub use Rattle.std.specs.BTreeMap.{insert_entry, is_at}
pub use Rattle.std.specs.Cmp.{ranked, nat_cmp_is}
pub use Rattle.std.specs.Io.KnownBytes.{Appends, Consumes, IsAtEnd}
pub use Rattle.std.specs.List.{AllByRecursion}
pub use Rattle.std.specs.Option.{option_map_or}
pub use Rattle.std.specs.Ordering.{match_ordering, MatchOrdering}
pub use Rattle.dag.proofs.Once.{In, In_from, Contains_from, NoneOn, AreApart, same_access, same_race}
pub use Rattle.dag.specs.Accesses.{RaceAt, IsRaceShape}
pub use Rattle.dag.specs.Parts.{location_at, races_of_part}
pub use Rattle.dag.specs.declared.back.Back.{Back}
pub use Rattle.dag.specs.declared.back.Back.TheVariants.{Race, NoMemory}
pub use Rattle.dag.specs.declared.part.Part.{Part}
pub use Rattle.dag.specs.declared.records.Access.{Access}
pub use Rattle.trace.proofs.SpelledLines.{length-decimal-20}
pub use Rattle.trace.specs.Devices.{◌⇝◌, Change, Gave, Device, IsSteady}
pub use Rattle.trace.specs.Text.{newline}
pub use Rattle.trace.specs.Writers.{Took, TookFront, AppendsFront, IsUntouched, WasGiven, Puts}
pub use Rattle.collect.specs.Collected.{race_on, races_of, best, IsCollected, better, kept_after, KeepsBest, IsFirstLeast, Collection, AreFirstLeast, fails, IsFirstOnLocation, IsTakenInPart}
pub use Rattle.collect.specs.Keyed.{has_better, may_follow}
pub use Rattle.collect.specs.Located.{located_at, HaveLocations}
pub use Rattle.collect.specs.ReportBytes.{HoldsReport, IsCause, IsRefusal, most_report_bytes}
pub use Rattle.collect.specs.ReportFaults.{no_head, no_race, no_end, OneFault, NoFault, IsFirstBadLine, OneList}
pub use Rattle.collect.specs.ReportText.{head, race_lines, race_line, rtext, space, access_text, word}
pub use Rattle.collect.specs.Reports.{IsReportList, IsEntry, locations}
pub use Rattle.collect.specs.declared.bounded.ReportRefusal.TheVariants.{TooLarge, Read, Bad}
