-- The names of other crates and of the definitions that the proofs here cite.
pub use Rattle.std.proofs.Common.{◌≡◌, arith, sym, ◌∙◌, ap, subst, ℕ, List, ◌-◌, length, [], ◌++◌, ◌+◌, refl, ◌∷◌, ◌≤◌, take, ◌<◌, Some, get_or, drop, Option, inl, append-nil, None, length-append, inr, length-take, ◌≢◌, false, ◌⊎◌, Err, rules, append_assoc, decimal, suc, ◌^◌, Bool, true, length-drop, Result, take-append-drop, zero, ◌*◌, flat_map, sum_by, Ok, IfSome, IsTrue, option_to_list, ◌%◌, true≢false, not, w8, Fits, codes, IsErrAnd, is_some, take-add, IfNone, get_or-take, ⊎_elim, ◌↔◌, drop-drop, ◌/◌, cond, leb, take_all, map, replicate, mod-eq_of_lt, div-lt_iff_lt-mul, div-add-mod', pow-suc, bit_and, mul-le-mul_left, leb-true, leb-false, ext_get_or, min, take-take, w32, slice_get, get_or-drop}
pub use Rattle.std.proofs.Math.Nat.{add-mul-mod_self_left, add-mul-div_left, div-eq_of_lt, pow-le-pow_right}
pub use Rattle.std.proofs.Math.Seq.{take-length}
pub use Rattle.std.proofs.lemmas.Bool.{false≢true, cases_Bool, cases_lt, both_ways}
pub use Rattle.std.proofs.lemmas.Fmt.{length-decimal-le, decimal_by_steps, decimal_injective, digits_decimal, digits_value-decimal, decimal-digits_value, decimal_nonempty, first_decimal, decimal_digit}
pub use Rattle.std.proofs.lemmas.Grind.{flat_map-append}
pub use Rattle.std.proofs.lemmas.Int.Digits.{number_lt, digits_value_more, digits_more}
pub use Rattle.std.proofs.lemmas.List.{take_more, drop-take, length-map, append_cancel_left, take-append-le}
pub use Rattle.std.proofs.lemmas.List.Elements.{All-from_recursion, All-nil, All-cons, All-head, All-tail, All-push, All-append}
pub use Rattle.std.proofs.lemmas.List.Sums.{sum_by-append, prefix_len-le-length, prefix_len_stops}
pub use Rattle.std.proofs.lemmas.Option.{slice_get-get_or}
pub use Rattle.std.proofs.lemmas.Str.{digit_value_digit}
pub use Rattle.std.proofs.lemmas.Str.Parse.{IsNumeralModel, numerals_by_value, tells_digits, digits_value-take-le, digit_at}
pub use Rattle.std.specs.Char.{digit_value}
pub use Rattle.std.specs.Int.{IsInRange, from_le_bytes}
pub use Rattle.std.specs.Int.Digits.{AllBelowBase, number_from_digits, number_from_digits_after}
pub use Rattle.std.specs.Io.KnownBytes.{Consumes, IsAtEnd}
pub use Rattle.std.specs.List.{prefix_len, range_with_len, AllByRecursion}
pub use Rattle.std.specs.Str.Parse.{AllDigits, digits_value, digits_value_after}
pub use Rattle.dag.proofs.Lists.{all-front, all-last, element_at, slice_get-front, slice_get-last, all-push}
pub use Rattle.dag.proofs.Openers.{Backs, opener_deeper, return_shallower, stays_deep, Before, before_at, back_first, back_from, back_next, back_opener, back_return, back_stays, back_found, back_last}
pub use Rattle.dag.proofs.Parts.{IsPart, IsPart-range}
pub use Rattle.dag.specs.Traces.{IsWellNested, depth, at, opens, closes, IsPlace, IsRootReturn}
pub use Rattle.dag.specs.declared.records.Placed.{Placed}
pub use Rattle.dag.specs.declared.records.Record.{Record}
pub use Rattle.dag.specs.declared.records.Record.TheVariants.{Spawn, Return, Call, Sync, Write}
pub use Rattle.dag.specs.declared.records.Version.{Version}
pub use Rattle.dag.specs.declared.records.Version.TheVariants.{Two, One}
pub use Rattle.trace.specs.Devices.{◌⇝◌, Change, Gave, IsSteady, Device, HasFailed}
pub use Rattle.trace.specs.Digits.{paired}
pub use Rattle.trace.specs.Endings.{HoldsTrace, IsRefused, EndsReading, IsWantOfMemory}
pub use Rattle.trace.specs.Faults.{IsBadLine, IsFirstFault, IsFaultOfAll, HasEnded, IsTruncated, IsMisplaced, IsBadPlace, bad_place, IsNoRecord, bad_header, bad_line, too_many, truncated, unfinished, IsJudged, at_end, at_length, no_header, no_line_end, after_end, too_deep, AreNested, none, next, IsNoHeader, before_end}
pub use Rattle.trace.specs.Feeding.{Feeding, HasFed, IsNext, IsFaultFed, HasUsed, IsFed, HasSameLimits, IsWhole, IsFaultThen, before_all, GivesNext, EndsAsAnswered}
pub use Rattle.trace.specs.Nesting.{Nesting, HasNested}
pub use Rattle.trace.specs.Reading.{Reading, HasRead, AreBytes, AllFitIn, AreText, held_back}
pub use Rattle.trace.specs.Easy.{IsBetweenLines}
pub use Rattle.trace.specs.Text.{text, line, ended, IsUnended, newline, header, AllFit, spell, IsOpen, HasCalls}
pub use Rattle.trace.specs.UsedUp.{HasUsedAll}
pub use Rattle.trace.specs.declared.faults.Fault.{Fault}
pub use Rattle.trace.specs.declared.faults.Fault.TheVariants.{Text, Nest, Read, NoMemory, NoThread}
pub use Rattle.trace.specs.declared.faults.NestFault.{NestFault}
pub use Rattle.trace.specs.declared.faults.NestKind.{NestKind}
pub use Rattle.trace.specs.declared.faults.NestKind.TheVariants.{Unfinished, AfterEnd, TooDeep}
pub use Rattle.trace.specs.declared.faults.TextFault.{TextFault}
pub use Rattle.trace.specs.declared.faults.TextKind.TheVariants.{Line, TooMany, Truncated, Header}
pub use Rattle.trace.specs.declared.intake.Ending.TheVariants.{Running, Bad}
