-- The names of other crates and of the definitions that the proofs here cite.
pub use Rattle.std.proofs.Common.{◌≡◌, ℕ, List, refl, subst, sym, ap, ◌∙◌, [], ◌∷◌, arith, true, false, Option, Some, ◌<◌, ◌≤◌, Bool, None, ⊎_elim, cond, ◌++◌, map, inl, option_to_list, ◌+◌, length, ◌==◌, ◌≢◌, suc, inr, slice_get, take, ◌↔◌, ◌%◌, filter, ◌*◌, zero, ◌⊎◌, eqb-true, eq-eqb, ap₂, ◌/◌, nat_eq, ne_eqb, div-add-mod', ltb, ltb-true, ltb-false, ◌||◌, is_some, Contains, if◌then◌else◌, ◌&&◌, option_map, position, get_or, mod-lt, append-nil, append_assoc, Result, Ok, Err, OnOk, IfOk, take_all, lt-ltb, le-ltb, mul-lt-mul_of_pos_right, mul-le-mul_right, rules, slice_index_or, ◌^◌}
pub use Rattle.std.proofs.lemmas.Bool.{cases_eq, cond-true, cond-false, cases_Bool, cond_both, cases_lt, or_left}
pub use Rattle.std.proofs.lemmas.List.{map-append, get_or_default}
pub use Rattle.std.proofs.lemmas.Nat.{div-mul-add, mod-mul-add}
pub use Rattle.std.proofs.lemmas.Option.{same_Some}
pub use Rattle.std.specs.List.{AllByRecursion}
pub use Rattle.std.specs.List.Sorted.{IsStrictlyIncreasing}
pub use Rattle.std.specs.Map.{lookup, keys_of, values_of}
pub use Rattle.std.specs.Option.{option_or}
pub use Rattle.dag.proofs.Lists.{element_at, slice_get-last}
pub use Rattle.dag.proofs.Once.{In, Rises, AllAbove, AllAbove-lower, AreApart, increasing-from_rises, In_from, Contains_from, report_once, NoneOn, reported_once, read_no_write}
pub use Rattle.dag.proofs.Paths.{IsPlace-at, leads_or_parallel}
pub use Rattle.dag.proofs.Readers.{NoneBefore, IsAccessPlace-at, NoWrite, NoRead, last_write_parallel, no_read_parallel, kept_reads, reported_by_write, reported_by_reader, no_race_at_read, no_race_at_write}
pub use Rattle.dag.specs.Accesses.{RaceAt}
pub use Rattle.dag.specs.Dag.{IsParallel, Leads}
pub use Rattle.dag.specs.Parts.{location_at, numbered, numbered_at, records_of, races_of_part}
pub use Rattle.dag.specs.Races.{IsRace, IsReported, IsAccess, IsAccessPlace, IsReport, access, IsRead, IsWrite, IsLastWrite, IsKeptReader, nothing_yet, no_read, first_read, replaces, stays}
pub use Rattle.dag.specs.Shares.{goes, share, goes_placed}
pub use Rattle.dag.specs.Traces.{IsWellNested, placed, placed_from, at, IsPlace}
pub use Rattle.dag.specs.declared.part.Part.{Part}
pub use Rattle.dag.specs.declared.records.Access.{Access}
pub use Rattle.dag.specs.declared.records.Kind.{Kind}
pub use Rattle.dag.specs.declared.records.Kind.TheVariants.{Read, Write}
pub use Rattle.dag.specs.declared.records.Placed.{Placed}
pub use Rattle.dag.specs.declared.records.Record.{Record}
pub use Rattle.bags.specs.Procedures.{Procedures, event, Active, in_p, current, procedure_at, bags_from, bags_after, after_return}
pub use Rattle.shadow.specs.Before.{IsCellBefore, IsNameBefore, AreBefore}
pub use Rattle.shadow.specs.Cells.{Cell, touched, race_at, race_with, untouched, rival, Name, parallel_access, name_of, reader_after}
pub use Rattle.shadow.specs.Found.{found, State, after_access, after_record, race_of, state_at_start, found_from, with_cell, state_after, put_in, by_location, verdict, state_from}
pub use Rattle.shadow.specs.Pages.{IsPageAt, cell_in, HasSameCells, HasSetPage}
pub use Rattle.shadow.specs.Seats.{Page, cell_of, page_of, seat_of, cell_at, no_names, shards_of, apart_of, own_page_of}
pub use Rattle.shadow.specs.Shadow.{Shadow, kept_of}
pub use Rattle.shadow.specs.SpBags.{SpBags, state_of, HasSeen, HasApplied, is_root_return}
pub use Rattle.shadow.specs.Touches.{HasTouched}
pub use Rattle.indexmap.proofs.CallerLemmas.{insert_entry-new, updates-with_value_at}
