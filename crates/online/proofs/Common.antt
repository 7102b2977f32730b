-- The names of other crates and of the definitions that the proofs here cite.
pub use Rattle.std.proofs.Common.{sym, ◌≡◌, ap, subst, ◌++◌, arith, refl, ◌∙◌, List, ◌+◌, ◌<◌, [], map, ⊎_elim, ℕ, ◌^◌, false, ◌∷◌, ◌≤◌, true, cond, ◌≢◌, nat_eq, Bool, ◌%◌, count_ones, append-nil, option_to_list, ne_eqb, zero, suc, inr, None, eq-eqb, length, inl, Option, Some, OnErr, IsErr, ◌*◌, ◌/◌, ◌↔◌, ◌⊎◌, eqb-true, ◌&&◌, ◌||◌, length-append, append_assoc, Result, Ok, Err, OnOk, replicate, take}
pub use Rattle.std.proofs.lemmas.Bool.{cases_lt, cases_Bool}
pub use Rattle.std.proofs.lemmas.Bool.Decides.{eqb_tells}
pub use Rattle.std.proofs.lemmas.List.{map-append, nil_from_length}
pub use Rattle.std.proofs.lemmas.Nat.{pow_below, one_shl}
pub use Rattle.std.proofs.lemmas.Nat.Bits.{bit_at-lt, bit_at-pow_same, bit_at-pow_other}
pub use Rattle.std.specs.Int.{bit_at}
pub use Rattle.std.specs.List.{AllByRecursion}
pub use Rattle.dag.specs.Accesses.{RaceAt}
pub use Rattle.dag.specs.Bounds.{most_records}
pub use Rattle.dag.specs.Races.{access}
pub use Rattle.dag.specs.Traces.{placed, depth, opens, closes, placed_from, IsWellNested}
pub use Rattle.dag.specs.declared.back.Back.{Back}
pub use Rattle.dag.specs.declared.back.Back.TheVariants.{Race, NoMemory}
pub use Rattle.dag.specs.declared.records.Access.{Access}
pub use Rattle.dag.specs.declared.records.Kind.{Kind}
pub use Rattle.dag.specs.declared.records.Placed.{Placed}
pub use Rattle.dag.specs.declared.records.Record.{Record}
pub use Rattle.dag.specs.declared.records.Record.TheVariants.{Spawn, Call, Return, Sync, Read, Write}
pub use Rattle.bags.specs.Procedures.{Procedures, Active, event, at_start, after_sync, after_return}
pub use Rattle.shadow.proofs.FoundLaws.{state_from-append, found_from-append, state_after-push, found-push, bags-after_record, found_from-apart, found-reported}
pub use Rattle.shadow.proofs.StateLemmas.{map_OnOk, root_is, root_by}
pub use Rattle.shadow.specs.Cells.{untouched, Cell, touched, race_at, race_with, rival}
pub use Rattle.shadow.specs.Found.{State, after_record, state_after, found_from, with_cell, state_from, state_at_start, found, race_of, put_in, by_location, verdict}
pub use Rattle.shadow.specs.Shadow.{kept_of, Shadow}
pub use Rattle.shadow.specs.SpBags.{SpBags, HasApplied, MayGrow, state_of, is_root_return}
pub use Rattle.verdict.proofs.Reports.{placed-next, report_of}
pub use Rattle.collect.specs.Collected.{KeepsBest, Collection, races_of, fails, IsCollected, best}
pub use Rattle.blocks.proofs.Bits.{has_zero, has_if, has_unless}
pub use Rattle.blocks.proofs.Counts.{all_units}
pub use Rattle.blocks.proofs.Kept.{races_of_same, location_page, location_unit}
pub use Rattle.blocks.specs.Blocks.{block_of, unit_of, first_of, kept_in_blocks, races_in_block, Blocks, kept_after_units, is_unit}
pub use Rattle.blocks.specs.Masks.{has, units_before}
pub use Rattle.blocks.specs.Pages.{location_of, touched_at}
pub use Rattle.online.specs.Accesses.{accesses, access_of, block_records, even}
pub use Rattle.online.specs.Lives.{in_life, named, first_lives, at_home, lives_after, home, IsOfFirstLife, AreOfFirstLives, IsReportOfLives, HasRacyLife, IsRaceCount}
pub use Rattle.online.specs.Online.{Online, HasTakenPlaced, IsAfter, kept_in_both, IsOpening, IsRunning, WantsMemory, IsActiveCount}
pub use Rattle.online.specs.Steps.{HasTakenMore}
pub use Rattle.online.specs.Following.{block_accesses, placed_in_life, HasFollowedNext, TakesPlaced, HasOnlyAccessed, HasForgottenUnits, IsApart, Wants}
