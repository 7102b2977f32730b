-- The names of other crates and of the definitions that the proofs here cite.
pub use Rattle.std.proofs.Common.{◌≡◌, ◌∙◌, ap, sym, arith, ℕ, ◌<◌, refl, Some, List, suc, true, false, ◌++◌, zero, ◌&&◌, get_or, Option, cond, ◌+◌, ◌≤◌, Bool, not, ◌∷◌, length, None, subst, [], drop, ◌^◌, ◌-◌, ◌≢◌, unwrap_or, ◌||◌, bit_and, bit_or, ⊎_elim, nat_eq, take, set, w64, is_some, count_ones, ◌/◌, append-nil, length-set, get_or-take, ◌⊎◌, ◌==◌, if◌then◌else◌, option_to_list, ne_eqb, drop-cons, option_map, eqb-true, ◌*◌, ◌%◌, add-one, take-append-drop, min, max, is_none, pow_pos, inl, inr, append_assoc}
pub use Rattle.std.proofs.lemmas.Bool.{cases_lt}
pub use Rattle.std.proofs.lemmas.Bool.Decides.{eqb_tells}
pub use Rattle.std.proofs.lemmas.List.{get_or_read, drop_all}
pub use Rattle.std.proofs.lemmas.Nat.{and_le_r, mod-pow-add, ones_cat}
pub use Rattle.std.proofs.lemmas.Nat.Bits.{bit_at-lt, shr_and_one, bit_at_and, bit_at_or, bit_at_not, bit_at-zero, bit_at-trailing_zeros}
pub use Rattle.std.specs.Int.{bit_not, bit_at, trailing_zeros}
pub use Rattle.std.specs.Map.{lookup}
pub use Rattle.std.specs.Option.{option_or, ForSome}
pub use Rattle.dag.specs.Accesses.{RaceAt}
pub use Rattle.dag.specs.declared.records.Access.{Access}
pub use Rattle.dag.specs.declared.records.Kind.{Kind}
pub use Rattle.dag.specs.declared.records.Kind.TheVariants.{Read, Write}
pub use Rattle.bags.specs.Procedures.{Active, in_p, current}
pub use Rattle.shadow.proofs.CellLemmas.{cell_later, all_later, all_with, none_before}
pub use Rattle.shadow.proofs.PageLemmas.{page_after}
pub use Rattle.shadow.specs.Before.{IsCellBefore, IsNameBefore, AreBefore}
pub use Rattle.shadow.specs.Pages.{cell_in, HasSameCells, HasSetPage}
pub use Rattle.shadow.specs.Cells.{Cell, rival, race_with, Name, parallel_access, stands_in_p, name_of, touched, untouched}
pub use Rattle.blocks.specs.Blocks.{block_of, unit_of, first_of, cell_in_blocks, is_unit}
pub use Rattle.blocks.specs.Groups.{no_group, names_of_touched, is_racy, AreKnown, IsAlike, names_at_touched, IsPartly, AreNew, touched_names, names_after, is_in_p_from, is_step_in_p, has_rival, keeps_names}
pub use Rattle.blocks.specs.Masks.{has, units_before}
pub use Rattle.blocks.specs.Pages.{Block, races_up_to, unit_cell, block_cell, touched_at, location_of, race_at_unit, names_at, names_of}
pub use Rattle.blocks.specs.Steps.{no_steps, named_cell, name_from, name_in}
pub use Rattle.blocks.specs.declared.groups.Group.{Group}
pub use Rattle.blocks.specs.declared.step.Names.{Names}
pub use Rattle.blocks.specs.declared.step.Step.{Step}
