-- The names of other crates and of the definitions that the proofs here cite.
pub use Rattle.std.proofs.Common.{arith, ◌≡◌, ap, ◌∙◌, ℕ, length, sym, List, refl, subst, suc, ◌<◌, ◌≤◌, ◌+◌, Bool, true, false, [], ◌∷◌, take, zero, ◌||◌, inl, inr, ◌-◌, not, ◌++◌, drop, get_or, ◌^◌, eqb, if◌then◌else◌, reverse, ◌⊎◌, ◌*◌, ◌&&◌, ltb, lt-ltb, le-ltb, eq-eqb, length-take-le, nat_cmp, length-drop, length-append, ne_eqb, eqb-true, take-append-drop, get_or-append-add, append_assoc, leb, le-leb, ◌/◌, lt_of_not-le, drop-drop, get_or-drop, ◌↔◌, slice_get, Option, Some, None, ◌%◌}
pub use Rattle.std.proofs.Math.Nat.{two-pow-succ, pow-zero}
pub use Rattle.std.proofs.lemmas.Bool.{cases_eq, both_ways, or_cases, cases_lt, lt-leb, cases_Bool}
pub use Rattle.std.proofs.lemmas.List.{length-reverse, reverse-append, get_or-reverse}
pub use Rattle.std.specs.Cmp.{nat_cmp_total}
pub use Rattle.std.specs.List.{list_any, range_with_len}
pub use Rattle.dag.proofs.Paths.{pending-parallel, parallel-pending, access-place, access-not_joins, IsPlace-at, leads_or_parallel}
pub use Rattle.dag.proofs.Standing.{Kept, Serial, kept_stays, serial_stays, kept-above, kept_synced, returned, returned_call, serial_now, own-serial, own-kept, kept-pending, serial-not_pending}
pub use Rattle.dag.proofs.World.{World, Shape, Step, spawn, call, joins, spawned_return, called_return, all_more}
pub use Rattle.dag.specs.Bounds.{most_records}
pub use Rattle.dag.specs.declared.records.Record.TheVariants.{Sync, Return, Spawn, Call, Read, Write}
pub use Rattle.bags.specs.Held.{procedures_of, AreHeld, start, active_of, AreAlternating, actives_of, AreCut, run, is_of, bag_of}
pub use Rattle.bags.specs.Nested.{Nested}
pub use Rattle.bags.specs.Numbers.{digits}
pub use Rattle.bags.specs.Procedures.{Procedures, current, in_p, event, Active, opened, adopts, Bag, synced, after_sync, after_return, entered, at_start, bags_from, bags_after, procedure_at}
pub use Rattle.bags.specs.Search.{first_at, IsStart, IsAscending, IsKeeper, Start}
pub use Rattle.bags.specs.Stretch.{Stretch, stretch_of, bag_before}
pub use Rattle.bags.specs.Stretches.{stretches, in_one_bag, stretches_of}
