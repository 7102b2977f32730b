-- The names of other crates and of the definitions that the proofs here cite.
pub use Rattle.std.proofs.Common.{◌≡◌, ℕ, ◌<◌, arith, suc, sym, zero, ◌≤◌, List, inl, inr, refl, Some, ◌⊎◌, ap, subst, ◌∙◌, Option, true, [], ◌∷◌, false, ◌+◌, Bool, None, eq-eqb, length, slice_get, ◌≢◌, Contains, ⊎_elim, add-one, eqb, eqb-true, ◌-◌, get_or, ◌++◌, map, ◌↔◌, ◌&&◌, ltb, lt-ltb, ◌%◌, cond, if◌then◌else◌, take, sum_by, ne_eqb}
pub use Rattle.std.proofs.lemmas.Bool.{cases_eq, cases_lt, cases_order, both_ways, cases_Bool, and_parts}
pub use Rattle.std.proofs.lemmas.Option.{slice_get_within, slice_get-get_or, get_or_from_slice_get}
pub use Rattle.std.specs.List.{AllByRecursion}
pub use Rattle.dag.specs.Dag.{JoinsAt, IsParallel, Leads, IsOpenerOf, IsPath, end_of, IsInPart, OneWayOut}
pub use Rattle.dag.specs.Meeting.{Opens, ExactlyOne, level, Holds, IsMeeting, IsChild, IsStand, itself, in_child, is_sync, one_if, block, InOneBlock}
pub use Rattle.dag.specs.Races.{IsAccessPlace, IsAccess, IsSecond, IsLastWrite, IsKeptReader, IsReported, last_write, kept_reader, IsRead, IsWrite, access, IsFirst, IsReport, IsRace, nothing_yet, no_read, first_read, replaces, stays}
pub use Rattle.dag.specs.Traces.{at, IsWellNested, depth, IsPlace, opens, closes}
pub use Rattle.dag.specs.declared.records.Kind.{Kind}
pub use Rattle.dag.specs.declared.records.Record.{Record}
pub use Rattle.dag.specs.declared.records.Record.TheVariants.{Spawn, Call, Return, Sync, Read, Write}
