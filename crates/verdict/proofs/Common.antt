-- The names of other crates and of the definitions that the proofs here cite.
pub use Rattle.std.proofs.Common.{◌≡◌, ℕ, List, sym, ◌∙◌, suc, ap, subst, arith, length, zero, ◌<◌, inl, inr, true, [], ◌∷◌, take, ◌≤◌, Bool, ◌↔◌, refl, false, Some, ◌+◌, ◌-◌, cond, slice_get, ◌++◌, ◌⊎◌, filter, length-append, All, Contains, sum_by, ◌%◌, eqb, ⊎_elim, eq-eqb, eqb-true}
pub use Rattle.std.proofs.Math.Seq.{take-nil, take-length}
pub use Rattle.std.proofs.lemmas.Bool.{cases_lt, cases_Bool, cond-true, cond-false}
pub use Rattle.std.specs.List.{AllByRecursion}
pub use Rattle.dag.proofs.Lists.{element_at, slice_get-front}
pub use Rattle.dag.proofs.Paths.{access-place, IsPlace-at, access-not_joins, parallel_through, parallel_after}
pub use Rattle.dag.specs.Accesses.{RaceAt}
pub use Rattle.dag.specs.Races.{HasRace, IsAccessPlace, IsRead, IsWrite, IsRace, IsReport, IsSecond}
pub use Rattle.dag.specs.Traces.{IsWellNested, at, depth, placed, placed_from, IsPlace, IsRootReturn, opens, closes}
pub use Rattle.dag.specs.declared.records.Record.{Record}
pub use Rattle.dag.specs.declared.records.Record.TheVariants.{Return, Spawn, Call, Sync, Read, Write}
pub use Rattle.bags.specs.Procedures.{Procedures, event, bags_from, bags_after, at_start, in_p, current}
pub use Rattle.shadow.proofs.Headlines.{racy, verdict_is_report, early-increasing, early-exactly, report_is_verdict, race_free}
pub use Rattle.shadow.specs.Found.{found, by_location, verdict}
pub use Rattle.verdict.specs.Racy.{HasLocation}
pub use Rattle.verdict.specs.Repeats.{rest, rest_from, IsRepeat, RepeatsGo, place_in_rest}
pub use Rattle.verdict.specs.Reported.{IsReportOf, IsPartReportOf}
pub use Rattle.verdict.specs.Strands.{is_structure, IsReordered, strand_of, IsCovered, IsAlone, NeedlessGo}
