-- The names of other crates and of the definitions that the proofs here cite.
pub use Rattle.std.proofs.Common.{◌∙◌, subst, ap, List, refl, sym, ◌≡◌, length, arith, ℕ, Some, ◌≤◌, suc, ◌<◌, true, [], ◌∷◌, inl, inr, false, ◌⊎◌, slice_get, ◌++◌, nat_lt, length-append, OnOk, ◌≢◌, zero, ◌+◌, append_assoc, Bool, Option, get_or, ltb-true, Result, Ok, Err, append-nil, rules, max, drop, ltb-false, ◌-◌, Contains, ◌↔◌, take, None, IfSome, map, count_by, cond, length-take-le, All, AllPairs, ◌||◌, MatchOption, is_some, IfNone, ◌&&◌, eqb, slice_set, eqb-true, eq-eqb, lt-ltb}
pub use Rattle.std.proofs.lemmas.Bool.{cases_eq, cases_lt, cases_order, and_parts}
pub use Rattle.std.proofs.lemmas.List.Elements.{recursion_from_All, Contains-push, Contains-push_cases}
pub use Rattle.std.proofs.lemmas.List.Sorted.{IsPartitionPoint-from_clause, IsPartitionedBy-ltb}
pub use Rattle.std.proofs.lemmas.Option.{slice_get_within, get_or_from_slice_get, slice_get-get_or, slice_get_read, slice_get-map}
pub use Rattle.std.specs.List.{AllByRecursion}
pub use Rattle.std.specs.List.Sorted.{IsPartitionedBy, IsPartitionPoint}
pub use Rattle.dag.proofs.Lists.{slice_get-front, element_at, slice_get-last}
pub use Rattle.dag.proofs.Meetings.{level-at, root-holds, holds_from, holds-shorter, parallel-block, opens-no_sync, holds-deeper, Opened, opened_at, opened-holds, opened_below, opened-child, stand_of, OwnSync, own_sync-is, is_own_sync, block_same, block_less, stand-after, stand-le, before-stand}
pub use Rattle.dag.proofs.Once.{kind_once, In, In_from, Contains_from, reported_once, same_access, read_no_write}
pub use Rattle.dag.proofs.Paths.{access-place, IsPlace-at, leads_or_parallel}
pub use Rattle.dag.proofs.Readers.{IsAccessPlace-at, read_or_write, kept_reads, NoneBefore, NoWrite, NoRead, last_write_parallel, reported_by_write, reported_by_reader, no_race_at_read, no_race_at_write, no_read_parallel}
pub use Rattle.dag.specs.Accesses.{RaceAt, writes, IsRaceShape}
pub use Rattle.dag.specs.Dag.{IsParallel, JoinsAt, IsPath, Edge, continuation, spawn, call, comes_back, join, IsContinuation, IsComeback, IsJoin, end_of}
pub use Rattle.dag.specs.Meeting.{Opens, IsMeeting, level, Holds, IsOwn, InOneBlock}
pub use Rattle.dag.specs.Races.{IsAccessPlace, IsRace, access, IsAccess, IsWrite, IsRead, IsReported, IsLastWrite, IsKeptReader, nothing_yet, no_read, first_read, replaces, stays}
pub use Rattle.dag.specs.Traces.{at, depth, IsWellNested, IsPlace}
pub use Rattle.dag.specs.declared.records.Access.{Access}
pub use Rattle.dag.specs.declared.records.Kind.{Kind}
pub use Rattle.dag.specs.declared.records.Kind.TheVariants.{Read, Write}
pub use Rattle.dag.specs.declared.records.Placed.{Placed}
pub use Rattle.dag.specs.declared.records.Record.{Record}
pub use Rattle.dag.specs.declared.records.Record.TheVariants.{Spawn, Call, Return, Sync}
pub use Rattle.trace.proofs.Endings.{ends_refused, refused_for_want}
pub use Rattle.trace.specs.Watching.{ComesAfter}
pub use Rattle.collect.specs.Reports.{IsReportList, IsEntry, locations}
pub use Rattle.audit.specs.Confirms.{StatesRace, Confirms, IsFirstWrong}
pub use Rattle.audit.specs.Entries.{entry_race, entry_races, entry_of, AreAscending, HasStanding, SeesEntries, HasConfirmed, HasBegun, AllStand, AnswersBy}
pub use Rattle.audit.specs.Explaining.{DecidesNow, IsTrail, Follows, HasExplained, IsLink, KeepsWrite, KeepsReader, HasSought, IsUnjoined, reported_race, HasFoundRace, Stands, IsRival, Joins, NextJoined, ReportsIt, Keeps, Sees, Seeks, explanation}
pub use Rattle.audit.specs.Explanations.{AreOpeners, AreJoined, IsExplained, Explains, opening_record, IsSameExplanation, IsSameAnswer, WaitsAt, IsNextWait}
pub use Rattle.audit.specs.Following.{WhateverComes}
pub use Rattle.audit.specs.LongestPaths.{PathTo, IsLongestTo, IsReturnOf, LeadsOn, at_start, own, opened, came_back, IsLongestUnjoined, opened_by, IsSuspended, LastOn, IsUnjoinedReturn, AreLongest, IsSpanTo, IsDepthTo, HasMeasuredTo, IsWithin, HasMeasured, through, after_child, Advances}
pub use Rattle.audit.specs.Measures.{IsMeasure, is_spawn, IsSpan, IsGreatestDepth}
pub use Rattle.audit.specs.Meetings.{Moves, HasMet, DecidesParallel, IsActive, AreActive, ActiveAt, waits, executes, IsActivesOwn, HasTurn, AreTurns, AreMet, IsLastOpenedBefore, DecidesUnjoined, DecidesUnjoinedAfter, DecidesTurn, EndsIn, TakesTurn, OpensChild, Leaves, Syncs}
pub use Rattle.audit.specs.Pairing.{AddsPairs, HasPaired, IsKept, IsAmong, AreKept, ArePairsTo, ArePairsWith}
pub use Rattle.audit.specs.Pairs.{IsBefore, ArePairs, IsPair}
pub use Rattle.audit.specs.declared.answers.Confirm.{Confirm}
pub use Rattle.audit.specs.declared.answers.Confirm.TheVariants.{Yes, No}
pub use Rattle.audit.specs.declared.answers.Explained.{Explained}
pub use Rattle.audit.specs.declared.answers.Opener.{Opener}
pub use Rattle.audit.specs.declared.confirms.Confirming.{Confirming}
pub use Rattle.audit.specs.declared.confirms.Entry.{Entry}
pub use Rattle.audit.specs.declared.confirms.Standing.{Standing}
pub use Rattle.audit.specs.declared.confirms.Standing.TheVariants.{Confirmed, Missing, Begun}
pub use Rattle.audit.specs.declared.explanations.Explaining.{Explaining}
pub use Rattle.audit.specs.declared.explanations.Trail.{Trail}
pub use Rattle.audit.specs.declared.location_races.KeptAccess.{KeptAccess}
pub use Rattle.audit.specs.declared.location_races.Pairing.{Pairing}
pub use Rattle.audit.specs.declared.measures.Measuring.{Measuring}
pub use Rattle.audit.specs.declared.measures.Suspended.{Suspended}
pub use Rattle.audit.specs.declared.meetings.Active.{Active}
pub use Rattle.audit.specs.declared.meetings.Meetings.{Meetings}
pub use Rattle.audit.specs.declared.meetings.Turn.{Turn}
