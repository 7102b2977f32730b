-- The names of other crates and of the definitions that the proofs here cite.
pub use Rattle.std.proofs.Common.{◌≡◌, sym, ℕ, subst, ◌∙◌, List, arith, ap, length, refl, [], ◌∷◌, map, ◌<◌, ◌++◌, ◌+◌, vec_len, suc, rules, true, append-nil, false, None, get_or, Result, Ok, Err, inl, Option, length-append, zero, Some, ⊎_elim, ap₂, set, length-set, vec_capacity, All, get_or-set_same, append_assoc, IsFalse, OnOk, inr, take, slice_index_or, ◌≤◌, ◌-◌, ◌%◌, eqb, fold, eqb-true, get_or-set_other, Bool, IsTrue, IsErrAnd, ◌⊎◌, IfErr, MatchResult, set-set, take-suc, filter}
pub use Rattle.std.proofs.Math.Seq.{map-set_same}
pub use Rattle.std.proofs.lemmas.Bool.{cases_Bool, cases_eq, cond-false, cond-true}
pub use Rattle.std.proofs.lemmas.List.{length-map, map-append, get_or-map, map-set, nil_from_length, append_cancel_left, set-get_or}
pub use Rattle.std.proofs.lemmas.List.Elements.{All-push, All-nil, All-from_recursion}
pub use Rattle.std.proofs.lemmas.Simd.{map-map}
pub use Rattle.std.specs.List.{AllByRecursion}
pub use Rattle.std.specs.declared.thread.PromisedHandle.{PromisedHandle}
pub use Rattle.dag.proofs.Lists.{all-front, all-push, all-last}
pub use Rattle.dag.specs.Accesses.{RaceAt}
pub use Rattle.dag.specs.Parts.{records_of}
pub use Rattle.dag.specs.Shares.{share}
pub use Rattle.dag.specs.Traces.{placed, IsWellNested}
pub use Rattle.dag.specs.declared.back.Back.{Back}
pub use Rattle.dag.specs.declared.back.Back.TheVariants.{Race}
pub use Rattle.dag.specs.declared.part.Part.{Part}
pub use Rattle.dag.specs.declared.records.Placed.{Placed}
pub use Rattle.dag.specs.declared.records.Record.{Record}
pub use Rattle.trace.proofs.Endings.{ends_refused, refused_for_want, refused_also, refused_by_fault, given_next, given_end}
pub use Rattle.trace.specs.Devices.{◌⇝◌, Change, Device, HasFailed, Gave, IsSteady}
pub use Rattle.trace.specs.Endings.{EndsReading, OfTrace, IsRefused, IsWantOfMemoryOrThread, IsWantOfMemory, ReadsWhole}
pub use Rattle.trace.specs.Feeding.{HasFed, Feeding, IsFaultThen, IsFaultFed, IsWhole}
pub use Rattle.trace.specs.declared.faults.Fault.{Fault}
pub use Rattle.trace.specs.declared.faults.Fault.TheVariants.{NoThread, NoMemory, Text, Nest, Read}
pub use Rattle.shadow.specs.Found.{found, by_location, verdict, state_at_start, put_in}
pub use Rattle.verdict.proofs.Reports.{report_of, placed-next}
pub use Rattle.collect.specs.Collected.{KeepsBest, Collection, IsCollected, races_of, kept_after, best, fails}
pub use Rattle.lane.specs.Items.{has_mark, records, IsBeginning, with_mark}
pub use Rattle.lane.specs.Lanes.{put_of, LaneId, lane_capacity}
pub use Rattle.lane.specs.declared.item.Item.{Item}
pub use Rattle.lane.specs.declared.item.Item.TheVariants.{One, Finish}
pub use Rattle.lane.specs.declared.taker.Taker.{Taker}
pub use Rattle.route.specs.Routers.{HasSent, RouterState, lane_count, IsOnLanes}
pub use Rattle.route.specs.Sending.{sent_whole}
pub use Rattle.shard.specs.Working.{RiseFrom, AreInOrder, PutsFound}
pub use Rattle.shard.specs.declared.worker_loop.Worked.{Worked}
pub use Rattle.detect.specs.Closing.{takers_of, IsSettled, counts_of, taken_by, IsEmptied, given_back, IsSameWork, taker_lanes, given_lanes}
pub use Rattle.detect.specs.Finished.{IsFinished, IsDone, IsCompared, IsClosed}
pub use Rattle.detect.specs.Gathered.{given_by, all_given, Gathers, AreAtHomeFrom, AreAtHome, with_items}
pub use Rattle.detect.specs.LanesBack.{IsFurther, HasBackMark, IsGathered}
pub use Rattle.detect.specs.Readiness.{AreJobsFrom, IsJobOf, IsTied, IsBetween, IsReady}
pub use Rattle.detect.specs.Rooms.{HasRoom}
pub use Rattle.detect.specs.RunFinds.{RunFindsPart, RunFinds}
pub use Rattle.detect.specs.RunReports.{TookSharesOf, RunAnswers, RunAnswersPart}
pub use Rattle.detect.specs.Sent.{GoesOn, MaySend}
pub use Rattle.detect.specs.Workers.{handle_lanes, AllDid, AllFresh, job_lanes, to_shards, IsFreshJob, from_shards, DidOn}
pub use Rattle.detect.specs.declared.closing.Done.{Done}
pub use Rattle.detect.specs.declared.gathering.Gathering.{Gathering}
pub use Rattle.detect.specs.declared.reading_thread.ReadingThread.{ReadingThread}
pub use Rattle.detect.specs.declared.sharded.Run.{Run}
pub use Rattle.detect.specs.declared.workers.Job.{Job}
pub use Rattle.detect.specs.declared.workers.WorkOf.{WorkOf}
pub use Rattle.detect_plain.proofs.PartReports.{part_report, fit_part}
