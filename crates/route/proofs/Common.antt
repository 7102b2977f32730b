-- The names of other crates and of the definitions that the proofs here cite.
pub use Rattle.std.proofs.Common.{◌≡◌, ◌∙◌, ℕ, ◌<◌, refl, ap, arith, [], List, sym, ◌++◌, subst, true, ◌∷◌, length, map, ⊎_elim, false, None, Bool, append-nil, Some, Option, ◌≤◌, ◌⊎◌, inl, inr, cond, ap₂, ◌+◌, suc, ◌==◌, nat_lt, append_assoc, le-ltb, zero, lt-ltb, length-append, ◌%◌, ◌&&◌, length-set, flat_map, eq-eqb, filter, get_or, slice_index_or, vec_len, drop, true≢false, Contains, get_or-set_same, get_or-set_other, ◌-◌, take, take-append-drop, eqb-true, ◌≢◌, option_to_list, AllPairs, ltb-true, ne_eqb, mod-lt, ◌*◌, ◌^◌, set, Result, Ok, Err, OnOk, IfErr, is_err, nat_le, take_at, vec_capacity}
pub use Rattle.std.proofs.Math.Nat.{two-pow-succ}
pub use Rattle.std.proofs.lemmas.Bool.{cond-false, cond-true, cases_lt, and_left, cases_order, and_from, cases_eq, cond_both}
pub use Rattle.std.proofs.lemmas.Bool.Decides.{nat_tests, eqb_tells}
pub use Rattle.std.proofs.lemmas.List.{map-append, length-map, get_or-map, append_cancel_left, get_or_append_left, map-set, get_or_at, nil_from_length}
pub use Rattle.std.proofs.lemmas.List.Elements.{Contains-push, All-filter, All-contains, All-contains_itself, Contains-append_left, Contains-append_cases, All-map}
pub use Rattle.std.proofs.lemmas.List.FromFn.{length-map-range_with_len, take-map-range_with_len, get_or-map-range_with_len, map-range_with_len_more}
pub use Rattle.std.specs.List.{range_with_len}
pub use Rattle.dag.proofs.Lists.{Contains-nil}
pub use Rattle.dag.proofs.ShareLemmas.{share-push, goes_somewhere}
pub use Rattle.dag.specs.Shares.{goes_placed, share, goes}
pub use Rattle.dag.specs.declared.records.Placed.{Placed}
pub use Rattle.dag.specs.declared.records.Record.{Record}
pub use Rattle.dag.specs.declared.records.Record.TheVariants.{Spawn, Call, Return, Sync, Read, Write}
pub use Rattle.lane.proofs.Marks.{has_mark_more, records_append, all_taken, mark_last_more, no_mark_in}
pub use Rattle.lane.specs.Items.{has_mark, IsBeginning, records, mark_last}
pub use Rattle.lane.specs.Lanes.{put_of, one_more, HasAdded, WasFull}
pub use Rattle.lane.specs.declared.item.Item.{Item}
pub use Rattle.lane.specs.declared.item.Item.TheVariants.{One, Finish}
pub use Rattle.route.specs.Routed.{in_hand, IsRising, HasShare, IsOnSome, IsRouted, IsBeingSent, HasWholeShare, HasRouted, TakesShare}
pub use Rattle.route.specs.RouterRuns.{sent_so_far, run_of, begun, OfRouters, AreTakesOfRun, first_marks}
pub use Rattle.route.specs.Routers.{RouterState, lane_count, HasSent, IsUnchanged, HasBlocked, IsRouter, IsOnLanes, IsStuck, WasRefused}
pub use Rattle.route.specs.Runs.{of_lane, sending_of, Event, put_list, taken_list, IsRun, put, put_event, sending, puts_in, takes_in, items_on, IsAllowed, lanes_for, items_after}
pub use Rattle.route.specs.Senders.{puts, lanes, capacities, shown, refusals, with_refusal, rooms}
pub use Rattle.route.specs.Sending.{put_on, portion, first_lane, with_put, AllSent, mark_of, sent_whole, HaveMarks}
pub use Rattle.route.specs.Steps.{IsIdle, HasGoneOn, HasPutNext, HasMarkedOn, HasMarkedNext, HasSentRecord, HasStuck, HasOffered}
