-- The names of other crates and of the definitions that the proofs here cite.
pub use Rattle.std.proofs.Common.{◌≡◌, List, [], sym, ◌∷◌, ◌++◌, ap, refl, subst, false, ◌∙◌, ◌+◌, length, Option, option_to_list, true, ℕ, ◌-◌, take, Some, ⊎_elim, arith, inl, inr, ◌≤◌, ◌^◌, map, append_assoc, append-nil, suc, ◌↔◌, None, Bool, true≢false, zero, ◌<◌, slice_get, ◌⊎◌, ◌==◌, ◌||◌, min, length-append, rules}
pub use Rattle.std.proofs.lemmas.Bool.{cases_Bool, cond-true, cond-false}
pub use Rattle.std.proofs.lemmas.List.{length-map, map-append}
pub use Rattle.dag.specs.Accesses.{RaceAt}
pub use Rattle.dag.specs.Traces.{opens, closes, depth, IsRootReturn, placed, placed_from, IsWellNested}
pub use Rattle.dag.specs.declared.back.Back.{Back}
pub use Rattle.dag.specs.declared.back.Back.TheVariants.{NoMemory, Race}
pub use Rattle.dag.specs.declared.records.Placed.{Placed}
pub use Rattle.dag.specs.declared.records.Record.{Record}
pub use Rattle.dag.specs.declared.records.Record.TheVariants.{Spawn, Call, Return, Sync, Read, Write}
pub use Rattle.shadow.proofs.FoundLaws.{bags-after_record, found_from-append}
pub use Rattle.shadow.proofs.StateLemmas.{seen_next, found_next, root_is, root_by}
pub use Rattle.shadow.specs.Found.{State, found, race_of, state_at_start, state_from, found_from}
pub use Rattle.shadow.specs.SpBags.{SpBags, Accepts, HasApplied, state_of, is_root_return}
pub use Rattle.lane.proofs.Marks.{records_next, records_append, all_to_mark}
pub use Rattle.lane.specs.Items.{records, has_mark, IsBeginning}
pub use Rattle.lane.specs.Lanes.{put_of, IsUnmarked}
pub use Rattle.lane.specs.declared.item.Item.{Item}
pub use Rattle.lane.specs.declared.item.Item.TheVariants.{One, Finish}
pub use Rattle.shard.specs.Shards.{ShardState, IsFresh, capped_count}
pub use Rattle.shard.specs.Working.{AreInOrder, PutsFound, IsOfShare, race_items, whats, RiseFrom, HasStopped, out_of_order, no_memory, HasHandedBack}
pub use Rattle.shard.specs.Going.{HasWorked, Follow, MayTake, IsGoing}
