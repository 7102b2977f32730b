-- The names that the walks cite.
pub use Rattle.std.proofs.Common.{◌≢◌, ◌≡◌, ℕ, List, [], ◌∷◌, refl, sym, ap, ◌∙◌, MutBor, ◌++◌}
pub use Rattle.std.proofs.raw_atomic.Walks.{proved}
pub use Rattle.std.proofs.VecSteps.Shapes.{after}
pub use base.Fraction.{full_share}
pub use base.Logic.{id⊢, ent, sep}
pub use base.Fml.{GName, Fml, ftrue, flft, fsep, fex, fat}
pub use mir.Syntax.{named}
pub use mir.Val.{Val, vptr, vunit, vstruct, vcons, vnil}
pub use contract.Running.{tables}
pub use types.Logic.{sem}
pub use types.Kit.{‵, ◌⊛◌, some, later, at_ret, ◌$◌, ◌∵◌, !, qed, done, move, keep, use1, split, join, fsplit, fsplit3, fjoin, fpack, rewrite, pick, await, suffices, frame, group, raw, prop, drop, use2, feq_i, regoal, feq_l}
pub use types.Part.{whole, sub, look_in, agg}
pub use types.Run.{enter, of_opd, addr, load, stop, fld, first, blocks, exec, returns, init, unit_lit, no_more, and_then, assigns, look}
pub use types.ByLocal.{alloc_all, pass_all, free_all, look_at, get, through, sets, sets_last, env, lands_as, get_in}
pub use denote.Exit.{no, yes}
pub use denote.Follow.{follows, lends_Part}
pub use denote.Laws.{shows, Is, Tells}
pub use denote.Memory.{mem, cell_at, part_at, lone}
pub use denote.RawPtr.{Ptr, block_ptr, lies_at, in_a_block, RawPtr, ptr_val, room_at, rawptr_vals, rawptr_Tells}
pub use denote.Ref.{MutRef, mut_vals, mut_Tells}
pub use denote.Signature.{plain, mut_ref_to}
pub use denote.Steps.{nothing, opens, peeks, heard, only}
pub use denote.Struct.Owning.{shape}
pub use denote.Struct.Struct.{Struct, within}
pub use denote.Triple.Walked.{Stays, walk_of, says, stay_dropped, Goes-spent_ref, ends_at, Goes-dropped}
pub use contract.Monad.{fact}
pub use prog.Wp.{WpFn}
pub use borrow.Table.OneValue.{part_in, part_out}
pub use denote.RattleType.{Valss}
pub use denote.Triple.Call.{calls_at}
pub use denote.Triple.Clauses.{lasts, ensured}
pub use denote.Triple.Spec.{triple_of}
pub use denote.Triple.Table.{framed}
pub use denote.Builtin.{unit}
