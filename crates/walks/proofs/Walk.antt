-- What a walk by hand cites, passed on in one place.
pub use Prim.Native.Nat.{◌*◌, ◌+◌, ◌<◌, ◌^◌, ◌≤◌, suc, ℕ}
pub use base.Fml.{GName, Lft, Share, fat, fbor, fdies, flft, fobs, froom, ftrue}
pub use base.Logic.{SProp, emp, ent, fst∗, id⊢, sep, via}
pub use borrow.Author.Tests.{le-ltb, lt-ltb}
pub use contract.Monad.{Fun, fact}
pub use contract.Running.{tables}
unfoldable pub use contract.Running.{tables_of}
pub use denote.Builtin.{bool, u64, u8, unit, usize}
pub use denote.Exit.{yes}
pub use denote.Index.{closes_slice, elem_back, elem_out, elem_put, looks_slice, opens_slice, place_is, shuts_slice}
pub use denote.Laws.{Is, shows}
pub use denote.Lend.{Held}
pub use denote.Memory.{mem, pointee}
pub use denote.Plain.{bool_Lawful, bool_Tells, Nothing-Lawful, uint_Makes, uint_Tells, uint_vals}
pub use denote.RattleType.{owns}
pub use denote.Ref.{MutRef, Bor, MutBor, mut_Tells, shr_vals, mut_vals}
pub use denote.Shadow.{pure_i}
pub use denote.Signature.{plain}
pub use denote.Slice.{MutSlice, Room, ShrSlice, shr_slice_at, mut_slice_at, coded_holeys, finally, heres, mut_slice_Tells, shr_slice_Tells, shr_slice_vals, mut_slice_vals, slice_ty, slice_val}
pub use denote.Steps.{closes, heard, nothing, only, opens, owned, peeks}
pub use denote.Struct.Steps.{spelt}
pub use denote.Triple.Call.{calls_at}
pub use denote.Triple.Clauses.{ensured, lasts}
pub use denote.Triple.Entry.{on_entry}
pub use denote.Triple.Spec.{Meets, triple_of}
pub use denote.Triple.Statement.{Contract, Triple}
pub use denote.Triple.Table.{cited, entered}
pub use denote.Triple.Walked.{AllGo, Stays, Walks, ends_at, gave_slice, Goes-gave_slice, Goes-none, Goes-none_slice, Goes-ref, Goes-slice, needs, says, stay_none, stay_none_slice, stay_ref, stay_slice, walk_Meets, walk_of, walked}
pub use ghost.Atoms.{Atoms}
pub use base.Fraction.{full_share}
pub use seplogic.Ra.Ura.{Ura}
pub use lib.Dec.{leb→le, lit<, nleb→lt}
pub use lib.ListN.{get_or, length, length-set, set}
pub use lib.WfN.{lt-wf_rel as Nat·lt-wfRel}
pub use mathlib.Core.Bool.{Bool, false, true}
pub use mathlib.Core.List.{List, [], ◌++◌, ◌∷◌}
pub use mathlib.Core.Path.{◌∙◌, ◌≡◌, ap, refl, subst, sym}
pub use mathlib.Core.WellFounded.InvImage.{wf as InvImage·wf}
pub use mathlib.Core.WellFounded.{WellFounded}
pub use mir.Syntax.{Lifetime, Ty, erased, mut, named, ty_bool, ty_int, ty_ptr, ty_ref, ty_unit, w64, w8}
pub use mir.Val.{Val, vbool, vint, vptr, vunit}
pub use native.Mathlib.Omega.{arith}
pub use prog.Memory.{Memory}
pub use prog.Routine.{Routine}
pub use prog.Wp.{Calls, Heap, Loops, Tables, WpFn}
unfoldable pub use prog.Wp.{after_turn}
pub use sound.WpLaws.{FmC, WpFn-mono, fm_of}
pub use types.Kit.{ !, Item, ◌$◌, ◌∵◌, ◌⊛◌, at_ret, await, by, done, drop, feq_i, feq_l, fjoin, fjoin3, frame, fsplit, fsplit3, join, keep, later, move, pick, qed, raw, rewrite, some, split, suffices, use0, use1, use2, use3, ‵, ⋆}
pub use types.Part.{agg, look_in, sub, whole}
pub use types.Run.{addr, again, alloc0, alloc1, and_then, assigns, assigns_last, bin, blocks, branches, enter, exec, first, fld, forget, free0, free1, from, hop, init, land, lit, load, look, look_raw, loops, no_more, of_opd, params1, pass0, pass1, returns, returns_within, skips, stop, store, store_raw, unit_lit}
pub use types.SemTy.{Body}
pub use types.Tokens.{lft_end, lft_new}
