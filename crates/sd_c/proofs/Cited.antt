-- What these proofs cite of other modules, passed on from one place.
pub use Rattle.core.proofs.alloc.Calls.{Fits, Goes-blank, handle_tells, token, α}
pub use Rattle.sd_acl.specs.Dacl.{Dacl}
pub use Rattle.sd_acl.specs.Descriptor.{DescriptorValue, IsDescriptor, descriptor_of}
pub use Rattle.sd_acl.specs.declared.ace.Ace.{Ace}
pub use Rattle.sd_acl.specs.declared.descriptor.DaclOf.TheVariants.{Absent, Null}
pub use Rattle.sd_analysis.specs.Compare.{is_reported}
pub use Rattle.sd_analysis.specs.declared.compare_report.Change.{Change}
pub use Rattle.sd_c.specs.Analysis.{AnswersCompare, AnswersLines, AreCompareLines, AreLinesOf, AreLintLines, AreWhoLines, BaseValue, Stops, bits_of, both_kept, descriptors_in, kept_in, no_comparison}
pub use Rattle.sd_c.specs.CallAnswer.{not_read, unread, verdict_given}
pub use Rattle.sd_c.specs.Edits.{HasNode, IsEdit, IsNoEdit}
pub use Rattle.sd_c.specs.Explaining.{explained, no_part, part_told, parts_of, reasons_on}
pub use Rattle.sd_c.specs.Handle.{unless}
pub use Rattle.sd_c.specs.Kept.{asked_of, descriptor_in, is_kept, lines_in}
pub use Rattle.sd_c.specs.Lines.{AreKept}
pub use Rattle.sd_c.specs.Length.{dacl_end, descriptor_end, trustee_end}
pub use Rattle.sd_c.specs.Publishing.{Begins, Edits, IsAllowed, IsEdited, IsNotBegun, IsNotEdited, IsTreeReason, Judges, Limited, tree_reason}
pub use Rattle.sd_c.specs.Request.{RequestValue, group_read, groups_read, restricting_sid, sids_read, verdict_of, ◌>>=◌}
pub use Rattle.sd_c.specs.Review.{AreChangesAt, AreChangesOf, IsNotReviewed, IsPublishedReview, IsReviewed, published_at}
pub use Rattle.sd_c.specs.declared.analysis.CompareAnswer.{CompareAnswer}
pub use Rattle.sd_c.specs.declared.call_answer.CheckAnswer.{CheckAnswer}
pub use Rattle.sd_c.specs.declared.explaining.Explained.{Explained}
pub use Rattle.sd_c.specs.declared.explaining.PartAnswer.{PartAnswer}
pub use Rattle.sd_c.specs.declared.handle.Handle.{Handle}
pub use Rattle.sd_c.specs.declared.handle.kept.Kept.{Kept}
pub use Rattle.sd_c.specs.declared.mapping.Mapping.{Mapping}
pub use Rattle.sd_c.specs.declared.not_done.NotDone.{NotDone}
pub use Rattle.sd_c.specs.declared.review.NodeReview.{NodeReview}
pub use Rattle.sd_c.specs.declared.stop.NotRead.{NotRead}
pub use Rattle.sd_c.specs.declared.stop.NotRead.TheVariants.{DescriptorHandle, NewHandle}
pub use Rattle.sd_check.specs.declared.token.GroupState.{GroupState}
pub use Rattle.sd_check.specs.declared.verdict.Verdict.{Verdict}
pub use Rattle.sd_edit.specs.Answers.{IsError, descriptor_at, kind_at}
pub use Rattle.sd_edit.specs.Descriptors.{is_protected, own_dacl, own_descriptor_of_row, own_list}
pub use Rattle.sd_edit.specs.History.{history_of}
pub use Rattle.sd_edit.specs.Journal.{opening_within, refusal, root_refusal}
pub use Rattle.sd_edit.specs.declared.edit.Edit.{Edit}
pub use Rattle.sd_edit.specs.declared.node.NodeDacl.{NodeDacl}
pub use Rattle.sd_edit.specs.declared.refusal.EditRefusal.{EditRefusal}
pub use Rattle.sd_edit.specs.declared.refusal.TreeError.{TreeError}
pub use Rattle.sd_explain.specs.Parts.{part_at, reason_in}
pub use Rattle.sd_explain.specs.declared.reason.Reason.{Reason}
pub use Rattle.sd_line.specs.Line.{LineOf}
pub use Rattle.sd_review.specs.Compared.{IsOfBoth, is_container}
pub use Rattle.sd_review.specs.Review.{Trees, trees_of}
pub use Rattle.sd_sid.proofs.Masks.{holds_place, is_mask_of, mask_of-alike}
pub use Rattle.sd_sid.proofs.SidLaws.{length_of_sid}
pub use Rattle.sd_sid.specs.Mapping.{MappingValue}
pub use Rattle.sd_sid.specs.Mask.{holds, mask_of}
pub use Rattle.sd_sid.specs.Sid.{SidValue}
pub use Rattle.sd_sid.specs.SidBytes.{bytes_of_sid, sid_reading, u32_at}
pub use Rattle.sd_text.specs.Domain.{domain_sid}
pub use Rattle.sd_text.specs.declared.domain.Domain.{Domain}
pub use Rattle.sd_tree.specs.Listing.{listed}
pub use Rattle.sd_versions.specs.Versions.{accepted}
pub use Rattle.sd_wire.proofs.HeldIsRead.{held_is_read}
pub use Rattle.sd_wire.proofs.ReadIsHeld.{readings_are_held}
pub use Rattle.sd_wire.proofs.WireIsHeld.{descriptors_come_back}
pub use Rattle.sd_wire.specs.Reading.{descriptor_read, is_set, u16_at}
pub use Rattle.sd_wire.specs.Standing.{DaclStands, EntriesStand, EntryStands, Holds, IsPresent, IsWithout, ListStands, Stands, TrusteeStands}
pub use Rattle.sd_wire.specs.Writing.{entry_parts}
pub use Rattle.std.proofs.Common.{Bool, Err, IsSome, MatchBool, None, Ok, Option, Result, Some, [], ap, append_assoc, arith, false, get_or, if◌then◌else◌, inl, inr, length, length-set, lit<, option_map, refl, rules, set, slice_index, string_bytes, subst, suc, sym, take, true, ℕ, ◌+◌, ◌-◌, ◌<◌, ◌==◌, ◌||◌, ◌∙◌, ◌≡◌, ◌≤◌}
pub use Rattle.std.proofs.lemmas.Bool.Decides.{nat_tests}
pub use Rattle.std.proofs.lemmas.List.{append-nil, drop-take, get_or-take, length-take, take-take, take_rest}
pub use Rattle.std.proofs.lemmas.List.Edits.{fill_by_more}
pub use Rattle.std.proofs.lemmas.List.Folds.{list_any_more}
pub use Rattle.std.proofs.lemmas.List.FromFn.{fill_by_all}
pub use Rattle.std.proofs.lemmas.Nat.Bits.{bit_at-zero}
pub use Rattle.std.proofs.lemmas.Result.{IfOk-weaker, err_from_is_err_and}
pub use Rattle.std.specs.Arc.{arc_value}
pub use Rattle.std.specs.FinMap.{entries, len, len-entries}
pub use Rattle.std.specs.Prelude.{is_some, slice_get}
pub use Rattle.std_alloc.proofs.BoxSteps.Form.{B, Bx, D, P, R, args, box_ty, box_typed, handle, word, τ}
pub use Rattle.std_alloc.proofs.BoxSteps.Steps.{box_in, box_out}
pub use Rattle.std_alloc.specs.Box.Ownership.{box_owns}
pub use Rattle.std_heap.specs.contracts.GlobalAllocator.TheImpl.{dict, ghosts}
pub use base.Fml.{flft, fsep, ftrue}
pub use base.Fraction.{full_share}
pub use base.Logic.{SProp, emp, ent, fst∗, id⊢, never}
pub use contract.BorrowLft.{◌⊑◌}
pub use contract.Monad.{Fun, fact}
pub use contract.Running.{tables}
pub use denote.Builtin.{RawPtr}
pub use denote.Exit.{no, yes}
pub use denote.Param.{bounded}
pub use denote.RattleType.{RattleType, Valss}
pub use denote.RawPtr.{Ptr, block_ptr, in_a_block, null_ptr, ptr_val}
pub use denote.Signature.{Slot, plain, type_at}
pub use denote.Steps.{heard, nothing, only}
pub use denote.Struct.Owning.{shape, to}
pub use denote.Struct.Struct.{within}
pub use denote.Struct.Tuple.{Tuple}
pub use denote.Triple.Call.{calls_at, calls_at_last}
pub use denote.Triple.Clauses.{Clauses, Ended}
pub use denote.Triple.Spec.{triple_of}
pub use denote.Triple.Statement.{Contract, Triple}
pub use denote.Triple.Table.{entered}
pub use denote.Triple.Walked.{Goes-dropped, Stays, ends_at, says, stay_dropped, walk_Meets, walk_of}
pub use lib.Dec.{T}
pub use mathlib.Core.Bool.{◌&&◌}
pub use mathlib.Core.List.{List, ◌++◌, ◌∷◌}
pub use mir.MapTy.{inst_fn}
pub use mir.Syntax.{Args, Body, Dict, Fn, a_type, assign, copy, dcons, dnil, impl, place, return, rv_opd, seq, tnil, ty_ptr}
pub use mir.Val.{Val, WT, has_ty, of_list, vptr, vstruct}
pub use prog.Memory.{Memory}
pub use prog.Routine.{Routine}
pub use prog.Wp.{Tables, WpFn}
pub use seplogic.Ra.Ura.{Ura}
pub use sound.WpLaws.{WpFn-mono, fm_of}
pub use types.ByLocal.{alloc_all, env, free_all, get, get_in, lands_as, lands_last, look_at, pass_all, sets}
pub use types.Kit.{ !, Goal, Item, Seq, Step, at_ret, await, by, done, drop, feq_i, feq_l, fjoin, fpack, fpick, fsplit, join, later, move, pick, qed, raw, rewrite, some, split, split3, step, suffices, use1, ‵, ◌$◌, ◌∵◌, ◌⊛◌}
pub use types.Logic.{Logic, sem}
pub use types.Part.{agg, sub, whole}
pub use types.Run.{and_then, blocks, enter, exec, first, fld, no_more, of_opd, returns, stop}
