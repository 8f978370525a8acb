-- What these proofs cite of other modules, passed on from one place.
pub use Rattle.sd_acl.specs.Ace.{ace_size, acl_size_of}
pub use Rattle.sd_acl.specs.declared.ace.Ace.{Ace}
pub use Rattle.sd_edit.specs.Answers.{kind_at}
pub use Rattle.sd_edit.specs.Closed.{IsAddable, IsClosed, IsMovable}
pub use Rattle.sd_edit.specs.Edits.{ChangesOneNode, changed, changed_where, edited, keeping, moved_entry}
pub use Rattle.sd_edit.specs.Inheritance.{dacl_of_row, dacl_under, handed_on}
pub use Rattle.sd_edit.specs.Journal.{IsLawful, edited_by, opened, refusal, replay, root_row}
pub use Rattle.sd_edit.specs.Limits.{LimitsValue}
pub use Rattle.sd_edit.specs.Plain.{PlainTree, dacl_at, dacl_below, dacl_here, row_at}
pub use Rattle.sd_edit.specs.Refusals.{addition_tests, dacl_size, early_refusal, early_tests, first_fit, has_child, has_large_dacl, is_early, is_object, is_object_kind, is_without_memory, late_refusal, late_tests, move_tests, own_entries, refusal_in, room_tests}
pub use Rattle.sd_edit.specs.declared.edit.Edit.{Edit}
pub use Rattle.sd_edit.specs.declared.edit.Edit.TheVariants.{AddContainer, AddObject, Move, ProtectKeeping, Remove, SetDacl, SetGroup, SetOwner}
pub use Rattle.sd_edit.specs.declared.node.NodeDacl.{NodeDacl}
pub use Rattle.sd_edit.specs.declared.node.NodeDacl.TheVariants.{Null}
pub use Rattle.sd_edit.specs.declared.node.NodeRow.{NodeRow}
pub use Rattle.sd_edit.specs.declared.opening.Opening.{Opening}
pub use Rattle.sd_edit.specs.declared.refusal.EditRefusal.{EditRefusal}
pub use Rattle.sd_edit.specs.declared.refusal.EditRefusal.TheVariants.{AclTooLarge, JournalFull}
pub use Rattle.sd_inheritance.proofs.HandedOn.{effective_hands_nothing, once}
pub use Rattle.sd_inheritance.specs.Inheritance.{container_inherit, effective_copy, is_split, no_propagate, object_inherit, pass_on, waiting_copy, whole_copy}
pub use Rattle.sd_inheritance.specs.declared.kind.NodeKind.{NodeKind}
pub use Rattle.sd_inheritance.specs.declared.kind.NodeKind.TheVariants.{Container, Object}
pub use Rattle.sd_path.proofs.PathBytes.{length-up}
pub use Rattle.sd_path.proofs.Paths.{last_name, moved_path-append, moved_path-outside, names_cmp_antisymmetric, names_cmp_prefix, names_cmp_total, push-up, root_is_empty, up-append, up-push, up_before, up_within, within-append, within-step, within_before, within_rest, within_trans, within_up}
pub use Rattle.sd_path.specs.Names.{Names, is_root, is_within, moved_path, names_cmp, up}
pub use Rattle.sd_sid.specs.Mapping.{MappingValue}
pub use Rattle.sd_sid.specs.Sid.{SidValue}
pub use Rattle.std.proofs.Common.{Bool, IsSome, List, None, Option, Some, [], ap, append-nil, append_assoc, ap₂, arith, cond, drop, false, get_or, inl, inr, is_eq, is_some, length, map, nat_le, not, option_map, refl, set, slice_get, suc, sym, take, true, zero, ℕ, ◌&&◌, ◌++◌, ◌<◌, ◌∙◌, ◌∷◌, ◌≡◌, ◌≢◌, ◌≤◌, ◌⊎◌}
pub use Rattle.std.proofs.Math.ListN.{get_or-append}
pub use Rattle.std.proofs.Math.Seq.{drop-append_seam, get_or-append_seam, take-append_seam}
pub use Rattle.std.proofs.lemmas.Bool.{cases_Bool, cases_order, false_from_ne_true, false≢true, or_cases, or_parts}
pub use Rattle.std.proofs.lemmas.Bool.Decides.{nat_tests}
pub use Rattle.std.proofs.lemmas.Grind.{flat_map-append}
pub use Rattle.std.proofs.lemmas.List.{length-append, take-append-le}
pub use Rattle.std.proofs.lemmas.List.Sums.{sum_by-append}
pub use Rattle.std.proofs.lemmas.Option.{slice_get-get_or, slice_get_within}
pub use Rattle.std.specs.Bool.{◌==◌}
pub use Rattle.std.specs.Cmp.{IsTotalOrder, tied_itself}
pub use Rattle.std.specs.FinMap.{contains_key-keys, entries_sorted, find, get-empty, get-entries, get-from_entries, get-insert, get-remove, insert, is_sorted, put}
pub use Rattle.std.specs.FinMap.Entries.{below_all, by_order, where_key}
pub use Rattle.std.specs.List.{AllByRecursion, flat_map, list_any, remove}
pub use Rattle.std.specs.Option.{option_or}
pub use Rattle.std.specs.Ordering.{eq_by_cmp, is_lt, ordering_index, ordering_reverse}
pub use Rattle.std.specs.Prelude.{All, T}
pub use Rattle.std.specs.declared.cmp.Ordering.{Ordering}
pub use Rattle.std.specs.declared.cmp.Ordering.TheVariants.{Equal, Greater, Less}
