-- What these proofs cite of other modules, passed on from one place.
pub use Rattle.sd_acl.specs.Ace.{acl_size_of}
pub use Rattle.sd_acl.specs.Canonical.{deny_behind_allow, is_inherited}
pub use Rattle.sd_acl.specs.declared.ace.Ace.{Ace}
pub use Rattle.sd_blocks.specs.Runs.{exchanged, without_run}
pub use Rattle.sd_edit.proofs.Below.{nothing_below, parent_there, some_row, within_root}
pub use Rattle.sd_edit.proofs.Closed.{closed_replay, no_child}
pub use Rattle.sd_edit.proofs.Dacls.{below_up, dacl_at-append, dacl_at_here, dacl_at_outside, dacl_at_root, dacl_at_up, dacl_over}
pub use Rattle.sd_edit.proofs.Given.{given_fits}
pub use Rattle.sd_edit.proofs.Journals.{lawful_none, lawful_push, lawful_short, replay-none, replay-push}
pub use Rattle.sd_edit.proofs.Lists.{all_one, by_last, same_behind, taken}
pub use Rattle.sd_edit.proofs.Moved.{below_shift, dacl_at-moved_other, dacl_at-moved_top, longer, row_at-moved, row_at-moved_there}
pub use Rattle.sd_edit.proofs.NewRow.{whole_at_root, whole_below}
pub use Rattle.sd_edit.proofs.Refused.{are_late, fits_first, fits_later, late_refused, refusal_by_parts}
pub use Rattle.sd_edit.proofs.Rows.{compared_same, one_path, other_path, row_at-changed_other, row_at-insert_other, row_at-insert_same, row_at-remove_other, same_or_other}
pub use Rattle.sd_edit.proofs.Sorted.{find_at, find_none, greater_from_less, less_from_greater, put_insert, put_set, rises, where_remove}
pub use Rattle.sd_edit.proofs.Trustees.{others_stay, row_alike, same_row_stays}
pub use Rattle.sd_edit.specs.Additions.{AdditionValue}
pub use Rattle.sd_edit.specs.Answers.{IsError, kind_at}
pub use Rattle.sd_edit.specs.Closed.{IsAddable, IsClosed, IsMovable}
pub use Rattle.sd_edit.specs.Edits.{ChangesOneNode, changed, changed_where, edited, moved, moved_entry}
pub use Rattle.sd_edit.specs.Inheritance.{dacl_of_row, dacl_under, handed_on}
pub use Rattle.sd_edit.specs.Journal.{TreeValue, opened, opening_within, refusal, replay, root_refusal, root_row}
pub use Rattle.sd_edit.specs.Limits.{LimitsValue}
pub use Rattle.sd_edit.specs.Plain.{PlainTree, dacl_at, dacl_below, dacl_here, row_at}
pub use Rattle.sd_edit.specs.Refusals.{dacl_size, early_refusal, first_fit, goes_too_deep, has_child, has_large_dacl, is_early, late_refusal, late_tests, list_tests, moves_too_deep, node_tests, own_entries, place_tests, refusal_in}
pub use Rattle.sd_edit.specs.declared.edit.Edit.{Edit}
pub use Rattle.sd_edit.specs.declared.edit.Edit.TheVariants.{Move}
pub use Rattle.sd_edit.specs.declared.node.NodeDacl.{NodeDacl}
pub use Rattle.sd_edit.specs.declared.node.NodeDacl.TheVariants.{Null}
pub use Rattle.sd_edit.specs.declared.node.NodeRow.{NodeRow}
pub use Rattle.sd_edit.specs.declared.opening.Opening.{Opening}
pub use Rattle.sd_edit.specs.declared.refusal.EditRefusal.{EditRefusal}
pub use Rattle.sd_edit.specs.declared.refusal.EditRefusal.TheVariants.{AclTooLarge, InheritedEntry, IntoItself, IsRoot, NotCanonical}
pub use Rattle.sd_edit.specs.declared.refusal.TreeError.{TreeError}
pub use Rattle.sd_edit.specs.declared.refusal.TreeError.TheVariants.{Memory, Refused}
pub use Rattle.sd_inheritance.specs.Inheritance.{container_inherit, created_by, creator_group, creator_owner, effective_copy, is_split, no_propagate, object_inherit, pass_on, waiting_copy, whole_copy}
pub use Rattle.sd_inheritance.specs.declared.kind.NodeKind.{NodeKind}
pub use Rattle.sd_inheritance.specs.declared.kind.NodeKind.TheVariants.{Container, Object}
pub use Rattle.sd_path.proofs.PathBytes.{length-up}
pub use Rattle.sd_path.proofs.Paths.{moved_path-append, moved_path-outside, names_cmp_antisymmetric, names_cmp_prefix, names_cmp_total, push_not_root, root_is_empty, up-append, up-push, up_before, up_within, within-append, within_before, within_between, within_itself, within_rest, within_up}
pub use Rattle.sd_path.specs.Names.{Names, is_root, is_within, moved_path, names_cmp, up}
pub use Rattle.sd_sid.specs.Mapping.{MappingValue}
pub use Rattle.sd_sid.specs.Sid.{SidValue, same_sid}
pub use Rattle.sd_tree.specs.Node.{behind_own, dacl_with, inherits, whole_with}
pub use Rattle.sd_tree.specs.Plans.{AreUnder, CanCarryOut, IsDepthError, IsExchange, IsLargeError, IsLateError, IsPlan, IsPlanned, IsRunBelow, IsTaken, carried, changed_row, is_of_trustee, relocated}
pub use Rattle.sd_tree.specs.Sharing.{AreAlike, AreMadeFor, InheritOne, IsSibling, names_creator, trustees_matter}
pub use Rattle.sd_tree.specs.Sizes.{IsSizeError}
pub use Rattle.sd_tree.specs.Stored.{AreNodes, AreStanding, IsInOrder, IsNodeAt, IsStored, IsWhole, edits_in, end_cmp, entry_of, path_of_node, tree_of}
pub use Rattle.sd_tree.specs.declared.node.Node.{Node}
pub use Rattle.sd_tree.specs.declared.node.RowChange.{RowChange}
pub use Rattle.sd_tree.specs.declared.node.RowChange.TheVariants.{Dacl, Group, Owner}
pub use Rattle.sd_tree.specs.declared.plan.Plan.{Plan}
pub use Rattle.sd_tree.specs.declared.plan.Plan.TheVariants.{Exchange, Insert, Remove, Set}
pub use Rattle.std.proofs.Common.{Bool, Err, IfErr, IfOk, IsSome, List, None, Ok, Option, Result, Some, [], add-zero, ap, append-nil, append_assoc, ap₂, arith, cond, drop, false, get_or, inl, inr, is_some, leb, length, ltb, map, nat_lt, not, option_map, refl, rules, set, slice_get, subst, suc, sym, take, true, zero, ℕ, ◌&&◌, ◌++◌, ◌+◌, ◌-◌, ◌<◌, ◌||◌, ◌∙◌, ◌∷◌, ◌≡◌, ◌≢◌, ◌≤◌, ◌⊎◌}
pub use Rattle.std.proofs.Math.Seq.{drop-append_seam, get_or-append_seam, take-append_seam}
pub use Rattle.std.proofs.lemmas.Bool.{and_from, cases_Bool, cases_lt, false≢true, not-true}
pub use Rattle.std.proofs.lemmas.Bool.Decides.{nat_tests}
pub use Rattle.std.proofs.lemmas.Grind.{flat_map-append}
pub use Rattle.std.proofs.lemmas.List.{drop-drop, drop-map, drop-set, get_or-append_right, get_or-drop, get_or-map, get_or-take, get_or_append_left, get_or_default, length-append, length-drop, length-map, map-append, same_lists, take-append-drop, take-map, take-set, take_more}
pub use Rattle.std.proofs.lemmas.List.Elements.{All-append, All-drop, All-push, All-take}
pub use Rattle.std.proofs.lemmas.List.Sorted.{searchable_from_sorted}
pub use Rattle.std.proofs.lemmas.Option.{slice_get-get_or, slice_get-map, slice_get_past}
pub use Rattle.std.proofs.lemmas.Result.{IfErr-weaker, IfOk-weaker, err_from_is_err_and}
pub use Rattle.std.specs.Cmp.{eq_by_cmp_equiv, tied_itself}
pub use Rattle.std.specs.FinMap.{contains_key-keys, entries, entries-from_sorted, entries-insert, entries_sorted, find, get-entries, get-remove, insert, is_sorted, keys, len, len-empty, len-entries, put, same_entries_map}
pub use Rattle.std.specs.FinMap.Entries.{below_all, find-where_key, is_sorted-where_key, same_entries, where_key}
pub use Rattle.std.specs.List.{AllWithin, HoldsAt, flat_map, list_any, remove}
pub use Rattle.std.specs.List.Sorted.{IsBinarySearchResult, IsNonDecreasingBy, IsPartitionPoint, IsSearchInRange, IsSortedBy}
pub use Rattle.std.specs.Option.{option_or}
pub use Rattle.std.specs.Ordering.{eq_by_cmp, is_eq, is_lt, ordering_index}
pub use Rattle.std.specs.Prelude.{All, T}
pub use Rattle.std.specs.declared.cmp.Ordering.{Ordering}
pub use Rattle.std.specs.declared.cmp.Ordering.TheVariants.{Equal, Greater, Less}
