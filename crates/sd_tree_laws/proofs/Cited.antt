-- What these proofs cite of other modules, passed on from one place.
pub use Rattle.sd_acl.specs.Ace.{is_inherit_only}
pub use Rattle.sd_acl.specs.Canonical.{allows, canonical_order, denies, deny_behind_allow, explicit_behind_inherited, explicit_entries, explicit_entry, is_canonical, is_explicit, is_inherited}
pub use Rattle.sd_acl.specs.declared.ace.Ace.{Ace}
pub use Rattle.sd_acl.specs.declared.ace.AceKind.{AceKind}
pub use Rattle.sd_check.proofs.MoreGranted.{nothing_missing}
pub use Rattle.sd_check.specs.Check.{acl_grants, applies, applies_again, decides, first, is_allowed_by, is_given, is_granted, is_implied, is_listed, is_owner, judged, limits_owner, most}
pub use Rattle.sd_check.specs.Token.{TokenValue, is_restricted}
pub use Rattle.sd_check.specs.declared.verdict.Verdict.{Verdict}
pub use Rattle.sd_check.specs.declared.verdict.Verdict.TheVariants.{Denied, EmptyRequest, Granted, Reserved}
pub use Rattle.sd_edit.proofs.Below.{nothing_below, some_row}
pub use Rattle.sd_edit.proofs.Closed.{closed_replay, kept_when_keeping, kind_at-changed, known_kind, movable}
pub use Rattle.sd_edit.proofs.Dacls.{below_alike, dacl_at-append, dacl_at_alike, dacl_at_here, dacl_at_outside, dacl_at_root, dacl_at_up, dacl_over}
pub use Rattle.sd_edit.proofs.Journals.{holds_of_lawful, lawful_before, lawful_last, lawful_none, lawful_push, lawful_short, replay-none, replay-push}
pub use Rattle.sd_edit.proofs.Lists.{by_last}
pub use Rattle.sd_edit.proofs.Moved.{below_shift, closed_moved, dacl_at-moved_other, entry_there, row_at-moved, row_at-moved_gone, row_at-moved_other, row_at-moved_there, way_outside}
pub use Rattle.sd_edit.proofs.NewRow.{up_outside}
pub use Rattle.sd_edit.proofs.Refused.{none_fits, not_refused, refusal_by_parts}
pub use Rattle.sd_edit.proofs.Rows.{one_path, path_itself, row_at-changed_other, row_at-changed_same, row_at-empty, row_at-insert_other, row_at-insert_same, row_at-remove_other, row_at-remove_same, same_or_other}
pub use Rattle.sd_edit.proofs.Trustees.{others_stay, row_alike, same_row_stays}
pub use Rattle.sd_edit.specs.Additions.{addition_of, root_of}
pub use Rattle.sd_edit.specs.Answers.{descriptor_at, kind_at, reply_for, reply_in}
pub use Rattle.sd_edit.specs.Closed.{IsClosed, IsMovable}
pub use Rattle.sd_edit.specs.Descriptors.{descriptor_of_row, is_protected}
pub use Rattle.sd_edit.specs.Edits.{changed, changed_where, edited, keeping, moved, moved_entry, touches}
pub use Rattle.sd_edit.specs.Inheritance.{dacl_under, handed_on}
pub use Rattle.sd_edit.specs.Journal.{IsLawful, edited_by, opened, opening_within, refusal, replay, root_refusal, root_row}
pub use Rattle.sd_edit.specs.Limits.{LimitsValue}
pub use Rattle.sd_edit.specs.Plain.{PlainTree, dacl_at, dacl_below, dacl_here, row_at}
pub use Rattle.sd_edit.specs.Refusals.{addition_tests, dacl_size, early_refusal, early_tests, first_fit, goes_too_deep, has_large_dacl, is_object, is_object_kind, late_refusal, late_tests, list_tests, own_entries, refusal_in, room_tests}
pub use Rattle.sd_edit.specs.declared.edit.Edit.{Edit}
pub use Rattle.sd_edit.specs.declared.edit.Edit.TheVariants.{AddContainer, AddObject, Move, ProtectKeeping, Remove, SetDacl, SetGroup, SetOwner}
pub use Rattle.sd_edit.specs.declared.node.NodeDacl.{NodeDacl}
pub use Rattle.sd_edit.specs.declared.node.NodeDacl.TheVariants.{Null}
pub use Rattle.sd_edit.specs.declared.node.NodeRow.{NodeRow}
pub use Rattle.sd_edit.specs.declared.opening.Opening.{Opening}
pub use Rattle.sd_edit.specs.declared.refusal.EditRefusal.{EditRefusal}
pub use Rattle.sd_edit.specs.declared.refusal.EditRefusal.TheVariants.{AclTooLarge, JournalFull}
pub use Rattle.sd_inheritance.proofs.HandedOn.{effective_hands_nothing, effective_off, flag_of, once, unmarked_stays}
pub use Rattle.sd_inheritance.specs.Inheritance.{container_inherit, effective_copy, is_split, no_propagate, object_inherit, pass_on, waiting_copy, whole_copy}
pub use Rattle.sd_inheritance.specs.declared.kind.NodeKind.{NodeKind}
pub use Rattle.sd_inheritance.specs.declared.kind.NodeKind.TheVariants.{Container, Object}
pub use Rattle.sd_path.proofs.Paths.{moved_path-append, moved_path-outside, names_cmp_antisymmetric, names_cmp_total, up_before, within-append, within_before, within_itself, within_rest, within_up}
pub use Rattle.sd_path.specs.Names.{Names, is_root, is_within, moved_path, names_cmp, up}
pub use Rattle.sd_sid.proofs.Masks.{holds-and}
pub use Rattle.sd_sid.specs.Mapping.{MappingValue, mapped}
pub use Rattle.sd_sid.specs.Mask.{holds}
pub use Rattle.sd_sid.specs.Sid.{SidValue, owner_rights, same_sid}
pub use Rattle.sd_tree_laws.specs.Laws.{DaclIsOfParent, EditStaysBelow, EveryListIsCanonical, GivenKeepLists, GroupChangesOneNode, InheritedHasId, KeepingANullChangesNone, KeepingGrantsNoNewRequest, KeepingLetsNobodyIn, MoveBackUndoesIt, MoveCarriesTheSubtree, NoPropagateGoesOneLevel, NothingWaitsInAnObject, NullKeepLists, OrderGrantsNothing, OrderKeepsOwnersLimit, OwnHasNoId, OwnerChangesOneNode, ProtectedKeepLists, ProtectedStandsAlone, ProtectingFirstGrantsNoNewRequest, ProtectingFirstKeepsLists, ProtectingFirstLetsNobodyIn, RenamedKeepLists, RootInheritsNothing, SameTreeAnswersAlike, UnmarkedEntryStays, WithoutIdIsOwn, granted_by_row, is_granted_at, protected_then_moved, speaks_of_children}
pub use Rattle.std.proofs.Common.{Bool, IsSome, List, None, Option, Some, [], ap, append-nil, append_assoc, ap₂, arith, bit_and, bit_or, cond, false, filter, get_or, inl, inr, is_some, length, map, nat_le, nat_lt, not, option_map, refl, subst, suc, sym, true, zero, ℕ, ◌&&◌, ◌++◌, ◌+◌, ◌-◌, ◌<◌, ◌||◌, ◌∙◌, ◌∷◌, ◌≡◌, ◌≢◌, ◌≤◌, ◌⊎◌}
pub use Rattle.std.proofs.Math.Bool.{and-false, or_assoc}
pub use Rattle.std.proofs.Math.Seq.{get_or-append_seam}
pub use Rattle.std.proofs.lemmas.Bool.{and_from, and_parts, cases_Bool, false≢true, le-ltb, leb-false, lt-leb, ltb-false, not-false, or_from, or_left, or_parts, or_right}
pub use Rattle.std.proofs.lemmas.Grind.{flat_map-append}
pub use Rattle.std.proofs.lemmas.List.{length-append, length-map, map-append}
pub use Rattle.std.proofs.lemmas.List.Elements.{filter-append}
pub use Rattle.std.proofs.lemmas.List.Folds.{find-append, list_any-append}
pub use Rattle.std.proofs.lemmas.Nat.{and_assoc}
pub use Rattle.std.specs.FinMap.{entries_sorted, find, from_entries_push, get-entries, get-from_entries, is_sorted, len-empty, len-entries, len-insert, len-remove, same_map}
pub use Rattle.std.specs.FinMap.Entries.{below_all}
pub use Rattle.std.specs.List.{AllByRecursion, flat_map, list_any}
pub use Rattle.std.specs.Option.{option_or}
pub use Rattle.std.specs.Ordering.{eq_by_cmp, is_eq, is_lt}
pub use Rattle.std.specs.Prelude.{T}
pub use Rattle.std.specs.declared.cmp.Ordering.{Ordering}
pub use Rattle.std.specs.declared.cmp.Ordering.TheVariants.{Equal, Greater, Less}
