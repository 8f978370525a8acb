-- What these proofs cite of other modules, passed on from one place.
pub use Rattle.core.proofs.fmt.Cut.{IsLastBoundary, floor_char_boundary_is}
pub use Rattle.sd_acl.specs.Ace.{ace_size, acl_size_of}
pub use Rattle.sd_acl.specs.Canonical.{allows, canonical_order, denies, deny_behind_allow, explicit_behind_inherited, is_explicit, is_inherited}
pub use Rattle.sd_acl.specs.Descriptor.{descriptor_of}
pub use Rattle.sd_acl.specs.declared.ace.Ace.{Ace}
pub use Rattle.sd_acl.specs.declared.ace.AceKind.{AceKind}
pub use Rattle.sd_analysis.proofs.Effects.{same_verdicts}
pub use Rattle.sd_answer.specs.Lint.{is_misplaced}
pub use Rattle.sd_check.specs.Check.{applies, applies_again, decides, first, in_each_pass, is_allowed_by, is_granted, is_implied, is_limit, is_owner}
pub use Rattle.sd_check.specs.Token.{TokenValue}
pub use Rattle.sd_line.proofs.Cuts.{none_cut, some_cut}
pub use Rattle.sd_commands.specs.Bytes.{BytesRead, is_between, is_blank_byte, joined, part_read, parts_read}
pub use Rattle.sd_commands.specs.Answer.{answer_of}
pub use Rattle.sd_commands.specs.Diagnostic.{told_line}
pub use Rattle.sd_commands.specs.Escaped.{escaped_chars}
pub use Rattle.sd_commands.specs.Mapping.{AreMasks, between_commas}
pub use Rattle.sd_commands.specs.Object.{ObjectDecidesAlike, ObjectHandsNothingOn}
pub use Rattle.sd_commands.specs.Pointer.{end_shown, lines_of, start_of, start_shown}
pub use Rattle.sd_commands.specs.Risks.{risk_line}
pub use Rattle.sd_commands.specs.Sort.{CanonicalStays, SortedIsCanonical, move_note, note_at, notes_below, sorted, entry_head}
pub use Rattle.sd_inheritance.proofs.HandedOn.{unmarked_stays}
pub use Rattle.sd_inheritance.specs.Inheritance.{pass_on}
pub use Rattle.sd_inheritance.specs.declared.kind.NodeKind.{NodeKind}
pub use Rattle.sd_sid.proofs.Masks.{flag_test, holds-and}
pub use Rattle.sd_sid.specs.Mapping.{MappingValue, mapped}
pub use Rattle.sd_sid.specs.Mask.{holds}
pub use Rattle.sd_sid.specs.Sid.{SidValue, same_sid}
pub use Rattle.std.proofs.Common.{Bool, List, None, Ok, Option, Some, [], add-one, ap, append-nil, append_assoc, ap₂, arith, codes, cond, drop, false, filter, inl, inr, length, ltb, map-id, not, position, refl, rules, slice_get, string_bytes, subst, sym, take, tests, true, ℕ, ⊎_elim, ◌&&◌, ◌++◌, ◌+◌, ◌-◌, ◌<◌, ◌==◌, ◌∙◌, ◌∷◌, ◌≡◌, ◌≤◌, map}
pub use Rattle.std.proofs.Math.Bool.{and-false, and-true, not-not}
pub use Rattle.std.proofs.lemmas.Bool.{cases_lt, le-leb, lt-leb, not-true}
pub use Rattle.std.proofs.lemmas.Bool.Decides.{nat_tests}
pub use Rattle.std.proofs.lemmas.Grind.{common_steps}
pub use Rattle.std.proofs.lemmas.Iterator.{YieldsList-from_chars, YieldsList-from_slice, YieldsList-from_take, items_from_collect}
pub use Rattle.std.proofs.lemmas.Iterator.Adapters.{YieldsList-from_skip, items_from_extend}
pub use Rattle.std.proofs.lemmas.Iterator.Consumers.{YieldsList-end, YieldsList-from_copied, YieldsList-from_filter}
pub use Rattle.std.proofs.lemmas.Iterator.Search.{position_from_yields_List}
pub use Rattle.std.proofs.lemmas.List.{length-drop, length-take-le, take_all, take_rest}
pub use Rattle.std.proofs.lemmas.List.Elements.{filter-append}
pub use Rattle.std.proofs.lemmas.List.Filters.{sum_by-filter_both}
pub use Rattle.std.proofs.lemmas.List.Folds.{fold-map}
pub use Rattle.std.proofs.lemmas.List.Sorted.{IsPermutation-filter_both, list_any-IsPermutation}
pub use Rattle.std.proofs.lemmas.List.Splits.{length-slice_split, slice_split_first, slice_split_none}
pub use Rattle.std.proofs.lemmas.List.Sums.{fails_before_first, prefix_len-le-length, sum_by-append}
pub use Rattle.std.proofs.lemmas.Map.Views.{any-filter_same}
pub use Rattle.std.proofs.lemmas.Option.{slice_get_read}
pub use Rattle.std.proofs.lemmas.Result.{IfOk-weaker}
pub use Rattle.std.proofs.lemmas.Str.{Chars-Drains, IsCharBoundary-end, encodes-chars, length-le-encodes}
pub use Rattle.std.proofs.lemmas.Str.Pattern.{split_once_first}
pub use Rattle.std.specs.Fmt.{decimal}
pub use Rattle.std.specs.List.{after_first, before_first, flat_map, list_any, position_or_len, slice_split}
pub use Rattle.std.specs.Option.{option_map_or, unwrap_or}
pub use Rattle.std.specs.Prelude.{IfNone, IfOk, bit_and, if◌then◌else◌, nat_lt, ◌||◌}
pub use Rattle.std.specs.Result.{result_ok}
pub use Rattle.std.specs.Str.{chars}
