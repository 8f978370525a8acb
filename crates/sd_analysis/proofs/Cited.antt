-- What these proofs cite of other modules, passed on from one place.
pub use Rattle.sd_acl.specs.Ace.{is_allow, is_inherit_only}
pub use Rattle.sd_acl.specs.declared.ace.Ace.{Ace}
pub use Rattle.sd_acl.specs.declared.ace.AceKind.{AceKind}
pub use Rattle.sd_acl.specs.declared.ace.AceKind.TheVariants.{Allow, Deny}
pub use Rattle.sd_analysis.specs.Base.{BitIsItsCheck, HasBase, IsPlain}
pub use Rattle.sd_analysis.specs.Compare.{AreGains, HasABit, is_reported}
pub use Rattle.sd_analysis.specs.Creators.{BelowIsAsInIt, CreatorsStandForAll, EachHasAStandIn, HasNoCreator, StandsIn, UnnamedUsersAreAlike, handed_to, in_its_state, stand_in, where_restricting, with_user}
pub use Rattle.sd_analysis.specs.Descendants.{IsDescendantAccess, IsDescendantChange, descendants_of, inherited_entries, list_of, stops_somewhere}
pub use Rattle.sd_analysis.specs.Effect.{ActAlike, ActUnlike, DecideAlike, Differ, HasEffect, HasNoEffect, InheritAlike, InheritUnlike}
pub use Rattle.sd_analysis.specs.Passes.{about, lists, meets, numbered, owns, sids_stand, stands_in}
pub use Rattle.sd_analysis.specs.Redundant.{AreRedundant, Goes, Stays, is_marked, judged_in, unmarked}
pub use Rattle.sd_analysis.specs.Report.{AreFindings, ArePlaced, HasRoom, IsCase, IsFound, IsLess, IsLessLeft, IsNeverMet, IsNotGained, IsPlace, IsRefused, IsRefusedAgain, IsReport, IsReportOf, IsSought, is_found, is_granted_alone, is_rest, new_of, old_of, rest_of, sids_in, sids_meet, token_meets}
pub use Rattle.sd_analysis.specs.Risks.{common_sids, entry_risks, grants_in, grants_to, risk_if, risks_at, where_everyone, wide_sids, with_sid, with_sid_of}
pub use Rattle.sd_analysis.specs.Sufficient.{MayDecide, Parts, TwoSidsPerPassSuffice, allowed_sids, denied_sids, entries_or_none, gains, has_sid, is_among, is_named, is_of_kind, parts_of, parts_with, subject_if, token_of, with_denied}
pub use Rattle.sd_analysis.specs.Table.{AreBeforeAndAfter, AreRightsBySid, IsListing, IsOtherSid, IsTable, Point, applies_in, common_of, counts_in, first_point, last_sub, listed_of, nothing_decided, place_in, point_after, point_at, point_moved, row_for, row_of, share_after, sids_of}
pub use Rattle.sd_analysis.specs.Who.{AllBeyond, HasEachOnce, IsBeyond, IsMost, IsWho, has_right, holds_for, is_held_by, is_in_base}
pub use Rattle.sd_analysis.specs.WhoWalk.{IsWalk, granted_by, implied_holder, is_of, names, undecided_by}
pub use Rattle.sd_analysis.specs.declared.compare_report.Change.{Change}
pub use Rattle.sd_analysis.specs.declared.compare_report.Report.{Report}
pub use Rattle.sd_analysis.specs.declared.compare_search.Case.{Case}
pub use Rattle.sd_analysis.specs.declared.compare_search.Finding.{Finding}
pub use Rattle.sd_analysis.specs.declared.compare_search.Found.{Found}
pub use Rattle.sd_analysis.specs.declared.compare_table.BeforeAndAfter.{BeforeAndAfter}
pub use Rattle.sd_analysis.specs.declared.compare_table.DecidedRights.{DecidedRights}
pub use Rattle.sd_analysis.specs.declared.compare_table.EntryRow.{EntryRow}
pub use Rattle.sd_analysis.specs.declared.compare_table.Listing.{Listing}
pub use Rattle.sd_analysis.specs.declared.compare_table.RightsBySid.{RightsBySid}
pub use Rattle.sd_analysis.specs.declared.compare_table.WalkPass.{WalkPass}
pub use Rattle.sd_analysis.specs.declared.descendants.Descendant.{Descendant}
pub use Rattle.sd_analysis.specs.declared.descendants.Descendant.TheVariants.{Container, ContainerBelow, Object, ObjectBelow}
pub use Rattle.sd_analysis.specs.declared.descendants_compare.DescendantChange.{DescendantChange}
pub use Rattle.sd_analysis.specs.declared.descendants_who.DescendantAccess.{DescendantAccess}
pub use Rattle.sd_analysis.specs.declared.risks.Risk.TheVariants.{UnknownEntry}
pub use Rattle.sd_analysis.specs.declared.who_has.Access.{Access}
pub use Rattle.sd_analysis.specs.declared.who_has.Alternative.{Alternative}
pub use Rattle.sd_analysis.specs.declared.who_has.Holder.{Holder}
pub use Rattle.sd_analysis.specs.declared.who_has.Holder.TheVariants.{Everyone, Owner, Sid}
pub use Rattle.sd_analysis.specs.declared.who_walk.Walk.{Walk}
pub use Rattle.sd_analysis.specs.declared.witness.Demand.{Demand}
pub use Rattle.sd_analysis.specs.declared.witness.PassSids.{PassSids}
pub use Rattle.sd_analysis.specs.declared.witness.Witness.{Witness}
pub use Rattle.sd_check.proofs.LawProofs.{one_test}
pub use Rattle.sd_check.proofs.LowMasks.{judged_low, no_places}
pub use Rattle.sd_check.proofs.RestrictionProofs.{restriction_grants_no_bit}
pub use Rattle.sd_check.specs.Check.{DaclRef, acl_grants, applies, applies_again, decides, entries_of, first, is_allowed_by, is_given, is_granted, is_implied, is_limit, is_owner, is_restricting_subject, judged, limits_owner, missing_of, most, stands_for_subject, subject, verdict}
pub use Rattle.sd_check.specs.Laws.{restricted_to}
pub use Rattle.sd_check.specs.Token.{TokenValue, a_group_stands_for, counts, is_restricted, is_restricting, no_privileges, plain_token, stands_for}
pub use Rattle.sd_check.specs.declared.grounds.Pass.{Pass}
pub use Rattle.sd_check.specs.declared.grounds.Pass.TheVariants.{First, Second}
pub use Rattle.sd_check.specs.declared.token.GroupState.{GroupState}
pub use Rattle.sd_check.specs.declared.token.GroupState.TheVariants.{DenyOnly, Disabled, Enabled}
pub use Rattle.sd_check.specs.declared.verdict.Verdict.{Verdict}
pub use Rattle.sd_check.specs.declared.verdict.Verdict.TheVariants.{Denied, Granted}
pub use Rattle.sd_inheritance.proofs.HandedOn.{effective_hands_nothing, flag_of, unmarked_stays}
pub use Rattle.sd_inheritance.specs.Inheritance.{container_inherit, created_by, creator_group, creator_owner, effective_copy, is_split, no_propagate, object_inherit, pass_on, waiting_copy, whole_copy}
pub use Rattle.sd_inheritance.specs.declared.kind.NodeKind.{NodeKind}
pub use Rattle.sd_sid.proofs.Compared.{same_sid-itself, same_sid-true}
pub use Rattle.sd_sid.proofs.Masks.{flag_test, holds-mask_of, holds_place, holds_when, mask_of-alike}
pub use Rattle.sd_sid.specs.Mapping.{MappingValue, mapped}
pub use Rattle.sd_sid.specs.Mask.{holds, mask_of}
pub use Rattle.sd_sid.specs.Sid.{SidValue, owner_rights, same_sid, sid_of}
pub use Rattle.sd_sid.specs.declared.sid.SidError.{SidError}
pub use Rattle.std.proofs.Common.{Bool, Bor, List, None, Ok, Option, Result, Some, [], add-one, ap, append-nil, ap₂, arith, bit_and, bit_or, cond, count_by, drop, false, find, get_or, inl, inr, length, map, nat_le, nat_lt, not, option_map, refl, remove, replicate, set, slice_get, subst, suc, sym, take, true, zero, ℕ, ◌%◌, ◌&&◌, ◌*◌, ◌++◌, ◌+◌, ◌-◌, ◌/◌, ◌<◌, ◌==◌, ◌^◌, ◌||◌, ◌∙◌, ◌∷◌, ◌≡◌, ◌≤◌, ◌⊎◌}
pub use Rattle.std.proofs.Math.Bool.{and-false, and-true, or-false, or-true, or_assoc}
pub use Rattle.std.proofs.Math.Dec.{eqb-suc-zero}
pub use Rattle.std.proofs.Math.Pow.{pow_pos}
pub use Rattle.std.proofs.Math.Seq.{take-suc}
pub use Rattle.std.proofs.lemmas.Bool.{agree_below_at, and_from, and_left, and_parts, and_right, cases_Bool, cases_eq, cases_lt, cond-false, cond-true, eq-eqb, eqb-true, false_from_ne_true, false≢true, le-leb, le-ltb, leb-true, lt-ltb, ltb-true, ne_eqb, not-false, not-true, not_from_false, or_cases, or_from, or_left, or_parts, or_right, true_from_ne_false}
pub use Rattle.std.proofs.lemmas.Grind.{flat_map-append}
pub use Rattle.std.proofs.lemmas.List.{drop-set-lt, drop_all, get_or-append-add, get_or-drop, get_or-map, get_or-set_other, get_or-set_same, get_or_append_left, get_or_past, get_or_read, length-append, length-drop, length-map, length-replicate, length-set, length-take-le, map-append, take-append-drop, take-append-le, take_all, take_more}
pub use Rattle.std.proofs.lemmas.List.Elements.{All-append, All-head, All-push, All-set}
pub use Rattle.std.proofs.lemmas.List.Folds.{find-append, list_all_more, list_any-append, list_any_more}
pub use Rattle.std.proofs.lemmas.List.Sums.{sum_by-append}
pub use Rattle.std.proofs.lemmas.Nat.{and_assoc, and_or_apart, pow_below}
pub use Rattle.std.proofs.lemmas.Nat.Bits.{bit_at-pow_other, bit_at-pow_same, bit_at-zero, bit_at_above}
pub use Rattle.std.proofs.lemmas.Option.{slice_get_read}
pub use Rattle.std.proofs.lemmas.Result.{IfOk-weaker, on_ok_weaker}
pub use Rattle.std.specs.Bool.{beq}
pub use Rattle.std.specs.List.{All, AllByRecursion, cons_option, filter_map, flat_map, fold, list_all, list_any}
pub use Rattle.std.specs.Option.{is_none, is_some, option_or, option_to_list}
