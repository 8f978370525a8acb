-- What these proofs cite of other modules, passed on from one place.
pub use Rattle.sd_acl.specs.Ace.{is_allow, is_inherit_only}
pub use Rattle.sd_acl.specs.declared.ace.Ace.{Ace}
pub use Rattle.sd_acl.specs.declared.ace.AceKind.TheVariants.{Allow, Deny}
pub use Rattle.sd_acl.specs.declared.ace.AceKind.{AceKind}
pub use Rattle.sd_check.specs.Check.{answered, applies, applies_again, applies_in, decides, entries_of, first, is_allowed_by, is_given, is_granted, is_implied, is_limit, is_listed, is_restricting_subject, joined_with, judged, limits_owner, maximum_verdict, missing_of, most, most_of, plain_verdict, reserved_of, stands_for_subject, subject, verdict, without_maximum, acl_grants, is_owner}
pub use Rattle.sd_check.specs.Fold.{IsCheckProgress, asking, owners_in, part_of, rights_in, wanted_bits, Asking, IsPass, IsSettled, TakesOn}
pub use Rattle.sd_check.specs.Index.{IsIndex, IsMarked, Keeps, MarksEach, OnChain, behind, here, may_hold, place_of}
pub use Rattle.sd_check.specs.Token.{TokenValue, a_group_stands_for, counts, is_restricted, is_restricting, stands_for}
pub use Rattle.sd_check.specs.declared.grounds.Pass.TheVariants.{First, Second}
pub use Rattle.sd_check.specs.declared.grounds.Pass.{Pass}
pub use Rattle.sd_check.specs.declared.check_progress.CheckProgress.{CheckProgress}
pub use Rattle.sd_check.specs.declared.token.GroupState.{GroupState}
pub use Rattle.sd_check.specs.declared.token.Privileges.{Privileges}
pub use Rattle.sd_check.specs.declared.verdict.Verdict.TheVariants.{Denied, Granted}
pub use Rattle.sd_check.specs.declared.verdict.Verdict.{Verdict}
pub use Rattle.sd_sid.proofs.Compared.{same_sid-true, same_sid-itself}
pub use Rattle.sd_sid.proofs.Masks.{holds-mask_of, holds_place, holds_when, is_mask_of, mask_of-alike, mask_of-lt}
pub use Rattle.sd_sid.specs.Mapping.{MappingValue, is_mapped, mapped}
pub use Rattle.sd_sid.specs.Mask.{holds, mask_of}
pub use Rattle.sd_sid.specs.Sid.{SidValue, owner_rights, same_sid}
pub use Rattle.std.proofs.Math.Bool.{and-false, and-true, or-false, and_comm}
pub use Rattle.std.proofs.Math.ListN.{drop_of_length-le, get_or-eq_default}
pub use Rattle.std.proofs.lemmas.Bool.Decides.{nat_tests}
pub use Rattle.std.proofs.lemmas.Bool.{agree_below_at, and_parts, cases_Bool, cases_eq, cases_lt, cond-false, cond-true, eqb-true, false≢true, lt-ltb, ltb-true, ne_eqb, or_left, or_right, false_from_ne_true, le-ltb, not-true, not_from_false, or_cases}
pub use Rattle.std.proofs.lemmas.List.Folds.{find-append, list_any-append, list_any_at, list_any_more}
pub use Rattle.std.proofs.lemmas.List.{get_or-replicate, get_or-set_other, get_or-set_same, get_or_default, length-drop, length-replicate, length-take-le, map-id, take_all}
pub use Rattle.std.proofs.lemmas.Nat.Bits.{bit_at-pow_other, bit_at-pow_same, bit_at-zero, bit_at_above}
pub use Rattle.std.specs.List.{AllByRecursion, list_any}
pub use Rattle.std.specs.Option.{is_none, option_map, option_or}
