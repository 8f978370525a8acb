-- What these proofs cite of other modules, passed on from one place.
pub use Rattle.sd_check.proofs.Answered.{holds_object, stands}
pub use Rattle.sd_check.proofs.Cited.{Ace, AceKind, MappingValue, SidValue, TokenValue, and_parts, answered, applies, applies_again, applies_in, bit_at-pow_other, bit_at-pow_same, bit_at-zero, bit_at_above, cases_Bool, cases_eq, cases_lt, cond-false, cond-true, decides, eqb-true, false≢true, first, holds, holds-mask_of, holds_place, holds_when, is_allow, is_allowed_by, is_given, is_granted, is_implied, is_inherit_only, is_mapped, is_mask_of, is_restricted, is_restricting, is_restricting_subject, joined_with, judged, lt-ltb, ltb-true, mapped, mask_of, mask_of-alike, mask_of-lt, maximum_verdict, missing_of, most, nat_tests, ne_eqb, part_of, plain_verdict, reserved_of, rights_in, stands_for, stands_for_subject, subject, verdict, wanted_bits, without_maximum}
pub use Rattle.sd_check.proofs.LowMasks.{no_places}
pub use Rattle.sd_check.specs.Check.{implied_of}
pub use Rattle.sd_check.specs.declared.grounds.Implied.{Implied}
pub use Rattle.sd_check.specs.declared.verdict.Verdict.{Verdict}
pub use Rattle.sd_check.specs.declared.verdict.Verdict.TheVariants.{EmptyRequest}
pub use Rattle.sd_explain.specs.Findings.{of_case}
pub use Rattle.sd_explain.specs.Laws.{AllowedNamesFirst, DeniedNamesFirst, FirstPassHasSubject, GrantedAreTheParts, IsFirstAt, IsPartOf, NoEntryWhereNone, ReasonsJoinToRequest, SecondPassHasSubject}
pub use Rattle.sd_explain.specs.Parts.{bits_of, is_of_share, part_at, reason_in, told_verdict}
pub use Rattle.sd_explain.specs.Reasons.{belongs, finding_at, finding_of, granting_or, grants, is_allowed, listed_cause, maximum_cause, named_cause, reason_at, reasons_of, same_cause, same_finding}
pub use Rattle.sd_explain.specs.declared.explanation.Part.{Part}
pub use Rattle.sd_explain.specs.declared.reason.Cause.{Cause}
pub use Rattle.sd_explain.specs.declared.reason.Cause.TheVariants.{BeyondAll, Label, Listed, NoList, NoSecurity, Owner, Reserved, Restricted, Security, TakeOwnership}
pub use Rattle.sd_explain.specs.declared.reason.Finding.{Finding}
pub use Rattle.sd_explain.specs.declared.reason.Finding.TheVariants.{Allowed, Denied, NoEntry}
pub use Rattle.sd_explain.specs.declared.reason.Reason.{Reason}
pub use Rattle.sd_explain.specs.declared.reason.Share.{Share}
pub use Rattle.sd_explain.specs.declared.reason.Share.TheVariants.{Granted, Missing}
pub use Rattle.std.proofs.Common.{Bool, List, None, Option, Some, add-one, add-zero, ap, arith, cond, drop, false, find, get_or, inl, inr, length, length-set, lit<, nat_lt, not, refl, set, slice_get, suc, sym, true, zero, zero-add, ℕ, ◌%◌, ◌&&◌, ◌*◌, ◌+◌, ◌-◌, ◌<◌, ◌==◌, ◌^◌, ◌||◌, ◌∙◌, ◌∷◌, ◌≡◌, ◌≢◌, ◌≤◌}
pub use Rattle.std.proofs.Math.Nat.{one-mul}
pub use Rattle.std.proofs.Math.Pow.{pow_mono}
pub use Rattle.std.proofs.Math.Seq.{drop-cons}
pub use Rattle.std.proofs.lemmas.Bool.{and_from, cases_order, eq-eqb}
pub use Rattle.std.proofs.lemmas.Grind.{get_or-set_at}
pub use Rattle.std.proofs.lemmas.Iterator.Adapters.{option_map_id}
pub use Rattle.std.proofs.lemmas.List.{drop_all, get_or-replicate, get_or-set_other}
pub use Rattle.std.proofs.lemmas.List.Folds.{find_at}
pub use Rattle.std.proofs.lemmas.List.FromFn.{fill_by_all, get_or-map-range_with_len}
pub use Rattle.std.proofs.lemmas.Nat.{leading_length, pow_below}
pub use Rattle.std.proofs.lemmas.Nat.Bits.{bit_at-trailing_zeros}
pub use Rattle.std.specs.Int.{leading_zeros, trailing_zeros}
pub use Rattle.std.specs.Int.Width.{w32}
pub use Rattle.std.specs.List.{position_or_len}
