-- What these proofs cite of other modules, passed on from one place.
pub use Rattle.sd_acl.specs.Ace.{ace_size, acl_size_of, all_named}
pub use Rattle.sd_acl.specs.Dacl.{Dacl, IsAbsent}
pub use Rattle.sd_acl.specs.Descriptor.{DescriptorValue, HasNamedFlags, HaveNamedFlags, IsAce, IsDacl, IsDescriptor, descriptor_of}
pub use Rattle.sd_acl.specs.declared.ace.Ace.{Ace}
pub use Rattle.sd_acl.specs.declared.ace.AceKind.{AceKind}
pub use Rattle.sd_acl.specs.declared.ace.AceKind.TheVariants.{Allow, Deny}
pub use Rattle.sd_acl.specs.declared.descriptor.DaclOf.TheVariants.{Absent, Null}
pub use Rattle.sd_sid.proofs.Compared.{same_sid-true}
pub use Rattle.sd_sid.specs.Sid.{IsSid, SidValue, same_sid, sid_of}
pub use Rattle.sd_text.specs.Alias.{alias_in, aliases, domain_aliases, later_aliases}
pub use Rattle.sd_text.specs.Canon.{dacl_canon, entry_canon_in, flag_canon, flags_canon, hex, kind_canon, rights_canon_in, section_canon, sid_canon, sub_canon, two_digits, where_set}
pub use Rattle.sd_text.specs.Domain.{account_sid}
pub use Rattle.sd_text.specs.Entry.{entry, flag_names, has_one, opening}
pub use Rattle.sd_text.specs.Finding.{Found, GivesUnlessMemory, IsCapped, behind_part, digits_len, find, find_items, name_or}
pub use Rattle.sd_text.specs.Grammar.{Grammar, HasFault, Items, Name, Run, Spells, SpellsOne, and_then, begins, begins_digit, choose, end, faults, many, named, number, one_of, refused, run, spells, value, whole, word}
pub use Rattle.sd_text.specs.Laws.{DescriptorsComeBack, MasksComeBack, SidsComeBack}
pub use Rattle.sd_text.specs.Names.{Row, renamed, rows, well_known}
pub use Rattle.sd_text.specs.Places.{are_placed, is_placed, sid_slot, sids_are_placed, slot}
pub use Rattle.sd_text.specs.RightNames.{PrintedRight, has, name_in, printed_right}
pub use Rattle.sd_text.specs.Rights.{bits_of, mask_text, names_from_greatest, right_names, rights}
pub use Rattle.sd_text.specs.Sddl.{dacl_words, has_entry, no_words, sddl_in, sections, with_word}
pub use Rattle.sd_text.specs.Sid.{dash, domain_alias, no_alias, other_alias, sid, sid_text_in, sub, subs_of}
pub use Rattle.sd_text.specs.declared.alias.Aliases.{Aliases}
pub use Rattle.sd_text.specs.declared.alias.WellKnown.{WellKnown}
pub use Rattle.sd_text.specs.declared.alias.WellKnown.TheVariants.{One}
pub use Rattle.sd_text.specs.declared.descriptor.DaclPart.{DaclPart}
pub use Rattle.sd_text.specs.declared.domain.Domain.{Domain}
pub use Rattle.sd_text.specs.declared.fault.TextError.TheVariants.{Memory}
pub use Rattle.sd_text.specs.declared.fault.TextFault.{TextFault}
pub use Rattle.sd_text.specs.declared.fault.TextFault.TheVariants.{DomainAlias}
pub use Rattle.sd_text.specs.declared.right_names.RightNames.{RightNames}
pub use Rattle.std.proofs.Common.{Bool, Err, List, None, Ok, Option, Result, Some, [], add-one, ap, append_assoc, arith, cond, drop, false, get_or, inl, inr, length, lit<, refl, replicate, rules, string_bytes, subst, suc, sym, take, true, zero, ℕ, ◌%◌, ◌*◌, ◌++◌, ◌+◌, ◌-◌, ◌/◌, ◌<◌, ◌^◌, ◌∙◌, ◌∷◌, ◌≡◌, ◌≤◌, ◌⊎◌}
pub use Rattle.std.proofs.Math.Bool.{and-false, and-true}
pub use Rattle.std.proofs.Math.Nat.{mul-le-mul_left, pow-le-pow_left, pow-le-pow_right}
pub use Rattle.std.proofs.Math.Seq.{drop-append_seam, drop-cons, take-append_seam}
pub use Rattle.std.proofs.lemmas.Bool.{and_parts, cases_lt, eq-eqb, eqb-true, le-ltb, lt-ltb, ltb-false, ltb-true, ne_eqb}
pub use Rattle.std.proofs.lemmas.Bool.Decides.{nat_tests}
pub use Rattle.std.proofs.lemmas.Fmt.{decimal_digit, decimal_is_IsNumeral, decimal_step, digits_is_IsNumeral}
pub use Rattle.std.proofs.lemmas.Grind.{common_steps, fold-append, take-set_at}
pub use Rattle.std.proofs.lemmas.Int.Digits.{digits_more, digits_value-lt, digits_value_more}
pub use Rattle.std.proofs.lemmas.List.{append-nil, drop_all, get_or_default, length-drop, length-take-le, take-append-drop}
pub use Rattle.std.proofs.lemmas.List.Elements.{All-head, All-tail}
pub use Rattle.std.proofs.lemmas.List.Sums.{sum_by-append, sum_by-cons, sum_by_push}
pub use Rattle.std.proofs.lemmas.Nat.{or_lt, pow_pos}
pub use Rattle.std.proofs.lemmas.Result.{err_from_is_err_and}
pub use Rattle.std.specs.Borrow.{Bor}
pub use Rattle.std.specs.Char.{digit_value, eq_ignore_ascii_case, to_ascii_lowercase}
pub use Rattle.std.specs.Fmt.{decimal, format_spec, number_padding}
pub use Rattle.std.specs.List.{All, AllByRecursion, flat_map}
pub use Rattle.std.specs.Option.{ok_or}
pub use Rattle.std.specs.Prelude.{IfOk, IfSome, IsErrOf, IsOkAnd, IsTrue, bit_and, bit_or, codes, fold, is_ok, map, nat_lt, not, option_map, slice_index, unwrap_or, ◌&&◌, ◌==◌}
pub use Rattle.std.specs.Str.Parse.{AllDigits, IsNumeral, digits_value}
