-- What these proofs cite of other modules, passed on from one place.
pub use Rattle.sd_line.specs.Mask.{AreJoined, IsErrorFrom, IsMaskIn, IsWordErrorAt, IsWordMask, between_pluses, rights_word}
pub use Rattle.sd_line.specs.Names.{NamedBits, is_of, mask_named, named_bits, names_of}
pub use Rattle.sd_line.specs.Spelling.{mask_digits, spelled}
pub use Rattle.sd_line.specs.declared.names.ObjectKind.{ObjectKind}
pub use Rattle.sd_line.specs.declared.names.ObjectKind.TheVariants.{Directory, File, Folder, Key, Manager, Printer, Process, Section, Service, Token}
pub use Rattle.sd_line.specs.declared.spelling.Spelling.{Spelling}
pub use Rattle.sd_line.specs.declared.spelling.Spelling.TheVariants.{Names, Number}
pub use Rattle.sd_sid.proofs.Masks.{holds-and, holds-or, holds_place, mask_of-lt, same_masks}
pub use Rattle.sd_sid.specs.Mask.{holds, mask_of}
pub use Rattle.sd_text.proofs.CanonSids.{number_read}
pub use Rattle.sd_text.proofs.Engine.{no_fault, one_value, whole_value}
pub use Rattle.sd_text.proofs.Parts.{went}
pub use Rattle.sd_text.specs.Canon.{hex}
pub use Rattle.sd_text.specs.Finding.{find}
pub use Rattle.sd_text.specs.Grammar.{Name, Spells}
pub use Rattle.sd_line.specs.MaskNames.{is_due, named_from, with_rest, with_word}
pub use Rattle.sd_text.specs.Rights.{mask_text}
pub use Rattle.sd_text.specs.declared.fault.TextError.{TextError}
pub use Rattle.sd_text.specs.declared.fault.TextError.TheVariants.{Fault, Memory}
pub use Rattle.std.proofs.Common.{Bool, Err, List, None, Ok, Option, Result, Some, [], add-one, ap, append-nil, append_assoc, arith, cond, drop, false, get_or, inl, inr, length, map, not, refl, rules, string_bytes, subst, suc, sym, take, tests, true, ℕ, ◌&&◌, ◌++◌, ◌+◌, ◌<◌, ◌==◌, ◌^◌, ◌||◌, ◌∙◌, ◌∷◌, ◌≡◌, ◌≤◌}
pub use Rattle.std.proofs.Math.Seq.{drop-cons}
pub use Rattle.std.proofs.lemmas.Bool.{and_parts, eqb-true, ltb-true, ne_eqb}
pub use Rattle.std.proofs.lemmas.Bool.Decides.{nat_tests}
pub use Rattle.std.proofs.lemmas.Fmt.{digits_is_IsNumeral}
pub use Rattle.std.proofs.lemmas.Iterator.{YieldsList-from_slice}
pub use Rattle.std.proofs.lemmas.Iterator.Search.{position_from_yields_List}
pub use Rattle.std.proofs.lemmas.List.{take_rest}
pub use Rattle.std.proofs.lemmas.List.Splits.{join_with_byte-slice_split, length-slice_split, slice_split_first, slice_split_none}
pub use Rattle.std.proofs.lemmas.List.Sums.{fails_before_first, prefix_len-le-length}
pub use Rattle.std.proofs.lemmas.Nat.{and_le_l, or_lt}
pub use Rattle.std.proofs.lemmas.Nat.Bits.{bit_at_and, bit_at_or, same_from_bits}
pub use Rattle.std.proofs.lemmas.Result.{err_from_is_err_and}
pub use Rattle.std.proofs.lemmas.Str.Pattern.{split_once_first}
pub use Rattle.std.specs.Borrow.{Bor}
pub use Rattle.std.specs.Char.{digit_value}
pub use Rattle.std.specs.Int.{bit_at}
pub use Rattle.std.specs.Int.Bits.{and_zero_r, or_zero_r}
pub use Rattle.std.specs.List.{after_first, before_first, join_with_byte, list_all, onto_first, position_or_len, slice_split}
pub use Rattle.std.specs.Option.{MatchOption}
pub use Rattle.std.specs.Prelude.{IfErr, IfNone, IfOk, IfSome, IsErrOf, bit_and, bit_or, codes, nat_lt}
pub use Rattle.std.specs.Result.{MatchResult}
pub use Rattle.std.specs.Str.Parse.{AllDigits}
pub use denote.Shadow.{shadow}
pub use denote.Text.{Utf8}
