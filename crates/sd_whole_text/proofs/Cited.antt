-- What these proofs cite of other modules, passed on from one place.
pub use Rattle.std.proofs.Common.{cond, drop, length, refl, take, false, List, [], ℕ, ◌&&◌, ◌++◌, ◌+◌, ◌-◌, ◌<◌, ◌^◌, ◌∷◌, ◌≡◌, Bool, IsTrue, Ok, ap, bit_and, codes, true, not, ◌∙◌}
pub use Rattle.std.proofs.lemmas.Fmt.{hex_byte}
pub use Rattle.std.specs.Fmt.{digits, format_spec, padded_integral}
pub use Rattle.std.specs.List.{AllByRecursion, flat_map}
pub use Rattle.std.specs.Prelude.{map, slice_index, string_bytes}
pub use Rattle.sd_text.specs.declared.right_names.RightNames.{RightNames}
pub use Rattle.sd_whole_text.specs.Guid.{byte_text}
pub use Rattle.sd_whole_text.specs.Entry.{entry_text}
pub use Rattle.sd_whole_text.specs.NoText.{entries_test, acl_test, bits_without_keyword, keyword_bits, keywords_test}
pub use Rattle.std.proofs.lemmas.List.{append-nil}
pub use Rattle.std.proofs.lemmas.Nat.{and_assoc}
pub use Rattle.std.specs.Int.Bits.{and_zero_r}
pub use Rattle.sd_acl.specs.Ace.{all_named}
pub use Rattle.sd_acl.specs.Dacl.{Dacl, is_absent}
pub use Rattle.sd_acl.specs.Descriptor.{HasNamedFlags, HaveNamedFlags}
pub use Rattle.sd_acl.specs.declared.ace.Ace.{Ace}
pub use Rattle.sd_acl.specs.declared.descriptor.DaclOf.TheVariants.{Absent, Null}
pub use Rattle.sd_text.specs.Canon.{dacl_canon, kind_canon, where_set, rights_canon_in, sid_canon}
pub use Rattle.sd_whole.specs.declared.ace.WholeAce.TheVariants.{Plain}
pub use Rattle.sd_wire.specs.Reading.{is_set}
pub use Rattle.sd_whole_text.specs.Acl.{acl_text}
pub use Rattle.sd_whole_text.specs.Laws.{PlainTextsStay}
pub use Rattle.sd_acl.specs.declared.ace.AceKind.{AceKind}
pub use Rattle.sd_whole_text.specs.Kind.{kind_of_plain, letters_of}
pub use Rattle.sd_whole_text.specs.Rights.{rights_text}
pub use Rattle.sd_whole_text.specs.Plain.{control_of, whole_dacl}
pub use Rattle.sd_whole_text.specs.declared.no_text.AclKind.TheVariants.{Dacl as DaclKind, Sacl as SaclKind}
