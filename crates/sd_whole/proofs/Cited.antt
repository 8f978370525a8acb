-- What these proofs cite of other modules, passed on from one place.
pub use Rattle.std.proofs.Common.{add-zero, add_assoc, zero-add, ap, append_assoc, arith, bit_and, bit_or, cond, drop, false, get_or, inl, inr, length, min, nat_lt, not, refl, subst, suc, sum_by, sym, take, true, vec_capacity, vec_len, zero, Bool, Err, List, None, Ok, Option, Result, Some, [], ℕ, ◌%◌, ◌&&◌, ◌*◌, ◌++◌, ◌+◌, ◌-◌, ◌/◌, ◌<◌, ◌==◌, ◌^◌, ◌||◌, ◌∙◌, ◌∷◌, ◌≡◌, ◌≢◌, ◌≤◌}
pub use Rattle.std.proofs.Math.Seq.{take-add}
pub use Rattle.std.proofs.lemmas.Bool.{cases_Bool, eq-eqb, eqb-false, eqb-true, le-ltb, lt-ltb, ltb-false, ltb-true, ne_eqb, not-false, or_cases, or_parts}
pub use Rattle.std.proofs.lemmas.List.{append-nil, drop-drop, drop-take, drop_at, get_or-drop, get_or-take, length-append, length-drop, length-take, length-take-le, take-append-drop, take-take, take_all, take_at}
pub use Rattle.std.proofs.lemmas.List.Elements.{All-map}
pub use Rattle.std.proofs.lemmas.List.FromFn.{length-map-range_with_len}
pub use Rattle.std.proofs.lemmas.List.Sums.{sum_by-cons, sum_by_more_le, sum_by_push}
pub use Rattle.std.proofs.lemmas.Nat.{and_assoc, and_le_r, and_or_apart, and_or_self, from_le_bytes-to_le_bytes_2, from_le_bytes-to_le_bytes_4, or_of_16}
pub use Rattle.std.proofs.lemmas.Result.{err_from_is_err_and}
pub use Rattle.std.specs.Int.{to_le_bytes, w16, w32}
pub use Rattle.std.specs.List.{AllByRecursion, find, flat_map, range_with_len}
pub use Rattle.std.specs.Prelude.{map, IfOk, IfSome, is_some, slice_range}
pub use Rattle.sd_acl.specs.Ace.{ace_size, all_named}
pub use Rattle.sd_acl.specs.Dacl.{Dacl}
pub use Rattle.sd_acl.specs.Descriptor.{DescriptorValue}
pub use Rattle.sd_acl.specs.declared.ace.Ace.{Ace}
pub use Rattle.sd_acl.specs.declared.ace.AceKind.{AceKind}
pub use Rattle.sd_acl.specs.declared.descriptor.DaclOf.TheVariants.{Absent, Null}
pub use Rattle.sd_sid.proofs.Outcomes.{passed}
pub use Rattle.sd_sid.proofs.SidLaws.{length_of_sid, sids_come_back, sids_stand}
pub use Rattle.sd_sid.proofs.SidWords.{cells, cells_fit}
pub use Rattle.sd_sid.specs.Sid.{IsSid, SidValue}
pub use Rattle.sd_sid.specs.SidBytes.{authority_of, bytes_of_sid, sid_reading, u32_at, u32s_at}
pub use Rattle.sd_sid.specs.declared.sid.SidError.{SidError}
pub use Rattle.sd_wire.proofs.Found.{bound, chosen, good, good_is}
pub use Rattle.sd_wire.proofs.Places.{u16_stands, u32_stands}
pub use Rattle.sd_wire.specs.Reading.{Fails, Gives, bad_sid, is_outside, is_set, kind_read, sid_read, trustee_read, u16_at, ◌>>=◌}
pub use Rattle.sd_wire.specs.Writing.{kind_byte, offset_of, trustee_part}
pub use Rattle.sd_wire.specs.declared.fault.WireError.{WireError}
pub use Rattle.sd_wire.specs.declared.fault.WireError.TheVariants.{Fault, Memory}
pub use Rattle.sd_wire.specs.declared.fault.WireFault.{WireFault}
pub use Rattle.sd_wire.specs.declared.fault.WireFault.TheVariants.{AclRevision, AclSize, BadOffset, EntrySize, HasSacl, NotSelfRelative, Revision, Short}
pub use Rattle.sd_whole.specs.Entry.{body_of, flags_of, guid_part, plain_body, type_of, typed_body, typed_size_of, types_part, types_word, whole_ace_size, whole_acl_size, whole_entry_bytes}
pub use Rattle.sd_whole.specs.Kind.{has_object_types, kind_number, kind_of, kinds, plain_kind}
pub use Rattle.sd_whole.specs.Laws.{EntriesStayAsTheyAre, ListsStayAsTheyAre, PlainDescriptorsAreWhole, WholeDescriptorsComeBack}
pub use Rattle.sd_whole.specs.Layout.{guid_read, if_sid, no_types, ◌>>?◌}
pub use Rattle.sd_whole.specs.Plain.{IsPlainOf, plain_as, plain_form}
pub use Rattle.sd_whole.specs.Reading.{WholeAcl, by_kind, by_layout, kept_bits, misfit, of_layout, opaque, plain_or_typed, revision_read, whole_entry_read}
pub use Rattle.sd_whole.specs.Values.{WholeListValue, revision_number}
pub use Rattle.sd_whole.specs.Whole.{AreTypes, HasNoLayout, IsGuid, IsWholeAce, IsWholeAcl, IsWholeDescriptor, IsWholeList}
pub use Rattle.sd_whole.specs.Writing.{acl_part, dacl_place, group_place, has_entries, is_without, sacl_place, whole_control_of}
pub use Rattle.sd_whole.specs.declared.ace.TypedAce.{TypedAce}
pub use Rattle.sd_whole.specs.declared.ace.WholeAce.{WholeAce}
pub use Rattle.sd_whole.specs.declared.descriptor.WholeDescriptor.{WholeDescriptor}
pub use Rattle.sd_whole.specs.declared.kind.WholeKind.{WholeKind}
pub use Rattle.sd_whole.specs.declared.layout.Layout.{Layout}
pub use Rattle.sd_whole.specs.declared.list.ListRevision.{ListRevision}
pub use Rattle.sd_whole.specs.declared.types.Guid.{Guid}
pub use Rattle.sd_whole.specs.declared.types.ObjectTypes.{ObjectTypes}
