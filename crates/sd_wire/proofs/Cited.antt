-- What these proofs cite of other modules, passed on from one place.
pub use Rattle.sd_acl.specs.Ace.{ace_size, acl_size_of, all_named}
pub use Rattle.sd_acl.specs.Dacl.{Dacl, is_absent}
pub use Rattle.sd_acl.specs.Descriptor.{AreEntries, DescriptorValue, HasNamedFlags, HaveNamedFlags, IsAce, IsDacl, IsDescriptor, descriptor_of}
pub use Rattle.sd_acl.specs.declared.ace.Ace.{Ace}
pub use Rattle.sd_acl.specs.declared.ace.AceKind.{AceKind}
pub use Rattle.sd_acl.specs.declared.ace.AceKind.TheVariants.{Allow, Deny}
pub use Rattle.sd_acl.specs.declared.descriptor.DaclOf.TheVariants.{Absent, Null}
pub use Rattle.sd_acl.specs.declared.descriptor.Descriptor.{Descriptor}
pub use Rattle.sd_check.proofs.Cited.{IsCheckProgress, MappingValue, TokenValue, asking, verdict}
pub use Rattle.sd_check.specs.Check.{dacl_entries}
pub use Rattle.sd_sid.proofs.Outcomes.{passed}
pub use Rattle.sd_sid.proofs.SidLaws.{length_of_sid, sids_come_back, sids_stand}
pub use Rattle.sd_sid.proofs.SidWords.{cells, cells_fit}
pub use Rattle.sd_sid.specs.Sid.{IsSid, SidValue}
pub use Rattle.sd_sid.specs.SidBytes.{bytes_of_sid, sid_reading, u32_at}
pub use Rattle.sd_sid.specs.declared.sid.SidError.{SidError}
pub use Rattle.sd_wire.specs.Checked.{checked, entries_checked}
pub use Rattle.sd_wire.specs.Laws.{DescriptorsComeBack, NoneIsHeldBesideAFault, OneIsHeld, ReadingsAreHeld, WhatIsHeldIsRead}
pub use Rattle.sd_wire.specs.Odd.{odd_from}
pub use Rattle.sd_wire.specs.Parts.{ArePartsOf, DaclPlace, dacl_at, with_dacl}
pub use Rattle.sd_wire.specs.Reading.{Fails, Gives, bad_sid, control_read, dacl_read, entries_of, entries_read, entry_read, front_read, header_read, is_outside, is_set, kind_read, sid_read, trustee_read, u16_at, ◌>>=◌}
pub use Rattle.sd_wire.specs.Standing.{DaclStands, EntriesStand, EntryStands, Holds, IsPresent, IsWithout, ListStands, Stands, TrusteeStands}
pub use Rattle.sd_wire.specs.Writing.{control_of, dacl_part, entry_bytes, entry_parts, is_list, kind_byte, offset_of, trustee_part}
pub use Rattle.sd_wire.specs.declared.fault.WireError.{WireError}
pub use Rattle.sd_wire.specs.declared.fault.WireError.TheVariants.{Fault, Memory}
pub use Rattle.sd_wire.specs.declared.fault.WireFault.{WireFault}
pub use Rattle.sd_wire.specs.declared.fault.WireFault.TheVariants.{EntryKind, EntrySize, HasSacl}
pub use Rattle.sd_wire.specs.declared.parts.EntryPlaces.{EntryPlaces}
pub use Rattle.sd_wire.specs.declared.parts.Parts.{Parts}
pub use Rattle.std.proofs.Common.{Bool, Err, List, None, Ok, Option, Result, Some, [], add-zero, add_assoc, ap, append_assoc, arith, bit_and, bit_or, cond, drop, false, get_or, inl, inr, length, lit<, min, nat_eq, nat_lt, not, refl, rules, subst, suc, sum_by, sym, take, true, vec_capacity, vec_len, zero, zero-add, ℕ, ◌%◌, ◌&&◌, ◌*◌, ◌++◌, ◌+◌, ◌-◌, ◌/◌, ◌<◌, ◌==◌, ◌^◌, ◌||◌, ◌∙◌, ◌∷◌, ◌≡◌, ◌≤◌, ◌⊎◌}
pub use Rattle.std.proofs.Math.Nat.{suc-mul}
pub use Rattle.std.proofs.Math.Seq.{take-add}
pub use Rattle.std.proofs.lemmas.Bool.{MatchBool-at_false, MatchBool-at_true, and_cases, and_left, and_right, cases_Bool, cases_lt, eq-eqb, eqb-true, le-ltb, lt-ltb, ltb-false, ne_eqb, not-false, not-true, or_cases, or_parts}
pub use Rattle.std.proofs.lemmas.Iterator.Adapters.{option_map_id}
pub use Rattle.std.proofs.lemmas.List.{append-nil, drop-drop, drop-take, drop_at, get_or-append-add, get_or-drop, get_or-take, length-append, length-drop, length-take, length-take-le, take-take, take_all, take_at}
pub use Rattle.std.proofs.lemmas.List.Sums.{sum_by-cons, sum_by_more_le, sum_by_push}
pub use Rattle.std.proofs.lemmas.Nat.{from_le_bytes-to_le_bytes_2, from_le_bytes-to_le_bytes_4, le-div, le_bytes_2, le_bytes_4}
pub use Rattle.std.proofs.lemmas.Result.{err_from_is_err_and}
pub use Rattle.std.specs.Int.{from_le_bytes, to_le_bytes, w16, w32}
pub use Rattle.std.specs.List.{AllByRecursion, flat_map}
pub use Rattle.std.specs.Prelude.{IfOk, IfSome, IsTrue, MatchBool, is_some, slice_index}
