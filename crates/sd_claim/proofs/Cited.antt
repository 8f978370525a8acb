-- What these proofs cite of other modules, passed on from one place.
pub use Rattle.sd_claim.specs.Claim.{ClaimValue, claim_value}
pub use Rattle.sd_claim.specs.Laws.{ClaimsComeBack, ClaimsFitTheirData, IsValue}
pub use Rattle.sd_claim.specs.Reading.{at_most, claim_of, front_len, number_len, octet_string_len, part_len, room_of, text_of_part, value_at, values_read}
pub use Rattle.sd_claim.specs.Table.{layout_of, least_len, same_type, type_number, type_of, type_read}
pub use Rattle.sd_claim.specs.Writing.{claim_len, header_len, is_claim, is_value, is_value_of, octet_string, offsets_from, terminated, value_bytes, values_place}
pub use Rattle.sd_claim.specs.declared.value.Value.{Value}
pub use Rattle.sd_claim.specs.declared.value_type.Layout.{Layout}
pub use Rattle.sd_claim.specs.declared.value_type.ValueType.{ValueType}
pub use Rattle.sd_data.specs.Outcome.{◌>>=◌}
pub use Rattle.sd_data.specs.Reading.{after, i64_at, u16_at, u64_at}
pub use Rattle.sd_data.specs.Writing.{AreUnits, has_no_zero, padding_len, text_bytes}
pub use Rattle.sd_sid.proofs.SidWords.{words_again}
pub use Rattle.sd_sid.specs.SidBytes.{u32_at, u32s_at}
pub use Rattle.std.proofs.Common.{All, List, None, Option, Some, [], ap, append-nil, append_assoc, arith, drop, eq-eqb, false, inl, inr, le-ltb, length, length-append, length-drop, length-take, ltb-false, map, nat_le, nat_lt, ne_eqb, not, refl, replicate, subst, suc, sym, take, true, ℕ, ◌%◌, ◌&&◌, ◌*◌, ◌++◌, ◌+◌, ◌-◌, ◌/◌, ◌<◌, ◌==◌, ◌^◌, ◌∙◌, ◌∷◌, ◌≡◌, ◌≤◌}
pub use Rattle.std.proofs.Math.ListN.{drop_of_length-le}
pub use Rattle.std.proofs.lemmas.Bool.{and_parts, leb-true, not-true}
pub use Rattle.std.proofs.lemmas.List.Elements.{All-from_recursion}
pub use Rattle.std.proofs.lemmas.List.Folds.{length-flat_map-take}
pub use Rattle.std.proofs.lemmas.List.FromFn.{get_or-map-range_with_len, length-map-range_with_len}
pub use Rattle.std.proofs.lemmas.List.{drop_at, drop_more, length-replicate, take_all, take_at}
pub use Rattle.std.proofs.lemmas.Nat.{from_le_bytes-to_le_bytes_2, from_le_bytes-to_le_bytes_4, from_le_bytes-to_le_bytes_8}
pub use Rattle.std.proofs.lemmas.Result.{err_from_is_err_and}
pub use Rattle.std.specs.Int.{cast_unsigned, from_le_bytes, to_le_bytes, w16, w32, w64}
pub use Rattle.std.specs.List.{AllByRecursion, flat_map, list_all, range_with_len}
pub use Rattle.std.specs.Option.{SomeIff}
pub use Rattle.std.specs.Prelude.{slice_range}
