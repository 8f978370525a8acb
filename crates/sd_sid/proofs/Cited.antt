-- What these proofs cite of other modules, passed on from one place.
pub use Rattle.sd_sid.specs.Mapping.{MappingValue, is_mapped, mapped}
pub use Rattle.sd_sid.specs.Mask.{holds, mask_of}
pub use Rattle.sd_sid.specs.Sid.{IsPadded, IsSid, SidValue, owner_rights, same_sid, sid_cmp}
pub use Rattle.sd_sid.specs.SidBytes.{SidsComeBack, SidsStand, authority_of, u32_at, u32s_at}
pub use Rattle.sd_sid.specs.SidParts.{fields_of, parts_come_back, value_of}
pub use Rattle.sd_sid.specs.declared.sid.Sid.TheInside.{Inside}
pub use Rattle.sd_sid.specs.declared.sid.SidError.{SidError}
pub use Rattle.std.proofs.Common.{All, Bool, List, Ok, Result, [], add-zero, add_assoc, ap, append_assoc, arith, bit_and, bit_or, cond, drop, false, get_or, inl, inr, length, length-append, lit<, max, min, nat_cmp, nat_eq, nat_lt, not, refl, replicate, rules, slice_index, suc, sym, take, true, vec_capacity, vec_len, zero, ℕ, ◌&&◌, ◌*◌, ◌++◌, ◌+◌, ◌-◌, ◌<◌, ◌==◌, ◌^◌, ◌||◌, ◌∙◌, ◌∷◌, ◌≡◌, ◌≤◌, ◌⊎◌}
pub use Rattle.std.proofs.Math.Bool.{and-false, and_assoc}
pub use Rattle.std.proofs.Math.Dec.{eqb-suc-suc, eqb-suc-zero, eqb-zero-suc, leb-suc-suc}
pub use Rattle.std.proofs.Math.Nat.{one-mul, pow-suc, zero-mul}
pub use Rattle.std.proofs.Math.Pow.{pow_pos}
pub use Rattle.std.proofs.Math.Seq.{take-add}
pub use Rattle.std.proofs.lemmas.Bool.{and_from, and_parts, cases_lt, cases_order, eq-eqb, eqb-true, le-ltb, lt-ltb, ltb-false, ne_eqb, not-false}
pub use Rattle.std.proofs.lemmas.Bool.Decides.{nat_tests}
pub use Rattle.std.proofs.lemmas.Grind.{same_number_lists}
pub use Rattle.std.proofs.lemmas.List.{drop-drop, ext_get_or, get_or-append-add, get_or-drop, get_or-replicate, get_or-take, get_or_append_left, get_or_past, length-drop, length-replicate, length-take, length-take-le}
pub use Rattle.std.proofs.lemmas.List.Concat.{get_or-flat_map}
pub use Rattle.std.proofs.lemmas.List.Elements.{All-get_or}
pub use Rattle.std.proofs.lemmas.List.FromFn.{fill_by_all, get_or-map-range_with_len, length-map-range_with_len}
pub use Rattle.std.proofs.lemmas.Nat.{be_bytes_8, from_be_bytes-to_be_bytes_8, from_le_bytes-to_le_bytes_4, le_bytes_4, or_lt}
pub use Rattle.std.proofs.lemmas.Nat.Bits.{and_pow, bit_at-lt, bit_at-zero, bit_at_above, bit_at_and, bit_at_cat_high, bit_at_cat_low, bit_at_not, bit_at_ones, bit_at_ones_above, bit_at_or, same_from_bits_below}
pub use Rattle.std.specs.Cmp.Lexicographic.{slice_cmp}
pub use Rattle.std.specs.Int.{bit_at, from_be_bytes, from_le_bytes, to_be_bytes, to_le_bytes, w32, w64}
pub use Rattle.std.specs.Int.Bits.{and_lt}
pub use Rattle.std.specs.List.{flat_map, range_with_len}
pub use Rattle.std.specs.Ordering.{ordering_then}
pub use Rattle.std.specs.Prelude.{map}
pub use Rattle.std.specs.Str.{bytes_eq}
pub use Rattle.std.specs.declared.cmp.Ordering.{Ordering}
pub use Rattle.std.specs.declared.cmp.Ordering.TheVariants.{Equal, Greater, Less}
pub use lib.Pointwise.{bytes_decides}
