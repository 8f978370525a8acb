-- What these proofs cite of other modules, passed on from one place.
pub use Rattle.sd_condition.specs.Laws.{AreTokens, ConditionsComeBack, DataComesBack, IsToken, IsValue, ParsedIsACondition}
pub use Rattle.sd_condition.specs.Reading.{attribute_read, condition_of, content_len, is_padding, list_read, padded_read, sid_read, token_read, value_read, whole_sid}
pub use Rattle.sd_condition.specs.Stack.{after_tokens, outcome}
pub use Rattle.sd_condition.specs.Table.{base_byte, base_read, bases, operator_byte, operator_read, operators, scope_byte, scope_read, scopes, sign_byte, sign_read, signs, width_byte, width_read, widths, with_byte}
pub use Rattle.sd_condition.specs.Writing.{integer_bytes, is_condition, token_bytes, value_bytes, with_content}
pub use Rattle.sd_condition.specs.declared.attribute.Attribute.{Attribute}
pub use Rattle.sd_condition.specs.declared.attribute.Scope.TheVariants.{Device, Local, Resource, User}
pub use Rattle.sd_condition.specs.declared.attribute.Scope.{Scope}
pub use Rattle.sd_condition.specs.declared.integer.Base.TheVariants.{Decimal, Hexadecimal, Octal}
pub use Rattle.sd_condition.specs.declared.integer.Base.{Base}
pub use Rattle.sd_condition.specs.declared.integer.Integer.{Integer}
pub use Rattle.sd_condition.specs.declared.integer.Sign.TheVariants.{Minus, Omitted, Plus}
pub use Rattle.sd_condition.specs.declared.integer.Sign.{Sign}
pub use Rattle.sd_condition.specs.declared.integer.Width.TheVariants.{Int16, Int32, Int64, Int8}
pub use Rattle.sd_condition.specs.declared.integer.Width.{Width}
pub use Rattle.sd_condition.specs.declared.operator.Operator.{Operator}
pub use Rattle.sd_condition.specs.declared.token.Token.{Token}
pub use Rattle.sd_condition.specs.declared.value.Value.{Value}
pub use Rattle.sd_data.specs.Outcome.{◌>>=◌}
pub use Rattle.sd_data.specs.Reading.{after, i64_at, u16_at}
pub use Rattle.sd_data.specs.Writing.{AreUnits, padding_len, text_bytes}
pub use Rattle.sd_sid.proofs.SidLaws.{sids_come_back, sids_stand}
pub use Rattle.sd_sid.proofs.SidWords.{cells, cells_fit}
pub use Rattle.sd_sid.specs.Sid.{IsSid, SidValue}
pub use Rattle.sd_sid.specs.SidBytes.{authority_of, bytes_of_sid, sid_reading, u32_at, u32s_at}
pub use Rattle.sd_sid.specs.declared.sid.SidError.{SidError}
pub use Rattle.std.proofs.Common.{Err, List, None, Ok, Option, Result, Some, [], add-zero, ap, append-nil, append_assoc, arith, cond, drop, eq-eqb, eqb-true, false, get_or, inl, inr, is_some, le-ltb, length, length-append, length-drop, length-take, length-take-le, ltb-false, nat_le, nat_lt, ne_eqb, not, refl, rules, slice_index, subst, suc, sym, take, true, zero, ℕ, ◌%◌, ◌*◌, ◌++◌, ◌+◌, ◌-◌, ◌/◌, ◌<◌, ◌==◌, ◌^◌, ◌||◌, ◌∙◌, ◌∷◌, ◌≡◌, ◌≤◌}
pub use Rattle.std.proofs.Math.Facts.{Fits-of_lt, sfits_to_z}
pub use Rattle.std.proofs.Math.Seq.{take-add}
pub use Rattle.std.proofs.lemmas.Bool.{and_parts, leb-true, ltb-true, not-false, not-true, or_parts}
pub use Rattle.std.proofs.lemmas.Int.{of_z-to_z, to_z-of_z}
pub use Rattle.std.proofs.lemmas.List.Elements.{All-from_recursion}
pub use Rattle.std.proofs.lemmas.List.Folds.{length-flat_map-take}
pub use Rattle.std.proofs.lemmas.List.FromFn.{length-map-range_with_len}
pub use Rattle.std.proofs.lemmas.List.{drop-drop, length-replicate, take-append-drop, take_all, take_at}
pub use Rattle.std.proofs.lemmas.Nat.{from_le_bytes-to_le_bytes_4, le_bytes_2, le_bytes_4, le_bytes_8}
pub use Rattle.std.proofs.lemmas.Result.{err_from_is_err_and}
pub use Rattle.std.specs.Int.{cast_signed, cast_unsigned, from_le_bytes, to_le_bytes, w16, w32, w64}
pub use Rattle.std.specs.List.{AllByRecursion, flat_map, list_all, range_with_len}
pub use Rattle.std.specs.Option.{SomeIff}
pub use Rattle.std.specs.Prelude.{FitsSigned, map, replicate, slice_range}
