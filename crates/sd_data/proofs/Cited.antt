-- What these proofs cite of other modules, passed on from one place.
pub use Rattle.sd_data.specs.Outcome.{Gives, ◌>>=◌}
pub use Rattle.sd_data.specs.Reading.{after, u16_at}
pub use Rattle.sd_data.specs.Writing.{AreUnits, text_bytes}
pub use Rattle.sd_data.specs.declared.refusal.Refusal.TheVariants.{Malformed, Memory}
pub use Rattle.sd_data.specs.declared.refusal.Refusal.{Refusal}
pub use Rattle.std.proofs.Common.{All, Bool, Err, List, None, Option, Some, [], add-zero, ap, append_assoc, arith, cond, eq-eqb, false, get_or, inl, inr, length, length-append, length-take-le, map, refl, replicate, sym, take, true, vec_capacity, vec_len, ℕ, ◌%◌, ◌*◌, ◌++◌, ◌+◌, ◌-◌, ◌/◌, ◌<◌, ◌==◌, ◌^◌, ◌∙◌, ◌∷◌, ◌≡◌, ◌≤◌, ◌⊎◌}
pub use Rattle.std.proofs.Math.Facts.{Fits-lt-pow, Fits-of_z}
pub use Rattle.std.proofs.lemmas.Int.{to_z-of_z}
pub use Rattle.std.proofs.lemmas.List.Concat.{get_or-flat_map}
pub use Rattle.std.proofs.lemmas.List.Elements.{All-from_recursion, All-get_or}
pub use Rattle.std.proofs.lemmas.List.FromFn.{fill_by_all, map-range_with_len_more}
pub use Rattle.std.proofs.lemmas.List.{drop_at, take_all}
pub use Rattle.std.proofs.lemmas.Nat.{from_le_bytes-to_le_bytes_2, from_le_bytes-to_le_bytes_8}
pub use Rattle.std.specs.Int.{cast_signed, cast_unsigned, from_le_bytes, to_le_bytes, w16, w64}
pub use Rattle.std.specs.List.{range_with_len}
pub use Rattle.std.specs.Option.{SomeIff}
pub use Rattle.std.specs.Prelude.{FitsSigned, ℤ}
