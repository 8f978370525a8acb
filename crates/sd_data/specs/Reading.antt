-- What bytes hold: numbers, and the units of a text ([MS-DTYP] 2.4.4.17.5, 2.4.10.1).
use Rattle.std.specs.Prelude.{ℕ, ℤ, ◌+◌, ◌*◌, ◌/◌, ◌%◌, ◌==◌, List, [], ◌∷◌, length, map, slice_index, slice_range}
use Rattle.std.specs.Prelude.{Option, Some, None, if◌then◌else◌}
use Rattle.std.specs.Char.Escape.{encode_utf16}
use Rattle.std.specs.Int.{w16, w64, from_le_bytes, cast_signed}
use Rattle.std.specs.List.{flat_map, range_with_len}
use Rattle.std.specs.Str.{chars}

-- the bytes after so many
abbrev pub after : ℕ → List ℕ → List ℕ
after n bytes = slice_range bytes n (length bytes)

-- the number in the two bytes at an offset, little-endian
abbrev pub u16_at : List ℕ → ℕ → ℕ
u16_at bytes o = from_le_bytes w16 (slice_index bytes o ∷ slice_index bytes (o + 1) ∷ [])

-- the number in the eight bytes at an offset, little-endian
abbrev pub u64_at : List ℕ → ℕ → ℕ
u64_at bytes o = from_le_bytes w64 (slice_index bytes o ∷ slice_index bytes (o + 1) ∷ slice_index bytes (o + 2)
    ∷ slice_index bytes (o + 3) ∷ slice_index bytes (o + 4) ∷ slice_index bytes (o + 5) ∷ slice_index bytes (o + 6)
    ∷ slice_index bytes (o + 7) ∷ [])

-- the signed number there
abbrev pub i64_at : List ℕ → ℕ → ℤ
i64_at bytes o = cast_signed w64 (u64_at bytes o)

-- UTF-16 units, two bytes each
abbrev pub units_in : List ℕ → List ℕ
units_in bytes = map (λ k. u16_at bytes (2 * k)) (range_with_len 0 (length bytes / 2))

-- the units of a text in UTF-8
abbrev pub utf16_of : List ℕ → List ℕ
utf16_of bytes = flat_map encode_utf16 (chars bytes)

-- a text: all of the bytes are units
unfoldable pub text_read : List ℕ → Option (List ℕ)
text_read bytes = if length bytes % 2 == 0 then Some (units_in bytes) else None
