-- GUIDs as text ([MS-DTYP] 2.3.4.3).
use Rattle.std.specs.Prelude.{ℕ, ◌/◌, ◌%◌, false, List, [], ◌∷◌, ◌++◌, codes, slice_index}
use Rattle.std.specs.Fmt.{digit_glyph}
use Rattle.std.specs.List.{flat_map}
use Rattle.sd_whole.specs.declared.types.Guid.{Guid}

-- a byte in two lower-case hexadecimal digits
abbrev pub byte_text : ℕ → List ℕ
byte_text byte = digit_glyph false (byte / 16) ∷ digit_glyph false (byte % 16) ∷ []

-- the bytes at these places, in this order
unfoldable pub group_text : List ℕ → List ℕ → List ℕ
group_text bytes places = flat_map (λ place. byte_text (slice_index bytes place)) places

-- 8-4-4-4-12 digits: the first three groups are little-endian in the bytes
unfoldable pub guid_text : Guid → List ℕ
guid_text guid =
    group_text guid.bytes (3 ∷ 2 ∷ 1 ∷ 0 ∷ []) ++ codes "-" ++ group_text guid.bytes (5 ∷ 4 ∷ []) ++ codes "-"
    ++ group_text guid.bytes (7 ∷ 6 ∷ []) ++ codes "-" ++ group_text guid.bytes (8 ∷ 9 ∷ []) ++ codes "-"
    ++ group_text guid.bytes (10 ∷ 11 ∷ 12 ∷ 13 ∷ 14 ∷ 15 ∷ [])
