-- SIDs as bytes ([MS-DTYP] 2.4.2.2): the revision, the number of sub-authorities, the authority in six bytes, and the
-- sub-authorities in four bytes each.
use Rattle.std.specs.Prelude.{◌≡◌, ℕ, ◌+◌, ◌*◌, ◌<◌, ◌==◌, ◌||◌, not, nat_lt, List, [], ◌∷◌, ◌++◌, length, take, drop}
use Rattle.std.specs.Prelude.{map, slice_index, Result, Ok, Err, if◌then◌else◌}
use Rattle.std.specs.Int.{w32, w64, from_le_bytes, to_le_bytes, from_be_bytes, to_be_bytes}
use Rattle.std.specs.List.{flat_map, range_with_len}
use Rattle.sd_sid.specs.Sid.{SidValue, IsSid}
use Rattle.sd_sid.specs.declared.sid.SidError.{SidError}
use Rattle.sd_sid.specs.declared.sid.SidError.TheVariants.{Revision, Count, Short}

-- the number in the four bytes at an offset, little-endian
abbrev pub u32_at : List ℕ → ℕ → ℕ
u32_at bytes o = from_le_bytes w32 (slice_index bytes o ∷ slice_index bytes (o + 1) ∷ slice_index bytes (o + 2)
    ∷ slice_index bytes (o + 3) ∷ [])

-- so many numbers of four bytes from an offset on, little-endian, one after the other
abbrev pub u32s_at : List ℕ → ℕ → ℕ → List ℕ
u32s_at bytes o n = map (λ k. u32_at bytes (o + 4 * k)) (range_with_len 0 n)

-- the number in the six bytes from offset 2 on, big-endian
abbrev pub authority_of : List ℕ → ℕ
authority_of bytes = from_be_bytes w64 (0 ∷ 0 ∷ slice_index bytes 2 ∷ slice_index bytes 3 ∷ slice_index bytes 4
    ∷ slice_index bytes 5 ∷ slice_index bytes 6 ∷ slice_index bytes 7 ∷ [])

-- the SID at the front of the bytes and its length, or the first reason why there is none
unfoldable pub sid_reading : List ℕ → Result (SidValue × ℕ) SidError
sid_reading bytes =
    if nat_lt (length bytes) 8 then Err Short
    else if not (slice_index bytes 0 == 1) then Err Revision
    else if (slice_index bytes 1 == 0 || nat_lt 15 (slice_index bytes 1)) then Err Count
    else if nat_lt (length bytes) (8 + 4 * slice_index bytes 1) then Err Short
    else Ok (
      record { authority = authority_of bytes; subs = u32s_at bytes 8 (slice_index bytes 1) },
      8 + 4 * slice_index bytes 1,
    )

-- the one written form of a SID
unfoldable pub bytes_of_sid : SidValue → List ℕ
bytes_of_sid s = 1 ∷ length s.subs ∷ (drop 2 (to_be_bytes w64 s.authority) ++ flat_map (to_le_bytes w32) s.subs)

-- what is written is parsed with its length, whatever follows it
abbrev pub SidsComeBack : Type 0
SidsComeBack = (s : SidValue) (rest : List ℕ) → IsSid s → sid_reading (bytes_of_sid s ++ rest)
    ≡ Ok (s, length (bytes_of_sid s))

-- what is parsed is a prefix of the bytes
abbrev pub SidsStand : Type 0
SidsStand = (bytes : List ℕ) (s : SidValue) (n : ℕ) → ((i : ℕ) → slice_index bytes i < 256)
    → sid_reading bytes ≡ Ok (s, n) → take n bytes ≡ bytes_of_sid s
