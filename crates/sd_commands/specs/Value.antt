-- The value of a descriptor as it stands in a file of another tool: whether its bytes are spelled in hexadecimal or in
-- base64, and where they begin.
use Rattle.std.specs.Prelude.{ℕ, ◌+◌, ◌*◌, ◌/◌, ◌==◌, ◌&&◌, min, nat_eq, nat_le, nat_lt, Bool, List, [], ◌∷◌, ◌++◌}
use Rattle.std.specs.Prelude.{length, drop, take, slice_index, Option, Some, None, codes, if◌then◌else◌}
use Rattle.std.specs.List.{position_or_len, starts_with}
use Rattle.sd_commands.specs.declared.value.Value.{Value}
use Rattle.sd_commands.specs.declared.value.Value.TheVariants.{Hex, Base64}

-- ---- texts

abbrev pub begins_by : List ℕ → List ℕ → Bool
begins_by text letters = starts_with nat_eq text letters

-- how many bytes are before the first such byte, or all
abbrev pub first : ℕ → List ℕ → ℕ
first byte text = position_or_len (λ b. b == byte) text

-- how long the `hex:` or `hex(N):` is that the text begins with
abbrev pub head_len : List ℕ → Option ℕ
head_len text =
    if begins_by text (codes "hex:") then Some 4
    else if begins_by text (codes "hex(") && begins_by (drop (first 41 text) text) (codes "):")
    then Some (first 41 text + 2)
    else None

-- the value that begins at this byte, behind a name and its `=`: `hex:` and the like of a .reg file, `0s` of getfattr
abbrev pub after_name : ℕ → Option ℕ → Bool → Value
after_name place (Some len) is_base64 = Hex (place + len)
after_name place None is_base64 = if is_base64 then Base64 (place + 2) else Hex place

-- the first `:` or `=`
abbrev pub mark : List ℕ → ℕ
mark text = min (first 58 text) (first 61 text)

abbrev pub after_mark : List ℕ → ℕ → Option Value
after_mark text place =
    if nat_le (length text) place then Some (Hex 0)
    else if slice_index text place == 61 then Some (after_name (place + 1) (head_len (drop (place + 1) text))
    (begins_by (drop (place + 1) text) (codes "0s")))
    else if begins_by (drop (place + 1) text) (codes ":") then Some (Base64 (place + 2))
    else None

abbrev pub value_after_head : List ℕ → Option ℕ → Option Value
value_after_head text (Some len) = Some (Hex len)
value_after_head text None = after_mark text (mark text)

-- the value of a text: behind `hex:` or `hex(N):`, perhaps after a name and `=`, as in a .reg file; behind the `::` of
-- an attribute of LDIF (RFC 2849); behind the name and the `=` of getfattr; else the text itself. None: another form
abbrev pub value_in : List ℕ → Option Value
value_in text = value_after_head text (head_len text)

abbrev pub place_of : Value → ℕ
place_of (Hex place) = place
place_of (Base64 place) = place

-- ---- bytes: an attribute security.NTACL of Samba, an xattr_NTACL in NDR, in which the offsets of a descriptor count
-- from the first byte

-- behind the description, whose zero is here: the time, 8 bytes from a multiple of 4 on, and a hash of 64
abbrev pub after_description : ℕ → ℕ
after_description end = (end + 4) / 4 * 4 + 72

-- where the descriptor's header is, in each version
abbrev pub ntacl_place : List ℕ → Option ℕ
ntacl_place bytes =
    if begins_by bytes (1 ∷ 0 ∷ 1 ∷ 0 ∷ []) then Some 8
    else if begins_by bytes (2 ∷ 0 ∷ 2 ∷ 0 ∷ []) then Some 28
    else if begins_by bytes (3 ∷ 0 ∷ 3 ∷ 0 ∷ []) then Some 80
    else if begins_by bytes (4 ∷ 0 ∷ 4 ∷ 0 ∷ [])
    then Some (after_description (78 + first 0 (drop 78 bytes)))
    else None

abbrev pub with_header : List ℕ → Option ℕ → List ℕ
with_header bytes None = bytes
with_header bytes (Some place) =
    if nat_lt (length bytes) (place + 20) then bytes else take 20 (drop place bytes) ++ drop 20 bytes

-- the descriptor in the bytes: its header in place of the first 20 bytes, or the bytes as they are
abbrev pub descriptor_in : List ℕ → List ℕ
descriptor_in bytes = with_header bytes (ntacl_place bytes)
