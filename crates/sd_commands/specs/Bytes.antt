-- Bytes as a text spells them.
use Rattle.std.specs.Prelude.{◌≡◌, ℕ, ◌+◌, ◌==◌, ◌&&◌, ◌||◌, not, Bool, List, [], ◌∷◌, ◌++◌, length}
use Rattle.std.specs.Prelude.{drop, filter, Option, Some, None, Result}
use Rattle.std.specs.Prelude.{Ok, Err, if◌then◌else◌, codes}
use Rattle.std.specs.List.{slice_split}
use Rattle.std.specs.Result.{result_map_both}
use Rattle.base64.specs.Engines.{standard}
use Rattle.base64.specs.GeneralPurpose as base64
use Rattle.base64.specs.declared.decode.DecodeError.{DecodeError}
use Rattle.base64.specs.declared.decode.DecodeError.TheVariants.{InvalidByte, InvalidLength, InvalidLastSymbol}
use Rattle.base64.specs.declared.decode.DecodeError.TheVariants.{InvalidPadding}
use Rattle.hex.specs.Hex as hex
use Rattle.hex.specs.declared.FromHexError.{FromHexError}
use Rattle.hex.specs.declared.FromHexError.TheVariants.{InvalidHexCharacter, OddLength}
use Rattle.sd_commands.specs.Value.{descriptor_in, value_in}
use Rattle.sd_commands.specs.declared.value.Value.{Value}
use Rattle.sd_commands.specs.declared.value.Value.TheVariants as values
use Rattle.sd_commands.specs.declared.bytes.BytesError.{BytesError}
use Rattle.sd_commands.specs.declared.bytes.BytesError.TheVariants.{NoBytes, Memory}
use Rattle.sd_commands.specs.declared.settings.ByteForm.{ByteForm}
use Rattle.sd_commands.specs.declared.settings.ByteForm.TheVariants.{Hex, Loose, Base64}

-- the bytes that a text spells, or what is wrong with it, and at which byte
abbrev pub BytesRead : Type 0
BytesRead = Result (List ℕ) (List ℕ × ℕ)

-- why a text isn't bytes in its form; what is missing is missing at its end. Decoding gives none of the last two
abbrev pub hex_reason : List ℕ → FromHexError → List ℕ × ℕ
hex_reason text (InvalidHexCharacter c place) = (codes "no digit", place)
hex_reason text OddLength = (codes "no second digit", length text)
hex_reason text error = (codes "no bytes", 0)

abbrev pub base64_reason : List ℕ → DecodeError → List ℕ × ℕ
base64_reason text (InvalidByte place byte) = (codes "no digit", place)
base64_reason text (InvalidLength place) = (codes "no end", place)
base64_reason text (InvalidLastSymbol place symbol value) = (codes "no last digit", place)
base64_reason text InvalidPadding = (codes "no padding", length text)

abbrev pub reasoned : {E : Type 0} → (E → List ℕ × ℕ) → Result (List ℕ) E → BytesRead
reasoned reason = result_map_both (λ bytes. bytes) reason

-- ---- values as other tools write them

abbrev pub no_bytes : ℕ → List ℕ × ℕ
no_bytes place = (codes "no bytes", place)

-- what may stand between two bytes: a tab, the end of a line, a space, a comma or a backslash
abbrev pub is_between : ℕ → Bool
is_between b = b == 9 || b == 10 || b == 13 || b == 32 || b == 44 || b == 92

-- a part without one `0x` at its front
abbrev pub digits_of : List ℕ → List ℕ
digits_of [] = []
digits_of (b ∷ []) = b ∷ []
digits_of (a ∷ b ∷ digits) = if a == 48 && (b == 120 || b == 88) then digits else a ∷ b ∷ digits

-- the bytes of the part that begins at this byte of the text, or that it spells none
abbrev pub part_read : ℕ → List ℕ → BytesRead
part_read place part = reasoned (λ error. no_bytes place) (hex.decode_of (digits_of part))

abbrev pub joined : BytesRead → BytesRead → BytesRead
joined (Ok bytes) (Ok more) = Ok (bytes ++ more)
joined (Ok bytes) (Err reason) = Err reason
joined (Err reason) more = Err reason

-- the bytes of the parts, one behind the other, of which the first begins at this byte of the text; or why there are
-- none
unfoldable pub parts_read : ℕ → List (List ℕ) → BytesRead
parts_read place [] = Ok []
parts_read place (part ∷ parts) = joined (part_read place part) (parts_read (place + length part + 1) parts)

-- the end of a line, a tab or a space
abbrev pub is_blank_byte : ℕ → Bool
is_blank_byte b = b == 9 || b == 10 || b == 13 || b == 32

-- the bytes of a value, or the place of what spells none
abbrev pub value_read : List ℕ → Option Value → BytesRead
value_read text None = Err (no_bytes 0)
value_read text (Some (values.Hex place)) = parts_read place (slice_split is_between (drop place text))
value_read text (Some (values.Base64 place)) =
    reasoned (λ error. no_bytes place)
    (base64.decode_of standard (filter (λ b. not (is_blank_byte b)) (drop place text)))

-- ---- by form

-- the bytes that the text spells, or why it spells none
abbrev pub bytes_read : ByteForm → List ℕ → BytesRead
bytes_read Hex text = reasoned (hex_reason text) (hex.decode_of text)
bytes_read Loose text = result_map_both descriptor_in (λ reason. reason) (value_read text (value_in text))
bytes_read Base64 text = reasoned (base64_reason text) (base64.decode_of standard text)

abbrev pub IsBytesError : BytesRead → BytesError → Type 0
IsBytesError read (NoBytes what place) = read ≡ Err (what.now, place)
IsBytesError read Memory = Unit {0}

-- what the text should have been
abbrev pub form_name : ByteForm → List ℕ
form_name Hex = codes "hex"
form_name Loose = codes "hex"
form_name Base64 = codes "base64"
