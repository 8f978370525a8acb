-- Values in a claim's text ([MS-DTYP] 2.5.1.1, TI-attr to TB-attr).
use Rattle.std.specs.Prelude.{ℕ, ◌^◌, ◌-◌, Bool, ◌&&◌, ◌||◌, ◌==◌, nat_le, List, [], ◌∷◌, ◌++◌, length, take}
use Rattle.std.specs.Prelude.{drop, Option, Some, None, Result, Ok, Err, codes, if◌then◌else◌}
use Rattle.std.specs.Fmt.{decimal, signed_decimal}
use Rattle.std.specs.Option.{option_map}
use Rattle.std.specs.Str.{bytes_eq}
use Rattle.hex.specs.Hex.{decode_of, encode_upper}
use Rattle.hex.specs.declared.error.FromHexError.{FromHexError}
use Rattle.sd_sid.specs.Sid.{SidValue}
use Rattle.sd_claim.specs.declared.value.Value.{Value}
use Rattle.sd_claim.specs.declared.value.Value.TheVariants as values
use Rattle.sd_claim.specs.declared.value_type.ValueType.{ValueType}
use Rattle.sd_claim.specs.declared.value_type.ValueType.TheVariants.{Integer, Unsigned, Text, Sid, Boolean, Octets}
use Rattle.sd_text.specs.Alias.{in_domain}
use Rattle.sd_text.specs.Canon.{full_canon, sid_canon}
use Rattle.sd_text.specs.Finding.{Found, digits_len, find}
use Rattle.sd_text.specs.Grammar.{begins, begins_digit}
use Rattle.sd_text.specs.Sid.{sid}
use Rattle.sd_text.specs.declared.alias.Aliases.{Aliases}
use Rattle.sd_text.specs.declared.fault.TextFault.TheVariants.{Syntax}
use Rattle.sd_condition_text.specs.Value.{quoted_text}
use Rattle.sd_claim_text.specs.Number.{integer_found, unsigned_found}
use Rattle.sd_claim_text.specs.Parser.{Reads, ◌>>=◌, gives, letters_found, mapped, parts_found}
use Rattle.sd_claim_text.specs.Utf16.{utf16_found}

-- ---- texts (char-string): between quotes, which therefore are no part of one; nor is a zero, which would end the text
-- in the claim's data

abbrev pub ends_text : ℕ → Bool
ends_text byte = byte == 0x22 || byte == 0

unfoldable pub quoted_found : Reads (List ℕ)
quoted_found = do
  u ← letters_found (0x22 ∷ [])
  units ← utf16_found ends_text
  v ← letters_found (0x22 ∷ [])
  gives units

-- ---- SIDs (sid-string): a claim has the text of each in full, without an alias

-- the SID that was found, if the octets are its text in full
abbrev pub sid_if_full : List ℕ → Found SidValue → Option SidValue
sid_if_full octets (Ok x) = if bytes_eq (full_canon x.0) octets then Some x.0 else None
sid_if_full octets (Err e) = None

unfoldable pub sid_of : List ℕ → Option SidValue
sid_of octets = sid_if_full octets (find (sid (in_domain None)) octets)

abbrev pub full_sid_found : Aliases → Reads (List ℕ)
full_sid_found known text = mapped full_canon (find (sid known) text)

-- ---- octets (octet-string): two hexadecimal digits each. Only where there are none the sign before them is needed

abbrev pub octets_text : List ℕ → List ℕ
octets_text [] = codes "#"
octets_text (octet ∷ octets) = encode_upper (octet ∷ octets)

-- the octets of digits, unless one is missing
abbrev pub octets_of : Result (List ℕ) FromHexError → Reads (List ℕ)
octets_of (Ok octets) rest = Ok (octets, rest)
octets_of (Err e) rest = Err (Syntax, rest)

-- the octets of all digits here
abbrev pub pairs_found : Reads (List ℕ)
pairs_found text = octets_of (decode_of (take (digits_len 16 text) text)) (drop (digits_len 16 text) text)

unfoldable pub octets_found : Reads (List ℕ)
octets_found text =
    if begins text (codes "#") then pairs_found (drop 1 text)
    else if begins_digit 16 text then pairs_found text
    else Err (Syntax, text)

-- ---- values

unfoldable pub value_text : Value → Option (List ℕ)
value_text (values.Integer number) = Some (signed_decimal number)
value_text (values.Unsigned number) = Some (decimal number)
value_text (values.Text text) = quoted_text text
value_text (values.Sid octets) = option_map sid_canon (sid_of octets)
value_text (values.Boolean number) = if nat_le number 1 then Some (decimal number) else None
value_text (values.Octets octets) = Some (octets_text octets)

unfoldable pub value_found : ValueType → Aliases → Reads Value
value_found Integer known text = mapped values.Integer (integer_found text)
value_found Unsigned known text = mapped values.Unsigned (unsigned_found (2 ^ 64 - 1) text)
value_found Text known text = mapped values.Text (quoted_found text)
value_found Sid known text = mapped values.Sid (full_sid_found known text)
value_found Boolean known text = mapped values.Boolean (unsigned_found 1 text)
value_found Octets known text = mapped values.Octets (octets_found text)

-- ---- lists of values

-- white space (wspace)
abbrev pub is_space : ℕ → Bool
is_space byte = nat_le 9 byte && nat_le byte 13 || byte == 32

-- the text after all white space at its front
abbrev pub after_space : List ℕ → List ℕ
after_space [] = []
after_space (byte ∷ text) = if is_space byte then after_space text else byte ∷ text

abbrev pub space_found : Reads (Unit {0})
space_found text = Ok (tt, after_space text)

-- one more value, after a comma, with white space before and after it
unfoldable pub further_found : ValueType → Aliases → List Value → Reads (List Value)
further_found value_type known before = do
  u ← letters_found (codes ",")
  v ← space_found
  value ← value_found value_type known
  w ← space_found
  gives (before ++ value ∷ [])

unfoldable pub values_found : ValueType → Aliases → Reads (List Value)
values_found value_type known text =
    parts_found (λ there. begins there (codes ",")) (further_found value_type known) (length text) [] text
