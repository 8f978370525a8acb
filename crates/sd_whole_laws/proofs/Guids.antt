-- The printed fields of GUIDs are parsed as these GUIDs.
use Rattle.std.proofs.Common.{List, None, Option, Some, [], add-one, append_assoc, ap, arith, drop, false, get_or, length, refl, suc, sym, true, zero, ℕ, ◌%◌, ◌++◌, ◌+◌, ◌/◌, ◌<◌, ◌∙◌, ◌∷◌, ◌≡◌}
use Rattle.std.specs.Prelude.{Bool, IfSome, codes, not, slice_index}
use Rattle.std.specs.Char.{eq_ignore_ascii_case}
use Rattle.std.specs.Fmt.{digit_glyph}
use Rattle.std.proofs.Math.Seq.{drop-cons}
use Rattle.std.proofs.lemmas.Bool.{not-true}
use Rattle.std.proofs.lemmas.List.{drop_all}
use Rattle.sd_text.proofs.Parts.{found}
use Rattle.sd_text.specs.Entry.{guid as no_guid}
use Rattle.sd_text.specs.Finding.{find}
use Rattle.sd_text.specs.Grammar.{begins}
use Rattle.sd_whole.specs.Whole.{AreTypes, IsGuid}
use Rattle.sd_whole.specs.declared.types.Guid.{Guid}
use Rattle.sd_whole.specs.declared.types.ObjectTypes.{ObjectTypes}
use Rattle.sd_whole_parse.specs.Guid.{byte, guid, guid_field, hex_digit, pair, types_of}
use Rattle.sd_whole_text.specs.Entry.{guid_field as field_text, types_text}
use Rattle.sd_whole_text.specs.Guid.{byte_text, group_text, guid_text}
use Rattle.sd_claim_laws.proofs.Octets.{small_at}
use Rattle.sd_claim_laws.proofs.Tried.{AllBelow, all_below, each_below, one_below}
use Rattle.sd_whole_laws.specs.Laws.{AreBytes}

-- ---- digits and bytes

abbrev IsDigit : ℕ → Type 0
IsDigit n = (rest : List ℕ) → find hex_digit (digit_glyph false n ∷ rest) ≡ found n rest

digits : AllBelow IsDigit 16
unfolding AllBelow hex_digit
digits = ((((((((((((((((tt, λ r. refl), λ r. refl), λ r. refl), λ r. refl), λ r. refl), λ r. refl), λ r. refl), λ r. refl), λ r. refl), λ r. refl), λ r. refl), λ r. refl), λ r. refl), λ r. refl), λ r. refl), λ r. refl)

digit_read : (n : ℕ) → n < 16 → IsDigit n
digit_read n lt = one_below IsDigit 16 digits n lt

byte_read : (n : ℕ) → n < 256 → (rest : List ℕ) → find byte (byte_text n ++ rest) ≡ found n rest
unfolding byte
byte_read n lt rest =
    let high : n / 16 < 16 = omega arith in
    let low : n % 16 < 16 = omega arith in
    rw (digit_read (n / 16) high (digit_glyph false (n % 16) ∷ rest), digit_read (n % 16) low rest) (ap (λ k. found k rest) (omega arith))

-- the text of two bytes, and what follows
abbrev two : ℕ → ℕ → List ℕ → List ℕ
two a b rest = byte_text a ++ (byte_text b ++ rest)

abbrev dash : List ℕ → List ℕ
dash rest = 45 ∷ rest

pair_read : (a b : ℕ) → a < 256 → b < 256 → (rest : List ℕ) → find pair (two a b rest) ≡ found (a, b) rest
unfolding pair
pair_read a b first second rest = rw (byte_read a first (byte_text b ++ rest), byte_read b second rest) refl

-- ---- a GUID

-- so many bytes from a place on
from : ℕ → ℕ → List ℕ → List ℕ
from zero i bs = []
from (suc n) i bs = slice_index bs i ∷ from n (i + 1) bs

from_here : (n i : ℕ) (bs : List ℕ) → length bs ≡ i + n → from n i bs ≡ drop i bs
unfolding from
from_here zero i bs is = sym (drop_all i bs (omega arith))
from_here (suc n) i bs is =
    let lt : i < length bs = omega arith in
    let later = from_here n (i + 1) bs (omega arith) in
    rw (drop-cons bs i 0 lt) (ap (λ bytes. get_or bs i 0 ∷ bytes) (later ∙ ap (λ k. drop k bs) (add-one i)))

abbrev places : (ℕ → ℕ) → List ℕ
places s = s 0 ∷ s 1 ∷ s 2 ∷ s 3 ∷ s 4 ∷ s 5 ∷ s 6 ∷ s 7 ∷ s 8 ∷ s 9 ∷ s 10 ∷ s 11 ∷ s 12 ∷ s 13 ∷ s 14 ∷ s 15 ∷ []

all_places : (bs : List ℕ) → length bs ≡ 16 → places (λ i. slice_index bs i) ≡ bs
unfolding from
all_places bs is = from_here 16 0 bs is

places_read : (g : Guid) (rest : List ℕ) → ((i : ℕ) → slice_index g.bytes i < 256) → find guid (guid_text g ++ rest) ≡ found (record { bytes = places (λ i. slice_index g.bytes i) }) rest
unfolding guid guid_text group_text
places_read g rest small =
    let last = two (slice_index g.bytes 14) (slice_index g.bytes 15) rest in
    let sixth = two (slice_index g.bytes 12) (slice_index g.bytes 13) last in
    let fifth = two (slice_index g.bytes 10) (slice_index g.bytes 11) sixth in
    let fourth = two (slice_index g.bytes 8) (slice_index g.bytes 9) (dash fifth) in
    let third = two (slice_index g.bytes 7) (slice_index g.bytes 6) (dash fourth) in
    let second = two (slice_index g.bytes 5) (slice_index g.bytes 4) (dash third) in
    let first = two (slice_index g.bytes 1) (slice_index g.bytes 0) (dash second) in
    rw (
      pair_read (slice_index g.bytes 3) (slice_index g.bytes 2) (small 3) (small 2) first,
      pair_read (slice_index g.bytes 1) (slice_index g.bytes 0) (small 1) (small 0) (dash second),
      pair_read (slice_index g.bytes 5) (slice_index g.bytes 4) (small 5) (small 4) (dash third),
      pair_read (slice_index g.bytes 7) (slice_index g.bytes 6) (small 7) (small 6) (dash fourth),
      pair_read (slice_index g.bytes 8) (slice_index g.bytes 9) (small 8) (small 9) (dash fifth),
      pair_read (slice_index g.bytes 10) (slice_index g.bytes 11) (small 10) (small 11) sixth,
      pair_read (slice_index g.bytes 12) (slice_index g.bytes 13) (small 12) (small 13) last,
      pair_read (slice_index g.bytes 14) (slice_index g.bytes 15) (small 14) (small 15) rest,
    ) refl

guid_read : (g : Guid) (rest : List ℕ) → IsGuid g → AreBytes g.bytes → find guid (guid_text g ++ rest) ≡ found g rest
guid_read g rest is bytes =
    let same : record { bytes = places (λ i. slice_index g.bytes i) } ≡ g = ap (λ (bs : List ℕ). record { bytes = bs }) (all_places g.bytes is) in
    rw same at (places_read g rest (λ i. small_at g.bytes i bytes))

-- ---- the fields

-- a digit is no semicolon
other : all_below (λ n. not (eq_ignore_ascii_case (digit_glyph false n) 59)) 16 ≡ true
unfolding all_below
other = refl

not_ended : (g : Guid) (rest : List ℕ) → AreBytes g.bytes → begins (guid_text g ++ rest) (codes ";") ≡ false
unfolding guid_text group_text
not_ended g rest bytes =
    let small = small_at g.bytes 3 bytes in
    not-true _ (each_below (λ n. not (eq_ignore_ascii_case (digit_glyph false n) 59)) 16 (slice_index g.bytes 3 / 16) other (omega arith))

field_read : (o : Option Guid) (rest : List ℕ) → IfSome o IsGuid → IfSome o (λ guid. AreBytes guid.bytes) → find guid_field (field_text o ++ 59 ∷ rest) ≡ found o rest
unfolding guid_field
field_read None rest is bytes = refl
field_read (Some g) rest is bytes = rw (not_ended g (59 ∷ rest) bytes, guid_read g (59 ∷ rest) is bytes) refl

pub types_read : (has : Bool) (types : ObjectTypes) (rest : List ℕ) → AreTypes has types → IfSome types.object (λ guid. AreBytes guid.bytes) → IfSome types.inherited (λ guid. AreBytes guid.bytes)
    → find (types_of has) (types_text has types ++ 59 ∷ rest) ≡ found types rest
unfolding types_of no_guid
types_read false types rest are object inherited = rw are refl
types_read true types rest are object inherited =
    let regroup : types_text true types ++ 59 ∷ rest ≡ field_text types.object ++ 59 ∷ (field_text types.inherited ++ 59 ∷ rest) = simp append_assoc in
    rw (regroup, field_read types.object (field_text types.inherited ++ 59 ∷ rest) are.0 object, field_read types.inherited rest are.1 inherited) refl
