-- The printed text of a GUID is parsed as that GUID.
use Rattle.std.proofs.Common.{List, [], add-one, ap, arith, drop, false, get_or, inl, inr, length, refl, subst, suc, sym, zero, ℕ, ◌%◌, ◌++◌, ◌+◌, ◌/◌, ◌<◌, ◌^◌, ◌∙◌, ◌∷◌, ◌≡◌}
use Rattle.std.specs.Prelude.{slice_index, ◌==◌}
use Rattle.std.specs.Fmt.{digit_glyph}
use Rattle.std.specs.List.{AllByRecursion}
use Rattle.std.proofs.Math.Seq.{drop-cons}
use Rattle.std.proofs.lemmas.Bool.{eqb-false, eqb-true}
use Rattle.std.proofs.lemmas.List.{append-nil, drop_all}
use Rattle.sd_text.proofs.Engine.{find_spells}
use Rattle.sd_text.proofs.Parts.{found, went}
use Rattle.sd_text.specs.Finding.{find}
use Rattle.sd_whole.specs.declared.types.Guid.{Guid}
use Rattle.sd_whole_text.specs.Guid.{byte_text, group_text, guid_text}
use Rattle.sd_whole_parse.specs.Guid.{byte, guid, hex_digit, pair}
use Rattle.sd_whole_parse.specs.Laws.{GuidsComeBack}

-- ---- digits

-- what holds of each number below a limit
AllBelow : (ℕ → Type 0) → ℕ → Type 0
AllBelow P zero = Unit {0}
AllBelow P (suc k) = AllBelow P k × P k

all_below : (P : ℕ → Type 0) (k : ℕ) → AllBelow P k → (n : ℕ) → n < k → P n
unfolding AllBelow
all_below P zero all n lt = absurd (omega arith)
all_below P (suc k) all n lt =
    elim (went (n == k)) [
      | inl same ↦ subst P (sym (eqb-true n k same)) all.1
      | inr other ↦ all_below P k all.0 n (let apart = eqb-false n k other in omega arith)
    ]

abbrev IsDigit : ℕ → Type 0
IsDigit n = (rest : List ℕ) → find hex_digit (digit_glyph false n ∷ rest) ≡ found n rest

digits : AllBelow IsDigit 16
unfolding AllBelow hex_digit
digits = ((((((((((((((((tt, λ r. refl), λ r. refl), λ r. refl), λ r. refl), λ r. refl), λ r. refl), λ r. refl), λ r. refl), λ r. refl), λ r. refl), λ r. refl), λ r. refl), λ r. refl), λ r. refl), λ r. refl), λ r. refl)

digit_back : (n : ℕ) → n < 16 → IsDigit n
digit_back n lt = all_below IsDigit 16 digits n lt

-- ---- bytes

byte_back : (n : ℕ) → n < 256 → (rest : List ℕ) → find byte (byte_text n ++ rest) ≡ found n rest
unfolding byte
byte_back n lt rest =
    let high : n / 16 < 16 = omega arith in
    let low : n % 16 < 16 = omega arith in
    rw (digit_back (n / 16) high (digit_glyph false (n % 16) ∷ rest), digit_back (n % 16) low rest) (ap (λ k. found k rest) (omega arith))

-- the text of two bytes, and what follows
abbrev two : ℕ → ℕ → List ℕ → List ℕ
two a b rest = byte_text a ++ (byte_text b ++ rest)

abbrev dash : List ℕ → List ℕ
dash rest = 45 ∷ rest

pair_back : (a b : ℕ) → a < 256 → b < 256 → (rest : List ℕ) → find pair (two a b rest) ≡ found (a, b) rest
unfolding pair
pair_back a b first second rest = rw (byte_back a first (byte_text b ++ rest), byte_back b second rest) refl

-- ---- a GUID

abbrev places : (ℕ → ℕ) → List ℕ
places s = s 0 ∷ s 1 ∷ s 2 ∷ s 3 ∷ s 4 ∷ s 5 ∷ s 6 ∷ s 7 ∷ s 8 ∷ s 9 ∷ s 10 ∷ s 11 ∷ s 12 ∷ s 13 ∷ s 14 ∷ s 15 ∷ []

-- so many bytes from a place on
from : ℕ → ℕ → List ℕ → List ℕ
from zero i bs = []
from (suc n) i bs = slice_index bs i ∷ from n (i + 1) bs

from_here : (n i : ℕ) (bs : List ℕ) → length bs ≡ i + n → from n i bs ≡ drop i bs
unfolding from
from_here zero i bs is = sym (drop_all i bs (omega arith))
from_here (suc n) i bs is =
    let lt : i < length bs = omega arith in
    let later = from_here n (i + 1) bs (omega arith) in
    rw (drop-cons bs i 0 lt) (ap (λ bytes. get_or bs i 0 ∷ bytes) (later ∙ ap (λ k. drop k bs) (add-one i)))

all_places : (bs : List ℕ) → length bs ≡ 16 → places (λ i. slice_index bs i) ≡ bs
unfolding from
all_places bs is = from_here 16 0 bs is

small_at : (bs : List ℕ) (i : ℕ) → AllByRecursion (λ b. b < 2 ^ 8) bs → slice_index bs i < 256
small_at [] i all = omega arith
small_at (b ∷ bs) zero all = all.0
small_at (b ∷ bs) (suc i) all = small_at bs i all.1

guid_back : (g : Guid) (rest : List ℕ) → ((i : ℕ) → slice_index g.bytes i < 256) → find guid (guid_text g ++ rest) ≡ found (record { bytes = places (λ i. slice_index g.bytes i) }) rest
unfolding guid guid_text group_text
guid_back g rest small =
    let last = two (slice_index g.bytes 14) (slice_index g.bytes 15) rest in
    let sixth = two (slice_index g.bytes 12) (slice_index g.bytes 13) last in
    let fifth = two (slice_index g.bytes 10) (slice_index g.bytes 11) sixth in
    let fourth = two (slice_index g.bytes 8) (slice_index g.bytes 9) (dash fifth) in
    let third = two (slice_index g.bytes 7) (slice_index g.bytes 6) (dash fourth) in
    let second = two (slice_index g.bytes 5) (slice_index g.bytes 4) (dash third) in
    let first = two (slice_index g.bytes 1) (slice_index g.bytes 0) (dash second) in
    rw (
      pair_back (slice_index g.bytes 3) (slice_index g.bytes 2) (small 3) (small 2) first,
      pair_back (slice_index g.bytes 1) (slice_index g.bytes 0) (small 1) (small 0) (dash second),
      pair_back (slice_index g.bytes 5) (slice_index g.bytes 4) (small 5) (small 4) (dash third),
      pair_back (slice_index g.bytes 7) (slice_index g.bytes 6) (small 7) (small 6) (dash fourth),
      pair_back (slice_index g.bytes 8) (slice_index g.bytes 9) (small 8) (small 9) (dash fifth),
      pair_back (slice_index g.bytes 10) (slice_index g.bytes 11) (small 10) (small 11) sixth,
      pair_back (slice_index g.bytes 12) (slice_index g.bytes 13) (small 12) (small 13) last,
      pair_back (slice_index g.bytes 14) (slice_index g.bytes 15) (small 14) (small 15) rest,
    ) refl

pub guids_back : GuidsComeBack
guids_back g is small =
    let same : record { bytes = places (λ i. slice_index g.bytes i) } ≡ g = ap (λ (bs : List ℕ). record { bytes = bs }) (all_places g.bytes is) in
    let read = guid_back g [] (λ i. small_at g.bytes i small) in
    find_spells guid (guid_text g) g [] (rw (append-nil (guid_text g), same) at read)
