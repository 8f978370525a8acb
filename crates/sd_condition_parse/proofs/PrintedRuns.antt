-- What sd_condition_text prints of octets and of names without a prefix is parsed as these.
use Rattle.std.proofs.Common.{List, Ok, Some, [], ap, arith, false, get_or, inl, inr, length, refl, subst, suc, true, zero, ℕ, ◌++◌, ◌/◌, ◌%◌, ◌<◌, ◌^◌, ◌∙◌, ◌∷◌, ◌≡◌}
use Rattle.std.proofs.Math.Seq.{drop-append_seam, take-append_seam}
use Rattle.std.proofs.lemmas.Bool.{and_parts, eqb-true, ne_eqb}
use Rattle.std.proofs.lemmas.Bool.Decides.{nat_tests}
use Rattle.std.specs.Char.{eq_ignore_ascii_case}
use Rattle.std.specs.Fmt.{digit_glyph, digits}
use Rattle.std.specs.List.{AllByRecursion, flat_map, list_all}
use Rattle.std.specs.Prelude.{not, slice_index, ◌&&◌, ◌==◌}
use Rattle.hex.proofs.HexLemmas.{decode_of-encode_upper}
use Rattle.hex.specs.Hex.{decode_of, encode_upper, encode_with, upper_digits}
use Rattle.sd_data.proofs.Found.{held, some_is}
use Rattle.sd_condition.specs.declared.attribute.Scope.TheVariants.{Local}
use Rattle.sd_condition_parse.specs.Attribute.{attribute, local_attribute}
use Rattle.sd_condition_parse.specs.Laws.{OctetsComeBack, PlainNamesComeBack}
use Rattle.sd_condition_parse.specs.Run.{is_digit, is_in, run_len}
use Rattle.sd_condition_parse.specs.Value.{octets}
use Rattle.sd_condition_parse.specs.declared.run.Class.{Class}
use Rattle.sd_condition_parse.specs.declared.run.Class.TheVariants.{Digit, Plain}
use Rattle.sd_condition_text.specs.Attribute.{is_opening_word, is_plain, plain_name}
use Rattle.sd_condition_text.specs.Value.{octet_text}
use Rattle.sd_text.proofs.Parts.{went}

-- ---- runs

run_all : (class : Class) (xs rest : List ℕ) → list_all (is_in class) xs ≡ true → run_len class rest ≡ 0 → run_len class (xs ++ rest) ≡ length xs
run_all class [] rest all none = none
run_all class (x ∷ xs) rest all none =
    let parts = and_parts (is_in class x) (list_all (is_in class) xs) all in
    let others = run_all class xs rest parts.1 none in
    rw parts.0 (omega arith)

-- ---- octets

glyph : (d : ℕ) → d < 16 → (slice_index upper_digits d ≡ digit_glyph true d) × (is_digit (digit_glyph true d) ≡ true)
glyph zero low = (refl, refl)
glyph (suc zero) low = (refl, refl)
glyph (suc (suc zero)) low = (refl, refl)
glyph (suc (suc (suc zero))) low = (refl, refl)
glyph (suc (suc (suc (suc zero)))) low = (refl, refl)
glyph (suc (suc (suc (suc (suc zero))))) low = (refl, refl)
glyph (suc (suc (suc (suc (suc (suc zero)))))) low = (refl, refl)
glyph (suc (suc (suc (suc (suc (suc (suc zero))))))) low = (refl, refl)
glyph (suc (suc (suc (suc (suc (suc (suc (suc zero)))))))) low = (refl, refl)
glyph (suc (suc (suc (suc (suc (suc (suc (suc (suc zero))))))))) low = (refl, refl)
glyph (suc (suc (suc (suc (suc (suc (suc (suc (suc (suc zero)))))))))) low = (refl, refl)
glyph (suc (suc (suc (suc (suc (suc (suc (suc (suc (suc (suc zero))))))))))) low = (refl, refl)
glyph (suc (suc (suc (suc (suc (suc (suc (suc (suc (suc (suc (suc zero)))))))))))) low = (refl, refl)
glyph (suc (suc (suc (suc (suc (suc (suc (suc (suc (suc (suc (suc (suc zero))))))))))))) low = (refl, refl)
glyph (suc (suc (suc (suc (suc (suc (suc (suc (suc (suc (suc (suc (suc (suc zero)))))))))))))) low = (refl, refl)
glyph (suc (suc (suc (suc (suc (suc (suc (suc (suc (suc (suc (suc (suc (suc (suc zero))))))))))))))) low = (refl, refl)
glyph (suc (suc (suc (suc (suc (suc (suc (suc (suc (suc (suc (suc (suc (suc (suc (suc d)))))))))))))))) low = absurd (omega arith)

octet_digits : (octet : ℕ) → octet < 256 → octet_text octet ≡ digit_glyph true (octet / 16) ∷ digit_glyph true (octet % 16) ∷ []
unfolding digits
octet_digits octet few =
    elim (went (octet / 16 == 0)) [
      | inl h ↦ let none = eqb-true (octet / 16) 0 h in rw (h, none) refl
      | inr h ↦ let small : octet / 16 / 16 ≡ 0 = omega arith in let same : octet / 16 % 16 ≡ octet / 16 = omega arith in rw (h, small, same) refl
    ]

octets_digits : (list : List ℕ) → AllByRecursion (λ octet. octet < 2 ^ 8) list → (flat_map octet_text list ≡ encode_upper list) × (list_all is_digit (flat_map octet_text list) ≡ true)
unfolding encode_with
octets_digits [] all = (refl, refl)
octets_digits (octet ∷ list) all =
    let others = octets_digits list all.1 in
    let few = all.0 in
    let high = glyph (octet / 16) (omega arith) in
    let low = glyph (octet % 16) (omega arith) in
    rw (octet_digits octet (omega arith)) (rw (high.0, low.0, others.0) refl, rw (high.1, low.1) others.1)

bytes : (list : List ℕ) → AllByRecursion (λ octet. octet < 2 ^ 8) list → (i : ℕ) → get_or list i 0 < 256
bytes [] all i = omega arith
bytes (octet ∷ list) all zero = all.0
bytes (octet ∷ list) all (suc i) = bytes list all.1 i

pub octets_come_back : OctetsComeBack
unfolding octets
octets_come_back list rest all none =
    let text = flat_map octet_text list in
    let made = octets_digits list all in
    let len = run_all Digit text rest made.1 none in
    let decoded : decode_of text ≡ Ok list = ap decode_of made.0 ∙ decode_of-encode_upper list (bytes list all) in
    rw (len, take-append_seam text rest, drop-append_seam text rest, decoded) refl

-- ---- names without a prefix

not_at : (c : ℕ) → is_plain c ≡ true → eq_ignore_ascii_case c 64 ≡ false
not_at c e = grind (arith, nat_tests)

pub plain_names_come_back : PlainNamesComeBack
unfolding plain_name attribute local_attribute
plain_names_come_back [] text rest e none = absurd cc
plain_names_come_back (c ∷ name) text rest e none =
    let test = not (length (c ∷ name) == 0) && list_all is_plain (c ∷ name) && not (is_opening_word (c ∷ name)) in
    let found = held test (Some (c ∷ name)) text e in
    let named = (and_parts (not (length (c ∷ name) == 0) && list_all is_plain (c ∷ name)) (not (is_opening_word (c ∷ name))) found.0).0 in
    let plain = (and_parts (not (length (c ∷ name) == 0)) (list_all is_plain (c ∷ name)) named).1 in
    let first = (and_parts (is_plain c) (list_all is_plain name) plain).0 in
    let len = run_all Plain (c ∷ name) rest plain none in
    let more : (length (c ∷ name) == 0) ≡ false = ne_eqb (length (c ∷ name)) 0 (λ (empty : length (c ∷ name) ≡ 0). omega arith) in
    subst (λ t. attribute (t ++ rest) ≡ Ok (record { scope = Local; name = c ∷ name }, rest)) (some_is (c ∷ name) text found.1)
    (rw (not_at c first, len, more, take-append_seam (c ∷ name) rest, drop-append_seam (c ∷ name) rest) refl)
