-- The printed text of a name is parsed as the name.
use Rattle.std.proofs.Common.{List, None, Ok, Some, [], ap, cond, append-nil, append_assoc, arith, false, inl, inr, length, refl, suc, sym, true, zero, ℕ, ◌%◌, ◌*◌, ◌++◌, ◌+◌, ◌/◌, ◌<◌, ◌^◌, ◌∙◌, ◌∷◌, ◌≡◌, ◌≤◌}
use Rattle.std.proofs.lemmas.Bool.{and_parts, lt-ltb, ne_eqb}
use Rattle.std.proofs.lemmas.List.{length-append}
use Rattle.std.proofs.lemmas.Bool.Decides.{nat_tests}
use Rattle.std.proofs.lemmas.Str.{digit_value-digit_char}
use Rattle.std.specs.Char.{digit_char, eq_ignore_ascii_case}
use Rattle.std.specs.Char.Escape.{hex_digit_at}
use Rattle.std.specs.List.{flat_map}
use Rattle.std.specs.Prelude.{Bool, not, ◌==◌}
use Rattle.sd_data.specs.Writing.{AreUnits}
use Rattle.sd_data.specs.Writing.{has_no_zero}
use Rattle.sd_text.proofs.Parts.{found, went}
use Rattle.sd_claim_text.specs.Name.{escaped_unit, hex_digit, is_name, is_within, name_found, name_text, part_found}
use Rattle.sd_condition_text.specs.Attribute.{is_literal, unit_text}
use Rattle.sd_claim_text.specs.Laws.{NamesComeBack}
use Rattle.sd_claim_text.specs.Parser.{mapped, parts_found}

hex_read : (d : ℕ) → d < 16 → hex_digit (digit_char d) ≡ Some d
hex_read d low = rw (digit_value-digit_char d (omega arith), lt-ltb d 16 low) refl

escape_read : (unit : ℕ) → unit < 2 ^ 16 → 0 < unit → escaped_unit (digit_char (unit / 0x1000 % 16) ∷ digit_char (unit / 0x100 % 16) ∷ digit_char (unit / 0x10 % 16) ∷ digit_char (unit / 1 % 16) ∷ []) ≡ Some unit
escape_read unit fits some =
    let whole : unit / 0x1000 % 16 * 0x1000 + unit / 0x100 % 16 * 0x100 + unit / 0x10 % 16 * 0x10 + unit / 1 % 16 ≡ unit = omega arith in
    rw (hex_read (unit / 0x1000 % 16) (omega arith), hex_read (unit / 0x100 % 16) (omega arith), hex_read (unit / 0x10 % 16) (omega arith), hex_read (unit / 1 % 16) (omega arith), whole, ne_eqb unit 0 (omega arith)) refl

no_quote : (unit : ℕ) → is_literal unit ≡ true → eq_ignore_ascii_case unit 0x22 ≡ false
no_quote unit literal = grind (arith, nat_tests)

goes_on : (byte : ℕ) (text : List ℕ) → eq_ignore_ascii_case byte 0x22 ≡ false → is_within (byte ∷ text) ≡ true
goes_on byte text other = rw (ne_eqb (suc (length text)) 0 (omega arith), other) refl

ends_at : (text : List ℕ) → is_within (0x22 ∷ text) ≡ false
ends_at text = rw (ne_eqb (suc (length text)) 0 (omega arith)) refl

pub record UnitReads (unit : ℕ) : Type 0 where
  pub within : (tail : List ℕ) → is_within (unit_text unit ++ tail) ≡ true
  pub read : (tail : List ℕ) → part_found (unit_text unit ++ tail) ≡ Ok (unit ∷ [], tail)

pub unit_reads : (unit : ℕ) → unit < 2 ^ 16 → 0 < unit → UnitReads unit
unfolding part_found
unit_reads unit fits some =
    elim (went (is_literal unit)) [
      | inl h ↦ record { within = λ tail. rw h (goes_on unit tail (no_quote unit h)); read = λ tail. rw (h, h) refl }
      | inr h ↦ record { within = λ tail. rw h (goes_on 0x25 (hex_digit_at 0x1000 unit ∷ hex_digit_at 0x100 unit ∷ hex_digit_at 0x10 unit ∷ hex_digit_at 1 unit ∷ tail) refl); read = λ tail. rw (h, escape_read unit fits some) refl }
    ]

-- ---- names

within_some : (text : List ℕ) → is_within text ≡ true → 0 < length text
within_some [] e = absurd cc
within_some (byte ∷ text) e = omega arith

not_zero_unit : (unit : ℕ) → not (unit == 0) ≡ true → 0 < unit
not_zero_unit unit e = grind (arith, nat_tests)

text_some : (unit : ℕ) → 0 < length (unit_text unit)
text_some unit = elim (went (is_literal unit)) [
  | inl h ↦ rw h (omega arith)
  | inr h ↦ rw h (omega arith)
]

units_read : (units done tail : List ℕ) (n : ℕ) → AreUnits units → has_no_zero units ≡ true → length (flat_map unit_text units ++ 0x22 ∷ tail) ≤ n
    → parts_found is_within (λ before there. mapped (λ more. before ++ more) (part_found there)) n done (flat_map unit_text units ++ 0x22 ∷ tail) ≡ Ok (done ++ units, 0x22 ∷ tail)
units_read [] done tail zero are text enough = absurd (omega arith)
units_read [] done tail (suc n) are text enough = rw (append-nil done, ends_at tail) refl
units_read (unit ∷ units) done tail zero are text enough =
    absurd (
    let some = text_some unit in
    let both = length-append (unit_text unit) (flat_map unit_text units) in
    let whole = length-append (flat_map unit_text (unit ∷ units)) (0x22 ∷ tail) in
    omega (arith, some, both, whole, enough)
    )
units_read (unit ∷ units) done tail (suc n) are text enough =
    let parts = and_parts (not (unit == 0)) (has_no_zero units) text in
    let reads = unit_reads unit are.0 (not_zero_unit unit parts.0) in
    let rest = flat_map unit_text units ++ 0x22 ∷ tail in
    let regroup = append_assoc (unit_text unit) (flat_map unit_text units) (0x22 ∷ tail) in
    let sized = length-append (unit_text unit) rest in
    let some = text_some unit in
    let parted = rw regroup at enough in
    let fewer : length rest ≤ n = omega (arith, parted, sized, some) in
    rw (regroup, reads.within rest, reads.read rest)
    (units_read units (done ++ unit ∷ []) tail n are.1 parts.1 fewer ∙ ap (λ (xs : List ℕ). found xs (0x22 ∷ tail)) (append_assoc done (unit ∷ []) units))

name_read : (name rest : List ℕ) → AreUnits name → has_no_zero name ≡ true → is_name name ≡ true → name_found (0x22 ∷ (flat_map unit_text name ++ 0x22 ∷ []) ++ rest) ≡ Ok (name, rest)
unfolding name_found
name_read name rest are text is =
    let regroup = append_assoc (flat_map unit_text name) (0x22 ∷ []) rest in
    rw (regroup, units_read name [] rest (length (flat_map unit_text name ++ 0x22 ∷ rest)) are text (omega arith), is) refl

pub names_come_back : NamesComeBack
unfolding name_text
names_come_back name text rest are is e = by (is_name name) refl e
  where
    by : (test : Bool) → is_name name ≡ test → cond test (Some (0x22 ∷ (flat_map unit_text name ++ 0x22 ∷ []))) None ≡ Some text → name_found (text ++ rest) ≡ Ok (name, rest)
    by true holds same = let printed : 0x22 ∷ (flat_map unit_text name ++ 0x22 ∷ []) ≡ text = cc (same) in rw (sym printed) (name_read name rest are is holds)
    by false holds same = absurd cc
