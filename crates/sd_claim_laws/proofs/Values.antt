-- The printed values of a claim are parsed as these values.
use Rattle.std.proofs.Common.{List, None, Ok, Option, Some, [], append-nil, append_assoc, arith, ap, false, inl, inr, length, refl, rules, suc, sym, true, zero, ℕ, ◌++◌, ◌-◌, ◌/◌, ◌%◌, ◌<◌, ◌^◌, ◌∙◌, ◌∷◌, ◌≡◌, ◌≤◌}
use Rattle.std.specs.Prelude.{Bool, codes, nat_le, negsuc, not, pos, ◌&&◌, ℤ}
use Rattle.std.specs.Char.{digit_value}
use Rattle.std.specs.Fmt.{decimal, signed_decimal, ◌++?◌}
use Rattle.std.specs.Char.Utf16.{has_unpaired_surrogate, utf16_lossy_chars}
use Rattle.std.specs.List.{AllByRecursion, list_all, list_any}
use Rattle.std.specs.Str.{encode_utf8_all}
use Rattle.sd_condition_text.specs.Value.{is_unquotable, quoted_text}
use Rattle.std.specs.Option.{option_map}
use Rattle.std.specs.Str.Parse.{IsNumeral}
use Rattle.std.proofs.lemmas.Bool.{and_parts, eqb-true, leb-true}
use Rattle.std.proofs.lemmas.Bool.Decides.{nat_tests}
use Rattle.std.proofs.lemmas.Fmt.{decimal_is_IsNumeral}
use Rattle.std.proofs.lemmas.List.{length-append}
use Rattle.hex.specs.Hex.{encode_with, upper_digits}
use Rattle.std.specs.Prelude.{slice_index}
use Rattle.sd_claim.specs.Laws.{IsValue}
use Rattle.sd_data.specs.Writing.{AreOctets}
use Rattle.sd_claim.specs.Table.{same_type, type_number, type_of, type_read}
use Rattle.sd_claim.specs.Writing.{is_value, is_value_of}
use Rattle.sd_claim.specs.declared.value.Value.{Value}
use Rattle.sd_claim.specs.declared.value.Value.TheVariants as values
use Rattle.sd_claim.specs.declared.value_type.ValueType.{ValueType}
use Rattle.sd_claim.specs.declared.value_type.ValueType.TheVariants as types
use Rattle.sd_sid.specs.Sid.{SidValue}
use Rattle.sd_text.proofs.Parts.{chosen, found}
use Rattle.sd_text.proofs.Tables.{alias_row}
use Rattle.sd_text.specs.Alias.{alias_in, aliases}
use Rattle.sd_text.specs.Canon.{full_canon, sid_canon}
use Rattle.sd_text.specs.Finding.{Found, behind_part}
use Rattle.sd_text.specs.Grammar.{Name, begins}
use Rattle.sd_text.specs.declared.alias.Aliases.{Aliases}
use Rattle.sd_claim_text.specs.Parser.{parts_found}
use Rattle.sd_claim_text.specs.Text.{values_text}
use Rattle.sd_claim_text.specs.Value.{after_space, further_found, is_space, octets_text, sid_of, value_found, value_text, values_found}
use Rattle.sd_claim_laws.proofs.Closing.{Closing, closed, comma, parenthesis}
use Rattle.sd_claim_laws.proofs.Numbers.{integer_read, unsigned_read}
use Rattle.sd_claim_laws.proofs.Octets.{is_digit, octets_read}
use Rattle.sd_claim_laws.proofs.Quoted.{quoted_back}
use Rattle.sd_claim_laws.proofs.Sids.{sid_back}

-- ---- a value

-- two texts, one after the other
pub record AreBoth (a b : Option (List ℕ)) (text : List ℕ) : Type 0 where
  pub first : List ℕ
  pub second : List ℕ
  pub is_first : a ≡ Some first
  pub is_second : b ≡ Some second
  pub whole : first ++ second ≡ text

pub both : (a b : Option (List ℕ)) (text : List ℕ) → (a ++? b) ≡ Some text → AreBoth a b text
both None b text e = absurd cc
both (Some x) None text e = absurd cc
both (Some x) (Some y) text e = record { first = x; second = y; is_first = refl; is_second = refl; whole = cc (e) }

value_back : (known : Aliases) (v : Value) (text : List ℕ) (c : Closing) (rest : List ℕ) → IsValue v → value_text v ≡ Some text → value_found (type_of v) known (text ++ closed c rest) ≡ Ok (v, closed c rest)
unfolding value_text value_found
value_back known (values.Integer z) text c rest is e = let same : signed_decimal z ≡ text = cc (e) in rw (sym same, integer_read z c rest is) refl
value_back known (values.Unsigned n) text c rest is e = let same : decimal n ≡ text = cc (e) in rw (sym same, unsigned_read (2 ^ 64 - 1) n c rest (omega arith) is) refl
value_back known (values.Text units) text c rest is e = rw (quoted_back units text (closed c rest) is e) refl
value_back known (values.Sid octets) text c rest is e = rw (sid_back known octets text c rest e) refl
value_back known (values.Boolean n) text c rest is e =
    elim (chosen (nat_le n 1) _ _ _ e) [
      | inl h ↦ let same : decimal n ≡ text = cc (h.1) in rw (sym same, unsigned_read 1 n c rest (leb-true n 1 h.0) is) refl
      | inr h ↦ absurd (let no = h.1 in cc)
    ]
value_back known (values.Octets octets) text c rest is e = let same : octets_text octets ≡ text = cc (e) in rw (sym same, octets_read octets c rest is) refl

-- ---- no text of a value begins with white space

IsHere : List ℕ → Type 0
IsHere text = (rest : List ℕ) → after_space (text ++ rest) ≡ text ++ rest

no_space : (d : ℕ) → digit_value d < 16 → is_space d ≡ false
no_space d lt = grind (arith, nat_tests)

first_here : (d : ℕ) (text : List ℕ) → is_space d ≡ false → IsHere (d ∷ text)
unfolding IsHere
first_here d text other rest = rw other refl

digits_here : (ds : List ℕ) → IsNumeral 10 ds → IsHere ds
digits_here [] numeral = absurd (let some = numeral.0 in omega arith)
digits_here (d ∷ ds) numeral = first_here d ds (no_space d (let low = numeral.1.0 in omega arith))

signed_here : (z : ℤ) → IsValue (values.Integer z) → IsHere (signed_decimal z)
unfolding IsHere
signed_here (pos n) is rest = digits_here (decimal n) (decimal_is_IsNumeral n (omega arith)).0 rest
signed_here (negsuc n) is rest = refl

octets_here : (octets : List ℕ) → AreOctets octets → IsHere (octets_text octets)
unfolding IsHere encode_with
octets_here [] are rest = refl
octets_here (o ∷ octets) are rest = let fits = are.0 in first_here (slice_index upper_digits (o / 16)) (slice_index upper_digits (o % 16) ∷ encode_with upper_digits octets) (no_space (slice_index upper_digits (o / 16)) (is_digit (o / 16) (omega arith))) rest

alias_rows : AllByRecursion (λ (name : Name SidValue). IsHere name.letters) aliases
unfolding aliases IsHere
alias_rows = search rules

sid_here : (s : SidValue) → IsHere (sid_canon s)
unfolding sid_canon full_canon IsHere
sid_here s rest = by_alias (alias_in aliases s) refl
  where
    by_alias : (found : Option (List ℕ)) → alias_in aliases s ≡ found → after_space (sid_canon s ++ rest) ≡ sid_canon s ++ rest
    by_alias None e = rw e refl
    by_alias (Some letters) e = let row = alias_row (λ (name : Name SidValue). IsHere name.letters) aliases s letters alias_rows e in rw (e, sym row.2) (row.1 rest)

-- ---- each value

value_here : (v : Value) (text : List ℕ) → IsValue v → value_text v ≡ Some text → IsHere text
unfolding value_text quoted_text IsHere
value_here (values.Integer z) text is e rest = let same : signed_decimal z ≡ text = cc (e) in rw (sym same) (signed_here z is rest)
value_here (values.Unsigned n) text is e rest = let same : decimal n ≡ text = cc (e) in rw (sym same) (digits_here (decimal n) (decimal_is_IsNumeral n is).0 rest)
value_here (values.Text units) text is e rest =
    elim (chosen (not (has_unpaired_surrogate units) && not (list_any is_unquotable units)) _ _ _ e) [
      | inl h ↦ let same : 0x22 ∷ (encode_utf8_all (utf16_lossy_chars units) ++ 0x22 ∷ []) ≡ text = cc (h.1) in rw (sym same) refl
      | inr h ↦ absurd (let no = h.1 in cc)
    ]
value_here (values.Sid octets) text is e rest = by_sid (sid_of octets) e
  where
    by_sid : (o : Option SidValue) → option_map sid_canon o ≡ Some text → after_space (text ++ rest) ≡ text ++ rest
    by_sid None printed = absurd cc
    by_sid (Some s) printed = let same : sid_canon s ≡ text = cc (printed) in rw (sym same) (sid_here s rest)
value_here (values.Boolean n) text is e rest =
    elim (chosen (nat_le n 1) _ _ _ e) [
      | inl h ↦ let same : decimal n ≡ text = cc (h.1) in rw (sym same) (digits_here (decimal n) (decimal_is_IsNumeral n is).0 rest)
      | inr h ↦ absurd (let no = h.1 in cc)
    ]
value_here (values.Octets octets) text is e rest = let same : octets_text octets ≡ text = cc (e) in rw (sym same) (octets_here octets is rest)

-- ---- all values

-- each type has a number of its own
type_again : (t : ValueType) → type_read (type_number t) ≡ Some t
type_again types.Integer = refl
type_again types.Unsigned = refl
type_again types.Text = refl
type_again types.Sid = refl
type_again types.Boolean = refl
type_again types.Octets = refl

same_type_is : (a b : ValueType) → same_type a b ≡ true → a ≡ b
same_type_is a b same =
    let number = eqb-true (type_number a) (type_number b) same in
    let read : Some a ≡ Some b = sym (type_again a) ∙ ap type_read number ∙ type_again b in
    cc (read)

here : (c : Closing) (rest : List ℕ) → after_space (closed c rest) ≡ closed c rest
here comma rest = refl
here parenthesis rest = refl

further_read : (known : Aliases) (before : List Value) (v : Value) (text : List ℕ) (c : Closing) (rest : List ℕ) → IsValue v → value_text v ≡ Some text → further_found (type_of v) known before (44 ∷ (text ++ closed c rest)) ≡ Ok (before ++ v ∷ [], closed c rest)
unfolding further_found IsHere
further_read known before v text c rest is printed = rw (value_here v text is printed (closed c rest), value_back known v text c rest is printed, here c rest) refl

-- what stands behind a value
pub record Follows (text rest : List ℕ) : Type 0 where
  pub closing : Closing
  pub behind : List ℕ
  pub same : text ++ 41 ∷ rest ≡ closed closing behind

-- the parts of the text of values
pub record HasParts (v : Value) (vs : List Value) (text : List ℕ) : Type 0 where
  pub first : List ℕ
  pub others : List ℕ
  pub is_first : value_text v ≡ Some first
  pub are_others : values_text vs ≡ Some others
  pub whole : 44 ∷ (first ++ others) ≡ text

with_comma : (first second text : List ℕ) → codes "," ≡ first → first ++ second ≡ text → 44 ∷ second ≡ text
with_comma first second text is whole = ap (λ (l : List ℕ). l ++ second) is ∙ whole

parts_of : (v : Value) (vs : List Value) (text : List ℕ) → values_text (v ∷ vs) ≡ Some text → HasParts v vs text
parts_of v vs text e =
    let outer = both (Some (codes ",")) (value_text v ++? values_text vs) text e in
    let inner = both (value_text v) (values_text vs) outer.second outer.is_second in
    let comma_first : codes "," ≡ outer.first = cc (outer.is_first) in
    let from : 44 ∷ outer.second ≡ text = with_comma outer.first outer.second text comma_first outer.whole in
    record { first = inner.first; others = inner.second; is_first = inner.is_first; are_others = inner.is_second; whole = ap (λ (l : List ℕ). 44 ∷ l) inner.whole ∙ from }

pub follows : (vs : List Value) (text rest : List ℕ) → values_text vs ≡ Some text → Follows text rest
follows [] text rest e = let same : [] ≡ text = cc (e) in record { closing = parenthesis; behind = rest; same = ap (λ (l : List ℕ). l ++ 41 ∷ rest) (sym same) }
follows (v ∷ vs) text rest e =
    let parts = parts_of v vs text e in
    record { closing = comma; behind = (parts.first ++ parts.others) ++ 41 ∷ rest; same = ap (λ (l : List ℕ). l ++ 41 ∷ rest) (sym parts.whole) }

one_read : (known : Aliases) (value_type : ValueType) (before : List Value) (v : Value) (text after : List ℕ) (c : Closing) (rest : List ℕ) → type_of v ≡ value_type → after ≡ closed c rest → IsValue v → value_text v ≡ Some text
    → further_found value_type known before (44 ∷ (text ++ after)) ≡ Ok (before ++ v ∷ [], after)
one_read known value_type before v text after c rest is same are printed = rw (sym is, same) (further_read known before v text c rest are printed)

abbrev goes_on : List ℕ → Bool
goes_on there = begins there (codes ",")

values_again : (known : Aliases) (value_type : ValueType) (n : ℕ) (before vs : List Value) (text rest : List ℕ) → AllByRecursion IsValue vs → list_all (is_value_of value_type) vs ≡ true → values_text vs ≡ Some text
    → length (text ++ 41 ∷ rest) ≤ n → parts_found goes_on (further_found value_type known) n before (text ++ 41 ∷ rest) ≡ Ok (before ++ vs, 41 ∷ rest)
values_again known value_type zero before [] text rest are sound e enough = let same : [] ≡ text = cc (e) in rw (sym same, append-nil before) refl
values_again known value_type (suc n) before [] text rest are sound e enough = let same : [] ≡ text = cc (e) in rw (sym same, append-nil before) refl
values_again known value_type zero before (v ∷ vs) text rest are sound e enough = absurd (omega (arith, length-append text (41 ∷ rest), enough))
values_again known value_type (suc n) before (v ∷ vs) text rest are sound e enough =
    let parts = parts_of v vs text e in
    let later = follows vs parts.others rest parts.are_others in
    let whole : 44 ∷ (parts.first ++ (parts.others ++ 41 ∷ rest)) ≡ text ++ 41 ∷ rest =
    ap (λ (l : List ℕ). 44 ∷ l) (sym (append_assoc parts.first parts.others (41 ∷ rest))) ∙ ap (λ (l : List ℕ). l ++ 41 ∷ rest) parts.whole in
    let tests = and_parts (is_value_of value_type v) (list_all (is_value_of value_type) vs) sound in
    let this = and_parts (same_type (type_of v) value_type) (is_value v) tests.0 in
    let one : further_found value_type known before (44 ∷ (parts.first ++ (parts.others ++ 41 ∷ rest))) ≡ Ok (before ++ v ∷ [], parts.others ++ 41 ∷ rest) =
    one_read known value_type before v parts.first (parts.others ++ 41 ∷ rest) later.closing later.behind (same_type_is (type_of v) value_type this.0) later.same are.0 parts.is_first in
    let sized = ap length whole in
    let parted = length-append parts.first (parts.others ++ 41 ∷ rest) in
    let fewer : length (parts.others ++ 41 ∷ rest) ≤ n = omega (arith, sized, parted, enough) in
    ap (λ (l : List ℕ). parts_found goes_on (further_found value_type known) (suc n) before l) (sym whole)
    ∙ ap (λ (r : Found (List Value)). behind_part r (λ next after. parts_found goes_on (further_found value_type known) n next after)) one
    ∙ values_again known value_type n (before ++ v ∷ []) vs parts.others rest are.1 tests.1 parts.are_others fewer
    ∙ ap (λ (all : List Value). found all (41 ∷ rest)) (append_assoc before (v ∷ []) vs)

pub values_back : (known : Aliases) (value_type : ValueType) (vs : List Value) (text rest : List ℕ) → AllByRecursion IsValue vs → list_all (is_value_of value_type) vs ≡ true → values_text vs ≡ Some text
    → values_found value_type known (text ++ 41 ∷ rest) ≡ Ok (vs, 41 ∷ rest)
unfolding values_found
values_back known value_type vs text rest are sound e = values_again known value_type (length (text ++ 41 ∷ rest)) [] vs text rest are sound e (omega arith)
