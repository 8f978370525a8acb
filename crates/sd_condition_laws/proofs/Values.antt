-- The text of a value is parsed as the value.
use Rattle.std.proofs.Common.{List, Ok, Some, [], arith, codes, false, refl, subst, sym, ℕ, ◌++◌, ◌<◌, ◌^◌, ◌∙◌, ◌∷◌, ◌≡◌, ◌≤◌}
use Rattle.std.proofs.lemmas.Bool.{ne_eqb}
use Rattle.std.proofs.lemmas.Bool.Decides.{nat_tests}
use Rattle.std.proofs.lemmas.Fmt.{digits_is_IsNumeral}
use Rattle.std.specs.Char.{digit_value, eq_ignore_ascii_case}
use Rattle.std.specs.Fmt.{digits}
use Rattle.std.specs.Int.{w64}
use Rattle.std.specs.List.{prefix_len}
use Rattle.std.specs.Prelude.{ℤ, pos, negsuc, unsigned_abs, ◌&&◌, ◌==◌, FitsSigned}
use Rattle.std.specs.Str.Parse.{IsNumeral}
use Rattle.sd_data.proofs.Found.{held, some_is}
use Rattle.sd_condition.specs.Laws.{IsValue}
use Rattle.sd_condition.specs.declared.integer.Base.{Base}
use Rattle.sd_condition.specs.declared.integer.Base.TheVariants.{Octal, Decimal, Hexadecimal}
use Rattle.sd_condition.specs.declared.integer.Integer.{Integer}
use Rattle.sd_condition.specs.declared.integer.Sign.{Sign}
use Rattle.sd_condition.specs.declared.integer.Sign.TheVariants.{Plus, Minus, Omitted}
use Rattle.sd_condition.specs.declared.value.Value.{Value}
use Rattle.sd_condition.specs.declared.value.Value.TheVariants as values
use Rattle.sd_condition_laws.proofs.Texts.{texts_come_back}
use Rattle.sd_condition_parse.proofs.Printed.{integers_come_back, sids_come_back}
use Rattle.sd_condition_parse.proofs.PrintedRuns.{octets_come_back}
use Rattle.sd_condition_parse.specs.Integer.{integer}
use Rattle.sd_condition_parse.specs.Run.{is_digit, is_space}
use Rattle.sd_condition_parse.specs.Value.{value}
use Rattle.sd_condition_text.specs.Attribute.{is_plain}
use Rattle.sd_condition_text.specs.Value.{integer_text, is_widest, number_text, octets_text, quoted_text, sid_text, sign_fits, sign_text, value_text}
use Rattle.sd_text.specs.Grammar.{begins}
use Rattle.sd_text.specs.declared.alias.Aliases.{Aliases}

-- neither more of a number nor more octets
pub record ValueEnds (rest : List ℕ) : Type 0 where
  pub plain : prefix_len is_plain rest ≡ 0
  pub digit : prefix_len is_digit rest ≡ 0

-- ---- the first byte of a value's text: a quote, `#`, an `S`, a sign or a digit

pub record Head (text : List ℕ) : Type 0 where
  pub first : ℕ
  pub others : List ℕ
  pub is : text ≡ first ∷ others
  pub low : 34 ≤ first
  pub high : first ≤ 83
  pub no_at : (first == 64) ≡ false

head_tests : (c : ℕ) → 34 ≤ c → c ≤ 83 → (c == 64) ≡ false
    → (is_space c ≡ false) × (eq_ignore_ascii_case c 123 ≡ false) × (eq_ignore_ascii_case c 125 ≡ false) × (eq_ignore_ascii_case c 64 ≡ false)
head_tests c low high no_at = (grind (arith, nat_tests), grind (arith, nat_tests), grind (arith, nat_tests), grind (arith, nat_tests))

-- so a text that begins with it begins with no space and with no other mark
pub record NoMark (text : List ℕ) : Type 0 where
  pub no_space : prefix_len is_space text ≡ 0
  pub no_list : begins text (codes "{") ≡ false
  pub no_end : begins text (codes "}") ≡ false
  pub no_attribute : begins text (codes "@") ≡ false

pub no_mark : (text rest : List ℕ) → Head text → NoMark (text ++ rest)
no_mark text rest head =
    let tests = head_tests head.first head.low head.high head.no_at in
    subst (λ t. NoMark (t ++ rest)) (sym head.is) (record { no_space = rw tests.0 refl; no_list = tests.1; no_end = tests.2; no_attribute = tests.3 })

-- ---- integers

number_head : (b : Base) (n : ℕ) → n < 2 ^ 64 → (c : ℕ) × (more : List ℕ) × (number_text b n ≡ c ∷ more) × (48 ≤ c) × (c ≤ 57)
number_head Octal n few = (48, digits 8 false n, refl, omega arith, omega arith)
number_head Hexadecimal n few = (48, 120 ∷ digits 16 false n, refl, omega arith, omega arith)
number_head Decimal n few = by_digits (digits 10 false n) (digits_is_IsNumeral 10 false (omega arith) (omega arith) n (omega arith)).0
  where
    a_digit : (c : ℕ) → digit_value c < 10 → (48 ≤ c) × (c ≤ 57)
    a_digit c lt = (grind (arith, nat_tests), grind (arith, nat_tests))

    by_digits : (ds : List ℕ) → IsNumeral 10 ds → (c : ℕ) × (more : List ℕ) × (ds ≡ c ∷ more) × (48 ≤ c) × (c ≤ 57)
    by_digits [] n = absurd (let some = n.0 in omega arith)
    by_digits (d ∷ ds) n = let is = a_digit d n.1.0 in (d, ds, refl, is.0, is.1)

few_of : (v : ℤ) → FitsSigned w64 v → unsigned_abs v < 2 ^ 64
few_of (pos n) fits = omega (arith, fits)
few_of (negsuc n) fits = omega (arith, fits)

signed_head : (s : Sign) (b : Base) (n : ℕ) → n < 2 ^ 64 → (c : ℕ) × (more : List ℕ) × (sign_text s ++ number_text b n ≡ c ∷ more) × (43 ≤ c) × (c ≤ 57)
signed_head Plus b n few = (43, number_text b n, refl, omega arith, omega arith)
signed_head Minus b n few = (45, number_text b n, refl, omega arith, omega arith)
signed_head Omitted b n few = let first = number_head b n few in (first.0, first.1, first.2, omega arith, first.4)

integer_head : (i : Integer) (text : List ℕ) → FitsSigned w64 i.value → integer_text i ≡ Some text → (c : ℕ) × (more : List ℕ) × (text ≡ c ∷ more) × (43 ≤ c) × (c ≤ 57)
unfolding integer_text
integer_head i text fits e =
    let found = held (is_widest i.width && sign_fits i.sign i.value) (Some (sign_text i.sign ++ number_text i.base (unsigned_abs i.value))) text e in
    let head = signed_head i.sign i.base (unsigned_abs i.value) (few_of i.value fits) in
    (head.0, head.1, sym (some_is (sign_text i.sign ++ number_text i.base (unsigned_abs i.value)) text found.1) ∙ head.2, head.3, head.4)

no_other_value : (c : ℕ) → 43 ≤ c → c ≤ 57 → (eq_ignore_ascii_case c 34 ≡ false) × (eq_ignore_ascii_case c 35 ≡ false) × (eq_ignore_ascii_case c 83 ≡ false)
no_other_value c low high = (grind (arith, nat_tests), grind (arith, nat_tests), grind (arith, nat_tests))

-- ---- values

-- a value's text, before what follows it, is parsed as the value
pub record ValueRead (known : Aliases) (v : Value) (text rest : List ℕ) : Type 0 where
  pub read : value known (text ++ rest) ≡ Ok (v, rest)
  pub head : Head text

integer_read : (known : Aliases) (i : Integer) (text rest : List ℕ) → FitsSigned w64 i.value → integer_text i ≡ Some text → ValueEnds rest → ValueRead known (values.Integer i) text rest
unfolding value
integer_read known i text rest fits e ends =
    let head = integer_head i text fits e in
    let none = no_other_value head.0 head.3 head.4 in
    let back = integers_come_back i text rest fits e ends.plain in
    let at : integer (head.0 ∷ (head.1 ++ rest)) ≡ Ok (i, rest) = subst (λ t. integer (t ++ rest) ≡ Ok (i, rest)) head.2 back in
    record {
      read = subst (λ t. value known (t ++ rest) ≡ Ok (values.Integer i, rest)) (sym head.2) (rw (none.0, none.1, none.2, at) refl);
      head = record { first = head.0; others = head.1; is = head.2; low = omega arith; high = omega arith; no_at = ne_eqb head.0 64 (λ (h : head.0 ≡ 64). omega arith) };
    }

quoted_head : (units text : List ℕ) → quoted_text units ≡ Some text → (more : List ℕ) × (text ≡ 34 ∷ more)
unfolding quoted_text
quoted_head units text e =
    let found = held _ _ text e in
    (_, sym (some_is _ text found.1))

pub values_read : (known : Aliases) (v : Value) (text rest : List ℕ) → IsValue v → value_text v ≡ Some text → ValueEnds rest → ValueRead known v text rest
unfolding value_text value
values_read known (values.Integer i) text rest is e ends = integer_read known i text rest is e ends
values_read known (values.Text units) text rest is e ends =
    let head = quoted_head units text e in
    let back = rw head.1 at (texts_come_back units text rest is e) in
    record {
      read = subst (λ t. value known (t ++ rest) ≡ Ok (values.Text units, rest)) (sym head.1) (rw back refl);
      head = record { first = 34; others = head.0; is = head.1; low = omega arith; high = omega arith; no_at = refl };
    }
values_read known (values.Octets list) text rest is e ends =
    let same = some_is (octets_text list) text e in
    subst (λ t. ValueRead known (values.Octets list) t rest) same (record {
      read = rw (octets_come_back list rest is ends.digit) refl;
      head = record { first = 35; others = _; is = refl; low = omega arith; high = omega arith; no_at = refl };
    })
values_read known (values.Sid s) text rest is e ends =
    let same = some_is (sid_text s) text e in
    subst (λ t. ValueRead known (values.Sid s) t rest) same (record {
      read = rw (sids_come_back known s rest is) refl;
      head = record { first = 83; others = _; is = refl; low = omega arith; high = omega arith; no_at = refl };
    })

-- whatever follows it, a value's text begins with such a byte
pub value_head : (known : Aliases) (v : Value) (text : List ℕ) → IsValue v → value_text v ≡ Some text → Head text
value_head known v text is e = (values_read known v text (codes ")") is e (record { plain = refl; digit = refl })).head
