-- What sd_condition_text prints of a value is parsed as the value.
use Rattle.std.proofs.Common.{Bool, List, Ok, Some, [], append_assoc, arith, codes, cond, false, inl, inr, pow-suc, refl, subst, suc, true, zero, ℕ, ◌*◌, ◌++◌, ◌+◌, ◌/◌, ◌%◌, ◌<◌, ◌^◌, ◌∷◌, ◌≡◌, ◌≤◌}
use Rattle.std.proofs.lemmas.Bool.{and_parts, eqb-true, le-ltb, leb-true, lt-ltb}
use Rattle.std.proofs.lemmas.Bool.Decides.{nat_tests}
use Rattle.sd_text.proofs.Parts.{went}
use Rattle.std.proofs.lemmas.Fmt.{digits_is_IsNumeral}
use Rattle.std.specs.Char.{digit_value, eq_ignore_ascii_case}
use Rattle.std.specs.Fmt.{digit_glyph, digits, digits_onto}
use Rattle.std.specs.Int.{w64}
use Rattle.std.specs.Prelude.{ℤ, pos, negsuc, nat_le, unsigned_abs, ◌&&◌, ◌==◌, FitsSigned}
use Rattle.std.specs.Str.Parse.{IsNumeral}
use Rattle.sd_data.proofs.Found.{held, some_is}
use Rattle.sd_condition.specs.declared.integer.Base.{Base}
use Rattle.sd_condition.specs.declared.integer.Base.TheVariants.{Octal, Decimal, Hexadecimal}
use Rattle.sd_condition.specs.declared.integer.Integer.{Integer}
use Rattle.sd_condition.specs.declared.integer.Sign.{Sign}
use Rattle.sd_condition.specs.declared.integer.Sign.TheVariants.{Plus, Minus, Omitted}
use Rattle.sd_condition.specs.declared.integer.Width.{Width}
use Rattle.sd_condition.specs.declared.integer.Width.TheVariants.{Int8, Int16, Int32, Int64}
use Rattle.sd_condition_parse.specs.Integer.{base, head_len, integer, limit, radix, sign, signed}
use Rattle.sd_condition_parse.specs.Laws.{IntegersComeBack, SidsComeBack}
use Rattle.sd_condition_parse.specs.Run.{run_len}
use Rattle.sd_condition_parse.specs.Value.{literal_sid}
use Rattle.sd_condition_parse.specs.declared.run.Class.TheVariants.{Plain}
use Rattle.sd_condition_text.specs.Attribute.{is_plain}
use Rattle.sd_condition_text.specs.Value.{integer_text, is_widest, number_text, sign_fits, sign_text}
use Rattle.sd_text.proofs.CanonSids.{number_read, sid_read}
use Rattle.sd_text.specs.Canon.{sid_canon}
use Rattle.sd_text.specs.Finding.{find}
use Rattle.sd_text.specs.Grammar.{begins, begins_digit, number}

-- ---- SIDs

pub sids_come_back : SidsComeBack
unfolding literal_sid
sids_come_back known s rest is =
    rw (append_assoc (sid_canon s) (codes ")") rest, sid_read known s (codes ")" ++ rest) is (record { no_digit = refl; no_dash = refl })) refl

-- ---- what follows an integer

plain_letter : (c : ℕ) → is_plain c ≡ false → (eq_ignore_ascii_case c 88 ≡ false) × (16 ≤ digit_value c)
plain_letter c e = (grind (arith, nat_tests), grind (arith, nat_tests))

-- no digit, and no x
pub record Ends (rest : List ℕ) : Type 0 where
  pub no_digit : (radix : ℕ) → radix ≤ 16 → begins_digit radix rest ≡ false
  pub no_x : begins rest (codes "X") ≡ false

no_first : (b : Bool) (n : ℕ) → cond b (1 + n) 0 ≡ 0 → b ≡ false
no_first true n e = absurd (omega arith)
no_first false n e = refl

ends : (rest : List ℕ) → run_len Plain rest ≡ 0 → Ends rest
ends [] e = record { no_digit = λ radix low. refl; no_x = refl }
ends (c ∷ rest) e =
    let none = no_first (is_plain c) (run_len Plain rest) e in
    let letter = plain_letter c none in
    let most = letter.1 in
    record { no_digit = λ radix low. le-ltb (digit_value c) radix (omega arith); no_x = letter.0 }

-- ---- the first digit

isn't_zero : (d : ℕ) → 49 ≤ d → d ≤ 57 → eq_ignore_ascii_case d 48 ≡ false
isn't_zero d low high = grind (arith, nat_tests)

isn't_plus : (d : ℕ) → 49 ≤ d → d ≤ 57 → eq_ignore_ascii_case d 43 ≡ false
isn't_plus d low high = grind (arith, nat_tests)

isn't_minus : (d : ℕ) → 49 ≤ d → d ≤ 57 → eq_ignore_ascii_case d 45 ≡ false
isn't_minus d low high = grind (arith, nat_tests)

not_x : (d : ℕ) → digit_value d < 8 → eq_ignore_ascii_case d 88 ≡ false
not_x d lt = grind (arith, nat_tests)

lead : (k n : ℕ) (acc : List ℕ) → 0 < n → n < 10 ^ k → (d : ℕ) × (ds : List ℕ) × (digits_onto k 10 false n acc ≡ d ∷ ds) × (49 ≤ d) × (d ≤ 57)
lead zero n acc some few = absurd (omega arith)
lead (suc k) n acc some few =
    elim (went (n / 10 == 0)) [
      | inl h ↦
          let none = eqb-true (n / 10) 0 h in
          let small : n < 10 = omega arith in
          let same : n % 10 ≡ n = omega arith in
          (48 + n, acc, rw (h, same, lt-ltb n 10 small) refl, omega arith, omega arith)
      | inr h ↦
          let more : 0 < n / 10 = some_tens n h in
          let power : 10 ^ suc k ≡ 10 ^ k * 10 = pow-suc 10 k in
          rw h (lead k (n / 10) (digit_glyph false (n % 10) ∷ acc) more (omega arith))
    ]
  where
    some_tens : (n : ℕ) → (n / 10 == 0) ≡ false → 0 < n / 10
    some_tens n h = grind (arith, nat_tests)

-- a decimal number's text has no leading zero
decimal_base : (n : ℕ) (rest : List ℕ) → n < 2 ^ 64 → Ends rest → base (digits 10 false n ++ rest) ≡ Decimal
unfolding digits
decimal_base zero [] few after = refl
decimal_base zero (c ∷ rest) few after = rw (after.no_x, after.no_digit 10 (omega arith)) refl
decimal_base (suc n) rest few after =
    let first = lead 64 (suc n) [] (omega arith) (omega arith) in
    rw first.2 (not_zero first.0 (first.1 ++ rest) first.3 first.4)
  where
    not_zero : (d : ℕ) (ds : List ℕ) → 49 ≤ d → d ≤ 57 → base (d ∷ ds) ≡ Decimal
    not_zero d [] low high = rw (isn't_zero d low high) refl
    not_zero d (e ∷ ds) low high = rw (isn't_zero d low high) refl

decimal_sign : (n : ℕ) (rest : List ℕ) → n < 2 ^ 64 → sign (digits 10 false n ++ rest) ≡ Ok (Omitted, digits 10 false n ++ rest)
unfolding digits
decimal_sign zero rest few = refl
decimal_sign (suc n) rest few =
    let first = lead 64 (suc n) [] (omega arith) (omega arith) in
    rw first.2 (no_sign first.0 (first.1 ++ rest) first.3 first.4)
  where
    no_sign : (d : ℕ) (ds : List ℕ) → 49 ≤ d → d ≤ 57 → sign (d ∷ ds) ≡ Ok (Omitted, d ∷ ds)
    no_sign d ds low high = rw (isn't_plus d low high, isn't_minus d low high) refl

octal_base : (ds rest : List ℕ) → IsNumeral 8 ds → base (48 ∷ ds ++ rest) ≡ Octal
octal_base [] rest n = absurd (let some = n.0 in omega arith)
octal_base (d ∷ ds) rest n =
    let below : digit_value d < 8 = n.1.0 in
    rw (not_x d below, lt-ltb (digit_value d) 10 (omega arith)) refl

-- ---- numbers

base_is : (b : Base) (n : ℕ) (rest : List ℕ) → n < 2 ^ 64 → Ends rest → base (number_text b n ++ rest) ≡ b
base_is Octal n rest few after = octal_base (digits 8 false n) rest (digits_is_IsNumeral 8 false (omega arith) (omega arith) n (omega arith)).0
base_is Decimal n rest few after = decimal_base n rest few after
base_is Hexadecimal n rest few after = refl

number_is : (b : Base) (most n : ℕ) (rest : List ℕ) → n < most → n < 2 ^ 64 → Ends rest → find (number (head_len b) (radix b) most) (number_text b n ++ rest) ≡ Ok (n, rest)
number_is Octal most n rest lt few after =
    let numeral = digits_is_IsNumeral 8 false (omega arith) (omega arith) n (omega arith) in
    number_read (codes "0") 8 most n (digits 8 false n) rest numeral.0 numeral.1 lt (after.no_digit 8 (omega arith)) refl
number_is Decimal most n rest lt few after =
    let numeral = digits_is_IsNumeral 10 false (omega arith) (omega arith) n (omega arith) in
    number_read [] 10 most n (digits 10 false n) rest numeral.0 numeral.1 lt (after.no_digit 10 (omega arith)) refl
number_is Hexadecimal most n rest lt few after =
    let numeral = digits_is_IsNumeral 16 false (omega arith) (omega arith) n (omega arith) in
    number_read (codes "0x") 16 most n (digits 16 false n) rest numeral.0 numeral.1 lt (after.no_digit 16 (omega arith)) refl

sign_is : (s : Sign) (b : Base) (n : ℕ) (rest : List ℕ) → n < 2 ^ 64 → sign ((sign_text s ++ number_text b n) ++ rest) ≡ Ok (s, number_text b n ++ rest)
sign_is Plus b n rest few = refl
sign_is Minus b n rest few = refl
sign_is Omitted Octal n rest few = refl
sign_is Omitted Decimal n rest few = decimal_sign n rest few
sign_is Omitted Hexadecimal n rest few = refl

-- ---- values

above_zero : (n : ℕ) → nat_le (suc n) 0 ≡ true → ⊥
above_zero n e = let le = leb-true (suc n) 0 e in omega arith

value_is : (s : Sign) (v : ℤ) → sign_fits s v ≡ true → signed s (unsigned_abs v) ≡ v
value_is Plus (pos n) e = refl
value_is Plus (negsuc n) e = absurd cc
value_is Minus (pos zero) e = refl
value_is Minus (pos (suc n)) e = absurd (above_zero n e)
value_is Minus (negsuc n) e = refl
value_is Omitted (pos n) e = refl
value_is Omitted (negsuc n) e = absurd cc

within : (s : Sign) (v : ℤ) → sign_fits s v ≡ true → FitsSigned w64 v → unsigned_abs v < limit s
within Plus (pos n) e fits = omega (arith, fits)
within Plus (negsuc n) e fits = absurd cc
within Minus (pos zero) e fits = omega arith
within Minus (pos (suc n)) e fits = absurd (above_zero n e)
within Minus (negsuc n) e fits = omega (arith, fits)
within Omitted (pos n) e fits = omega (arith, fits)
within Omitted (negsuc n) e fits = absurd cc

below : (s : Sign) (n : ℕ) → n < limit s → n < 2 ^ 64
below Plus n lt = omega arith
below Minus n lt = omega arith
below Omitted n lt = omega arith

width_is : (w : Width) → is_widest w ≡ true → Int64 ≡ w
width_is Int8 e = absurd cc
width_is Int16 e = absurd cc
width_is Int32 e = absurd cc
width_is Int64 e = refl

-- ---- integers

parsed : (i : Integer) (rest : List ℕ) → is_widest i.width ≡ true → sign_fits i.sign i.value ≡ true → FitsSigned w64 i.value → Ends rest
    → integer ((sign_text i.sign ++ number_text i.base (unsigned_abs i.value)) ++ rest) ≡ Ok (i, rest)
unfolding integer
parsed i rest widest fits_sign fits after =
    let n = unsigned_abs i.value in
    let lt = within i.sign i.value fits_sign fits in
    let few = below i.sign n lt in
    rw (sign_is i.sign i.base n rest few, base_is i.base n rest few after, number_is i.base (limit i.sign) n rest lt few after, value_is i.sign i.value fits_sign, width_is i.width widest) refl

pub integers_come_back : IntegersComeBack
unfolding integer_text
integers_come_back i text rest fits e after =
    let tests = held (is_widest i.width && sign_fits i.sign i.value) (Some (sign_text i.sign ++ number_text i.base (unsigned_abs i.value))) text e in
    let both = and_parts (is_widest i.width) (sign_fits i.sign i.value) tests.0 in
    let same = some_is (sign_text i.sign ++ number_text i.base (unsigned_abs i.value)) text tests.1 in
    subst (λ t. integer (t ++ rest) ≡ Ok (i, rest)) same (parsed i rest both.0 both.1 fits (ends rest after))
