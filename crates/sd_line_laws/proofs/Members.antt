-- Members of an object are parsed from the left: a name up to a quote, a number up to a byte that is no digit, a string
-- and an array up to what closes them. So different members have different texts.
use Rattle.sd_line_laws.proofs.Cited.{All, AllDigits, All-head, All-tail, List, [], ap, append_assoc, arith, codes, decimal, decimal_injective, decimal_is_IsNumeral, digit_value, flat_map, length, refl, sym, ℕ, ◌++◌, ◌<◌, ◌^◌, ◌∙◌, ◌∷◌, ◌≡◌, ◌≢◌, ◌≤◌, ⊤}
use Rattle.sd_line_laws.proofs.Strings.{one_string, quoted}
use Rattle.sd_line.specs.Json.{json_string, named}
use Rattle.sd_line.specs.Json.{strings as array}
use Rattle.sd_line_laws.specs.Laws.{IsPlain, Said}
use Rattle.sd_line_laws.specs.Laws.Said.{Number, String, Strings}

-- ---- names and numbers

-- a name ends at a quote
pub one_name : (a b x y : List ℕ) → IsPlain a → IsPlain b → a ++ 34 ∷ x ≡ b ++ 34 ∷ y → (a ≡ b) × (x ≡ y)
one_name [] [] x y plain other same = (refl, cc (same))
one_name [] (d ∷ b) x y plain other same = absurd (All-head (λ c. c ≢ 34) d b other (cc (same)))
one_name (c ∷ a) [] x y plain other same = absurd (All-head (λ c. c ≢ 34) c a plain (cc (same)))
one_name (c ∷ a) (d ∷ b) x y plain other same =
    let first : c ≡ d = cc (same) in
    let rest = one_name a b x y (All-tail (λ c. c ≢ 34) c a plain) (All-tail (λ c. c ≢ 34) d b other) (cc (same)) in
    (rw (first, rest.0) refl, rest.1)

-- what follows a value begins with no digit
abbrev Ends : List ℕ → Type 0
Ends [] = ⊥
Ends (c ∷ rest) = 10 ≤ digit_value c

-- a number ends there
one_number : (a b x y : List ℕ) → AllDigits 10 a → AllDigits 10 b → Ends x → Ends y → a ++ x ≡ b ++ y → (a ≡ b) × (x ≡ y)
one_number [] [] x y digits other ends ends_too same = (refl, same)
one_number [] (d ∷ b) [] y digits other ends ends_too same = absurd ends
one_number [] (d ∷ b) (c ∷ x) y digits other ends ends_too same =
    absurd (let e : c ≡ d = cc (same) in let low : digit_value c < 10 = rw e other.0 in omega arith)
one_number (c ∷ a) [] x [] digits other ends ends_too same = absurd ends_too
one_number (c ∷ a) [] x (d ∷ y) digits other ends ends_too same =
    absurd (let e : d ≡ c = cc (same) in let low : digit_value d < 10 = rw e digits.0 in omega arith)
one_number (c ∷ a) (d ∷ b) x y digits other ends ends_too same =
    let first : c ≡ d = cc (same) in
    let rest = one_number a b x y digits.1 other.1 ends ends_too (cc (same)) in
    (rw (first, rest.0) refl, rest.1)

-- ---- texts, each after a comma

module _ {A : Type 0} (text : A → List ℕ) (P : A → Type 0)
    (one : (a b : A) (x y : List ℕ) → P a → P b → Ends x → Ends y → text a ++ x ≡ text b ++ y → (a ≡ b) × (x ≡ y)) where
  abbrev after_commas : List A → List ℕ
  after_commas list = flat_map (λ a. 44 ∷ text a) list

  ends_there : (list : List A) (close : ℕ) (x : List ℕ) → 10 ≤ digit_value close → Ends (after_commas list ++ close ∷ x)
  ends_there [] close x ends = ends
  ends_there (a ∷ list) close x ends = omega arith

  -- a list ends at a byte that is no comma
  one_list : (first second : List A) (close : ℕ) (x y : List ℕ) → All P first → All P second → close ≢ 44 → 10 ≤ digit_value close
      → after_commas first ++ close ∷ x ≡ after_commas second ++ close ∷ y → (first ≡ second) × (x ≡ y)
  one_list [] [] close x y all other comma ends same = (refl, cc (same))
  one_list [] (b ∷ second) close x y all other comma ends same = absurd (comma (cc (same)))
  one_list (a ∷ first) [] close x y all other comma ends same = absurd (comma (cc (same)))
  one_list (a ∷ first) (b ∷ second) close x y all other comma ends same =
      let apart = sym (append_assoc (text a) (after_commas first) (close ∷ x)) ∙ cc (same) ∙ append_assoc (text b) (after_commas second) (close ∷ y) in
      let head = one a b (after_commas first ++ close ∷ x) (after_commas second ++ close ∷ y) (All-head P a first all) (All-head P b second other)
      (ends_there first close x ends) (ends_there second close y ends) apart in
      let rest = one_list first second close x y (All-tail P a first all) (All-tail P b second other) comma ends head.1 in
      (rw (head.0, rest.0) refl, rest.1)

-- ---- arrays

pub joined : (a b c d : List ℕ) → a ++ b ++ c ++ d ≡ a ++ (b ++ (c ++ d))
joined a b c d = append_assoc (a ++ b) c d ∙ append_assoc a b (c ++ d)

strings_after : List (List ℕ) → List ℕ
strings_after texts = flat_map (λ text. 44 ∷ json_string text) texts

from_first : (text : List ℕ) (texts : List (List ℕ)) (x : List ℕ) → array (text ∷ texts) ++ x ≡ json_string text ++ (strings_after texts ++ x)
unfolding strings_after
from_first text [] x = refl
from_first text (next ∷ texts) x =
    joined (json_string text) (44 ∷ []) (array (next ∷ texts)) x
    ∙ ap (λ s. json_string text ++ 44 ∷ s) (from_first next texts x ∙ sym (append_assoc (json_string next) (strings_after texts) x))

some_strings : (text : List ℕ) (texts : List (List ℕ)) (x y : List ℕ) → 93 ∷ x ≡ array (text ∷ texts) ++ y → ⊥
some_strings text texts x y same =
    let quote = quoted text (strings_after texts ++ y) in
    let brackets = same ∙ from_first text texts y ∙ quote.1 in cc (brackets)

strings_too : (s t x y : List ℕ) → ⊤ → ⊤ → Ends x → Ends y → json_string s ++ x ≡ json_string t ++ y → (s ≡ t) × (x ≡ y)
strings_too s t x y _ _ ends ends_too same = one_string s t x y same

same_strings_after : (first second : List (List ℕ)) (x y : List ℕ) → strings_after first ++ 93 ∷ x ≡ strings_after second ++ 93 ∷ y
    → (first ≡ second) × (x ≡ y)
unfolding strings_after
same_strings_after first second x y same =
    one_list json_string (λ text. ⊤) strings_too first second 93 x y (λ k d low. tt) (λ k d low. tt) (λ e. cc (e)) (omega arith) same

same_strings : (a b : List ℕ) (first second : List (List ℕ)) (x y : List ℕ) → array (a ∷ first) ++ 93 ∷ x ≡ array (b ∷ second) ++ 93 ∷ y
    → (a ∷ first ≡ b ∷ second) × (x ≡ y)
same_strings a b first second x y same =
    let head = one_string a b (strings_after first ++ 93 ∷ x) (strings_after second ++ 93 ∷ y)
    (sym (from_first a first (93 ∷ x)) ∙ same ∙ from_first b second (93 ∷ y)) in
    let rest = same_strings_after first second x y head.1 in
    (rw (head.0, rest.0) refl, rest.1)

-- an array ends at its bracket
one_array : (first second : List (List ℕ)) (x y : List ℕ) → array first ++ 93 ∷ x ≡ array second ++ 93 ∷ y → (first ≡ second) × (x ≡ y)
one_array [] [] x y same = (refl, cc (same))
one_array [] (b ∷ second) x y same = absurd (some_strings b second x (93 ∷ y) same)
one_array (a ∷ first) [] x y same = absurd (some_strings a first y (93 ∷ x) (sym same))
one_array (a ∷ first) (b ∷ second) x y same = same_strings a b first second x y same

-- ---- values

abbrev pub said_text : Said → List ℕ
said_text (Number n) = decimal n
said_text (String text) = json_string text
said_text (Strings texts) = codes "[" ++ array texts ++ codes "]"

abbrev pub Fits : Said → Type 0
Fits (Number n) = n < 2 ^ 64
Fits (String text) = ⊤
Fits (Strings texts) = ⊤

-- a number doesn't begin as a string or an array
no_number : (n c : ℕ) (x y : List ℕ) → n < 2 ^ 64 → Ends x → 10 ≤ digit_value c → decimal n ++ x ≡ c ∷ y → ⊥
no_number n c x y low ends begins same =
    let digits = (decimal_is_IsNumeral n low).0 in
    let none = ap length (one_number (decimal n) [] x (c ∷ y) digits.1 tt ends begins same).0 in
    let some : 0 < length (decimal n) = digits.0 in omega (arith, none)

same_numbers : (n m : ℕ) (x y : List ℕ) → n < 2 ^ 64 → m < 2 ^ 64 → Ends x → Ends y → decimal n ++ x ≡ decimal m ++ y → (n ≡ m) × (x ≡ y)
same_numbers n m x y low low_too ends ends_too same =
    let parts = one_number (decimal n) (decimal m) x y (decimal_is_IsNumeral n low).0.1 (decimal_is_IsNumeral m low_too).0.1 ends ends_too same in
    (decimal_injective n m low low_too parts.0, parts.1)

number_or_string : (n : ℕ) (text x y : List ℕ) → n < 2 ^ 64 → Ends x → decimal n ++ x ≡ json_string text ++ y → ⊥
number_or_string n text x y low ends same = let quote = quoted text y in no_number n 34 x quote.0 low ends (omega arith) (same ∙ quote.1)

bracket : (texts : List (List ℕ)) (x : List ℕ) → said_text (Strings texts) ++ x ≡ 91 ∷ (array texts ++ 93 ∷ x)
bracket texts x = ap (λ s. 91 ∷ s) (append_assoc (array texts) (93 ∷ []) x)

number_or_strings : (n : ℕ) (texts : List (List ℕ)) (x y : List ℕ) → n < 2 ^ 64 → Ends x → decimal n ++ x ≡ said_text (Strings texts) ++ y → ⊥
number_or_strings n texts x y low ends same = no_number n 91 x (array texts ++ 93 ∷ y) low ends (omega arith) (same ∙ bracket texts y)

string_or_strings : (text : List ℕ) (texts : List (List ℕ)) (x y : List ℕ) → json_string text ++ x ≡ said_text (Strings texts) ++ y → ⊥
string_or_strings text texts x y same = let quote = quoted text x in let no = sym quote.1 ∙ same ∙ bracket texts y in cc (no)

same_arrays : (first second : List (List ℕ)) (x y : List ℕ) → said_text (Strings first) ++ x ≡ said_text (Strings second) ++ y
    → (first ≡ second) × (x ≡ y)
same_arrays first second x y same =
    let inner = sym (bracket first x) ∙ same ∙ bracket second y in one_array first second x y (cc (inner))

one_value : (v w : Said) (x y : List ℕ) → Fits v → Fits w → Ends x → Ends y → said_text v ++ x ≡ said_text w ++ y → (v ≡ w) × (x ≡ y)
one_value (Number n) (Number m) x y fits other ends ends_too same = let parts = same_numbers n m x y fits other ends ends_too same in (ap Number parts.0, parts.1)
one_value (Number n) (String t) x y fits other ends ends_too same = absurd (number_or_string n t x y fits ends same)
one_value (Number n) (Strings t) x y fits other ends ends_too same = absurd (number_or_strings n t x y fits ends same)
one_value (String s) (Number m) x y fits other ends ends_too same = absurd (number_or_string m s y x other ends_too (sym same))
one_value (String s) (String t) x y fits other ends ends_too same = let parts = one_string s t x y same in (ap String parts.0, parts.1)
one_value (String s) (Strings t) x y fits other ends ends_too same = absurd (string_or_strings s t x y same)
one_value (Strings s) (Number m) x y fits other ends ends_too same = absurd (number_or_strings m s y x other ends_too (sym same))
one_value (Strings s) (String t) x y fits other ends ends_too same = absurd (string_or_strings t s y x (sym same))
one_value (Strings s) (Strings t) x y fits other ends ends_too same = let parts = same_arrays s t x y same in (ap Strings parts.0, parts.1)

-- ---- members

abbrev pub member_text : List ℕ × Said → List ℕ
member_text p = named p.0 (said_text p.1)

abbrev pub IsFit : List ℕ × Said → Type 0
IsFit p = IsPlain p.0 × Fits p.1

one_member : (p q : List ℕ × Said) (x y : List ℕ) → IsFit p → IsFit q → Ends x → Ends y → member_text p ++ x ≡ member_text q ++ y → (p ≡ q) × (x ≡ y)
one_member p q x y fits other ends ends_too same =
    let names = one_name p.0 q.0 (58 ∷ (said_text p.1 ++ x)) (58 ∷ (said_text q.1 ++ y)) fits.0 other.0
    (sym (joined p.0 (34 ∷ 58 ∷ []) (said_text p.1) x) ∙ cc (same) ∙ joined q.0 (34 ∷ 58 ∷ []) (said_text q.1) y) in
    let values = one_value p.1 q.1 x y fits.1 other.1 ends ends_too (cc (names.1)) in
    (λ i. (names.0 i, values.0 i), values.1)

abbrev pub members : List (List ℕ × Said) → List ℕ
members said = flat_map (λ p. 44 ∷ member_text p) said

pub one_end : (v w : List (List ℕ × Said)) → All IsFit v → All IsFit w → members v ++ 125 ∷ [] ≡ members w ++ 125 ∷ [] → v ≡ w
one_end v w fits other same = (one_list member_text IsFit one_member v w 125 [] [] fits other (λ e. cc (e)) (omega arith) same).0
