-- A string of JSON is parsed byte by byte up to the quote that closes it, and gives its text: so different texts have
-- different strings.
use Rattle.sd_line_laws.proofs.Cited.{Bool, List, None, Option, Some, [], ap, append_assoc, arith, cond, drop, eqb-true, escaped, flat_map, get_or, hex_digit, inl, inr, is_utf8, json_string, le-ltb, lt-ltb, ltb-false, ltb-true, nat_le, nat_lt, not, refl, sym, went, ℕ, ◌%◌, ◌&&◌, ◌*◌, ◌++◌, ◌+◌, ◌-◌, ◌/◌, ◌==◌, ◌∙◌, ◌∷◌, ◌≡◌}

-- ---- one byte of a string

-- the value of a digit
abbrev unhex : ℕ → ℕ
unhex c = cond (nat_lt c 58) (c - 48) (c - 87)

unhex_digit : (n : ℕ) → unhex (hex_digit n) ≡ n
unhex_digit n = elim (went (nat_lt n 10)) [
  | inl low ↦ let lt = ltb-true n 10 low in rw (low, lt-ltb (48 + n) 58 (omega arith)) (omega arith)
  | inr high ↦ let ge = ltb-false n 10 high in rw (high, le-ltb (87 + n) 58 (omega arith)) (omega arith)
]

-- a byte and what follows it, after a backslash
abbrev unescaped : List ℕ → ℕ × List ℕ
unescaped s = cond (get_or s 0 0 == 117) (unhex (get_or s 3 0) * 16 + unhex (get_or s 4 0), drop 5 s) (get_or s 0 0, drop 1 s)

-- the next byte of the text, and the rest of its string; none at the quote that closes it
abbrev first_byte : List ℕ → Option (ℕ × List ℕ)
first_byte [] = None
first_byte (c ∷ s) = cond (c == 34) None (cond (c == 92) (Some (unescaped s)) (Some (c, s)))

two_digits : (b : ℕ) → unhex (hex_digit (b / 16)) * 16 + unhex (hex_digit (b % 16)) ≡ b
two_digits b = rw (unhex_digit (b / 16), unhex_digit (b % 16)) (omega arith)

first_escaped : (utf8 : Bool) (b : ℕ) (rest : List ℕ) → first_byte (escaped utf8 b ++ rest) ≡ Some (b, rest)
first_escaped utf8 b rest = elim (went (b == 34)) [
  | inl quote ↦ rw quote (ap (λ n. Some (n, rest)) (sym (eqb-true b 34 quote)))
  | inr no_quote ↦ rw no_quote (elim (went (b == 92)) [
    | inl slash ↦ rw slash (ap (λ n. Some (n, rest)) (sym (eqb-true b 92 slash)))
    | inr no_slash ↦ rw no_slash (elim (went (nat_lt b 32)) [
      | inl control ↦ rw control (ap (λ n. Some (n, rest)) (two_digits b))
      | inr other ↦ rw other (elim (went (nat_le 128 b && not utf8)) [
        | inl high ↦ rw high (ap (λ n. Some (n, rest)) (two_digits b))
        | inr plain ↦ rw (plain, no_quote, no_slash) refl
      ])
    ])
  ])
]

-- ---- a whole string

first_of : (utf8 : Bool) (c : ℕ) (text rest : List ℕ)
    → first_byte (flat_map (escaped utf8) (c ∷ text) ++ 34 ∷ rest) ≡ Some (c, flat_map (escaped utf8) text ++ 34 ∷ rest)
first_of utf8 c text rest =
    ap first_byte (append_assoc (escaped utf8 c) (flat_map (escaped utf8) text) (34 ∷ rest)) ∙ first_escaped utf8 c (flat_map (escaped utf8) text ++ 34 ∷ rest)

one_byte : (p q : ℕ × List ℕ) → Some p ≡ Some q → (p.0 ≡ q.0) × (p.1 ≡ q.1)
one_byte p q same = let one : p ≡ q = cc (same) in (ap (λ (r : ℕ × List ℕ). r.0) one, ap (λ (r : ℕ × List ℕ). r.1) one)

one_body : (utf8 other : Bool) (a b x y : List ℕ) → flat_map (escaped utf8) a ++ 34 ∷ x ≡ flat_map (escaped other) b ++ 34 ∷ y → (a ≡ b) × (x ≡ y)
one_body utf8 other [] [] x y same = (refl, cc (same))
one_body utf8 other [] (d ∷ b) x y same = absurd (let none = ap first_byte same ∙ first_of other d b y in cc (none))
one_body utf8 other (c ∷ a) [] x y same = absurd (let none = sym (first_of utf8 c a x) ∙ ap first_byte same in cc (none))
one_body utf8 other (c ∷ a) (d ∷ b) x y same =
    let parts = one_byte (c, flat_map (escaped utf8) a ++ 34 ∷ x) (d, flat_map (escaped other) b ++ 34 ∷ y)
    (sym (first_of utf8 c a x) ∙ ap first_byte same ∙ first_of other d b y) in
    let rest = one_body utf8 other a b x y parts.1 in
    (rw (parts.0, rest.0) refl, rest.1)

from_quote : (text rest : List ℕ) → json_string text ++ rest ≡ 34 ∷ (flat_map (escaped (is_utf8 text)) text ++ 34 ∷ rest)
unfolding json_string
from_quote text rest = ap (λ s. 34 ∷ s) (append_assoc (flat_map (escaped (is_utf8 text)) text) (34 ∷ []) rest)

-- it begins with a quote
pub quoted : (text rest : List ℕ) → (s : List ℕ) × (json_string text ++ rest ≡ 34 ∷ s)
quoted text rest = (flat_map (escaped (is_utf8 text)) text ++ 34 ∷ rest, from_quote text rest)

pub one_string : (a b x y : List ℕ) → json_string a ++ x ≡ json_string b ++ y → (a ≡ b) × (x ≡ y)
one_string a b x y same =
    let bodies = sym (from_quote a x) ∙ same ∙ from_quote b y in
    one_body (is_utf8 a) (is_utf8 b) a b x y (cc (bodies))
