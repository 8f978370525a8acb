-- The run of digits that a text begins with.
use Rattle.sd_text.proofs.Cited.{AllDigits, IsCapped, IsNumeral, List, Run, [], ap, arith, begins_digit, digit_value, digits_len, digits_value, digits_value-lt, drop, drop-append_seam, false, get_or, inl, inr, le-ltb, length, length-take-le, lit<, lt-ltb, ltb-false, mul-le-mul_left, nat_lt, pow-le-pow_left, pow-le-pow_right, refl, suc, sym, take, take-append-drop, take-append_seam, true, zero, ℕ, ◌*◌, ◌++◌, ◌+◌, ◌<◌, ◌^◌, ◌∷◌, ◌≡◌, ◌≤◌}
use borrow.Author.Tests.{ltb-true}
use Rattle.sd_text.proofs.Parts.{went}

all_digits : (radix : ℕ) (text : List ℕ) → AllDigits radix (take (digits_len radix text) text) × (begins_digit radix (drop (digits_len radix text) text) ≡ false)
all_digits radix [] = (tt, refl)
all_digits radix (c ∷ text) =
    elim (went (nat_lt (digit_value c) radix)) [
      | inl h ↦ let rest = all_digits radix text in rw h ((ltb-true (digit_value c) radix h, rest.0), rest.1)
      | inr h ↦ rw h (tt, h)
    ]

starts : (radix : ℕ) (text : List ℕ) → begins_digit radix text ≡ true → 0 < length (take (digits_len radix text) text)
starts radix [] e = absurd cc
starts radix (c ∷ text) e = rw e (omega arith)

-- the digits that a text begins with are a run
pub run_of : (radix : ℕ) (text : List ℕ) → begins_digit radix text ≡ true → Run radix text (take (digits_len radix text) text) (drop (digits_len radix text) text)
run_of radix text e =
    let all = all_digits radix text in record { parts = sym (take-append-drop (digits_len radix text) text); numeral = (starts radix text e, all.0); whole = all.1 }

len_of : (radix : ℕ) (ds behind : List ℕ) → AllDigits radix ds → begins_digit radix behind ≡ false → digits_len radix (ds ++ behind) ≡ length ds
len_of radix [] [] all e = refl
len_of radix [] (c ∷ behind) all e = rw e refl
len_of radix (d ∷ ds) behind all e =
    elim (went (nat_lt (digit_value d) radix)) [
      | inl h ↦ rw h (ap suc (len_of radix ds behind all.1 e))
      | inr h ↦ absurd (let le = ltb-false (digit_value d) radix h in let lt = all.0 in omega arith)
    ]

-- and there is one run alone
pub run_digits : (radix : ℕ) (text ds behind : List ℕ) → Run radix text ds behind → take (digits_len radix text) text ≡ ds
run_digits radix text ds behind run = rw (run.parts, len_of radix ds behind run.numeral.1 run.whole) (take-append_seam ds behind)

pub run_behind : (radix : ℕ) (text ds behind : List ℕ) → Run radix text ds behind → drop (digits_len radix text) text ≡ behind
run_behind radix text ds behind run = rw (run.parts, len_of radix ds behind run.numeral.1 run.whole) (drop-append_seam ds behind)

begins_run : (radix : ℕ) (ds behind : List ℕ) → IsNumeral radix ds → begins_digit radix (ds ++ behind) ≡ true
begins_run radix [] behind n = absurd (let h = n.0 in omega arith)
begins_run radix (d ∷ ds) behind n = lt-ltb (digit_value d) radix n.1.0

pub run_begins : (radix : ℕ) (text ds behind : List ℕ) → Run radix text ds behind → begins_digit radix text ≡ true
run_begins radix text ds behind run = rw run.parts (begins_run radix ds behind run.numeral)

-- ---- counting the digits from the front

-- where all before a place are digits, and what stands there is none
pub digits_stop : (radix : ℕ) (text : List ℕ) (i : ℕ) → i < length text → AllDigits radix (take i text) → radix ≤ digit_value (get_or text i 0) → i ≡ digits_len radix text
digits_stop radix [] i lt all above = absurd (omega arith)
digits_stop radix (c ∷ text) zero lt all above = rw (le-ltb (digit_value c) radix above) refl
digits_stop radix (c ∷ text) (suc i) lt all above = rw (lt-ltb (digit_value c) radix all.0) (ap suc (digits_stop radix text i (omega arith) all.1 above))

-- where all are digits
pub digits_whole : (radix : ℕ) (text : List ℕ) → AllDigits radix (take (length text) text) → length text ≡ digits_len radix text
digits_whole radix [] all = refl
digits_whole radix (c ∷ text) all = rw (lt-ltb (digit_value c) radix all.0) (ap suc (digits_whole radix text all.1))

pub capped_push : (limit value n radix d : ℕ) → value < limit → IsCapped limit value n → IsCapped limit (value * radix + d) (n * radix + d)
capped_push limit value n radix d lt capped = let same = capped.below lt in record { below = λ _. rw same refl; above = λ le. rw (sym same) le }

pub capped_stay : (limit value n radix d : ℕ) → 1 ≤ radix → limit ≤ value → IsCapped limit value n → IsCapped limit value (n * radix + d)
capped_stay limit value n radix d some le capped =
    let from = capped.above le in
    let grows = mul-le-mul_left n some in
    record { below = λ lt. absurd (omega arith); above = λ _. omega arith }

-- ---- runs that no limit cuts short

-- a number of fewer than fifteen digits, and one more digit, have 64 bits
pub short_fits : (radix i : ℕ) (text : List ℕ) (value d : ℕ) → radix ≤ 16 → 2 ≤ radix → i < length text → length text ≤ 15 → AllDigits radix (take i text) → value ≡ digits_value radix (take i text) → d < radix → value * radix + d < 2 ^ 64
short_fits radix i text value d high low within short digits is below =
    let counted : length (take i text) ≡ i = length-take-le i text (omega arith) in
    let small : digits_value radix (take i text) < radix ^ i = rw counted at (digits_value-lt radix (take i text) digits) in
    let bases : radix ^ i ≤ 16 ^ i = pow-le-pow_left high i in
    let few : i ≤ 14 = omega arith in
    let powers : 16 ^ i ≤ 16 ^ 14 = pow-le-pow_right (lit< tt) few in
    let grows : value * radix ≤ value * 16 = mul-le-mul_left value high in
    omega arith

-- the run that ends before a place is that of the front alone
pub front_run : (radix k : ℕ) (text : List ℕ) → digits_len radix (take k text) < k → digits_len radix (take k text) ≡ digits_len radix text
front_run radix zero text lt = absurd (omega arith)
front_run radix (suc k) [] lt = refl
front_run radix (suc k) (c ∷ text) lt =
    elim (went (nat_lt (digit_value c) radix)) [
      | inl h ↦ rw h (ap suc (front_run radix k text (let more = rw h at lt in omega arith)))
      | inr h ↦ rw h refl
    ]
