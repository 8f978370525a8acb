-- What is read one after the other, as a loop does: the units of a text, then the values of a claim.
use Rattle.sd_claim.proofs.Cited.{List, None, Option, Some, Value, ValueType, [], after, ap, append-nil, arith, drop, drop_more, drop_of_length-le, false, get_or-map-range_with_len, length, length-drop, length-map-range_with_len, refl, sym, take, take_all, true, u16_at, u32_at, u32s_at, value_at, values_read, ℕ, ◌*◌, ◌++◌, ◌+◌, ◌-◌, ◌<◌, ◌==◌, ◌>>=◌, ◌∙◌, ◌∷◌, ◌≡◌, ◌≤◌}
use Rattle.sd_claim.specs.Reading.{terminated_len}
use Rattle.sd_data.proofs.Loop.{regroup, with_front}

-- ---- texts

-- how many bytes precede, and how many a text takes that follows them
abbrev pub behind : ℕ → Option ℕ → Option ℕ
behind n len = len >>= λ m. Some (n + m)

-- the bytes so far are units that aren't zero, and a text ends where it ends in the rest
pub record TextLeft (bytes rest : List ℕ) (n : ℕ) : Type 0 where
  pub size : n + length rest ≡ length bytes
  pub is : behind n (terminated_len rest) ≡ terminated_len bytes

behind_zero : (len : Option ℕ) → behind 0 len ≡ len
behind_zero None = refl
behind_zero (Some m) = ap (λ k. Some k) (omega arith)

pub all_left : (bytes : List ℕ) → TextLeft bytes bytes 0
all_left bytes = record { size = omega arith; is = behind_zero (terminated_len bytes) }

behind_two : (n : ℕ) (len : Option ℕ) → behind (n + 2) len ≡ behind n (len >>= λ m. Some (2 + m))
behind_two n None = refl
behind_two n (Some m) = ap (λ k. Some k) (omega arith)

unit_behind : (rest : List ℕ) → 2 ≤ length rest → (u16_at rest 0 == 0) ≡ false → terminated_len rest ≡ (terminated_len (after 2 rest) >>= λ m. Some (2 + m))
unfolding terminated_len
unit_behind [] long more = absurd (omega arith)
unit_behind (low ∷ []) long more = absurd (omega arith)
unit_behind (low ∷ high ∷ rest) long more =
    let all : take (length (low ∷ high ∷ rest) - 2) rest ≡ rest = take_all (length (low ∷ high ∷ rest) - 2) rest (omega arith) in
    rw (more, all) refl

pub next_unit : (bytes rest : List ℕ) (n : ℕ) → 2 ≤ length rest → (u16_at rest 0 == 0) ≡ false → TextLeft bytes rest n → TextLeft bytes (after 2 rest) (n + 2)
next_unit bytes rest n long more left =
    let all : after 2 rest ≡ drop 2 rest = take_all (length rest - 2) (drop 2 rest) (omega (arith, length-drop 2 rest)) in
    record {
      size = omega (arith, left.size, ap length all, length-drop 2 rest);
      is = behind_two n (terminated_len (after 2 rest)) ∙ ap (behind n) (sym (unit_behind rest long more)) ∙ left.is;
    }

unit_ends : (rest : List ℕ) → 2 ≤ length rest → (u16_at rest 0 == 0) ≡ true → terminated_len rest ≡ Some 2
unfolding terminated_len
unit_ends [] long zero_unit = absurd (omega arith)
unit_ends (low ∷ []) long zero_unit = absurd (omega arith)
unit_ends (low ∷ high ∷ rest) long zero_unit = rw zero_unit refl

pub text_ends : (bytes rest : List ℕ) (n : ℕ) → 2 ≤ length rest → (u16_at rest 0 == 0) ≡ true → TextLeft bytes rest n → terminated_len bytes ≡ Some (n + 2)
text_ends bytes rest n long zero_unit left = sym left.is ∙ ap (behind n) (unit_ends rest long zero_unit)

too_short : (rest : List ℕ) → length rest < 2 → terminated_len rest ≡ None
unfolding terminated_len
too_short [] short = refl
too_short (low ∷ []) short = refl
too_short (low ∷ high ∷ rest) short = absurd (omega arith)

pub no_end : (bytes rest : List ℕ) (n : ℕ) → length rest < 2 → TextLeft bytes rest n → terminated_len bytes ≡ None
no_end bytes rest n short left = sym left.is ∙ ap (behind n) (too_short rest short)

-- ---- values

-- the values so far, and those at the offsets that are left, are all values
abbrev pub ValuesLeft : ValueType → List ℕ → ℕ → ℕ → ℕ → ℕ → List Value → Type 0
ValuesLeft value_type bytes room count k left values =
    with_front values (values_read value_type bytes left (drop k (u32s_at bytes 16 count))) ≡ values_read value_type bytes room (u32s_at bytes 16 count)

kept : (read : Option (List Value)) → with_front [] read ≡ read
kept None = refl
kept (Some values) = refl

pub none_read : (value_type : ValueType) (bytes : List ℕ) (room count : ℕ) → ValuesLeft value_type bytes room count 0 room []
none_read value_type bytes room count = kept (values_read value_type bytes room (u32s_at bytes 16 count))

offset_at : (bytes : List ℕ) (count k : ℕ) → k < count → drop k (u32s_at bytes 16 count) ≡ u32_at bytes (16 + 4 * k) ∷ drop (k + 1) (u32s_at bytes 16 count)
offset_at bytes count k more =
    let offset : ℕ → ℕ = λ i. u32_at bytes (16 + 4 * i) in
    drop_more (u32s_at bytes 16 count) k 0 (omega (arith, length-map-range_with_len offset 0 count))
    ∙ ap (λ (n : ℕ). n ∷ drop (k + 1) (u32s_at bytes 16 count)) (get_or-map-range_with_len offset 0 count k k 0 more (omega arith))

first_of : (value_type : ValueType) (bytes : List ℕ) (left : ℕ) (offsets : List ℕ) → Option (Value × ℕ) → Option (List Value)
first_of value_type bytes left offsets read = read >>= λ first. (values_read value_type bytes (left - first.1) offsets >>= λ others. Some (first.0 ∷ others))

step : (value_type : ValueType) (bytes : List ℕ) (count k left : ℕ) (read : Option (Value × ℕ)) → k < count → value_at value_type bytes (u32_at bytes (16 + 4 * k)) left ≡ read
    → values_read value_type bytes left (drop k (u32s_at bytes 16 count)) ≡ first_of value_type bytes left (drop (k + 1) (u32s_at bytes 16 count)) read
unfolding first_of
step value_type bytes count k left read more is =
    ap (values_read value_type bytes left) (offset_at bytes count k more) ∙ ap (first_of value_type bytes left (drop (k + 1) (u32s_at bytes 16 count))) is

pub next_value : (value_type : ValueType) (bytes : List ℕ) (room count k left : ℕ) (values : List Value) (v : Value) (size : ℕ) → k < count
    → value_at value_type bytes (u32_at bytes (16 + 4 * k)) left ≡ Some (v, size) → ValuesLeft value_type bytes room count k left values
    → ValuesLeft value_type bytes room count (k + 1) (left - size) (values ++ v ∷ [])
unfolding first_of
next_value value_type bytes room count k left values v size more is so_far =
    sym (regroup values v (values_read value_type bytes (left - size) (drop (k + 1) (u32s_at bytes 16 count))))
    ∙ ap (with_front values) (sym (step value_type bytes count k left (Some (v, size)) more is))
    ∙ so_far

pub bad_value : (value_type : ValueType) (bytes : List ℕ) (room count k left : ℕ) (values : List Value) → k < count → ValuesLeft value_type bytes room count k left values
    → value_at value_type bytes (u32_at bytes (16 + 4 * k)) left ≡ None → values_read value_type bytes room (u32s_at bytes 16 count) ≡ None
unfolding first_of
bad_value value_type bytes room count k left values more so_far none =
    sym so_far ∙ ap (with_front values) (step value_type bytes count k left None more none)

pub values_done : (value_type : ValueType) (bytes : List ℕ) (room count k left : ℕ) (values : List Value) → count ≤ k → ValuesLeft value_type bytes room count k left values
    → values_read value_type bytes room (u32s_at bytes 16 count) ≡ Some values
values_done value_type bytes room count k left values end so_far =
    let none_left : drop k (u32s_at bytes 16 count) ≡ [] = drop_of_length-le (u32s_at bytes 16 count) (omega (arith, length-map-range_with_len (λ i. u32_at bytes (16 + 4 * i)) 0 count)) in
    sym so_far
    ∙ ap (λ (l : List ℕ). with_front values (values_read value_type bytes left l)) none_left
    ∙ ap (λ (l : List Value). Some l) (append-nil values)
