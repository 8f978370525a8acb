-- What is read one after the other, as a loop does: the values of a list, then the tokens of a condition.
use Rattle.sd_condition.proofs.Cited.{List, None, Some, Token, Value, [], after, ap, append-nil, arith, cond, drop, false, is_padding, length, length-drop, length-take, ne_eqb, padded_read, refl, slice_index, subst, suc, sym, token_read, true, value_read, zero, ℕ, ◌++◌, ◌-◌, ◌<◌, ◌==◌, ◌>>=◌, ◌∙◌, ◌∷◌, ◌≡◌, ◌≤◌}
use Rattle.sd_data.proofs.Loop.{regroup, with_front}
use Rattle.sd_condition.specs.Reading.{tokens_read, values_read}

-- what is left after a part that isn't empty is shorter
pub shorter : (size : ℕ) (rest : List ℕ) (m : ℕ) → 0 < size → size ≤ length rest → length rest ≤ suc m → length (after size rest) ≤ m
shorter size rest m some within most = omega (arith, length-take (length rest - size) (drop size rest), length-drop size rest)

pub isn't_empty : (rest : List ℕ) → 0 < length rest → (length rest == 0) ≡ false
isn't_empty rest more = ne_eqb _ _ (λ (none : length rest ≡ 0). omega arith)

pub some_left : (rest : List ℕ) → (length rest == 0) ≡ false → 0 < length rest
some_left [] nonempty = absurd cc
some_left (x ∷ xs) nonempty = omega arith

-- ---- values

-- the values so far, and those in the rest of the bytes, are all values
pub record ValuesLeft (bytes rest : List ℕ) (values : List Value) : Type 0 where
  pub most : ℕ
  pub enough : length rest ≤ most
  pub all_read : with_front values (values_read most rest) ≡ values_read (length bytes) bytes

value_step : (n : ℕ) (rest : List ℕ) (v : Value) (size : ℕ) → 0 < length rest → length rest ≤ n → value_read rest ≡ Some (v, size)
    → (m : ℕ) × (n ≡ suc m) × (values_read n rest ≡ (values_read m (after size rest) >>= λ others. Some (v ∷ others)))
unfolding values_read
value_step zero rest v size more most read = absurd (omega arith)
value_step (suc m) rest v size more most read = (m, refl, rw (isn't_empty rest more, read) refl)

pub next_value : (bytes rest : List ℕ) (values : List Value) (v : Value) (size : ℕ) → 0 < length rest → 0 < size → size ≤ length rest → value_read rest ≡ Some (v, size)
    → ValuesLeft bytes rest values → ValuesLeft bytes (after size rest) (values ++ v ∷ [])
next_value bytes rest values v size more some within read so_far =
    let step = value_step so_far.most rest v size more so_far.enough read in
    record {
      most = step.0;
      enough = shorter size rest step.0 some within (subst (λ n. length rest ≤ n) step.1 so_far.enough);
      all_read = sym (regroup values v (values_read step.0 (after size rest))) ∙ ap (with_front values) (sym step.2) ∙ so_far.all_read;
    }

no_value : (n : ℕ) (rest : List ℕ) → 0 < length rest → value_read rest ≡ None → values_read n rest ≡ None
unfolding values_read
no_value zero rest more none = rw (isn't_empty rest more) refl
no_value (suc m) rest more none = rw (isn't_empty rest more, none) refl

pub bad_value : (bytes rest : List ℕ) (values : List Value) → 0 < length rest → ValuesLeft bytes rest values → value_read rest ≡ None → values_read (length bytes) bytes ≡ None
bad_value bytes rest values more so_far none = sym so_far.all_read ∙ ap (with_front values) (no_value so_far.most rest more none)

no_more_values : (n : ℕ) (rest : List ℕ) → (length rest == 0) ≡ true → values_read n rest ≡ Some []
unfolding values_read
no_more_values zero rest empty = rw empty refl
no_more_values (suc m) rest empty = rw empty refl

pub values_done : (bytes rest : List ℕ) (values : List Value) → (length rest == 0) ≡ true → ValuesLeft bytes rest values → values_read (length bytes) bytes ≡ Some values
values_done bytes rest values empty so_far =
    sym so_far.all_read
    ∙ ap (with_front values) (no_more_values so_far.most rest empty)
    ∙ ap (λ (l : List Value). Some l) (append-nil values)

-- ---- tokens

-- the tokens so far, and those in the rest of the bytes, are all tokens
pub record TokensLeft (bytes rest : List ℕ) (tokens : List Token) : Type 0 where
  pub most : ℕ
  pub enough : length rest ≤ most
  pub all_read : with_front tokens (tokens_read most rest) ≡ padded_read bytes

-- a token's byte is at the front
abbrev Begins : List ℕ → Type 0
Begins rest = (slice_index rest 0 == 0) ≡ false

pub token_left : (rest : List ℕ) → Begins rest → 0 < length rest
token_left [] begins = absurd cc
token_left (x ∷ xs) begins = omega arith

token_step : (n : ℕ) (rest : List ℕ) (t : Token) (size : ℕ) → Begins rest → length rest ≤ n → token_read rest ≡ Some (t, size)
    → (m : ℕ) × (n ≡ suc m) × (tokens_read n rest ≡ (tokens_read m (after size rest) >>= λ others. Some (t ∷ others)))
unfolding tokens_read
token_step zero rest t size begins most read = let more = token_left rest begins in absurd (omega arith)
token_step (suc m) rest t size begins most read = (m, refl, rw (begins, read) refl)

pub next_token : (bytes rest : List ℕ) (tokens : List Token) (t : Token) (size : ℕ) → Begins rest → 0 < size → size ≤ length rest → token_read rest ≡ Some (t, size)
    → TokensLeft bytes rest tokens → TokensLeft bytes (after size rest) (tokens ++ t ∷ [])
next_token bytes rest tokens t size begins some within read so_far =
    let step = token_step so_far.most rest t size begins so_far.enough read in
    record {
      most = step.0;
      enough = shorter size rest step.0 some within (subst (λ n. length rest ≤ n) step.1 so_far.enough);
      all_read = sym (regroup tokens t (tokens_read step.0 (after size rest))) ∙ ap (with_front tokens) (sym step.2) ∙ so_far.all_read;
    }

no_token : (n : ℕ) (rest : List ℕ) → Begins rest → length rest ≤ n → token_read rest ≡ None → tokens_read n rest ≡ None
unfolding tokens_read
no_token zero rest begins most none = let more = token_left rest begins in absurd (omega arith)
no_token (suc m) rest begins most none = rw (begins, none) refl

pub bad_token : (bytes rest : List ℕ) (tokens : List Token) → Begins rest → TokensLeft bytes rest tokens → token_read rest ≡ None → padded_read bytes ≡ None
bad_token bytes rest tokens begins so_far none = sym so_far.all_read ∙ ap (with_front tokens) (no_token so_far.most rest begins so_far.enough none)

no_more_tokens : (n : ℕ) (rest : List ℕ) → (slice_index rest 0 == 0) ≡ true → tokens_read n rest ≡ cond (is_padding rest) (Some []) None
unfolding tokens_read
no_more_tokens zero rest ends = refl
no_more_tokens (suc m) rest ends = rw ends refl

pub tokens_done : (bytes rest : List ℕ) (tokens : List Token) → (slice_index rest 0 == 0) ≡ true → is_padding rest ≡ true → TokensLeft bytes rest tokens → padded_read bytes ≡ Some tokens
tokens_done bytes rest tokens ends padding so_far =
    sym so_far.all_read
    ∙ ap (with_front tokens) (no_more_tokens so_far.most rest ends)
    ∙ ap (λ is. with_front tokens (cond is (Some []) None)) padding
    ∙ ap (λ (l : List Token). Some l) (append-nil tokens)

pub bad_padding : (bytes rest : List ℕ) (tokens : List Token) → (slice_index rest 0 == 0) ≡ true → is_padding rest ≡ false → TokensLeft bytes rest tokens → padded_read bytes ≡ None
bad_padding bytes rest tokens ends padding so_far =
    sym so_far.all_read
    ∙ ap (with_front tokens) (no_more_tokens so_far.most rest ends)
    ∙ ap (λ is. with_front tokens (cond is (Some []) None)) padding
