-- How many bytes each part takes.
use Rattle.sd_condition.proofs.Cited.{List, Option, Some, SomeIff, Token, and_parts, arith, flat_map, is_some, leb-true, length, length-append, length-replicate, nat_le, outcome, padding_len, replicate, subst, token_bytes, true, ℕ, ◌+◌, ◌<◌, ◌^◌, ◌≡◌, ◌≤◌}
use Rattle.sd_data.proofs.Lengths.{known_len}
use Rattle.sd_condition.specs.Writing.{condition_data, is_condition}

pub length_of_data : (ts : List Token) → length (condition_data ts) ≡ 4 + length (flat_map token_bytes ts) + padding_len (length (flat_map token_bytes ts))
unfolding condition_data
length_of_data ts =
    let n = length (flat_map token_bytes ts) in
    omega (arith, length-append (flat_map token_bytes ts) (replicate (padding_len n) 0), length-replicate {A = ℕ} (padding_len n) 0)

-- the tokens of a condition take no more bytes than its data
pub tokens_fit : (ts : List Token) → is_condition ts ≡ true → (length (condition_data ts) ≤ 65535) × (length (flat_map token_bytes ts) ≤ 65535)
unfolding is_condition
tokens_fit ts is =
    let fits : length (condition_data ts) ≤ 65535 = leb-true _ _ (and_parts (is_some (outcome ts)) (nat_le (length (condition_data ts)) 65535) is).1 in
    (fits, omega (arith, length_of_data ts))

pub tokens_known : (ts tokens : List Token) (n : Option ℕ) → ts ≡ tokens → is_condition tokens ≡ true
    → SomeIff n (length (flat_map token_bytes ts) < 2 ^ 64) (length (flat_map token_bytes ts)) → n ≡ Some (length (flat_map token_bytes tokens))
tokens_known ts tokens n same is counted =
    known_len n (length (flat_map token_bytes tokens))
    (subst (λ (l : List Token). SomeIff n (length (flat_map token_bytes l) < 2 ^ 64) (length (flat_map token_bytes l))) same counted) (tokens_fit tokens is).1
