-- How many bytes each part takes.
use Rattle.sd_claim.proofs.Cited.{ClaimValue, List, Option, Some, SomeIff, Value, [], and_parts, arith, claim_len, flat_map, has_no_zero, is_value_of, leb-true, length, length-append, length-replicate, list_all, nat_le, offsets_from, padding_len, refl, replicate, subst, terminated, text_bytes, to_le_bytes, true, value_bytes, values_place, w32, ℕ, ◌&&◌, ◌*◌, ◌++◌, ◌+◌, ◌<◌, ◌^◌, ◌∙◌, ◌∷◌, ◌≡◌, ◌≤◌}
use Rattle.sd_data.proofs.Lengths.{known_len, length_of_text}
use Rattle.sd_claim.specs.Writing.{claim_bytes, claim_data, is_claim}

pub length_of_terminated : (units : List ℕ) → length (terminated units) ≡ 2 * length units + 2
length_of_terminated units = omega (arith, length_of_text units, length-append (text_bytes units) (0 ∷ 0 ∷ []))

pub length_of_offsets : (o : ℕ) (vs : List Value) → length (flat_map (to_le_bytes w32) (offsets_from o vs)) ≡ 4 * length vs
length_of_offsets o [] = refl
length_of_offsets o (v ∷ vs) = omega (arith, length_of_offsets (o + length (value_bytes v)) vs)

pub length_of_claim : (c : ClaimValue) → length (claim_bytes c) ≡ claim_len c.name c.values
unfolding claim_bytes
length_of_claim c =
    let offsets = flat_map (to_le_bytes w32) (offsets_from (values_place c) c.values) in
    let after_offsets = terminated c.name ++ flat_map value_bytes c.values in
    omega (arith, length-append offsets after_offsets, length-append (terminated c.name) (flat_map value_bytes c.values), length_of_offsets (values_place c) c.values)

pub length_of_data : (c : ClaimValue) → length (claim_data c) ≡ claim_len c.name c.values + padding_len (claim_len c.name c.values)
unfolding claim_data
length_of_data c =
    let n = length (claim_bytes c) in
    length-append (claim_bytes c) (replicate (padding_len n) 0)
    ∙ (rw (length-replicate {A = ℕ} (padding_len n) 0, length_of_claim c) refl)

-- the data of a claim, and the claim before its padding, have at most 65,535 bytes
pub claim_fits : (c : ClaimValue) → is_claim c ≡ true → (length (claim_data c) ≤ 65535) × (claim_len c.name c.values ≤ 65535)
unfolding is_claim
claim_fits c is =
    let later = list_all (is_value_of c.value_type) c.values && nat_le (length (claim_data c)) 65535 in
    let parts = and_parts (list_all (is_value_of c.value_type) c.values) (nat_le (length (claim_data c)) 65535) (and_parts (has_no_zero c.name) later is).1 in
    let fits : length (claim_data c) ≤ 65535 = leb-true _ _ parts.1 in
    (fits, omega (arith, length_of_data c))

pub claim_known : (c : ClaimValue) (name : List ℕ) (vs : List Value) (n : Option ℕ) → name ≡ c.name → vs ≡ c.values → is_claim c ≡ true
    → SomeIff n (claim_len name vs < 2 ^ 64) (claim_len name vs) → n ≡ Some (claim_len c.name c.values)
claim_known c name vs n name_is values_are is counted =
    known_len n (claim_len c.name c.values)
    (subst (λ (l : List ℕ). SomeIff n (claim_len l c.values < 2 ^ 64) (claim_len l c.values)) name_is
    (subst (λ (l : List Value). SomeIff n (claim_len name l < 2 ^ 64) (claim_len name l)) values_are counted)) (claim_fits c is).1
