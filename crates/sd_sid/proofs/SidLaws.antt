-- The two laws on SIDs as bytes.
use Rattle.sd_sid.proofs.Cited.{IsSid, List, Ok, Result, SidError, SidValue, SidsComeBack, SidsStand, [], ap, append_assoc, arith, authority_of, be_bytes_8, drop, eqb-true, false, flat_map, from_be_bytes, from_be_bytes-to_be_bytes_8, get_or, le-ltb, length, length-map-range_with_len, ltb-false, nat_lt, ne_eqb, not-false, refl, suc, sym, take, take-add, to_be_bytes, to_le_bytes, u32_at, u32s_at, w32, w64, zero, ℕ, ◌*◌, ◌++◌, ◌+◌, ◌<◌, ◌==◌, ◌^◌, ◌∙◌, ◌∷◌, ◌≡◌, ◌≤◌}
use Rattle.std.proofs.lemmas.List.{length-append}
use Rattle.sd_sid.specs.SidBytes.{sid_reading, bytes_of_sid}
use Rattle.sd_sid.proofs.Outcomes.{passed}
use Rattle.sd_sid.proofs.SidWords.{cells, words_stand, length_words, words_again}

-- what is found is one thing
abbrev found : {A : Type 0} → A → Result A SidError
found x = Ok x

found_is : {A : Type 0} (x y : A) → found x ≡ found y → x ≡ y
found_is x y e = cc

pub length_of_sid : (s : SidValue) → length (bytes_of_sid s) ≡ 8 + 4 * length s.subs
unfolding bytes_of_sid
length_of_sid s = omega (arith, length_words s.subs)

-- ---- what is written is read again

-- the six bytes of an authority, behind two zeros
authority_again : (a : ℕ) → a < 2 ^ 48 → from_be_bytes w64 (0 ∷ 0 ∷ drop 2 (to_be_bytes w64 a)) ≡ a
authority_again a h = omega (arith, from_be_bytes-to_be_bytes_8 a (omega arith))

-- bytes that pass each test
reads_as : (bytes : List ℕ) (s : SidValue) → get_or bytes 0 0 ≡ 1 → get_or bytes 1 0 ≡ length s.subs → IsSid s → 8 + 4 * length s.subs ≤ length bytes
    → authority_of bytes ≡ s.authority → u32s_at bytes 8 (length s.subs) ≡ s.subs → sid_reading bytes ≡ Ok (s, 8 + 4 * length s.subs)
unfolding sid_reading
reads_as bytes s revision counted sound room authority subs =
    let long : nat_lt (length bytes) 8 ≡ false = le-ltb _ _ (omega arith) in
    let some : (length s.subs == 0) ≡ false = ne_eqb _ _ (λ (none : length s.subs ≡ 0). omega (arith, sound.some)) in
    let few : nat_lt 15 (length s.subs) ≡ false = le-ltb _ _ sound.few in
    let fits : nat_lt (length bytes) (8 + 4 * length s.subs) ≡ false = le-ltb _ _ room in
    rw (long, revision, counted, some, few, fits, authority, subs) refl

pub sids_come_back : SidsComeBack
unfolding bytes_of_sid
sids_come_back s rest sound =
    let bytes = bytes_of_sid s ++ rest in
    let front : List ℕ = 1 ∷ length s.subs ∷ drop 2 (to_be_bytes w64 s.authority) in
    let words : u32s_at bytes 8 (length s.subs) ≡ s.subs = ap (λ b. u32s_at b 8 (length s.subs)) (append_assoc front (flat_map (to_le_bytes w32) s.subs) rest) ∙ words_again front s.subs rest sound.words in
    reads_as bytes s refl refl sound (omega (arith, length_of_sid s, length-append (bytes_of_sid s) rest)) (authority_again s.authority sound.authority) words
    ∙ ap (λ n. Ok (s, n)) (sym (length_of_sid s))

-- ---- what is read stands there

-- the bytes of an authority behind two zeros, each of them a byte
authority_fits : (bytes : List ℕ) → ((i : ℕ) → get_or bytes i 0 < 256) → (i : ℕ)
    → get_or (0 ∷ 0 ∷ get_or bytes 2 0 ∷ get_or bytes 3 0 ∷ get_or bytes 4 0 ∷ get_or bytes 5 0 ∷ get_or bytes 6 0 ∷ get_or bytes 7 0 ∷ []) i 0 < 256
authority_fits bytes fits zero = omega arith
authority_fits bytes fits (suc zero) = omega arith
authority_fits bytes fits (suc (suc zero)) = fits 2
authority_fits bytes fits (suc (suc (suc zero))) = fits 3
authority_fits bytes fits (suc (suc (suc (suc zero)))) = fits 4
authority_fits bytes fits (suc (suc (suc (suc (suc zero))))) = fits 5
authority_fits bytes fits (suc (suc (suc (suc (suc (suc zero)))))) = fits 6
authority_fits bytes fits (suc (suc (suc (suc (suc (suc (suc zero))))))) = fits 7
authority_fits bytes fits (suc (suc (suc (suc (suc (suc (suc (suc i)))))))) = omega arith

-- a SID whose fields stand in the bytes
stands_as : (bytes : List ℕ) (count : ℕ) → ((i : ℕ) → get_or bytes i 0 < 256) → get_or bytes 0 0 ≡ 1 → get_or bytes 1 0 ≡ count → 8 + 4 * count ≤ length bytes
    → take (8 + 4 * count) bytes ≡ bytes_of_sid (record { authority = authority_of bytes; subs = u32s_at bytes 8 count })
unfolding bytes_of_sid
stands_as bytes count fits revision counted room =
    let authority : to_be_bytes w64 (authority_of bytes) ≡ 0 ∷ 0 ∷ get_or bytes 2 0 ∷ get_or bytes 3 0 ∷ get_or bytes 4 0 ∷ get_or bytes 5 0 ∷ get_or bytes 6 0 ∷ get_or bytes 7 0 ∷ [] =
    be_bytes_8 (0 ∷ 0 ∷ get_or bytes 2 0 ∷ get_or bytes 3 0 ∷ get_or bytes 4 0 ∷ get_or bytes 5 0 ∷ get_or bytes 6 0 ∷ get_or bytes 7 0 ∷ []) (authority_of bytes) refl (authority_fits bytes fits) refl in
    let header : take 8 bytes ≡ 1 ∷ count ∷ drop 2 (to_be_bytes w64 (authority_of bytes)) =
    cells bytes 0 8 (omega arith) ∙ ap (λ (b : ℕ). b ∷ get_or bytes 1 0 ∷ get_or bytes 2 0 ∷ get_or bytes 3 0 ∷ get_or bytes 4 0 ∷ get_or bytes 5 0 ∷ get_or bytes 6 0 ∷ get_or bytes 7 0 ∷ []) revision
    ∙ ap (λ (b : ℕ). 1 ∷ b ∷ get_or bytes 2 0 ∷ get_or bytes 3 0 ∷ get_or bytes 4 0 ∷ get_or bytes 5 0 ∷ get_or bytes 6 0 ∷ get_or bytes 7 0 ∷ []) counted
    ∙ ap (λ (six : List ℕ). 1 ∷ count ∷ drop 2 six) (sym authority) in
    let counted_again : length (u32s_at bytes 8 count) ≡ count = length-map-range_with_len (λ k. u32_at bytes (8 + 4 * k)) 0 count in
    take-add 8 (4 * count) bytes
    ∙ ap (λ (x : List ℕ). x ++ take (4 * count) (drop 8 bytes)) header
    ∙ ap (λ (x : List ℕ). (1 ∷ count ∷ drop 2 (to_be_bytes w64 (authority_of bytes))) ++ x) (sym (words_stand bytes 8 0 count (omega arith) fits))
    ∙ ap (λ (n : ℕ). 1 ∷ n ∷ (drop 2 (to_be_bytes w64 (authority_of bytes)) ++ flat_map (to_le_bytes w32) (u32s_at bytes 8 count))) (sym counted_again)

pub sids_stand : SidsStand
unfolding sid_reading
sids_stand bytes s n fits e =
    let long = passed _ _ _ _ e in
    let revision = passed _ _ _ _ long.1 in
    let counted = passed _ _ _ _ revision.1 in
    let room = passed _ _ _ _ counted.1 in
    let read : SidValue = record { authority = authority_of bytes; subs = u32s_at bytes 8 (get_or bytes 1 0) } in
    let same = found_is (read, 8 + 4 * get_or bytes 1 0) (s, n) room.1 in
    let s_is : read ≡ s = ap (λ (x : SidValue × ℕ). x.0) same in
    let n_is : 8 + 4 * get_or bytes 1 0 ≡ n = ap (λ (x : SidValue × ℕ). x.1) same in
    ap (λ k. take k bytes) (sym n_is)
    ∙ stands_as bytes (get_or bytes 1 0) fits (eqb-true _ _ (not-false _ revision.0)) refl (ltb-false _ _ room.0)
    ∙ ap bytes_of_sid s_is
