-- The printed text of a mask, and of flags, is read as the mask and the flags.
use Rattle.sd_text.proofs.Cited.{AllByRecursion, Bool, List, Name, None, Ok, Option, PrintedRight, RightNames, Some, [], all_named, and_parts, append_assoc, arith, begins_digit, bit_and, bit_or, cases_lt, codes, cond, digits_is_IsNumeral, eq-eqb, eqb-true, false, find, flag_canon, flag_names, flat_map, fold, hex, inl, inr, name_in, named, refl, right_names, suc, sym, true, unwrap_or, zero, ℕ, ◌&&◌, ◌++◌, ◌<◌, ◌==◌, ◌^◌, ◌∷◌, ◌≡◌}
use Rattle.sd_text.specs.Rights.{names_from_greatest, bits_of, mask_number, rights}
use Rattle.sd_text.specs.Canon.{rights_canon_in, flags_canon}
use Rattle.sd_text.specs.RightNames.{printed_rights}
use Rattle.sd_text.proofs.Parts.{went}
use Rattle.sd_text.proofs.Tables.{IsTogether, run_start, run_more, run_end, right_row}
use Rattle.sd_text.proofs.CanonSids.{number_read}

-- ---- masks

RightReads : Name ℕ → Type 0
RightReads name = (rest : List ℕ) → (begins_digit 10 (name.letters ++ rest) ≡ false) × (named right_names (name.letters ++ rest) ≡ Some (name.stands_for, rest))

right_rows : AllByRecursion (λ (right : PrintedRight). RightReads right.0) printed_rights
unfolding printed_rights names_from_greatest RightReads
right_rows = (λ rest. (refl, refl), (λ rest. (refl, refl), (λ rest. (refl, refl), (λ rest. (refl, refl), (λ rest. (refl, refl), (λ rest. (refl, refl), (λ rest. (refl, refl), (λ rest. (refl, refl), (λ rest. (refl, refl), (λ rest. (refl, refl), (λ rest. (refl, refl), (λ rest. (refl, refl), (λ rest. (refl, refl), (λ rest. (refl, refl), (λ rest. (refl, refl), tt)))))))))))))))

one_name : (mask : ℕ) (text rest : List ℕ) → named right_names text ≡ Some (mask, rest) → named right_names rest ≡ None → find (bits_of right_names) text ≡ Ok (mask, rest)
unfolding bits_of
one_name mask text rest one none = run_end right_names bit_or 0 text mask rest (run_more right_names bit_or 0 text 0 text mask rest (run_start right_names bit_or 0 text) one) none

pub rights_read : (names : RightNames) (mask : ℕ) (rest : List ℕ) → mask < 2 ^ 32 → begins_digit 16 rest ≡ false → named right_names rest ≡ None → find rights (rights_canon_in names mask ++ rest) ≡ Ok (mask, rest)
unfolding rights_canon_in rights mask_number RightReads
rights_read names mask rest lt ends none = by_name (name_in names printed_rights mask) refl
  where
    by_name : (found : Option (List ℕ)) → name_in names printed_rights mask ≡ found → find rights (unwrap_or found (codes "0x" ++ hex mask) ++ rest) ≡ Ok (mask, rest)
    by_name None e =
        let digits = digits_is_IsNumeral 16 false (omega arith) (omega arith) mask (omega arith) in
        number_read (codes "0x") 16 (2 ^ 32) mask (hex mask) rest digits.0 digits.1 lt ends refl
    by_name (Some letters) e =
        let row = right_row RightReads names printed_rights mask letters right_rows e in
        let reads = row.1 rest in
        rw (sym row.2, reads.0, one_name row.0.stands_for (row.0.letters ++ rest) rest reads.1 none, row.3) refl

-- ---- flags

FlagReads : Name ℕ → Type 0
FlagReads name = (rest : List ℕ) → named flag_names (name.letters ++ rest) ≡ Some (name.stands_for, rest)

flag_rows : AllByRecursion FlagReads flag_names
unfolding FlagReads
flag_rows = (λ rest. refl, (λ rest. refl, (λ rest. refl, (λ rest. refl, (λ rest. refl, (λ rest. refl, (λ rest. refl, tt)))))))

-- the bits so far, and the name's where it is set
with_flag : ℕ → ℕ → Name ℕ → ℕ
with_flag flags sum name = cond (bit_and flags name.stands_for == 0) sum (bit_or sum name.stands_for)

flags_reach : (flags : ℕ) (names : List (Name ℕ)) (start : List ℕ) (sum : ℕ) (rest : List ℕ) → AllByRecursion FlagReads names → IsTogether flag_names bit_or 0 start sum (flat_map (flag_canon flags) names ++ rest) → IsTogether flag_names bit_or 0 start (fold (with_flag flags) sum names) rest
unfolding FlagReads with_flag
flags_reach flags [] start sum rest all so_far = so_far
flags_reach flags (name ∷ names) start sum rest all so_far =
    elim (went (bit_and flags name.stands_for == 0)) [
      | inl h ↦ rw h (flags_reach flags names start sum rest all.1 (rw h at so_far))
      | inr h ↦
          let after = flat_map (flag_canon flags) names ++ rest in
          let here : IsTogether flag_names bit_or 0 start sum (name.letters ++ after) = rw (h, append_assoc name.letters (flat_map (flag_canon flags) names) rest) at so_far in
          rw h (flags_reach flags names start (bit_or sum name.stands_for) rest all.1 (run_more flag_names bit_or 0 start sum (name.letters ++ after) name.stands_for after here (all.0 after)))
    ]

-- the bits of the names that are set are the flags, where there are no others: each of the 256 is tried
comes_back : ℕ → Bool
comes_back flags = cond (bit_and flags all_named == flags) (fold (with_flag flags) 0 flag_names == flags) true

all_below : (ℕ → Bool) → ℕ → Bool
all_below p zero = true
all_below p (suc n) = p n && all_below p n

each_below : (p : ℕ → Bool) (n k : ℕ) → all_below p n ≡ true → k < n → p k ≡ true
unfolding all_below
each_below p zero k all lt = absurd (omega arith)
each_below p (suc n) k all lt =
    let both = and_parts (p n) (all_below p n) all in
    elim (cases_lt k n) [ inl below ↦ each_below p n k both.1 below | inr above ↦ let same : n ≡ k = omega arith in rw (sym same) both.0 ]

tried : all_below comes_back 256 ≡ true
unfolding all_below comes_back with_flag
tried = refl

flags_come_back : (flags : ℕ) → flags < 256 → bit_and flags all_named ≡ flags → fold (with_flag flags) 0 flag_names ≡ flags
unfolding comes_back
flags_come_back flags lt named_only =
    let test = each_below comes_back 256 flags tried lt in
    eqb-true (fold (with_flag flags) 0 flag_names) flags (rw (eq-eqb (bit_and flags all_named) flags named_only) at test)

pub flags_read : (flags : ℕ) (rest : List ℕ) → flags < 256 → bit_and flags all_named ≡ flags → named flag_names rest ≡ None → find (bits_of flag_names) (flags_canon flags ++ rest) ≡ Ok (flags, rest)
unfolding bits_of flags_canon
flags_read flags rest lt named_only none =
    let start = flat_map (flag_canon flags) flag_names ++ rest in
    let whole = flags_reach flags flag_names start 0 rest flag_rows (run_start flag_names bit_or 0 start) in
    run_end flag_names bit_or 0 start flags rest (rw (flags_come_back flags lt named_only) at whole) none
