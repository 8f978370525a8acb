-- What is printed of a mask parses as that mask.
use Rattle.sd_line.proofs.Cited.{AllDigits, AreJoined, Bool, Directory, File, Folder, IsMaskIn, IsWordMask, Key, List, Manager, NamedBits, Names, None, Number, ObjectKind, Ok, Option, Printer, Process, Section, Service, Some, Spelling, Spells, Token, [], and_le_l, and_parts, and_zero_r, ap, append-nil, append_assoc, arith, between_pluses, bit_and, bit_at, bit_at_and, bit_at_or, bit_or, codes, digit_value, digits_is_IsNumeral, eqb-true, false, find, hex, holds, holds-and, holds-or, holds_place, inl, inr, is_due, is_of, join_with_byte, join_with_byte-slice_split, length, length-slice_split, list_all, ltb-true, mask_digits, mask_named, mask_of, mask_of-lt, mask_text, names_of, nat_lt, ne_eqb, not, number_read, onto_first, or_lt, or_zero_r, refl, same_from_bits, same_masks, spelled, subst, suc, sym, true, went, whole_value, with_rest, with_word, ℕ, ◌&&◌, ◌++◌, ◌<◌, ◌==◌, ◌^◌, ◌||◌, ◌∙◌, ◌∷◌, ◌≡◌}
use Rattle.sd_line.specs.MaskNames.{named_from}
use Rattle.sd_text.specs.Rights.{mask_number, rights}
use Rattle.sd_line.proofs.RightNames.{by_test}
use Rattle.sd_line.specs.Names.{long_names, short_names}
use Rattle.sd_line.specs.Names as table

-- ---- texts that plus signs separate

one_part : (ds : List ℕ) → AllDigits 16 ds → between_pluses ds ≡ ds ∷ []
one_part [] all = refl
one_part (c ∷ ds) all = elim (went (c == 43)) [
  | inl plus ↦ absurd (let low : digit_value 43 < 16 = subst (λ n. digit_value n < 16) (eqb-true c 43 plus) all.0 in omega arith)
  | inr other ↦ rw (other, one_part ds all.1) refl
]

onto_join : (x : ℕ) (parts more : List (List ℕ)) → 0 < length parts → onto_first x (parts ++ more) ≡ onto_first x parts ++ more
onto_join x [] more some = absurd (omega arith)
onto_join x (part ∷ parts) more some = refl

split_plus : (text word : List ℕ) → between_pluses word ≡ word ∷ [] → between_pluses (text ++ 43 ∷ word) ≡ between_pluses text ++ word ∷ []
split_plus [] word one = rw one refl
split_plus (c ∷ text) word one = elim (went (c == 43)) [
  | inl plus ↦ rw (plus, split_plus text word one) refl
  | inr other ↦ rw (other, split_plus text word one)
      (onto_join c (between_pluses text) (word ∷ []) (omega (arith, length-slice_split (λ b. b == 43) text)))
]

only_part : (text : List ℕ) (parts : List (List ℕ)) → between_pluses text ≡ parts → (length parts == 1) ≡ true → between_pluses text ≡ text ∷ []
only_part text [] same one = absurd cc
only_part text (part ∷ []) same one = same ∙ ap (λ p. p ∷ []) (ap (join_with_byte 43) (sym same) ∙ join_with_byte-slice_split 43 text)
only_part text (part ∷ other ∷ parts) same one = absurd (let two = eqb-true (suc (suc (length parts))) 1 one in omega arith)

not_empty : (c : ℕ) (text : List ℕ) → (length (c ∷ text) == 0) ≡ false
not_empty c text = ne_eqb (suc (length text)) 0 (λ e. absurd (omega (arith, e)))

-- ---- one word more

module _ (kind : Option ObjectKind) where
  joined_after : (bits : ℕ) (words : List (List ℕ)) (named m : ℕ) (word : List ℕ) → AreJoined kind bits words named
      → IsWordMask kind word m → AreJoined kind bits (words ++ word ∷ []) (bit_or named m)
  joined_after bits [] named m word joined is = (m, is, ap (λ b. bit_or b m) joined)
  joined_after bits (first ∷ words) named m word joined is =
      (joined.0, joined.1, joined_after (bit_or bits joined.0) words named m word joined.2 is)

  -- a word that isn't empty and has no plus
  with_one : (text word : List ℕ) (named m : ℕ) → IsMaskIn (Names kind) text named → IsWordMask kind word m
      → between_pluses word ≡ word ∷ [] → 0 < length word → IsMaskIn (Names kind) (with_word text word) (bit_or named m)
  with_one [] [] named m so_far is one some = absurd (omega arith)
  with_one [] (c ∷ word) named m so_far is one some = rw (so_far, one) (m, is, refl)
  with_one (c ∷ text) word named m so_far is one some =
      let words = ap (λ t. between_pluses t) (append_assoc (c ∷ text) (43 ∷ []) word) ∙ split_plus (c ∷ text) word one in
      rw (not_empty c text)
      (subst (λ ws. AreJoined kind 0 ws (bit_or named m)) (sym words) (joined_after 0 (between_pluses (c ∷ text)) named m word so_far is))

-- ---- the number after the names

hex_read : (mask : ℕ) → mask < 2 ^ 32 → find rights (codes "0x" ++ hex mask ++ []) ≡ Ok (mask, [])
unfolding rights mask_number
hex_read mask lt = let digits = digits_is_IsNumeral 16 false (omega arith) (omega arith) mask (omega arith) in number_read (codes "0x") 16 (2 ^ 32) mask (hex mask) [] digits.0 digits.1 lt refl refl

number_spelled : (mask : ℕ) → mask < 2 ^ 32 → Spells mask_text (mask_digits mask) mask
number_spelled mask lt =
    whole_value rights (mask_digits mask) mask [] (rw (let h = hex_read mask lt in rw append-nil at h) refl)

no_name : (kind : Option ObjectKind) (digits : List ℕ) → mask_named kind (48 ∷ digits) ≡ None
unfolding long_names short_names table.rights
no_name None digits = refl
no_name (Some File) digits = refl
no_name (Some Key) digits = refl
no_name (Some Service) digits = refl
no_name (Some Process) digits = refl
no_name (Some Folder) digits = refl
no_name (Some Directory) digits = refl
no_name (Some Printer) digits = refl
no_name (Some Section) digits = refl
no_name (Some Token) digits = refl
no_name (Some Manager) digits = refl

number_word : (kind : Option ObjectKind) (mask : ℕ) → mask < 2 ^ 32 → IsWordMask kind (mask_digits mask) mask
number_word kind mask lt = inr (no_name kind (120 ∷ hex mask), inr (not_empty 48 (120 ∷ hex mask), number_spelled mask lt))

number_part : (mask : ℕ) → mask < 2 ^ 32 → between_pluses (mask_digits mask) ≡ mask_digits mask ∷ []
number_part mask lt =
    let digits = digits_is_IsNumeral 16 false (omega arith) (omega arith) mask (omega arith) in
    rw (one_part (hex mask) digits.0.1) refl

-- ---- the names of the table

is_mask : Option ℕ → ℕ → Bool
is_mask None mask = false
is_mask (Some bits) mask = bits == mask

is_mask-true : (found : Option ℕ) (mask : ℕ) → is_mask found mask ≡ true → found ≡ Some mask
unfolding is_mask
is_mask-true None mask e = absurd cc
is_mask-true (Some bits) mask e = ap Some (eqb-true bits mask e)

-- the name is one word that the kind has for its bits
reads_back : Option ObjectKind → NamedBits → Bool
reads_back kind named = not (is_of kind named.1)
    || (is_mask (mask_named kind named.0.letters) named.0.stands_for
    && ((length (between_pluses named.0.letters) == 1) && nat_lt 0 (length named.0.letters)))

all_read_back : (kind : Option ObjectKind) → list_all (reads_back kind) (short_names ++ table.rights) ≡ true
unfolding long_names short_names table.rights reads_back is_mask
all_read_back None = refl
all_read_back (Some File) = refl
all_read_back (Some Key) = refl
all_read_back (Some Service) = refl
all_read_back (Some Process) = refl
all_read_back (Some Folder) = refl
all_read_back (Some Directory) = refl
all_read_back (Some Printer) = refl
all_read_back (Some Section) = refl
all_read_back (Some Token) = refl
all_read_back (Some Manager) = refl

with_name : (kind : Option ObjectKind) (row : NamedBits) (text : List ℕ) (named : ℕ) → reads_back kind row ≡ true → is_of kind row.1 ≡ true
    → IsMaskIn (Names kind) text named → IsMaskIn (Names kind) (with_word text row.0.letters) (bit_or named row.0.stands_for)
unfolding reads_back
with_name kind row text named reads is so_far =
    let word = and_parts _ _ (rw is at reads) in
    let part = and_parts _ _ word.1 in
    with_one kind text row.0.letters named row.0.stands_for so_far (inl (is_mask-true (mask_named kind row.0.letters) row.0.stands_for word.0))
    (only_part row.0.letters (between_pluses row.0.letters) refl part.0) (ltb-true 0 (length row.0.letters) part.1)

-- ---- bits

left_out : ℕ → ℕ → ℕ
left_out mask named = mask_of (λ b. holds mask b && not (holds named b)) 32

left_out-lt : (mask named : ℕ) → left_out mask named < 2 ^ 32
unfolding left_out
left_out-lt mask named = mask_of-lt (λ b. holds mask b && not (holds named b)) 32

either_bit : (m n : Bool) → (m && n) ≡ n → (n || (m && not n)) ≡ m
either_bit true true e = refl
either_bit true false e = refl
either_bit false true e = cc
either_bit false false e = refl

-- the named bits and those that are left out are the mask
joined_bits : (mask named : ℕ) → mask < 2 ^ 32 → bit_and mask named ≡ named → bit_or named (left_out mask named) ≡ mask
unfolding left_out
joined_bits mask named low within =
    let less : named < 2 ^ 32 = omega (arith, and_le_l mask named, within) in
    same_masks _ mask (or_lt 32 named (left_out mask named) less (left_out-lt mask named)) low (λ k lt.
    holds-or named (left_out mask named) k
    ∙ ap (λ b. holds named k || b) (holds_place (λ b. holds mask b && not (holds named b)) k lt)
    ∙ either_bit (holds mask k) (holds named k) (sym (holds-and mask named k) ∙ ap (λ n. holds n k) within))

within_both : (mask named more : ℕ) → bit_and mask named ≡ named → bit_and mask more ≡ more → bit_and mask (bit_or named more) ≡ bit_or named more
within_both mask named more one two = same_from_bits _ _ (λ k.
    let first = sym (bit_at_and mask named k) ∙ ap (λ n. bit_at n k) one in
    let second = sym (bit_at_and mask more k) ∙ ap (λ n. bit_at n k) two in
    rw (bit_at_and, bit_at_or) (omega (arith, first, second)))

-- ---- the text of a mask

module _ (kind : Option ObjectKind) (mask : ℕ) (low : mask < 2 ^ 32) where
  with_left : (text : List ℕ) (named : ℕ) → bit_and mask named ≡ named → IsMaskIn (Names kind) text named
      → IsMaskIn (Names kind) (with_rest text (left_out mask named)) mask
  with_left text named within so_far =
      let rest = left_out mask named in
      let lt : rest < 2 ^ 32 = left_out-lt mask named in
      let bits = joined_bits mask named low within in
      elim (went ((rest == 0) && not (length text == 0))) [
        | inl none ↦
            let all = sym (or_zero_r named) ∙ ap (bit_or named) (sym (eqb-true rest 0 (and_parts _ _ none).0)) ∙ bits in
            rw none (subst (IsMaskIn (Names kind) text) all so_far)
        | inr some ↦ rw some (subst (IsMaskIn (Names kind) (with_word text (mask_digits rest))) bits
            (with_one kind text (mask_digits rest) named rest so_far (number_word kind rest lt) (number_part rest lt) (omega arith)))
      ]

  from_rows : (rows : List NamedBits) (text : List ℕ) (named : ℕ) → list_all (reads_back kind) rows ≡ true → bit_and mask named ≡ named
      → IsMaskIn (Names kind) text named → IsMaskIn (Names kind) (named_from (names_of kind rows) mask named text) mask
  unfolding named_from left_out
  from_rows [] text named all within so_far = with_left text named within so_far
  from_rows (row ∷ rows) text named all within so_far =
      let both = and_parts (reads_back kind row) (list_all (reads_back kind) rows) all in
      rw by_test (elim (went (is_of kind row.1 && is_due mask named row.0.stands_for)) [
        | inl due ↦
            let parts = and_parts _ _ due in
            rw due (from_rows rows (with_word text row.0.letters) (bit_or named row.0.stands_for) both.1
            (within_both mask named row.0.stands_for within (eqb-true _ _ (and_parts _ _ parts.1).0)) (with_name kind row text named both.0 parts.0 so_far))
        | inr other ↦ rw other (from_rows rows text named both.1 within so_far)
      ])

pub comes_back : (spelling : Spelling) (mask : ℕ) → mask < 2 ^ 32 → IsMaskIn spelling (spelled spelling mask) mask
comes_back Number mask low = number_spelled mask low
comes_back (Names kind) mask low = from_rows kind mask low (short_names ++ table.rights) [] 0 (all_read_back kind) (and_zero_r mask) refl
