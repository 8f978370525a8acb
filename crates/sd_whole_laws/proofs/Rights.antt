-- The printed rights of an entry are parsed as these rights.
use Rattle.std.proofs.Common.{List, Ok, arith, false, inl, inr, refl, suc, true, zero, ℕ, ◌++◌, ◌<◌, ◌^◌, ◌∷◌, ◌≡◌, ◌≤◌}
use Rattle.std.specs.Prelude.{Bool, nat_lt, ◌==◌, ◌||◌}
use Rattle.std.proofs.lemmas.Bool.{eqb-true, ltb-false}
use Rattle.std.proofs.lemmas.Fmt.{digits_is_IsNumeral}
use Rattle.sd_text.proofs.CanonRights.{rights_read as canon_read}
use Rattle.sd_text.proofs.CanonSids.{number_read}
use Rattle.sd_text.proofs.Parts.{went}
use Rattle.sd_text.specs.Canon.{hex, rights_canon_in}
use Rattle.sd_text.specs.Finding.{find}
use Rattle.std.specs.Prelude.{codes}
use Rattle.sd_text.specs.Rights.{bits_of, mask_number, names_from_greatest, rights}
use Rattle.sd_text.specs.declared.right_names.RightNames.{RightNames}
use Rattle.sd_whole.specs.declared.kind.WholeKind.{WholeKind}
use Rattle.sd_whole.specs.declared.kind.WholeKind.TheVariants as kinds
use Rattle.sd_whole_parse.specs.Fields.{rights_of}
use Rattle.sd_whole_text.specs.Rights.{label_text, reserved_text, rights_text}

plain_read : (names : RightNames) (mask : ℕ) (rest : List ℕ) → mask < 2 ^ 32 → find rights (rights_canon_in names mask ++ 59 ∷ rest) ≡ Ok (mask, 59 ∷ rest)
unfolding names_from_greatest
plain_read names mask rest lt = canon_read names mask (59 ∷ rest) lt refl refl

-- no rights are 0
none_read : (rest : List ℕ) → find rights (59 ∷ rest) ≡ Ok (0, 59 ∷ rest)
unfolding rights bits_of names_from_greatest
none_read rest = refl

reserved_read : (names : RightNames) (mask : ℕ) (rest : List ℕ) → mask < 2 ^ 32 → find rights (reserved_text names mask ++ 59 ∷ rest) ≡ Ok (mask, 59 ∷ rest)
reserved_read names mask rest lt =
    elim (went (mask == 0)) [
      | inl h ↦ let none = eqb-true mask 0 h in rw (none) (none_read rest)
      | inr h ↦ rw h (plain_read names mask rest lt)
    ]

-- ---- labels

hex_read : (mask : ℕ) (rest : List ℕ) → mask < 2 ^ 32 → find (rights_of kinds.MandatoryLabel) ((codes "0x" ++ hex mask) ++ 59 ∷ rest) ≡ Ok (mask, 59 ∷ rest)
unfolding rights_of rights mask_number
hex_read mask rest lt =
    let digits = digits_is_IsNumeral 16 false (omega arith) (omega arith) mask (omega arith) in
    number_read (codes "0x") 16 (2 ^ 32) mask (hex mask) (59 ∷ rest) digits.0 digits.1 lt refl refl

-- one of the seven masks that have names
few_read : (mask : ℕ) (rest : List ℕ) → (mask == 0 || nat_lt 7 mask) ≡ false → find (rights_of kinds.MandatoryLabel) (label_text mask ++ 59 ∷ rest) ≡ Ok (mask, 59 ∷ rest)
unfolding rights_of label_text bits_of
few_read zero rest named = absurd cc
few_read (suc zero) rest named = refl
few_read (suc (suc zero)) rest named = refl
few_read (suc (suc (suc zero))) rest named = refl
few_read (suc (suc (suc (suc zero)))) rest named = refl
few_read (suc (suc (suc (suc (suc zero))))) rest named = refl
few_read (suc (suc (suc (suc (suc (suc zero)))))) rest named = refl
few_read (suc (suc (suc (suc (suc (suc (suc zero))))))) rest named = refl
few_read (suc (suc (suc (suc (suc (suc (suc (suc mask)))))))) rest named = absurd (let le : suc (suc (suc (suc (suc (suc (suc (suc mask))))))) ≤ 7 = ltb-false 7 (suc (suc (suc (suc (suc (suc (suc (suc mask)))))))) (last (suc (suc (suc (suc (suc (suc (suc (suc mask))))))) == 0) (nat_lt 7 (suc (suc (suc (suc (suc (suc (suc (suc mask))))))))) named) in omega arith)
  where
    last : (a b : Bool) → (a || b) ≡ false → b ≡ false
    last true b e = absurd cc
    last false b e = e

label_read : (mask : ℕ) (rest : List ℕ) → mask < 2 ^ 32 → find (rights_of kinds.MandatoryLabel) (label_text mask ++ 59 ∷ rest) ≡ Ok (mask, 59 ∷ rest)
unfolding label_text
label_read mask rest lt =
    elim (went (mask == 0 || nat_lt 7 mask)) [
      | inl h ↦ rw h (hex_read mask rest lt)
      | inr h ↦ few_read mask rest h
    ]

pub rights_read : (names : RightNames) (kind : WholeKind) (mask : ℕ) (rest : List ℕ) → mask < 2 ^ 32 → find (rights_of kind) (rights_text names kind mask ++ 59 ∷ rest) ≡ Ok (mask, 59 ∷ rest)
unfolding rights_of
rights_read names kinds.MandatoryLabel mask rest lt = label_read mask rest lt
rights_read names kinds.ResourceAttribute mask rest lt = reserved_read names mask rest lt
rights_read names kinds.ScopedPolicy mask rest lt = reserved_read names mask rest lt
rights_read names kind mask rest lt = plain_read names mask rest lt
