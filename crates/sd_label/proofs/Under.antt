-- That the verdict without a label says what it is with one.
use Rattle.std.proofs.Common.{◌≡◌, ℕ, ◌<◌, ◌^◌, Bool, List, Option, true, false, ◌&&◌, ◌||◌, ◌==◌, not, cond, arith, ap, lit<, refl, sym, ◌∙◌, inl, inr}
use Rattle.sd_check.proofs.Cited.{Ace, MappingValue, SidValue, TokenValue, answered, bit_at-zero, cases_Bool, eqb-true, holds, holds_place, is_granted, is_mapped, joined_with, judged, mapped, mask_of-alike, mask_of-lt, maximum_verdict, missing_of, most, plain_verdict, reserved_of, verdict, without_maximum}
use Rattle.sd_check.proofs.LowMasks.{no_places}
use Rattle.sd_check.specs.declared.verdict.Verdict.{Verdict}
use Rattle.sd_check.specs.declared.verdict.Verdict.TheVariants.{Granted, Denied, Reserved, EmptyRequest}
use Rattle.sd_explain.proofs.Bits.{own_places}
use Rattle.sd_label.specs.Under.{granted_under, most_under, verdict_under}
use Rattle.sd_sid.specs.Mask.{mask_of}

abbrev pub minus : ℕ → ℕ → ℕ
minus m taken = mask_of (λ b. holds m b && not (holds taken b)) 32

abbrev pub union : ℕ → ℕ → ℕ
union m n = mask_of (λ b. holds m b || holds n b) 32

-- what is granted, or that MAXIMUM_ALLOWED itself is missing
abbrev pub what_is_left : ℕ → Verdict
what_is_left left = cond (left == 0) (Denied 0x02000000) (Granted left)

-- a verdict without what the label takes: `lost` is what it takes of the mapped request
abbrev pub lessened : ℕ → ℕ → Verdict → Verdict
lessened taken lost (Granted m) = cond (lost == 0) (what_is_left (minus m taken)) (Denied lost)
lessened taken lost (Denied missing) = Denied (union missing lost)
lessened taken lost (Reserved m) = Reserved m
lessened taken lost EmptyRequest = EmptyRequest

-- ---- masks

-- an empty mask holds no bit
pub holds_none : (m b : ℕ) → (m == 0) ≡ true → holds m b ≡ false
holds_none m b none = ap (λ n. holds n b) (eqb-true m 0 none) ∙ ap (λ n. n == 1) (bit_at-zero b)

holds_zero : (b : ℕ) → holds 0 b ≡ false
holds_zero b = ap (λ n. n == 1) (bit_at-zero b)

no_bits : (p : ℕ → Bool) → ((b : ℕ) → b < 32 → p b ≡ false) → mask_of p 32 ≡ 0
no_bits p none = mask_of-alike p (λ b. false) 32 none ∙ no_places

union_none : (n : ℕ) → n < 2 ^ 32 → union n 0 ≡ n
union_none n small = mask_of-alike _ (holds n) 32 (λ b h. grind (arith, holds_zero b)) ∙ sym (own_places n small)

-- a mask joined with one that isn't empty isn't either
some_left : (m n : ℕ) → m < 2 ^ 32 → (m == 0) ≡ false → (union m n == 0) ≡ false
some_left m n small some = elim (cases_Bool (union m n == 0)) [
  | inl none ↦
      let empty : m ≡ 0 = own_places m small ∙ no_bits (holds m) (λ b h. grind (arith, holds_none (union m n) b none, holds_place (λ k. holds m k || holds n k) b h)) in
      absurd (grind (arith, some, empty))
  | inr some_both ↦ some_both
]

-- ---- a request without MAXIMUM_ALLOWED

plain_less : (taken q missing lost : ℕ) → ((missing == 0) ≡ true → union missing lost ≡ lost) → ((missing == 0) ≡ false → (union missing lost == 0) ≡ false)
    → ((lost == 0) ≡ true → minus q taken ≡ q)
    → lessened taken lost (plain_verdict q missing) ≡ plain_verdict q (union missing lost)
plain_less taken q missing lost none some kept = elim (cases_Bool (q == 0)) [
  | inl empty ↦ rw empty refl
  | inr asked ↦ elim (cases_Bool (missing == 0)) [
    | inl whole ↦ elim (cases_Bool (lost == 0)) [
      | inl kept_all ↦ rw (asked, whole, kept_all, kept kept_all, asked, none whole, kept_all) refl
      | inr taken_some ↦ rw (asked, whole, taken_some, none whole, taken_some) refl
    ]
    | inr denied ↦ rw (asked, denied, some denied) refl
  ]
]

-- ---- and one with it

maximum_less : (taken missing lost all all_left : ℕ) → ((missing == 0) ≡ true → union missing lost ≡ lost) → ((missing == 0) ≡ false → (union missing lost == 0) ≡ false)
    → ((all == 0) ≡ true → (lost ≡ 0) × (all_left ≡ 0)) → ((lost == 0) ≡ true → minus all taken ≡ all_left)
    → lessened taken lost (maximum_verdict missing all) ≡ maximum_verdict (union missing lost) all_left
maximum_less taken missing lost all all_left none some nothing kept = elim (cases_Bool (missing == 0)) [
  | inl whole ↦ elim (cases_Bool (all == 0)) [
    | inl empty ↦ rw (whole, empty, none whole, (nothing empty).0, (nothing empty).1) (ap Denied (union_none 0x02000000 (lit< tt)))
    | inr any ↦ elim (cases_Bool (lost == 0)) [
      | inl kept_all ↦ rw (whole, any, kept_all, kept kept_all, none whole, kept_all) refl
      | inr taken_some ↦ rw (whole, any, taken_some, none whole, taken_some) refl
    ]
  ]
  | inr denied ↦ rw (denied, some denied) refl
]

-- ---- every request

module _ (g : MappingValue) (p : ℕ → Bool) (most taken r : ℕ) where
  abbrev pub asked : ℕ
  asked = mapped g (without_maximum r)

  -- what the label takes of the mapped request
  abbrev pub lost : ℕ
  lost = mask_of (λ b. holds asked b && holds taken b) 32

  lost_at : (b : ℕ) → b < 32 → holds lost b ≡ (holds asked b && holds taken b)
  lost_at b h = holds_place (λ k. holds asked k && holds taken k) b h

  missing_at : (b : ℕ) → b < 32 → holds (missing_of p asked) b ≡ (holds asked b && not (p b))
  missing_at b h = holds_place (λ k. holds asked k && not (p k)) b h

  missing_joined : missing_of (granted_under taken p) asked ≡ union (missing_of p asked) lost
  missing_joined = mask_of-alike _ _ 32 (λ b h. grind (arith, lost_at b h, missing_at b h))

  lost_alone : (missing_of p asked == 0) ≡ true → union (missing_of p asked) lost ≡ lost
  lost_alone none =
      mask_of-alike _ (holds lost) 32 (λ b h. ap (λ x. x || holds lost b) (holds_none (missing_of p asked) b none))
      ∙ sym (own_places lost (mask_of-lt (λ b. holds asked b && holds taken b) 32))

  still_missing : (missing_of p asked == 0) ≡ false → (union (missing_of p asked) lost == 0) ≡ false
  still_missing = some_left (missing_of p asked) lost (mask_of-lt (λ b. holds asked b && not (p b)) 32)

  pub asked_is_left : (lost == 0) ≡ true → minus asked taken ≡ asked
  asked_is_left none =
      mask_of-alike _ (holds asked) 32 (λ b h. grind (arith, lost_at b h, holds_none lost b none))
      ∙ sym (own_places asked (mask_of-lt (is_mapped g (without_maximum r)) 32))

  all_at : (n b : ℕ) → b < 32 → holds (joined_with asked n) b ≡ (holds asked b || holds n b)
  all_at n b h = holds_place (λ k. holds asked k || holds n k) b h

  most_at : (b : ℕ) → b < 32 → holds (most_under taken most) b ≡ (holds most b && not (holds taken b))
  most_at b h = holds_place (λ k. holds most k && not (holds taken k)) b h

  all_is_left : (lost == 0) ≡ true → minus (joined_with asked most) taken ≡ joined_with asked (most_under taken most)
  all_is_left none = mask_of-alike _ _ 32 (λ b h. grind (arith, lost_at b h, holds_none lost b none, all_at most b h, most_at b h))

  nothing_is_left : (joined_with asked most == 0) ≡ true → (lost ≡ 0) × (joined_with asked (most_under taken most) ≡ 0)
  nothing_is_left none = (
    no_bits _ (λ b h. grind (arith, holds_none (joined_with asked most) b none, all_at most b h)),
    no_bits _ (λ b h. grind (arith, holds_none (joined_with asked most) b none, all_at most b h, most_at b h)),
  )

  answered_less : lessened taken lost (answered p most r asked) ≡ answered (granted_under taken p) (most_under taken most) r asked
  answered_less = elim (cases_Bool (holds r 25)) [
    | inl maximum ↦ rw (maximum, missing_joined)
        (maximum_less taken (missing_of p asked) lost (joined_with asked most) (joined_with asked (most_under taken most)) lost_alone still_missing nothing_is_left all_is_left)
    | inr plain ↦ rw (plain, missing_joined) (plain_less taken asked (missing_of p asked) lost lost_alone still_missing asked_is_left)
  ]

  pub judged_less : lessened taken lost (judged g p most r) ≡ judged g (granted_under taken p) (most_under taken most) r
  judged_less = elim (cases_Bool (r == 0)) [
    | inl empty ↦ rw empty refl
    | inr some ↦ elim (cases_Bool (reserved_of r == 0)) [
      | inl free ↦ rw (some, free) answered_less
      | inr stopped ↦ rw (some, stopped) refl
    ]
  ]

-- the check's verdict, without what the label takes of the mapped request
pub less_of_check : (taken : ℕ) (owner : Option SidValue) (dacl : Option (List Ace)) (g : MappingValue) (t : TokenValue) (r plain mapped_plain taken_of_it : ℕ) (v : Verdict)
    → plain ≡ without_maximum r → mapped_plain ≡ mapped g plain → taken_of_it ≡ mask_of (λ b. holds mapped_plain b && holds taken b) 32
    → v ≡ verdict owner dacl g t r → lessened taken taken_of_it v ≡ verdict_under taken owner dacl g t r
less_of_check taken owner dacl g t r plain mapped_plain taken_of_it v is_plain is_mapped is_taken is =
    let request : mapped_plain ≡ mapped g (without_maximum r) = is_mapped ∙ ap (mapped g) is_plain in
    let lost_is : taken_of_it ≡ lost g (is_granted owner dacl g t) (most owner dacl g t) taken r = is_taken ∙ ap (λ q. mask_of (λ b. holds q b && holds taken b) 32) request in
    ap (λ n. lessened taken n v) lost_is ∙ ap (lessened taken (lost g (is_granted owner dacl g t) (most owner dacl g t) taken r)) is
    ∙ judged_less g (is_granted owner dacl g t) (most owner dacl g t) taken r
