-- The verdict on two parts is that of a check that grants what is granted on both.
use Rattle.std.proofs.Common.{◌≡◌, ◌∙◌, inl, inr, ℕ, ◌<◌, ◌^◌, Bool, true, false, not, ◌&&◌, ◌||◌, ◌==◌, refl, sym, ap, arith, lit<}
use Rattle.std.proofs.lemmas.Bool.{false≢true}
use Rattle.sd_check.proofs.Cited.{MappingValue, answered, cases_Bool, eqb-true, holds, holds_place, is_mapped, joined_with, judged, mapped, mask_of-alike, mask_of-lt, maximum_verdict, missing_of, plain_verdict, reserved_of, without_maximum}
use Rattle.sd_check.specs.declared.verdict.Verdict.TheVariants.{Denied}
use Rattle.sd_explain.proofs.Bits.{own_places}
use Rattle.sd_check.proofs.LowMasks.{no_places}
use Rattle.sd_label.proofs.Under.{holds_none}
use Rattle.sd_sid.specs.Mask.{mask_of}
use Rattle.sd_types.specs.Verdicts.{both, common, joined}

-- ---- tests

same_and : (a : Bool) → (a && a) ≡ a
same_and true = refl
same_and false = refl

same_or : (a : Bool) → (a || a) ≡ a
same_or true = refl
same_or false = refl

or_false : (a : Bool) → (a || false) ≡ a
or_false true = refl
or_false false = refl

and_false : (a : Bool) → (a && false) ≡ false
and_false true = refl
and_false false = refl

left_false : (a b : Bool) → (a || b) ≡ false → a ≡ false
left_false true b h = h
left_false false b h = refl

-- ---- masks

zero_of : (m : ℕ) → (m == 0) ≡ true → m ≡ 0
zero_of m none = eqb-true m 0 none

holds_zero : (b : ℕ) → holds 0 b ≡ false
holds_zero b = holds_none 0 b refl

-- a mask that holds no bit is empty
no_bits : (p : ℕ → Bool) → ((b : ℕ) → b < 32 → p b ≡ false) → mask_of p 32 ≡ 0
no_bits p none = mask_of-alike p (λ b. false) 32 none ∙ no_places

common_itself : (m : ℕ) → m < 2 ^ 32 → common m m ≡ m
common_itself m small = mask_of-alike (λ b. holds m b && holds m b) (holds m) 32 (λ b h. same_and (holds m b)) ∙ sym (own_places m small)

joined_itself : (m : ℕ) → m < 2 ^ 32 → joined m m ≡ m
joined_itself m small = mask_of-alike (λ b. holds m b || holds m b) (holds m) 32 (λ b h. same_or (holds m b)) ∙ sym (own_places m small)

joined_none : (n : ℕ) → n < 2 ^ 32 → joined 0 n ≡ n
joined_none n small =
    mask_of-alike (λ b. holds 0 b || holds n b) (holds n) 32 (λ b h. ap (λ x. x || holds n b) (holds_zero b)) ∙ sym (own_places n small)

none_joined : (m : ℕ) → m < 2 ^ 32 → joined m 0 ≡ m
none_joined m small =
    mask_of-alike (λ b. holds m b || holds 0 b) (holds m) 32 (λ b h. ap (λ x. holds m b || x) (holds_zero b) ∙ or_false (holds m b))
    ∙ sym (own_places m small)

no_common : (m n : ℕ) → (m == 0) ≡ true → (common m n == 0) ≡ true
no_common m n none =
    ap (λ k. k == 0) (no_bits (λ b. holds m b && holds n b) (λ b h. ap (λ x. x && holds n b) (holds_none m b none)))

common_none : (m n : ℕ) → (n == 0) ≡ true → (common m n == 0) ≡ true
common_none m n none =
    ap (λ k. k == 0) (no_bits (λ b. holds m b && holds n b) (λ b h. ap (λ x. holds m b && x) (holds_none n b none) ∙ and_false (holds m b)))

-- a mask joined with one that isn't empty isn't either
joined_left : (m n : ℕ) → m < 2 ^ 32 → (m == 0) ≡ false → (joined m n == 0) ≡ false
joined_left m n small some = elim (cases_Bool (joined m n == 0)) [
  | inl none ↦
      let empty : m ≡ 0 = own_places m small ∙ no_bits (holds m) (λ b h.
      left_false (holds m b) (holds n b)
      (sym (holds_place (λ k. holds m k || holds n k) b h) ∙ holds_none (joined m n) b none)) in
      absurd (false≢true (sym some ∙ ap (λ k. k == 0) empty))
  | inr some_both ↦ some_both
]

-- ---- a request without MAXIMUM_ALLOWED

plain_both : (q x y : ℕ) → q < 2 ^ 32 → x < 2 ^ 32 → y < 2 ^ 32
    → both (plain_verdict q x) (plain_verdict q y) ≡ plain_verdict q (joined x y)
plain_both q x y small small_x small_y = elim (cases_Bool (q == 0)) [
  | inl empty ↦ rw empty refl
  | inr asked ↦ elim (cases_Bool (x == 0)) [
    | inl one ↦
        let is_y : joined x y ≡ y = ap (λ n. joined n y) (zero_of x one) ∙ joined_none y small_y in
        elim (cases_Bool (y == 0)) [
          | inl other ↦ rw (asked, one, other, is_y, other, common_itself q small, asked) refl
          | inr other ↦ rw (asked, one, other, is_y, other) refl
        ]
    | inr one ↦ elim (cases_Bool (y == 0)) [
      | inl other ↦
          let is_x : joined x y ≡ x = ap (λ n. joined x n) (zero_of y other) ∙ none_joined x small_x in
          rw (asked, one, other, is_x, one) refl
      | inr other ↦ rw (asked, one, other, joined_left x y small_x one) refl
    ]
  ]
]

-- ---- and one with it

maximum_both : (x y m n : ℕ) → x < 2 ^ 32 → y < 2 ^ 32 → ((m == 0) ≡ true → (y == 0) ≡ true) → ((n == 0) ≡ true → (x == 0) ≡ true)
    → both (maximum_verdict x m) (maximum_verdict y n) ≡ maximum_verdict (joined x y) (common m n)
maximum_both x y m n small_x small_y none_m none_n = elim (cases_Bool (x == 0)) [
  | inl one ↦
      let is_y : joined x y ≡ y = ap (λ k. joined k y) (zero_of x one) ∙ joined_none y small_y in
      elim (cases_Bool (y == 0)) [
        | inl other ↦ elim (cases_Bool (m == 0)) [
          | inl empty ↦
              let nothing = no_common m n empty in
              elim (cases_Bool (n == 0)) [
                | inl too ↦ rw (one, other, empty, too, is_y, other, nothing) (ap Denied (joined_itself 0x02000000 (lit< tt)))
                | inr any ↦ rw (one, other, empty, any, is_y, other, nothing) refl
              ]
          | inr some ↦ elim (cases_Bool (n == 0)) [
            | inl empty ↦
                let nothing = common_none m n empty in
                rw (one, other, some, empty, is_y, other, nothing) refl
            | inr any ↦ rw (one, other, some, any, is_y, other) refl
          ]
        ]
        | inr other ↦ elim (cases_Bool (m == 0)) [
          | inl empty ↦ absurd (false≢true (sym other ∙ none_m empty))
          | inr some ↦ rw (one, other, some, is_y, other) refl
        ]
      ]
  | inr one ↦ elim (cases_Bool (y == 0)) [
    | inl other ↦
        let is_x : joined x y ≡ x = ap (λ k. joined x k) (zero_of y other) ∙ none_joined x small_x in
        elim (cases_Bool (n == 0)) [
          | inl empty ↦ absurd (false≢true (sym one ∙ none_n empty))
          | inr any ↦ rw (one, other, any, is_x, one) refl
        ]
    | inr other ↦ rw (one, other, joined_left x y small_x one) refl
  ]
]

-- ---- every request

module _ (g : MappingValue) (p q : ℕ → Bool) (m n r : ℕ) where
  abbrev wanted : ℕ
  wanted = mapped g (without_maximum r)

  wanted_small : wanted < 2 ^ 32
  wanted_small = mask_of-lt (is_mapped g (without_maximum r)) 32

  missing_at : (s : ℕ → Bool) (b : ℕ) → b < 32 → holds (missing_of s wanted) b ≡ (holds wanted b && not (s b))
  missing_at s b h = holds_place (λ k. holds wanted k && not (s k)) b h

  missing_small : (s : ℕ → Bool) → missing_of s wanted < 2 ^ 32
  missing_small s = mask_of-lt (λ b. holds wanted b && not (s b)) 32

  missing_both : joined (missing_of p wanted) (missing_of q wanted) ≡ missing_of (λ b. p b && q b) wanted
  missing_both = mask_of-alike _ _ 32 (λ b h. grind (arith, missing_at p b h, missing_at q b h))

  all_at : (k b : ℕ) → b < 32 → holds (joined_with wanted k) b ≡ (holds wanted b || holds k b)
  all_at k b h = holds_place (λ j. holds wanted j || holds k j) b h

  common_at : (b : ℕ) → b < 32 → holds (common m n) b ≡ (holds m b && holds n b)
  common_at b h = holds_place (λ j. holds m j && holds n j) b h

  all_both : common (joined_with wanted m) (joined_with wanted n) ≡ joined_with wanted (common m n)
  all_both = mask_of-alike _ _ 32 (λ b h. grind (arith, all_at m b h, all_at n b h, common_at b h))

  -- where nothing at all is granted nothing was asked for beside MAXIMUM_ALLOWED
  nothing_missing : (k : ℕ) (s : ℕ → Bool) → (joined_with wanted k == 0) ≡ true → (missing_of s wanted == 0) ≡ true
  nothing_missing k s none =
      ap (λ x. x == 0) (no_bits (λ b. holds wanted b && not (s b)) (λ b h.
      ap (λ x. x && not (s b)) (left_false (holds wanted b) (holds k b) (sym (all_at k b h) ∙ holds_none (joined_with wanted k) b none))))

  answered_both : both (answered p m r wanted) (answered q n r wanted) ≡ answered (λ b. p b && q b) (common m n) r wanted
  answered_both = elim (cases_Bool (holds r 25)) [
    | inl maximum ↦ rw (maximum, sym missing_both, sym all_both)
        (maximum_both (missing_of p wanted) (missing_of q wanted) (joined_with wanted m) (joined_with wanted n) (missing_small p) (missing_small q)
        (nothing_missing m q) (nothing_missing n p))
    | inr plain ↦ rw (plain, sym missing_both)
        (plain_both wanted (missing_of p wanted) (missing_of q wanted) wanted_small (missing_small p) (missing_small q))
  ]

  pub judged_both : both (judged g p m r) (judged g q n r) ≡ judged g (λ b. p b && q b) (common m n) r
  judged_both = elim (cases_Bool (r == 0)) [
    | inl empty ↦ rw empty refl
    | inr some ↦ elim (cases_Bool (reserved_of r == 0)) [
      | inl free ↦ rw (some, free) answered_both
      | inr stopped ↦ rw (some, stopped) refl
    ]
  ]
