-- What a request asks of the file itself, where the parent grants rights of it.
use Rattle.std.proofs.Common.{◌≡◌, ◌∙◌, inl, inr, ℕ, ◌<◌, ◌≤◌, ◌^◌, Bool, true, false, not, ◌&&◌, ◌||◌, ◌==◌, nat_lt, refl, sym, ap, arith}
use Rattle.std.specs.Prelude.{if◌then◌else◌}
use Rattle.sd_check.proofs.Cited.{agree_below_at, answered, bit_at-zero, cases_Bool, cases_lt, eqb-true, holds, holds_place, is_mapped, is_mask_of, joined_with, judged, lt-ltb, mapped, mask_of-alike, missing_of, plain_verdict, reserved_of, without_maximum}
use Rattle.sd_check.proofs.LowMasks.{high_place, no_places}
use Rattle.sd_check.specs.declared.verdict.Verdict.{Verdict}
use Rattle.sd_check.specs.declared.verdict.Verdict.TheVariants.{Denied, EmptyRequest, Granted}
use Rattle.sd_sid.specs.Mapping.{IsMapping, MappingValue}
use Rattle.sd_sid.specs.Mask.{mask_of}
use Rattle.sd_open.specs.Open.{IsOwnRights}

holds_none : (m b : ℕ) → (m == 0) ≡ true → holds m b ≡ false
holds_none m b none = ap (λ n. holds n b) (eqb-true m 0 none) ∙ ap (λ n. n == 1) (bit_at-zero b)

no_bits : (p : ℕ → Bool) → ((b : ℕ) → b < 32 → p b ≡ false) → mask_of p 32 ≡ 0
no_bits p none = mask_of-alike p (λ b. false) 32 none ∙ no_places

-- neither reserved bits nor MAXIMUM_ALLOWED are below place 21
low_reserved : (b : ℕ) → b < 21 → holds 0x0CE00000 b ≡ false
low_reserved b low = agree_below_at (holds 0x0CE00000) (λ k. false) 21 b refl low

low_maximum : (b : ℕ) → b < 21 → holds 0x02000000 b ≡ false
low_maximum b low = agree_below_at (holds 0x02000000) (λ k. false) 21 b refl low

module _ (g : MappingValue) (is : IsMapping g) (r : ℕ) (free : (reserved_of r == 0) ≡ true) (more : ℕ) where
  abbrev pub asked : ℕ
  asked = mapped g (without_maximum r)

  abbrev pub rest : ℕ
  rest = mask_of (λ b. holds asked b && not (holds more b)) 32

  without_at : (b : ℕ) → b < 32 → holds (without_maximum r) b ≡ (holds r b && not (holds 0x02000000 b))
  without_at b h = holds_place (λ k. holds r k && not (holds 0x02000000 k)) b h

  -- from place 21 on nothing comes by the mapping
  high_asked : (b : ℕ) → 21 ≤ b → b < 32 → holds asked b ≡ (holds (without_maximum r) b && nat_lt b 28)
  high_asked b high h =
      holds_place (is_mapped g (without_maximum r)) b h
      ∙ grind (arith, high_place g.read b is.read high, high_place g.write b is.write high, high_place g.execute b is.execute high, high_place g.all b is.all high)

  none_reserved : (b : ℕ) → b < 32 → (holds r b && holds 0x0CE00000 b) ≡ false
  none_reserved b h = sym (holds_place (λ k. holds r k && holds 0x0CE00000 k) b h) ∙ holds_none (reserved_of r) b free

  asked_is_free : (b : ℕ) → b < 32 → (holds asked b && holds 0x0CE00000 b) ≡ false
  asked_is_free b h = elim (cases_lt b 21) [
    | inl low ↦ grind (arith, low_reserved b low)
    | inr high ↦ grind (arith, high_asked b high h, without_at b h, none_reserved b h)
  ]

  asked_is_named : (b : ℕ) → b < 32 → (holds asked b && holds 0x02000000 b) ≡ false
  asked_is_named b h = elim (cases_lt b 21) [
    | inl low ↦ grind (arith, low_maximum b low)
    | inr high ↦ grind (arith, high_asked b high h, without_at b h)
  ]

  asked_is_low : (b : ℕ) → b < 32 → nat_lt b 28 ≡ false → holds asked b ≡ false
  asked_is_low b h high = elim (cases_lt b 21) [
    | inl low ↦ absurd (let below = lt-ltb b 28 (omega (arith, low)) in grind (arith, high, below))
    | inr above ↦ grind (arith, high_asked b above h, high)
  ]

  rest_at : (b : ℕ) → b < 32 → holds rest b ≡ (holds asked b && not (holds more b))
  rest_at b h = holds_place (λ k. holds asked k && not (holds more k)) b h

  kept_at : (b : ℕ) → b < 32 → holds (without_maximum rest) b ≡ (holds rest b && not (holds 0x02000000 b))
  kept_at b h = holds_place (λ k. holds rest k && not (holds 0x02000000 k)) b h

  no_generic : (b : ℕ) → b < 32 → nat_lt b 28 ≡ false → holds (without_maximum rest) b ≡ false
  no_generic b h high = grind (arith, kept_at b h, rest_at b h, asked_is_low b h high)

  rest_is_mapped : (b : ℕ) → b < 32 → is_mapped g (without_maximum rest) b ≡ (holds asked b && not (holds more b))
  rest_is_mapped b h =
      rw (no_generic 31 (omega arith) refl, no_generic 30 (omega arith) refl, no_generic 29 (omega arith) refl, no_generic 28 (omega arith) refl)
      (grind (arith, kept_at b h, rest_at b h, asked_is_named b h, asked_is_low b h))

  pub rest_is_own : IsOwnRights g rest
  rest_is_own = record {
    free = no_bits _ (λ b h. grind (arith, rest_at b h, asked_is_free b h));
    by_name = grind (arith, rest_at 25 (omega arith), asked_is_named 25 (omega arith));
    mapped = mask_of-alike _ _ 32 rest_is_mapped;
  }

  module _ (p : ℕ → Bool) (most : ℕ) where
    abbrev with : ℕ → Bool
    with b = p b || holds more b

    missing_is : missing_of with asked ≡ missing_of p rest
    missing_is = mask_of-alike _ _ 32 (λ b h. grind (arith, rest_at b h))

    abbrev all_of_it : ℕ
    all_of_it = joined_with asked (joined_with most more)

    answer_is : (r == 0) ≡ false → judged g with (joined_with most more) r ≡ answered with (joined_with most more) r asked
    answer_is some = rw (some, free) refl

    pub denied : (r == 0) ≡ false → (missing_of p rest == 0) ≡ false → judged g with (joined_with most more) r ≡ Denied (missing_of p rest)
    denied some lacks = answer_is some ∙ elim (cases_Bool (holds r 25)) [
      | inl maximum ↦ rw (maximum, missing_is, lacks) refl
      | inr plain ↦ elim (cases_Bool (asked == 0)) [
        | inl none ↦ absurd (let nothing = no_bits (λ b. holds rest b && not (p b)) (λ b h. grind (arith, rest_at b h, holds_none asked b none)) in
            grind (arith, lacks, nothing))
        | inr asks ↦ rw (plain, asks, missing_is, lacks) refl
      ]
    ]

    pub all : (r == 0) ≡ false → (missing_of p rest == 0) ≡ true → holds r 25 ≡ true
        → judged g with (joined_with most more) r ≡ (if all_of_it == 0 then Denied 0x02000000 else Granted all_of_it)
    all some has maximum = answer_is some ∙ rw (maximum, missing_is, has) refl

    pub nothing : (r == 0) ≡ false → holds r 25 ≡ false → (asked == 0) ≡ true → judged g with (joined_with most more) r ≡ EmptyRequest
    nothing some plain none = answer_is some ∙ rw (plain, none) refl

    pub granted : (r == 0) ≡ false → (missing_of p rest == 0) ≡ true → holds r 25 ≡ false → (asked == 0) ≡ false
        → judged g with (joined_with most more) r ≡ Granted asked
    granted some has plain asks = answer_is some ∙ rw (plain, asks, missing_is, has) refl

-- ---- what is asked of the file itself

module _ (g : MappingValue) (p : ℕ → Bool) (most q : ℕ) (own : IsOwnRights g q) where
  own_answer : judged g p most q ≡ plain_verdict q (missing_of p q)
  own_answer = elim (cases_Bool (q == 0)) [
    | inl none ↦ rw none refl
    | inr some ↦ rw (some, own.free, own.by_name, own.mapped, some) refl
  ]

  pub missing_told : (missing : ℕ) → judged g p most q ≡ Denied missing → missing ≡ missing_of p q
  missing_told missing h = grind (arith, h, own_answer)

  pub none_missing : (v : Verdict) → judged g p most q ≡ v → ((missing : ℕ) → v ≡ Denied missing → ⊥) → missing_of p q ≡ 0
  none_missing v h other = elim (cases_Bool (q == 0)) [
    | inl none ↦ no_bits (λ b. holds q b && not (p b)) (λ b low. grind (arith, holds_none q b none))
    | inr some ↦ elim (cases_Bool (missing_of p q == 0)) [
      | inl has ↦ eqb-true (missing_of p q) 0 has
      | inr lacks ↦ absurd (other (missing_of p q) (sym h ∙ own_answer ∙ rw (some, lacks) refl))
    ]
  ]

-- ---- what MAXIMUM_ALLOWED takes in

nothing_reserved : reserved_of 0x02000000 ≡ 0
unfolding mask_of
nothing_reserved = refl

nothing_mapped : (g : MappingValue) → mapped g (without_maximum 0x02000000) ≡ 0
unfolding mask_of
nothing_mapped g = refl

nothing_asked : (p : ℕ → Bool) → missing_of p 0 ≡ 0
unfolding mask_of
nothing_asked p = refl

module _ (g : MappingValue) (p : ℕ → Bool) (most : ℕ) (small : most < 2 ^ 32) where
  same_most : joined_with 0 most ≡ most
  same_most =
      mask_of-alike (λ b. holds 0 b || holds most b) (holds most) 32 (λ b h. ap (λ x. x || holds most b) (holds_none 0 b refl))
      ∙ sym (is_mask_of (holds most) most small (λ b h. refl))

  maximum_answer : judged g p most 0x02000000 ≡ (if most == 0 then Denied 0x02000000 else Granted most)
  maximum_answer = rw (nothing_reserved, nothing_mapped g, nothing_asked p, same_most) refl

  most_cases : (v : Verdict) → v ≡ (if most == 0 then Denied 0x02000000 else Granted most) → (mask : ℕ) → v ≡ Granted mask → mask ≡ most
  most_cases v h mask is = elim (cases_Bool (most == 0)) [
    | inl none ↦ absurd (let other = sym is ∙ h ∙ ap (λ b. if b then Denied 0x02000000 else Granted most) none in cc)
    | inr some ↦ let same = sym is ∙ h ∙ ap (λ b. if b then Denied 0x02000000 else Granted most) some in cc
  ]

  pub most_granted : (v : Verdict) → v ≡ judged g p most 0x02000000 → (mask : ℕ) → v ≡ Granted mask → mask ≡ most
  most_granted v h mask is = most_cases v (h ∙ maximum_answer) mask is

  pub most_none : (v : Verdict) → v ≡ judged g p most 0x02000000 → ((mask : ℕ) → v ≡ Granted mask → ⊥) → 0 ≡ most
  most_none v h other = elim (cases_Bool (most == 0)) [
    | inl none ↦ sym (eqb-true most 0 none)
    | inr some ↦ absurd (other most (h ∙ maximum_answer ∙ ap (λ b. if b then Denied 0x02000000 else Granted most) some))
  ]
