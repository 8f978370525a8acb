-- The proofs of the laws on parts.
use Rattle.sd_explain.proofs.Cited.{Allowed, BeyondAll, Bool, Cause, Denied, Finding, IsPartOf, Label, Listed, NoEntry, NoList, NoSecurity, None, Option, Owner, Part, Reason, Reserved, Restricted, Security, Some, TakeOwnership, and_from, and_parts, ap, arith, bit_at-zero, bits_of, cases_Bool, cases_order, cond, cond-true, eq-eqb, eqb-true, false, false≢true, holds, holds-mask_of, holds_place, inl, inr, is_of_share, lt-ltb, part_at, refl, same_cause, same_finding, suc, sym, true, zero, ℕ, ◌*◌, ◌+◌, ◌<◌, ◌==◌, ◌^◌, ◌∙◌, ◌≡◌, ◌≢◌}
use Rattle.sd_sid.specs.Mask.{mask_of}
use Rattle.sd_explain.specs.Parts.{part_of}
use Rattle.sd_explain.specs.declared.reason.Share.TheVariants as shares

-- ---- causes that pass the test are one

same_finding-true : (j k : Finding) → same_finding j k ≡ true → j ≡ k
same_finding-true (Allowed j) (Allowed k) h = ap Allowed (eqb-true j k h)
same_finding-true (Denied j) (Denied k) h = ap Denied (eqb-true j k h)
same_finding-true NoEntry NoEntry h = refl
same_finding-true j k h = absurd cc

same_finding-itself : (k : Finding) → same_finding k k ≡ true
same_finding-itself (Allowed k) = eq-eqb k k refl
same_finding-itself (Denied k) = eq-eqb k k refl
same_finding-itself NoEntry = refl

same_cause-true : (a b : Cause) → same_cause a b ≡ true → a ≡ b
same_cause-true NoList NoList h = refl
same_cause-true (Listed j) (Listed k) h = ap Listed (same_finding-true j k h)
same_cause-true (Restricted i j) (Restricted k l) h =
    let parts = and_parts (same_finding i k) (same_finding j l) h in
    ap (λ x. Restricted x j) (same_finding-true i k parts.0) ∙ ap (Restricted k) (same_finding-true j l parts.1)
same_cause-true Owner Owner h = refl
same_cause-true TakeOwnership TakeOwnership h = refl
same_cause-true Security Security h = refl
same_cause-true NoSecurity NoSecurity h = refl
same_cause-true BeyondAll BeyondAll h = refl
same_cause-true Reserved Reserved h = refl
same_cause-true Label Label h = refl
same_cause-true a b h = absurd cc

same_cause-itself : (a : Cause) → same_cause a a ≡ true
same_cause-itself (Listed k) = same_finding-itself k
same_cause-itself (Restricted j k) = and_from (same_finding j j) (same_finding k k) (same_finding-itself j) (same_finding-itself k)
same_cause-itself a = refl

-- ---- the least place of a mask

first_of_step : (here : Bool) (k rest : ℕ) → (rest == 0) ≡ true → (cond here 1 0 * 2 ^ k + rest == 0) ≡ false → here ≡ true
first_of_step true k rest none some = refl
first_of_step false k rest none some = absurd (false≢true (sym some ∙ eq-eqb _ 0 (let h : rest ≡ 0 = eqb-true rest 0 none in omega arith)))

pub least : (p : ℕ → Bool) (n : ℕ) → (mask_of p n == 0) ≡ false → (j : ℕ) × ((j < n) × ((p j ≡ true) × ((mask_of p j == 0) ≡ true)))
unfolding mask_of
least p zero some = absurd cc
least p (suc k) some = elim (cases_Bool (mask_of p k == 0)) [
  | inl none ↦ (k, (omega arith, (first_of_step (p k) k (mask_of p k) none some, none)))
  | inr below ↦ let found = least p k below in (found.0, (omega arith, (found.1.1.0, found.1.1.1)))
]

-- where no place below n passes, one that does isn't below n
not_below : (p : ℕ → Bool) (n j : ℕ) → (mask_of p n == 0) ≡ true → p j ≡ true → j < n → ⊥
not_below p n j none is low =
    false≢true (sym (ap (λ m. m == 1) (bit_at-zero j)) ∙ sym (ap (λ m. holds m j) (eqb-true (mask_of p n) 0 none))
    ∙ holds-mask_of p n j ∙ and_from _ _ (lt-ltb j n low) is)

-- ---- a part and its place

module _ (reasons : ℕ → Option Reason) where
  abbrev because : Cause → ℕ → Bool
  because cause b = is_of_share (shares.Because cause) (reasons b)

  -- a place of the cause has a reason with it
  has_reason : (o : Option Reason) (cause : Cause) → is_of_share (shares.Because cause) o ≡ true → (reason : Reason) × ((o ≡ Some reason) × (reason.cause ≡ cause))
  has_reason None cause h = absurd cc
  has_reason (Some reason) cause h = (reason, (refl, same_cause-true reason.cause cause h))

  taken : (none : Bool) (one part : Part) → cond none (Some one) None ≡ Some part → (none ≡ true) × (one ≡ part)
  taken true one part h = (refl, cc)
  taken false one part h = absurd cc

  -- what a part is: no place below its own has its cause, and it has all places that do
  part_parts : (b : ℕ) (o : Option Reason) (part : Part) → part_of reasons b o ≡ Some part
      → (reason : Reason) × ((o ≡ Some reason) × ((reason.cause ≡ part.cause)
      × ((bits_of (shares.Because part.cause) reasons b == 0) ≡ true) × (part.mask ≡ bits_of (shares.Because part.cause) reasons 32)))
  part_parts b None part is = absurd cc
  part_parts b (Some reason) part is =
      let made : Part = record { mask = bits_of (shares.Because reason.cause) reasons 32; cause = reason.cause } in
      let parts = taken (bits_of (shares.Because reason.cause) reasons b == 0) made part is in
      let cause : reason.cause ≡ part.cause = ap (λ (x : Part). x.cause) parts.1 in
      let below = ap (λ x. bits_of (shares.Because x) reasons b == 0) (sym cause) ∙ parts.0 in
      let mask = ap (λ (x : Part). x.mask) (sym parts.1) ∙ ap (λ x. bits_of (shares.Because x) reasons 32) cause in
      (reason, (refl, (cause, below, mask)))

  -- a bit of a part has its cause
  bit_of_part : (place b : ℕ) (part : Part) → part_at reasons place ≡ Some part → b < 32 → holds part.mask b ≡ true → because part.cause b ≡ true
  bit_of_part place b part is low held =
      let parts = part_parts place (reasons place) part is in
      sym (holds_place (because part.cause) b low) ∙ ap (λ n. holds n b) (sym parts.1.1.2) ∙ held

  -- and so has the place of a part
  place_of_part : (place : ℕ) (part : Part) → part_at reasons place ≡ Some part → because part.cause place ≡ true
  place_of_part place part is =
      let parts = part_parts place (reasons place) part is in
      ap (is_of_share (shares.Because part.cause)) parts.1.0 ∙ ap (λ x. same_cause x part.cause) parts.1.1.0 ∙ same_cause-itself part.cause

  pub hold_their_cause : (place b : ℕ) (part : Part) → part_at reasons place ≡ Some part → b < 32 → holds part.mask b ≡ true
      → (reason : Reason) × ((reasons b ≡ Some reason) × (reason.cause ≡ part.cause))
  hold_their_cause place b part is low held = has_reason (reasons b) part.cause (bit_of_part place b part is low held)

  -- the part at a place of the cause, where none stands below it
  part_there : (place : ℕ) (reason : Reason) (cause : Cause) → reasons place ≡ Some reason → reason.cause ≡ cause → (bits_of (shares.Because cause) reasons place == 0) ≡ true
      → part_at reasons place ≡ Some (record { mask = bits_of (shares.Because cause) reasons 32; cause = cause })
  part_there place reason cause is tells none =
      let made : Cause → Option Part =
      λ (x : Cause). cond (bits_of (shares.Because x) reasons place == 0) (Some (record { mask = bits_of (shares.Because x) reasons 32; cause = x })) None in
      ap (part_of reasons place) is ∙ ap made tells ∙ cond-true (bits_of (shares.Because cause) reasons place == 0) _ _ none

  pub has_its_part : (b : ℕ) (reason : Reason) → b < 32 → reasons b ≡ Some reason → IsPartOf reasons b reason
  has_its_part b reason low is =
      let here : because reason.cause b ≡ true = ap (is_of_share (shares.Because reason.cause)) is ∙ same_cause-itself reason.cause in
      let held = holds_place (because reason.cause) b low ∙ here in
      elim (cases_Bool (bits_of (shares.Because reason.cause) reasons b == 0)) [
        | inl none ↦ record { place = b; part = _; begins = omega arith; is_part = part_there b reason reason.cause is refl none; has_bit = held; tells = refl }
        | inr below ↦
            let found = least (because reason.cause) b below in
            let first = has_reason (reasons found.0) reason.cause found.1.1.0 in
            let there = part_there found.0 first.0 reason.cause first.1.0 first.1.1 found.1.1.1 in
            record { place = found.0; part = _; begins = omega (arith, found.1.0); is_part = there; has_bit = held; tells = refl }
      ]

  pub are_apart : (j k b : ℕ) (one other : Part) → part_at reasons j ≡ Some one → part_at reasons k ≡ Some other → j ≢ k
      → b < 32 → holds one.mask b ≡ true → holds other.mask b ≡ true → ⊥
  are_apart j k b one other is_one is_other apart low in_one in_other =
      let mine = hold_their_cause j b one is_one low in_one in
      let theirs = hold_their_cause k b other is_other low in_other in
      let same : one.cause ≡ other.cause = sym mine.1.1 ∙ (let one : mine.0.cause ≡ theirs.0.cause = cc (mine.1.0, theirs.1.0) in one) ∙ theirs.1.1 in
      elim (cases_order j k) [
        | inl equal ↦ apart equal
        | inr other_way ↦ elim other_way [
          | inl before ↦ not_below (because other.cause) k j (part_parts k (reasons k) other is_other).1.1.1 (ap (λ x. because x j) (sym same) ∙ place_of_part j one is_one) before
          | inr behind ↦ not_below (because one.cause) j k (part_parts j (reasons j) one is_one).1.1.1 (ap (λ x. because x k) same ∙ place_of_part k other is_other) behind
        ]
      ]

pub ruleset on_parts = (are_apart, has_its_part, hold_their_cause)
