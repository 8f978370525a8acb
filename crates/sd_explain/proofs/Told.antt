-- That the verdict follows from the reasons.
use Rattle.sd_explain.proofs.Cited.{Ace, Bool, Cause, EmptyRequest, List, MappingValue, None, Option, Reason, Share, SidValue, Some, TokenValue, Verdict, answered, ap, arith, belongs, bit_at-zero, bits_of, cases_Bool, cond, cond-false, cond-true, eqb-true, false, false≢true, get_or, get_or-map-range_with_len, grants, holds, holds_place, inl, inr, is_given, is_granted, is_mapped, is_of_share, joined_with, judged, lit<, ltb-true, mapped, mask_of-alike, mask_of-lt, maximum_cause, maximum_verdict, missing_of, most, named_cause, nat_lt, ne_eqb, no_places, not, plain_verdict, reason_at, reason_in, reasons_of, refl, reserved_of, same_cause, sym, told_verdict, true, verdict, without_maximum, ℕ, ◌&&◌, ◌<◌, ◌==◌, ◌||◌, ◌∙◌, ◌≡◌}
use Rattle.sd_sid.specs.Mask.{mask_of}
use Rattle.sd_check.specs.declared.verdict.Verdict.TheVariants.{Granted, Denied, Reserved}
use Rattle.sd_explain.specs.declared.reason.Cause.TheVariants as causes
use Rattle.sd_explain.specs.declared.reason.Share.TheVariants as shares
use Rattle.sd_explain.proofs.Bits.{own_places}
use Rattle.sd_explain.proofs.Causes.{named_grants, maximum_grants, named_unreserved, maximum_unreserved}

-- the verdict from the four sets
abbrev told_by : ℕ → ℕ → ℕ → ℕ → Verdict
told_by reserved missing granted unnamed =
    cond (not (reserved == 0)) (Reserved reserved)
    (cond (not (missing == 0)) (Denied missing)
    (cond (not (granted == 0)) (Granted granted)
    (cond (not (unnamed == 0)) (Denied 0x02000000) EmptyRequest)))

-- reasons that agree below place 32 tell one verdict
same_bits : (share : Share) (some others : ℕ → Option Reason) → ((b : ℕ) → b < 32 → some b ≡ others b) → bits_of share some 32 ≡ bits_of share others 32
same_bits share some others same = mask_of-alike _ _ 32 (λ b h. ap (is_of_share share) (same b h))

pub told_alike : (some others : ℕ → Option Reason) → ((b : ℕ) → b < 32 → some b ≡ others b) → told_verdict some ≡ told_verdict others
told_alike some others same =
    let alike = λ (share : Share). same_bits share some others same in
    rw (alike shares.Reserved, alike shares.Missing, alike shares.Granted, alike shares.Unnamed) refl

-- ---- what they come to

-- of a request without MAXIMUM_ALLOWED
plain_told : (q m g u : ℕ) → u ≡ 0 → ((m == 0) ≡ true → g ≡ q) → ((q == 0) ≡ true → (m == 0) ≡ true) → told_by 0 m g u ≡ plain_verdict q m
plain_told q m g u none all nothing = grind (arith, none, all, nothing)

-- and of one with it
maximum_told : (m g u all : ℕ) → ((m == 0) ≡ true → g ≡ all) → ((all == 0) ≡ true → (u == 0) ≡ false) → told_by 0 m g u ≡ maximum_verdict m all
maximum_told m g u all whole left = grind (arith, whole, left)

-- ---- a bit of what is granted, where all that the request holds is

plain_bit : (held granted maximum low also : Bool) → maximum ≡ false → (held && not granted) ≡ false → cond held granted (cond (maximum && low) also false) ≡ held
plain_bit held granted maximum low also plain whole = grind (arith, plain, whole)

maximum_bit : (held granted maximum low also more : Bool) → maximum ≡ true → (held && not granted) ≡ false → (low ≡ true → also ≡ more)
    → (low ≡ false → more ≡ false) → cond held granted (cond (maximum && low) also false) ≡ (held || more)
maximum_bit held granted maximum low also more is whole same none = grind (arith, is, whole, same, none)

nothing_mapped : (g : MappingValue) → mapped g (without_maximum 0) ≡ 0
unfolding mask_of
nothing_mapped g = refl

nothing_reserved : reserved_of 0 ≡ 0
unfolding mask_of
nothing_reserved = refl

-- ---- every request

-- causes of the bits that a request names, and of those that MAXIMUM_ALLOWED asks for: each grants its bit just where the
-- bit is granted, and none of them is that the bit is reserved
pub record AreDue (given : ℕ → Bool) (most : ℕ) (named maximum : ℕ → Cause) : Type 0 where
  pub named_grants : (b : ℕ) → grants (named b) ≡ given b
  pub named_unreserved : (b : ℕ) → same_cause (named b) causes.Reserved ≡ false
  pub maximum_grants : (b : ℕ) → b < 21 → grants (maximum b) ≡ holds most b
  pub maximum_unreserved : (b : ℕ) → same_cause (maximum b) causes.Reserved ≡ false
  pub low : (b : ℕ) → b < 32 → nat_lt b 21 ≡ false → holds most b ≡ false

-- the reasons of a request by such causes, as those of the rules are by their own
abbrev pub reason_by : (ℕ → Cause) → (ℕ → Cause) → MappingValue → ℕ → ℕ → Option Reason
reason_by named maximum g r b =
    cond (not (reserved_of r == 0)) (cond (holds (reserved_of r) b) (Some (record { named = true; cause = causes.Reserved })) None)
    (cond (holds (mapped g (without_maximum r)) b) (Some (record { named = true; cause = named b }))
    (cond (holds r 25 && nat_lt b 21) (Some (record { named = false; cause = maximum b })) None))

module _ (g : MappingValue) (r : ℕ) (given : ℕ → Bool) (most : ℕ) (cause_of maximum_of : ℕ → Cause) (due : AreDue given most cause_of maximum_of) where
  abbrev reason : ℕ → Option Reason
  reason b = reason_by cause_of maximum_of g r b

  abbrev asked : ℕ
  asked = mapped g (without_maximum r)

  abbrev named : ℕ → Reason
  named b = record { named = true; cause = cause_of b }

  abbrev taken : ℕ → Reason
  taken b = record { named = false; cause = maximum_of b }

  nothing_is_missing : (asked == 0) ≡ true → missing_of given asked ≡ 0
  nothing_is_missing empty =
      mask_of-alike _ (λ b. false) 32 (λ b h. grind (arith, ap (λ n. holds n b) (eqb-true asked 0 empty), ap (λ n. n == 1) (bit_at-zero b))) ∙ no_places

  -- a share where no bit is reserved
  share_at : (reserved_of r == 0) ≡ true → (share : Share) (b : ℕ)
      → is_of_share share (reason b) ≡ cond (holds asked b) (belongs share (named b)) (cond (holds r 25 && nat_lt b 21) (belongs share (taken b)) false)
  share_at free share b =
      grind (arith, free)

  none_reserved : (reserved_of r == 0) ≡ true → bits_of shares.Reserved reason 32 ≡ 0
  none_reserved free =
      mask_of-alike _ (λ b. false) 32 (λ b h. grind (arith, share_at free shares.Reserved b, due.named_unreserved b, due.maximum_unreserved b))
      ∙ no_places

  missing_is : (reserved_of r == 0) ≡ true → bits_of shares.Missing reason 32 ≡ missing_of given asked
  missing_is free =
      mask_of-alike _ _ 32 (λ b h. rw (← due.named_grants b) (grind (arith, share_at free shares.Missing b)))

  -- where nothing is missing, each bit that the request holds is granted
  whole_at : (missing_of given asked == 0) ≡ true → (b : ℕ) → b < 32 → (holds asked b && not (given b)) ≡ false
  whole_at none b h =
      grind (arith, holds_place (λ k. holds asked k && not (given k)) b h, ap (λ n. holds n b) (eqb-true _ 0 none), ap (λ n. n == 1) (bit_at-zero b))

  granted_at : (reserved_of r == 0) ≡ true → (b : ℕ)
      → is_of_share shares.Granted (reason b) ≡ cond (holds asked b) (given b) (cond (holds r 25 && nat_lt b 21) (grants (maximum_of b)) false)
  granted_at free b = rw (← due.named_grants b) (share_at free shares.Granted b)

  -- without MAXIMUM_ALLOWED
  plain_answer : (reserved_of r == 0) ≡ true → holds r 25 ≡ false → told_verdict reason ≡ plain_verdict asked (missing_of given asked)
  plain_answer free plain =
      rw (none_reserved free, missing_is free)
      (plain_told asked (missing_of given asked) (bits_of shares.Granted reason 32) (bits_of shares.Unnamed reason 32)
      (mask_of-alike _ (λ b. false) 32 (λ b h. grind (arith, plain, share_at free shares.Unnamed b)) ∙ no_places)
      (λ none. mask_of-alike _ (holds asked) 32 (λ b h. granted_at free b
      ∙ plain_bit (holds asked b) (given b) (holds r 25) (nat_lt b 21) (grants (maximum_of b)) plain (whole_at none b h))
      ∙ sym (own_places asked (mask_of-lt (is_mapped g (without_maximum r)) 32)))
      (λ empty. ap (λ n. n == 0) (nothing_is_missing empty)))

  -- with it
  maximum_answer : (reserved_of r == 0) ≡ true → holds r 25 ≡ true
      → told_verdict reason ≡ maximum_verdict (missing_of given asked) (joined_with asked most)
  maximum_answer free maximum =
      let all = joined_with asked most in
      rw (none_reserved free, missing_is free)
      (maximum_told (missing_of given asked) (bits_of shares.Granted reason 32) (bits_of shares.Unnamed reason 32) all
      (λ none. mask_of-alike _ _ 32 (λ b h. granted_at free b
      ∙ maximum_bit (holds asked b) (given b) (holds r 25) (nat_lt b 21) (grants (maximum_of b)) (holds most b)
      maximum (whole_at none b h) (λ low. due.maximum_grants b (ltb-true b 21 low)) (due.low b h)))
      (λ nothing. ne_eqb _ 0 (λ none.
      let unnamed : holds (bits_of shares.Unnamed reason 32) 0 ≡ true =
      grind (
        arith,
        holds_place (λ b. is_of_share shares.Unnamed (reason b)) 0 (lit< tt),
        share_at free shares.Unnamed 0,
        maximum,
        holds_place (λ b. holds asked b || holds most b) 0 (lit< tt),
        ap (λ n. holds n 0) (eqb-true all 0 nothing),
        ap (λ n. n == 1) (bit_at-zero 0),
      ) in
      false≢true (sym (ap (λ n. n == 1) (bit_at-zero 0)) ∙ sym (ap (λ n. holds n 0) none) ∙ unnamed))))

  told_answer : (reserved_of r == 0) ≡ true → told_verdict reason ≡ answered given most r asked
  told_answer free = elim (cases_Bool (holds r 25)) [
    | inl maximum ↦ maximum_answer free maximum ∙ sym (cond-true (holds r 25) _ _ maximum)
    | inr plain ↦ plain_answer free plain ∙ sym (cond-false (holds r 25) _ _ plain)
  ]

  -- an empty request has no answer but that
  empty_answer : (r == 0) ≡ true → answered given most r asked ≡ EmptyRequest
  empty_answer empty =
      let none : r ≡ 0 = eqb-true r 0 empty in
      cond-false (holds r 25) _ _ (ap (λ n. holds n 25) none ∙ ap (λ n. n == 1) (bit_at-zero 25))
      ∙ cond-true (asked == 0) _ _ (ap (λ n. mapped g (without_maximum n) == 0) none ∙ ap (λ n. n == 0) (nothing_mapped g))

  told_free : (reserved_of r == 0) ≡ true → told_verdict reason ≡ judged g given most r
  told_free free = elim (cases_Bool (r == 0)) [
    | inl empty ↦ told_answer free ∙ empty_answer empty ∙ sym (cond-true (r == 0) _ _ empty)
    | inr some ↦ told_answer free ∙ sym (cond-false (r == 0) _ _ some ∙ cond-true (reserved_of r == 0) _ _ free)
  ]

  told_stopped : (reserved_of r == 0) ≡ false → told_verdict reason ≡ judged g given most r
  told_stopped stopped =
      let all : bits_of shares.Reserved reason 32 ≡ reserved_of r =
      mask_of-alike _ (holds (reserved_of r)) 32 (λ b h. grind (arith, stopped))
      ∙ sym (own_places (reserved_of r) (mask_of-lt (λ b. holds r b && holds 0x0CE00000 b) 32)) in
      let some : (r == 0) ≡ false = ne_eqb r 0 (λ none. false≢true (sym stopped ∙ ap (λ n. reserved_of n == 0) none ∙ ap (λ n. n == 0) nothing_reserved)) in
      rw (all, stopped, some) refl

  pub told_by_causes : told_verdict reason ≡ judged g given most r
  told_by_causes = elim (cases_Bool (reserved_of r == 0)) [ inl free ↦ told_free free | inr stopped ↦ told_stopped stopped ]

-- ---- the rules

module _ (owner : Option SidValue) (dacl : Option (List Ace)) (g : MappingValue) (t : TokenValue) where
  pub most_low : (list : Option (List Ace)) (b : ℕ) → b < 32 → nat_lt b 21 ≡ false → holds (most owner list g t) b ≡ false
  most_low None b h high = holds_place (λ k. nat_lt k 21 && (holds g.all k || is_given owner None t k)) b h ∙ ap (λ x. x && (holds g.all b || is_given owner None t b)) high
  most_low (Some es) b h high = holds_place (λ k. nat_lt k 21 && is_granted owner (Some es) g t k) b h ∙ ap (λ x. x && is_granted owner (Some es) g t b) high

  pub are_due : AreDue (is_granted owner dacl g t) (most owner dacl g t) (named_cause owner dacl g t) (maximum_cause owner dacl g t)
  are_due = record {
    named_grants = λ b. named_grants owner g t b dacl;
    named_unreserved = λ b. named_unreserved owner g t b dacl;
    maximum_grants = λ b low. maximum_grants owner g t b dacl low;
    maximum_unreserved = λ b. maximum_unreserved owner g t b dacl;
    low = most_low dacl;
  }

  pub told_verdict_is : (r : ℕ) → told_verdict (reason_at owner dacl g t r) ≡ verdict owner dacl g t r
  told_verdict_is r = told_by_causes g r (is_granted owner dacl g t) (most owner dacl g t) (named_cause owner dacl g t) (maximum_cause owner dacl g t) are_due

-- reasons that are those of the rules tell the rules' verdict
pub told_reasons : (owner : Option SidValue) (dacl : Option (List Ace)) (g : MappingValue) (t : TokenValue) (r : ℕ) (reasons : List (Option Reason))
    → reasons ≡ reasons_of owner dacl g t r → told_verdict (reason_in reasons) ≡ verdict owner dacl g t r
told_reasons owner dacl g t r reasons are =
    told_alike (reason_in reasons) (reason_at owner dacl g t r)
    (λ b h. ap (λ (rs : List (Option Reason)). get_or rs b None) are ∙ get_or-map-range_with_len (reason_at owner dacl g t r) 0 32 b b None h (omega arith))
    ∙ told_verdict_is owner dacl g t r
