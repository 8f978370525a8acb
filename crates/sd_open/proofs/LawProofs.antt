-- What follows from the rules.
use Rattle.std.proofs.Common.{◌≡◌, ◌∙◌, inl, inr, ℕ, ◌<◌, ◌^◌, Bool, true, false, not, ◌&&◌, ◌||◌, ◌==◌, Some, None, refl, sym, ap, arith, lit<}
use Rattle.std.specs.Prelude.{if◌then◌else◌}
use Rattle.sd_acl.specs.Descriptor.{DescriptorValue}
use Rattle.sd_check.proofs.Cited.{agree_below_at, bit_at-zero, cases_Bool, eqb-true, holds, or-false, is_mask_of, joined_with, judged, mask_of-alike, mask_of-lt, missing_of}
use Rattle.sd_check.proofs.LawProofs.{one_test}
use Rattle.sd_check.proofs.LowMasks.{judged_low, no_places}
use Rattle.sd_check.specs.Check.{dacl_entries, is_granted, most, verdict}
use Rattle.sd_check.specs.Token.{TokenValue}
use Rattle.sd_check.specs.declared.verdict.Verdict.TheVariants.{Denied, Granted}
use Rattle.sd_sid.specs.Mapping.{MappingValue}
use Rattle.sd_sid.specs.Mask.{mask_of}
use Rattle.sd_open.specs.Laws.{DeletionIsGrantedByEither, OpenWithoutParentIsACheck, ParentTakesNothing}
use Rattle.sd_open.specs.Open.{by_parent, grants, is_granted_with, most_with, parent_grants, verdict_with}

holds_zero : (b : ℕ) → holds 0 b ≡ false
holds_zero b = ap (λ n. n == 1) (bit_at-zero b)

-- ---- without a parent

nothing_more : joined_with 0 0 ≡ 0
unfolding mask_of
nothing_more = refl

pub without_more : (file : DescriptorValue) (g : MappingValue) (t : TokenValue) (r : ℕ) (small : most file.owner (dacl_entries file.dacl) g t < 2 ^ 32)
    → verdict_with 0 file g t r ≡ verdict file.owner (dacl_entries file.dacl) g t r
without_more file g t r small =
    let granted = is_granted file.owner (dacl_entries file.dacl) g t in
    let own = most file.owner (dacl_entries file.dacl) g t in
    ap (λ p. judged g p (joined_with own 0) r) (one_test (λ b. granted b || holds 0 b) granted (λ b. ap (λ x. granted b || x) (holds_zero b) ∙ or-false (granted b)))
    ∙ ap (λ n. judged g granted n r)
    (mask_of-alike (λ b. holds own b || holds 0 b) (holds own) 32 (λ b h. ap (λ x. holds own b || x) (holds_zero b) ∙ or-false (holds own b)) ∙ sym (is_mask_of (holds own) own small (λ b h. refl)))

pub most_small : (file : DescriptorValue) (g : MappingValue) (t : TokenValue) → most file.owner (dacl_entries file.dacl) g t < 2 ^ 32
most_small file g t = elim (dacl_entries file.dacl) as (λ d. most file.owner d g t < 2 ^ 32) [ None ↦ mask_of-lt _ 32 | Some es ↦ mask_of-lt _ 32 ]

pub open_without_parent_is_a_check : OpenWithoutParentIsACheck
open_without_parent_is_a_check file g t r =
    ap (λ n. verdict_with n file g t r) nothing_more ∙ without_more file g t r (most_small file g t)

pub parent_takes_nothing : ParentTakesNothing
parent_takes_nothing file parent g t b h = grind (arith, h)

-- ---- a deletion

-- the places of a mask with one bit
only_delete : (b : ℕ) → b < 32 → holds 0x10000 b ≡ true → b ≡ 16
only_delete b h is = eqb-true b 16 (sym (agree_below_at (holds 0x10000) (λ k. k == 16) 32 b refl h) ∙ is)

module _ (g : MappingValue) (p : ℕ → Bool) (most : ℕ) where
  missing_delete : missing_of p 0x10000 ≡ (if p 16 then 0 else 0x10000)
  missing_delete = elim (cases_Bool (p 16)) [
    | inl has ↦ rw has (mask_of-alike (λ b. holds 0x10000 b && not (p b)) (λ b. false) 32 (λ b h. elim (cases_Bool (holds 0x10000 b)) [
      | inl is ↦ rw is (ap (λ k. not (p k)) (only_delete b h is) ∙ ap not has)
      | inr isnt ↦ rw isnt refl
    ]) ∙ no_places)
    | inr lacks ↦ rw lacks (mask_of-alike (λ b. holds 0x10000 b && not (p b)) (holds 0x10000) 32 (λ b h. elim (cases_Bool (holds 0x10000 b)) [
      | inl is ↦ rw is (ap (λ k. not (p k)) (only_delete b h is) ∙ ap not lacks)
      | inr isnt ↦ rw isnt refl
    ]) ∙ sym (is_mask_of (holds 0x10000) 0x10000 (lit< tt) (λ b h. refl)))
  ]

  judged_delete : judged g p most 0x10000 ≡ (if p 16 then Granted 0x10000 else Denied 0x10000)
  judged_delete = judged_low g p most 0x10000 refl (lit< tt) ∙ elim (cases_Bool (p 16)) [
    | inl has ↦ rw (missing_delete, has) refl
    | inr lacks ↦ rw (missing_delete, lacks) refl
  ]

-- DELETE is what the parent grants by FILE_DELETE_CHILD alone
delete_by : (one two : Bool) → holds (joined_with (if one then 0x10000 else 0) (if two then 0x80 else 0)) 16 ≡ one
unfolding mask_of
delete_by true true = refl
delete_by true false = refl
delete_by false true = refl
delete_by false false = refl

granted_so : (b : Bool) → grants (if b then Granted 0x10000 else Denied 0x10000) ≡ b
granted_so true = refl
granted_so false = refl

pub deletion_is_granted_by_either : DeletionIsGrantedByEither
deletion_is_granted_by_either file parent g t =
    let own = is_granted file.owner (dacl_entries file.dacl) g t in
    judged_delete g (is_granted_with (by_parent parent g t) file g t) (most_with (by_parent parent g t) file g t)
    ∙ ap (λ b. if b then Granted 0x10000 else Denied 0x10000)
    (ap (λ b. own 16 || b) (delete_by (parent_grants parent g t 0x40) (parent_grants parent g t 0x01))
    ∙ ap (λ b. b || parent_grants parent g t 0x40)
    (sym (ap grants (judged_delete g own (most file.owner (dacl_entries file.dacl) g t)) ∙ granted_so (own 16))))
