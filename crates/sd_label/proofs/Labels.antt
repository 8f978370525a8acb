-- Masks that are joined step by step.
use Rattle.std.proofs.Common.{◌≡◌, ℕ, ◌<◌, Bool, true, ◌&&◌, ◌||◌, not, cond, arith, ap, refl, ◌∙◌}
use Rattle.sd_check.proofs.Cited.{agree_below_at}
use Rattle.sd_sid.proofs.Masks.{holds_place, holds_when, mask_of-alike}
use Rattle.sd_sid.specs.Mapping.{MappingValue, mapped}
use Rattle.sd_sid.specs.Mask.{holds, mask_of}
use Rattle.sd_label.specs.Label.{is_left}

pub joined_by_steps : (one two three half all : ℕ) → half ≡ mask_of (λ b. holds one b || holds two b) 32
    → all ≡ mask_of (λ b. holds half b || holds three b) 32
    → all ≡ mask_of (λ b. holds one b || holds two b || holds three b) 32
joined_by_steps one two three half all is-half is-all =
    is-all ∙ mask_of-alike _ _ 32 (λ k low. ap (λ x. x || holds three k)
    (ap (λ n. holds n k) is-half ∙ holds_place (λ b. holds one b || holds two b) k low))

-- three masks, each if its test holds, joined
joined_when : (x y z : Bool) (one two three all k : ℕ) → k < 32
    → all ≡ mask_of (λ b. holds (cond x one 0) b || holds (cond y two 0) b || holds (cond z three 0) b) 32
    → holds all k ≡ ((x && holds one k) || (y && holds two k) || (z && holds three k))
joined_when x y z one two three all k low is =
    grind (
      arith,
      ap (λ n. holds n k) is,
      holds_place (λ b. holds (cond x one 0) b || holds (cond y two 0) b || holds (cond z three 0) b) k low,
      holds_when x one k,
      holds_when y two k,
      holds_when z three k,
    )

every_place : (k : ℕ) → k < 32 → holds 0xFFFFFFFF k ≡ true
every_place k low = agree_below_at (holds 0xFFFFFFFF) (λ _. true) 32 k refl low

pub taken_by_steps : (g : MappingValue) (policy left taken : ℕ)
    → left ≡ mask_of (λ b. holds (cond (not (holds policy 0)) (mapped g 0x40000000) 0) b
    || holds (cond (not (holds policy 1)) (mapped g 0x80000000) 0) b
    || holds (cond (not (holds policy 2)) (mapped g 0x20000000) 0) b) 32
    → taken ≡ mask_of (λ b. holds 0xFFFFFFFF b && not (holds left b)) 32
    → taken ≡ mask_of (λ b. not (is_left g policy b)) 32
taken_by_steps g policy left taken is-left is-taken =
    is-taken ∙ mask_of-alike _ _ 32 (λ k low. cc (
      every_place k low,
      joined_when (not (holds policy 0)) (not (holds policy 1)) (not (holds policy 2)) _ _ _ left k low is-left,
    ))
