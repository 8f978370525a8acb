-- What a list grants, from what each entry decides.
use Rattle.std.proofs.Common.{◌≡◌, ℕ, ◌<◌, ◌^◌, List, Bool, true, false, ◌==◌, Option, Some, ap, arith, ◌∙◌, inl, inr}
use Rattle.std.proofs.lemmas.Bool.{or_cases, or_left, or_right}
use Rattle.std.proofs.lemmas.Nat.Bits.{bit_at-zero}
use Rattle.sd_acl.specs.declared.ace.Ace.{Ace}
use Rattle.sd_acl.specs.declared.ace.AceKind.{AceKind}
use Rattle.sd_check.proofs.LowMasks.{mapped_is_itself}
use Rattle.sd_check.specs.Check.{applies, applies_again, decides, first, is_allowed_by, is_given, is_granted, is_listed, limits_owner}
use Rattle.sd_check.specs.Token.{TokenValue}
use Rattle.sd_sid.specs.Mapping.{MappingValue}
use Rattle.sd_sid.specs.Mask.{holds}
use Rattle.sd_sid.specs.Sid.{SidValue}

-- an entry that names no right decides nothing
pub decides_nothing : (g : MappingValue) (who : AceKind → SidValue → Bool) (b : ℕ) (e : Ace) → e.mask ≡ 0 → decides g who b e ≡ false
decides_nothing g who b e none =
    let low : e.mask < 2 ^ 28 = omega (arith, none) in
    grind (arith, ap (λ n. holds n b) (mapped_is_itself g e.mask low ∙ none), ap (λ n. n == 1) (bit_at-zero b))

module _ (owner : Option SidValue) (g : MappingValue) (t : TokenValue) (b : ℕ) (xs ys : List Ace)
    (allowed : (who : AceKind → SidValue → Bool) → is_allowed_by (first g who xs b) ≡ true → is_allowed_by (first g who ys b) ≡ true)
    (limits : limits_owner (Some ys) ≡ true → limits_owner (Some xs) ≡ true) where
  more_listed : is_listed owner (Some xs) g t b ≡ true → is_listed owner (Some ys) g t b ≡ true
  more_listed h = grind (arith, h, allowed (applies t owner), allowed (applies_again t owner))

  more_given : is_given owner (Some xs) t b ≡ true → is_given owner (Some ys) t b ≡ true
  more_given h = grind (arith, h, limits)

  -- a list that allows what another does, and limits the owner only where that one does, grants what it does
  pub more_granted : is_granted owner (Some xs) g t b ≡ true → is_granted owner (Some ys) g t b ≡ true
  more_granted h =
      elim (or_cases (is_listed owner (Some xs) g t b) (is_given owner (Some xs) t b) h) [
        | inl listed ↦ or_left _ _ (more_listed listed)
        | inr given ↦ or_right _ _ (more_given given)
      ]
