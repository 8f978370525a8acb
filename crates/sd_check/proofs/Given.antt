-- What is granted without an entry, as masks.
use Rattle.std.proofs.Common.{◌≡◌, ℕ, ◌<◌, Bool, true, false, ◌&&◌, ◌||◌, ◌==◌, nat_lt, cond, refl, sym, ◌∙◌, arith}
use Rattle.sd_check.proofs.Cited.{agree_below_at, eqb-true, nat_tests, and-false, holds, mask_of, holds_when, mask_of-alike, is_implied}
use Rattle.sd_check.proofs.LowMasks.{no_places}

holds_owners : (b : ℕ) → b < 32 → holds 0x00060000 b ≡ (b == 17 || b == 18)
holds_owners b h = agree_below_at (holds 0x00060000) (λ k. k == 17 || k == 18) 32 b refl h

holds_write_owner : (b : ℕ) → b < 32 → holds 0x00080000 b ≡ (b == 19)
holds_write_owner b h = agree_below_at (holds 0x00080000) (λ k. k == 19) 32 b refl h

holds_security : (b : ℕ) → b < 32 → holds 0x01000000 b ≡ (b == 24)
holds_security b h = agree_below_at (holds 0x01000000) (λ k. k == 24) 32 b refl h

-- ---- the owner's

-- the owner's two bits of a mask, where the token stands for the owner
pub owners_is : (o : Bool) (wanted owners : ℕ) → owners ≡ mask_of (λ b. holds wanted b && holds 0x00060000 b) 32
    → cond o owners 0 ≡ mask_of (λ b. holds wanted b && is_implied o false false b) 32
owners_is true wanted owners is = is ∙ mask_of-alike _ _ 32 (λ b h. grind (arith, holds_owners b h))
owners_is false wanted owners is = sym (mask_of-alike _ (λ b. false) 32 (λ b h. and-false (holds wanted b)) ∙ no_places)

-- where there are none, whether it does isn't asked
pub no_owners : (o : Bool) (wanted owners : ℕ) → owners ≡ mask_of (λ b. holds wanted b && holds 0x00060000 b) 32 → (owners == 0) ≡ true
    → owners ≡ mask_of (λ b. holds wanted b && is_implied o false false b) 32
no_owners true wanted owners is none = owners_is true wanted owners is
no_owners false wanted owners is none = eqb-true owners 0 none ∙ owners_is false wanted owners is

-- the owner's two bits are places below 21
pub implied_low : (o : Bool) (b : ℕ) → (nat_lt b 21 || is_implied o false false b) ≡ nat_lt b 21
implied_low o b = grind (arith, nat_tests)

-- ---- the privileges'

pub privileged_is : (t s : Bool) (takes secures all : ℕ) → takes ≡ cond t 0x00080000 0 → secures ≡ cond s 0x01000000 0
    → all ≡ mask_of (λ b. holds takes b || holds secures b) 32 → all ≡ mask_of (is_implied false t s) 32
privileged_is t s takes secures all is_takes is_secures is_all =
    is_all ∙ mask_of-alike _ (is_implied false t s) 32 (λ b h.
    grind (arith, holds_write_owner b h, holds_security b h, is_takes, is_secures, holds_when t 0x00080000 b, holds_when s 0x01000000 b))
