-- Which bits a list is asked for.
use Rattle.sd_explain.proofs.Cited.{Ace, List, MappingValue, None, Option, SidValue, TokenValue, arith, false, holds, holds_object, mapped, mask_of, nat_lt, nat_tests, reason_at, refl, reserved_of, rights_in, stands, true, wanted_bits, without_maximum, ℕ, ◌&&◌, ◌<◌, ◌==◌, ◌||◌, ◌≡◌}

-- with MAXIMUM_ALLOWED, each right is looked for
wanted : (q b : ℕ) → b < 32 → holds (mask_of (λ k. holds q k || holds 0x001FFFFF k) 32) b ≡ (holds q b || nat_lt b 21)
wanted q b h = grind (arith, holds_object b h, stands (λ k. holds q k || holds 0x001FFFFF k) _ b h refl)

in_rights : (w b : ℕ) → b < 32 → holds (rights_in w) b ≡ (holds w b && nat_lt b 21)
in_rights w b h = grind (arith, holds_object b h, stands (λ k. holds w k && holds 0x001FFFFF k) (rights_in w) b h refl)

-- a right that the request names
pub named_is_asked : (g : MappingValue) (r b : ℕ) → b < 32 → b < 21 → holds (mapped g (without_maximum r)) b ≡ true → holds (rights_in (wanted_bits g r)) b ≡ true
named_is_asked g r b h low named =
    grind (arith, nat_tests, low, named, in_rights (wanted_bits g r) b h, wanted (mapped g (without_maximum r)) b h)

-- each right, with MAXIMUM_ALLOWED
pub maximum_is_asked : (g : MappingValue) (r b : ℕ) → b < 32 → b < 21 → holds r 25 ≡ true → holds (rights_in (wanted_bits g r)) b ≡ true
maximum_is_asked g r b h low maximum =
    grind (arith, nat_tests, low, maximum, in_rights (wanted_bits g r) b h, wanted (mapped g (without_maximum r)) b h)

-- ---- the bits that have no part in the answer

pub no_reason : (owner : Option SidValue) (dacl : Option (List Ace)) (g : MappingValue) (t : TokenValue) (r b : ℕ) → b < 32 → (reserved_of r == 0) ≡ true
    → holds (wanted_bits g r) b ≡ false → reason_at owner dacl g t r b ≡ None
no_reason owner dacl g t r b h free none =
    grind (arith, free, none, wanted (mapped g (without_maximum r)) b h)

pub no_reserved : (owner : Option SidValue) (dacl : Option (List Ace)) (g : MappingValue) (t : TokenValue) (r b : ℕ) → (reserved_of r == 0) ≡ false
    → holds (reserved_of r) b ≡ false → reason_at owner dacl g t r b ≡ None
no_reserved owner dacl g t r b stopped none = rw (stopped, none) refl
