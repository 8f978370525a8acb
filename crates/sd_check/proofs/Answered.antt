-- That masks computed from masks are those of the tests on places.
use Rattle.std.proofs.Common.{◌≡◌, ℕ, ◌<◌, Bool, true, false, ◌&&◌, ◌||◌, not, nat_lt, refl, ◌∙◌, ap, arith, List, Option, Some, None}
use Rattle.sd_check.proofs.Cited.{agree_below_at, holds, mask_of, MappingValue, holds_place, mask_of-alike, missing_of, most_of, joined_with, is_implied, maximum_verdict, Ace, and_comm}
use Rattle.sd_check.proofs.Given.{implied_low}

pub holds_object : (b : ℕ) → b < 32 → holds 0x001FFFFF b ≡ nat_lt b 21
holds_object b h = agree_below_at (holds 0x001FFFFF) (λ k. nat_lt k 21) 32 b refl h

pub within_is : (m r : ℕ) → r ≡ mask_of (λ b. holds m b && holds 0x001FFFFF b) 32 → r ≡ mask_of (λ b. nat_lt b 21 && holds m b) 32
within_is m r is = is ∙ mask_of-alike _ _ 32 (λ b h. ap (λ t. holds m b && t) (holds_object b h) ∙ and_comm (holds m b) (nat_lt b 21))

-- a mask that stands for a test, at a place
pub stands : (p : ℕ → Bool) (m b : ℕ) → b < 32 → m ≡ mask_of p 32 → holds m b ≡ p b
stands p m b h is = ap (λ n. holds n b) is ∙ holds_place p b h

-- ---- what is granted, of the bits that are wanted

pub granted_without_a_list : (o free : Bool) (wanted r : ℕ) → r ≡ mask_of (λ b. holds wanted b && holds 0x001FFFFF b) 32
    → r ≡ mask_of (λ b. holds wanted b && ((nat_lt b 21 && (free || nat_lt b 21)) || is_implied o false false b)) 32
granted_without_a_list o free wanted r is =
    is ∙ mask_of-alike _ _ 32 (λ b h. grind (arith, holds_object b h, implied_low o b))

-- the list's in one pass, where nothing restricts, or in both
pub granted_by_passes : (allowed first again : ℕ → Bool) (restricted o free : Bool) (wanted asked owners r : ℕ)
    → ((b : ℕ) → allowed b ≡ (first b && (not restricted || again b)))
    → asked ≡ mask_of (λ b. holds wanted b && holds 0x001FFFFF b) 32
    → owners ≡ mask_of (λ b. holds wanted b && is_implied o false false b) 32
    → r ≡ mask_of (λ b. (holds asked b && allowed b) || (holds owners b && free)) 32
    → r ≡ mask_of (λ b. holds wanted b && (((nat_lt b 21 && first b) && (not restricted || (nat_lt b 21 && again b))) || is_implied (o && free) false false b)) 32
granted_by_passes allowed first again restricted o free wanted asked owners r is_allowed is_asked is_owners is =
    is ∙ mask_of-alike _ _ 32 (λ b h. grind (
      arith,
      holds_object b h,
      is_allowed b,
      stands (λ k. holds wanted k && holds 0x001FFFFF k) asked b h is_asked,
      stands (λ k. holds wanted k && is_implied o false false k) owners b h is_owners,
    ))

pub granted_is : (listed : ℕ → Bool) (o t s : Bool) (wanted by_list privileged kept r : ℕ)
    → by_list ≡ mask_of (λ b. holds wanted b && (listed b || is_implied o false false b)) 32
    → privileged ≡ mask_of (is_implied false t s) 32
    → kept ≡ mask_of (λ b. holds wanted b && holds privileged b) 32
    → r ≡ mask_of (λ b. holds by_list b || holds kept b) 32
    → r ≡ mask_of (λ b. holds wanted b && (listed b || is_implied o t s b)) 32
granted_is listed o t s wanted by_list privileged kept r is_list is_privileged is_kept is =
    is ∙ mask_of-alike _ _ 32 (λ b h. grind (
      arith,
      stands (λ k. holds wanted k && (listed k || is_implied o false false k)) by_list b h is_list,
      stands (λ k. holds wanted k && holds privileged k) kept b h is_kept,
      stands (is_implied false t s) privileged b h is_privileged,
    ))

-- ---- what MAXIMUM_ALLOWED takes in

pub most_without_a_list : (o t s : Bool) (all owners privileged given joined r : ℕ)
    → owners ≡ mask_of (λ b. holds 0x001FFFFF b && is_implied o false false b) 32
    → privileged ≡ mask_of (is_implied false t s) 32
    → given ≡ mask_of (λ b. holds owners b || holds privileged b) 32
    → joined ≡ mask_of (λ b. holds all b || holds given b) 32
    → r ≡ mask_of (λ b. holds joined b && holds 0x001FFFFF b) 32
    → r ≡ mask_of (λ b. nat_lt b 21 && (holds all b || is_implied (o && true) t s b)) 32
most_without_a_list o t s all owners privileged given joined r is_owners is_privileged is_given is_joined is =
    is ∙ mask_of-alike _ _ 32 (λ b h. grind (
      arith,
      holds_object b h,
      stands (λ k. holds 0x001FFFFF k && is_implied o false false k) owners b h is_owners,
      stands (is_implied false t s) privileged b h is_privileged,
      stands (λ k. holds owners k || holds privileged k) given b h is_given,
      stands (λ k. holds all k || holds given k) joined b h is_joined,
    ))

-- ---- the answer, from what is granted of the wanted bits

module _ (p : ℕ → Bool) (q wanted granted : ℕ) (is_wanted : wanted ≡ mask_of (λ b. holds q b || holds 0x001FFFFF b) 32)
    (is_granted : granted ≡ mask_of (λ b. holds wanted b && p b) 32) where
  at_place : (b : ℕ) → b < 32 → holds granted b ≡ ((holds q b || nat_lt b 21) && p b)
  at_place b h =
      stands (λ k. holds wanted k && p k) granted b h is_granted
      ∙ ap (λ t. t && p b) (stands (λ k. holds q k || holds 0x001FFFFF k) wanted b h is_wanted ∙ ap (λ t. holds q b || t) (holds_object b h))

  missing_of_more : (m : ℕ) → m ≡ mask_of (λ b. holds q b && not (holds granted b)) 32 → m ≡ missing_of p q
  missing_of_more m is = is ∙ mask_of-alike _ _ 32 (λ b h. grind (arith, at_place b h))

  most_of_more : (g : MappingValue) (given : ℕ → Bool) (dacl : Option (List Ace)) → most_of g (holds granted) given dacl ≡ most_of g p given dacl
  most_of_more g given None = refl
  most_of_more g given (Some es) = mask_of-alike _ _ 32 (λ b h. grind (arith, at_place b h))

  pub maximum_is : (g : MappingValue) (given : ℕ → Bool) (dacl : Option (List Ace)) (missing most all : ℕ)
      → missing ≡ mask_of (λ b. holds q b && not (holds granted b)) 32
      → most ≡ most_of g (holds granted) given dacl
      → all ≡ mask_of (λ b. holds q b || holds most b) 32
      → maximum_verdict missing all ≡ maximum_verdict (missing_of p q) (joined_with q (most_of g p given dacl))
  maximum_is g given dacl missing most all is_missing is_most is_all =
      ap (λ m. maximum_verdict m all) (missing_of_more missing is_missing)
      ∙ ap (maximum_verdict (missing_of p q)) (is_all ∙ ap (joined_with q) (is_most ∙ most_of_more g given dacl))

pub missing_is : (p : ℕ → Bool) (q granted m : ℕ) → granted ≡ mask_of (λ b. holds q b && p b) 32
    → m ≡ mask_of (λ b. holds q b && not (holds granted b)) 32 → m ≡ missing_of p q
missing_is p q granted m is_granted is = is ∙ mask_of-alike _ _ 32 (λ b h. grind (arith, stands (λ k. holds q k && p k) granted b h is_granted))
