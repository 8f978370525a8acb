-- That a cause grants just what the rules of the check grant.
use Rattle.sd_explain.proofs.Cited.{Ace, Bool, Cause, Implied, List, MappingValue, None, Option, Reserved, SidValue, Some, TokenValue, ap, applies, applies_again, arith, cases_lt, decides, false, finding_at, first, granting_or, grants, holds, holds_place, implied_of, inl, inr, is_allowed, is_allowed_by, is_given, is_granted, is_implied, is_restricted, listed_cause, lt-ltb, maximum_cause, most, named_cause, nat_lt, nat_tests, not, position_or_len, refl, same_cause, true, ℕ, ◌&&◌, ◌<◌, ◌==◌, ◌||◌, ◌∙◌, ◌≡◌}

-- ---- a finding, and what the list grants

pub finding_allows : (place : ℕ) (o : Option Ace) → is_allowed (finding_at place o) ≡ is_allowed_by o
finding_allows place None = refl
finding_allows place (Some e) = grind arith

-- ---- each bit

low_bit : (mine also restricted owner take security : Bool) (b : ℕ) → b < 21
    → (((mine && (not restricted || also)) || (owner && (b == 17 || b == 18))) || (take && b == 19))
    ≡ (((true && mine) && (not restricted || (true && also))) || is_implied owner take security b)
low_bit mine also restricted owner take security b low = grind (arith, nat_tests, low)

module _ (owner : Option SidValue) (g : MappingValue) (t : TokenValue) (b : ℕ) where
  list_grants : (es : List Ace) → grants (listed_cause owner es g t b)
      ≡ (is_allowed_by (first g (applies t owner) es b) && (not (is_restricted t) || is_allowed_by (first g (applies_again t owner) es b)))
  list_grants es =
      grind (
        arith,
        finding_allows (position_or_len (decides g (applies t owner) b) es) (first g (applies t owner) es b),
        finding_allows (position_or_len (decides g (applies_again t owner) b) es) (first g (applies_again t owner) es b),
      )

  kept_or_given : (given : Implied) (cause : Cause)
      → grants (granting_or given b cause) ≡ ((grants cause || (given.owner && (b == 17 || b == 18))) || (given.take_ownership && b == 19))
  kept_or_given given cause = grind arith

  -- a bit that the request names
  pub named_grants : (dacl : Option (List Ace)) → grants (named_cause owner dacl g t b) ≡ is_granted owner dacl g t b
  named_grants None = grind (arith, nat_tests)
  named_grants (Some es) = elim (cases_lt b 21) [
    | inl low ↦
        let given = implied_of owner (Some es) t in
        rw (lt-ltb b 21 low) (kept_or_given given (listed_cause owner es g t b)
        ∙ ap (λ x. (x || (given.owner && (b == 17 || b == 18))) || (given.take_ownership && b == 19)) (list_grants es)
        ∙ low_bit (is_allowed_by (first g (applies t owner) es b)) (is_allowed_by (first g (applies_again t owner) es b)) (is_restricted t) given.owner
        given.take_ownership given.security b low)
    | inr high ↦ grind (arith, nat_tests, high)
  ]

  -- a bit that MAXIMUM_ALLOWED asks for
  pub maximum_grants : (dacl : Option (List Ace)) → b < 21 → grants (maximum_cause owner dacl g t b) ≡ holds (most owner dacl g t) b
  maximum_grants None low = grind (arith, nat_tests, low, holds_place (λ k. nat_lt k 21 && (holds g.all k || is_given owner None t k)) b (omega arith))
  maximum_grants (Some es) low =
      grind (arith, nat_tests, low, named_grants (Some es), holds_place (λ k. nat_lt k 21 && is_granted owner (Some es) g t k) b (omega arith))

-- ---- none of them is reserved

module _ (owner : Option SidValue) (g : MappingValue) (t : TokenValue) (b : ℕ) where
  pub named_unreserved : (dacl : Option (List Ace)) → same_cause (named_cause owner dacl g t b) Reserved ≡ false
  named_unreserved None = grind arith
  named_unreserved (Some es) = grind arith

  pub maximum_unreserved : (dacl : Option (List Ace)) → same_cause (maximum_cause owner dacl g t b) Reserved ≡ false
  maximum_unreserved None = grind arith
  maximum_unreserved (Some es) = named_unreserved (Some es)
