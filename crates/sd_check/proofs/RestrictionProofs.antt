-- The proofs of the laws on restricting SIDs.
use Rattle.std.proofs.Common.{◌≡◌, ℕ, ◌<◌, true, not, ◌&&◌, ◌||◌, ◌==◌, nat_lt, List, [], ◌∷◌, length, Option, Some, None, refl, sym, ◌∙◌, ap, arith}
use Rattle.sd_check.proofs.Cited.{or_left, false≢true, and-true, holds, MappingValue, SidValue, same_sid, holds_place, limits_owner, subject, is_implied, judged, most_of, applies, applies_again, stands_for_subject, is_restricting_subject, is_granted, is_given, is_listed, most, Ace, Allow, TokenValue, is_restricted, is_restricting, list_any, same_sid-itself, acl_grants}
use Rattle.std.proofs.Math.Dec.{eqb-suc-zero}
use Rattle.sd_check.specs.Laws.{restricted_to, NobodyRestrictsNothing, RestrictionGrantsNoBit, RestrictionGrantsNoRequest, OrderOfRestrictingSidsIsFree}
use Rattle.sd_check.proofs.LawProofs.{one_test}
use Rattle.sd_check.proofs.MoreGranted.{judged_with_more}

-- ---- without them

pub nobody_restricts_nothing : NobodyRestrictsNothing
nobody_restricts_nothing owner dacl g t b =
    ap (λ x. x || is_given owner dacl (restricted_to t []) b) (and-true (acl_grants g (applies t owner) dacl b))
    ∙ ap (λ x. acl_grants g (applies t owner) dacl b || is_implied (x && not (limits_owner dacl)) t.privileges.take_ownership t.privileges.security b)
    (and-true (stands_for_subject t Allow owner))

-- ---- they only take away

given_more : (owner : Option SidValue) (dacl : Option (List Ace)) (t : TokenValue) (b : ℕ)
    → is_given owner dacl t b ≡ true → is_given owner dacl (restricted_to t []) b ≡ true
given_more owner dacl t b h = grind (arith, h)

pub restriction_grants_no_bit : RestrictionGrantsNoBit
restriction_grants_no_bit owner dacl g t b granted = grind (arith, granted)

most_more : (owner : Option SidValue) (dacl : Option (List Ace)) (g : MappingValue) (t : TokenValue) (b : ℕ) → b < 32
    → holds (most owner dacl g t) b ≡ true → holds (most owner dacl g (restricted_to t [])) b ≡ true
most_more owner None g t b low h =
    grind (
      arith,
      h,
      given_more owner None t b,
      holds_place (λ k. nat_lt k 21 && (holds g.all k || is_given owner None (restricted_to t []) k)) b low,
      holds_place (λ k. nat_lt k 21 && (holds g.all k || is_given owner None t k)) b low,
    )
most_more owner (Some es) g t b low h =
    grind (
      arith,
      h,
      restriction_grants_no_bit owner (Some es) g t b,
      holds_place (λ k. nat_lt k 21 && is_granted owner (Some es) g t k) b low,
      holds_place (λ k. nat_lt k 21 && is_granted owner (Some es) g (restricted_to t []) k) b low,
    )

pub restriction_grants_no_request : RestrictionGrantsNoRequest
restriction_grants_no_request owner dacl g t r m granted =
    judged_with_more g (is_granted owner dacl g t) (is_granted owner dacl g (restricted_to t [])) (most owner dacl g t) (most owner dacl g (restricted_to t [])) r m
    (restriction_grants_no_bit owner dacl g t) (most_more owner dacl g t) granted

pub ruleset on_restriction = (restriction_grants_no_bit, restriction_grants_no_request)

-- ---- their order

-- a SID among some is among the others, so where there are some there are others
some_and_others : (some others : List SidValue) → ((s : SidValue) → list_any (λ one. same_sid one s) some ≡ list_any (λ one. same_sid one s) others)
    → (length some == 0) ≡ (length others == 0)
some_and_others [] [] same = refl
some_and_others [] (s ∷ ss) same = absurd (false≢true (same s ∙ or_left _ _ (same_sid-itself s)))
some_and_others (s ∷ ss) [] same = absurd (false≢true (sym (same s) ∙ or_left _ _ (same_sid-itself s)))
some_and_others (s ∷ ss) (u ∷ us) same = eqb-suc-zero (length ss) ∙ sym (eqb-suc-zero (length us))

module _ (owner : Option SidValue) (dacl : Option (List Ace)) (g : MappingValue) (t : TokenValue) (some others : List SidValue)
    (same : (s : SidValue) → is_restricting (restricted_to t some) s ≡ is_restricting (restricted_to t others) s) where
  same_subject : (who : Option SidValue) → is_restricting_subject (restricted_to t some) who ≡ is_restricting_subject (restricted_to t others) who
  same_subject None = refl
  same_subject (Some s) = same s

  same_again : applies_again (restricted_to t some) owner ≡ applies_again (restricted_to t others) owner
  same_again = λ i kind s. same_subject (subject owner s) i

  same_count : is_restricted (restricted_to t some) ≡ is_restricted (restricted_to t others)
  same_count = ap not (some_and_others some others same)

  pub same_given : (b : ℕ) → is_given owner dacl (restricted_to t some) b ≡ is_given owner dacl (restricted_to t others) b
  same_given b = grind (arith, same_count, same_subject owner)

  pub same_granted : (b : ℕ) → is_granted owner dacl g (restricted_to t some) b ≡ is_granted owner dacl g (restricted_to t others) b
  same_granted b =
      ap (λ x. (acl_grants g (applies t owner) dacl b && (not x || acl_grants g (applies_again (restricted_to t some) owner) dacl b))
      || is_given owner dacl (restricted_to t some) b) same_count
      ∙ ap (λ who. (acl_grants g (applies t owner) dacl b && (not (is_restricted (restricted_to t others)) || acl_grants g who dacl b))
      || is_given owner dacl (restricted_to t some) b) same_again
      ∙ ap (λ x. is_listed owner dacl g (restricted_to t others) b || x) (same_given b)

pub order_of_restricting_sids_is_free : OrderOfRestrictingSidsIsFree
order_of_restricting_sids_is_free owner dacl g t some others r same =
    ap (λ p. judged g p (most_of g p (is_given owner dacl (restricted_to t some)) dacl) r)
    (one_test _ _ (same_granted owner dacl g t some others same))
    ∙ ap (λ given. judged g (is_granted owner dacl g (restricted_to t others)) (most_of g (is_granted owner dacl g (restricted_to t others)) given dacl) r)
    (one_test _ _ (same_given owner dacl g t some others same))
