-- Verdicts on all requests are the same just where the same bits are granted.
use Rattle.sd_analysis.proofs.Cited.{Ace, AceKind, All-head, AreGains, Bool, Change, DecideAlike, Differ, Granted, GroupState, HasABit, HasBase, List, MappingValue, Option, Parts, SidValue, Some, TokenValue, Verdict, [], a_group_stands_for, ap, applies_again, arith, eqb-suc-zero, false, false≢true, first, gains, holds, is_allowed_by, is_granted, is_implied, is_owner, judged, le-ltb, length, limits_owner, mask_of, nat_lt, not, one_test, or_right, parts_with, refl, subst, sym, token_of, true, verdict, with_denied, ℕ, ◌&&◌, ◌<◌, ◌==◌, ◌^◌, ◌||◌, ◌∙◌, ◌∷◌, ◌≡◌, ◌≤◌}
use Rattle.sd_analysis.proofs.BitChecks.{bit_is_its_check}

-- for a list the verdict rests on which bits are granted
judged_list : MappingValue → (ℕ → Bool) → ℕ → Verdict
judged_list g p r = judged g p (mask_of (λ b. nat_lt b 21 && p b) 32) r

pub same_verdicts : (owner : Option SidValue) (es fewer : List Ace) (g : MappingValue) (t : TokenValue)
    → ((b : ℕ) → is_granted owner (Some fewer) g t b ≡ is_granted owner (Some es) g t b)
    → (r : ℕ) → verdict owner (Some fewer) g t r ≡ verdict owner (Some es) g t r
unfolding judged_list
same_verdicts owner es fewer g t same r = ap (λ p. judged_list g p r) (one_test _ _ same)

both_or_neither : (a b : Bool) → (a ≡ true → b ≡ true) → (b ≡ true → a ≡ true) → a ≡ b
both_or_neither a b h j = grind arith

-- neither list grants a token more than the other
alike : (owner : Option SidValue) (es others : List Ace) (g : MappingValue) (base : List (SidValue × GroupState))
    → ((t : TokenValue) (b : ℕ) → HasBase base t → is_granted owner (Some others) g t b ≡ true → is_granted owner (Some es) g t b ≡ true)
    → ((t : TokenValue) (b : ℕ) → HasBase base t → is_granted owner (Some es) g t b ≡ true → is_granted owner (Some others) g t b ≡ true)
    → DecideAlike owner g base es others
alike owner es others g base none_gained none_lost t r has =
    same_verdicts owner es others g t (λ b. both_or_neither _ _ (none_gained t b has) (none_lost t b has)) r

-- from place 21 on no list grants anything, and the owner has nothing
high_bit : (low first again restricted own limited take security : Bool) (b : ℕ) → low ≡ false → 21 ≤ b
    → (((low && first) && (not restricted || (low && again))) || is_implied (own && not limited) take security b) ≡ is_implied false take security b
high_bit low first again restricted own limited take security b h j = grind arith

same_high : (owner : Option SidValue) (es others : List Ace) (g : MappingValue) (t : TokenValue) (b : ℕ) → 21 ≤ b
    → is_granted owner (Some es) g t b ≡ is_granted owner (Some others) g t b
same_high owner es others g t b high = privileged es ∙ sym (privileged others) where
  privileged : (list : List Ace) → is_granted owner (Some list) g t b ≡ is_implied false t.privileges.take_ownership t.privileges.security b
  privileged list = high_bit (nat_lt b 21) _ (is_allowed_by (first g (applies_again t owner) list b)) _ (is_owner t owner) (limits_owner (Some list)) _ _ b (le-ltb b 21 high) high

-- a bit that one list grants a token and the other doesn't is below place 21
low_bit : (owner : Option SidValue) (es others : List Ace) (g : MappingValue) (t : TokenValue) (b : ℕ)
    → is_granted owner (Some es) g t b ≡ true → is_granted owner (Some others) g t b ≡ false → b < 21
low_bit owner es others g t b granted refused = grind (arith, same_high owner es others g t b)

-- and a request for it has two verdicts
two_verdicts : (owner : Option SidValue) (es others : List Ace) (g : MappingValue) (t : TokenValue) (b : ℕ)
    → is_granted owner (Some es) g t b ≡ true → is_granted owner (Some others) g t b ≡ false
    → verdict owner (Some es) g t (2 ^ b) ≡ verdict owner (Some others) g t (2 ^ b) → ⊥
two_verdicts owner es others g t b granted refused same =
    let low = low_bit owner es others g t b granted refused in
    let here : verdict owner (Some es) g t (2 ^ b) ≡ Granted (2 ^ b) = (bit_is_its_check owner (Some es) g t b low).1 granted in
    false≢true (sym refused ∙ (bit_is_its_check owner (Some others) g t b low).0 (sym same ∙ here))

gained_parts : (now before : Bool) → (now && not before) ≡ true → (now ≡ true) × (before ≡ false)
gained_parts now before h = grind arith

-- ---- what a comparison with the list without the entry comes to

still_there : (base : List (SidValue × GroupState)) (denied : Option SidValue) (kind : AceKind) (s : SidValue)
    → a_group_stands_for base kind s ≡ true → a_group_stands_for (with_denied base denied) kind s ≡ true
still_there base denied kind s h = grind arith

-- a token has the base where its groups are the base, or that and one more
pub has_base_with : (base : List (SidValue × GroupState)) (denied : Option SidValue) (t : TokenValue) → t.groups ≡ with_denied base denied → HasBase base t
has_base_with base denied t is kind s h =
    or_right _ _ (subst (λ groups. a_group_stands_for groups kind s ≡ true) (sym is) (still_there base denied kind s h))

-- a change shows a token with the base
pub gains_show : (g : MappingValue) (base : List (SidValue × GroupState)) (old new : Parts) (changes : List Change)
    → AreGains g base old new changes → (length changes == 0) ≡ false
    → (t : TokenValue) × (b : ℕ) × (HasBase base t × (gains g old new t b ≡ true))
gains_show g base old new [] are some = absurd cc
gains_show g base old new (c ∷ cs) are some =
    let bit = All-head (λ (change : Change). HasABit change.mask) c cs are.some in
    let shown = All-head (λ (change : Change). (b : ℕ) → holds change.mask b ≡ true → gains g old new (token_of base change.witness) b ≡ true) c cs are.shown in
    (token_of base c.witness, bit.0, (has_base_with base c.witness.first.denied (token_of base c.witness) refl, shown bit.0 bit.1.1))

-- without changes nobody gains
pub none_gains : (g : MappingValue) (base : List (SidValue × GroupState)) (old new : Parts) (changes : List Change)
    → AreGains g base old new changes → (length changes == 0) ≡ true
    → (t : TokenValue) (b : ℕ) → HasBase base t → is_granted new.owner new.dacl g t b ≡ true → is_granted old.owner old.dacl g t b ≡ true
none_gains g base old new [] are none t b has granted = are.complete t b has refl granted
none_gains g base old new (c ∷ cs) are none t b has granted = absurd (false≢true (sym (eqb-suc-zero (length cs)) ∙ none))

module _ (owner : Option SidValue) (es others : List Ace) (g : MappingValue) (base : List (SidValue × GroupState)) where
  -- a token that gains a bit, or loses one
  pub differ_by_gain : (changes : List Change) → AreGains g base (parts_with owner es) (parts_with owner others) changes → (length changes == 0) ≡ false
      → Differ owner g base es others
  differ_by_gain changes are some =
      let shown = gains_show g base (parts_with owner es) (parts_with owner others) changes are some in
      let parts = gained_parts _ _ shown.2.1 in
      record {
        token = shown.0;
        has_base = shown.2.0;
        request = 2 ^ shown.1;
        differs = two_verdicts owner others es g shown.0 shown.1 parts.0 parts.1;
      }

  pub differ_by_loss : (changes : List Change) → AreGains g base (parts_with owner others) (parts_with owner es) changes → (length changes == 0) ≡ false
      → Differ owner g base es others
  differ_by_loss changes are some =
      let shown = gains_show g base (parts_with owner others) (parts_with owner es) changes are some in
      let parts = gained_parts _ _ shown.2.1 in
      record {
        token = shown.0;
        has_base = shown.2.0;
        request = 2 ^ shown.1;
        differs = λ same. two_verdicts owner es others g shown.0 shown.1 parts.0 parts.1 (sym same);
      }

  pub alike_by_none : (gained lost : List Change) → AreGains g base (parts_with owner es) (parts_with owner others) gained → AreGains g base (parts_with owner others) (parts_with owner es) lost
      → (length gained == 0) ≡ true → (length lost == 0) ≡ true → DecideAlike owner g base es others
  alike_by_none gained lost are_gained are_lost none nothing =
      alike owner es others g base (none_gains g base (parts_with owner es) (parts_with owner others) gained are_gained none)
      (none_gains g base (parts_with owner others) (parts_with owner es) lost are_lost nothing)
