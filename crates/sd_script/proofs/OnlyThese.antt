-- Where each alternative is for one of the groups, whoever is granted a right has one of them.
use Rattle.sd_script.proofs.Cited.{Access, Alternative, Bool, Everyone, GroupState, HasOneOf, Holder, List, OnlyTheseAreGranted, Owner, SidValue, TokenValue, [], and_parts, ap, are_for, asks_no_right, cases_Bool, codes, expect_line, false, has_right, holds_for, inl, inr, is_for, is_held_by, is_in_base, list_all, list_any, refl, rights_asked, true, ℕ, ◌∷◌, ◌≡◌}
use Rattle.std.specs.Prelude.{not}
use Rattle.sd_script.proofs.FirstKind.{first_kind}
use Rattle.sd_analysis.specs.declared.who_has.Holder.TheVariants.{Sid}

module _ (groups : List (SidValue × GroupState)) (t : TokenValue) where
  by_holder : (holder : Holder) → is_in_base groups holder ≡ true → is_held_by t holder ≡ true → HasOneOf groups t
  by_holder Everyone named held = absurd (cc named)
  by_holder (Sid s) named held = (s, named, held)
  by_holder (Owner s) named held = (s, named, held)

  by_alternatives : (denied : List SidValue) (some : List Alternative) → list_all (λ (a : Alternative). is_in_base groups a.holder) some ≡ true
      → list_any (holds_for t denied) some ≡ true → HasOneOf groups t
  by_alternatives denied [] named any = absurd (cc any)
  by_alternatives denied (a ∷ some) named any =
      let both = and_parts (is_in_base groups a.holder) (list_all (λ (a : Alternative). is_in_base groups a.holder) some) named in
      elim (cases_Bool (holds_for t denied a)) [
        | inl holding ↦ by_holder a.holder both.0 (and_parts (is_held_by t a.holder) _ holding).0
        | inr other ↦ by_alternatives denied some both.1 (rw other at any)
      ]

  by_accesses : (b : ℕ) (all : List Access) → are_for groups all ≡ true → list_any (has_right t b) all ≡ true → HasOneOf groups t
  by_accesses b [] named any = absurd (cc any)
  by_accesses b (access ∷ all) named any =
      let both = and_parts (is_for groups access) (are_for groups all) named in
      elim (cases_Bool (has_right t b access)) [
        | inl has ↦ by_alternatives access.denied.items access.alternatives.items both.0 (and_parts _ (list_any (holds_for t access.denied.items) access.alternatives.items) has).1
        | inr other ↦ by_accesses b all both.1 (rw other at any)
      ]

met : (is_met : Bool) → expect_line true ∷ [] ≡ expect_line is_met ∷ [] → is_met ≡ true
met true same = refl
met false same = let kinds : codes "ok" ≡ codes "fault" = ap first_kind same in absurd (cc kinds)

pub only_these_are_granted : OnlyTheseAreGranted
only_these_are_granted g d groups t asked b (all, exact, most, once, said) plain low holding granted =
    let both = and_parts (not (asks_no_right (rights_asked g asked))) (are_for groups all) (met _ said) in
    by_accesses groups t b all both.1 (most t b plain (λ kind s none. absurd (cc none)) low holding granted)
