-- The way to a group, walked back.
use Rattle.std.proofs.Common.{◌≡◌, ◌++◌, ◌∙◌, ◌<◌, ℕ, inl, inr, List, [], ◌∷◌, cond, refl, Option, Some, None, get_or, length, reverse, ap, sym, subst, arith}
use Rattle.std.proofs.lemmas.Bool.{cases_lt, false≢true, lt-ltb}
use Rattle.std.proofs.lemmas.List.{append_assoc, reverse-append}
use Rattle.std.proofs.lemmas.List.Elements.{at_read}
use Rattle.std.proofs.lemmas.List.Sums.{fails_before_first}
use Rattle.std.proofs.lemmas.List.Quantifiers.{position-Some}
use Rattle.std.specs.List.{Contains, position, position_or_len}
use Rattle.sd_sid.specs.Sid.{SidValue, same_sid}
use Rattle.sd_sid.proofs.Compared.{same_sid-itself, same_sid-true}
use Rattle.sd_accounts.specs.Groups.{IsIn}
use Rattle.sd_accounts.specs.Row.{AccountRow}
use Rattle.sd_accounts.specs.Walk.{AreFoundFrom, IsFoundFrom, IsStart}
use Rattle.sd_accounts.specs.Way.{IsWay, by_way, straight}

-- ---- the way

module _ (rows : List AccountRow) (starts : List SidValue) where
  -- the groups from this one on, the last first, end each way to it as a way to the group
  abbrev pub Ends : SidValue → SidValue → List SidValue → Type 0
  Ends one group back = (front : List SidValue) → IsWay rows starts one front → IsWay rows starts group (front ++ reverse back)

  pub one_more_ends : (between one group : SidValue) (back : List SidValue) → IsIn rows between one → Ends one group back → Ends between group (back ++ one ∷ [])
  one_more_ends between one group back in' ends front is =
      subst (IsWay rows starts group) (append_assoc front (one ∷ []) (reverse back) ∙ ap (λ l. front ++ l) (sym (reverse-append back (one ∷ []))))
      (ends (front ++ one ∷ []) (by_way between one front is in'))

  pub begins : (one group : SidValue) (back : List SidValue) → IsStart rows starts one → Ends one group back → IsWay rows starts group (reverse (back ++ one ∷ []))
  begins one group back (start, at, in') ends =
      subst (IsWay rows starts group) (sym (reverse-append back (one ∷ []))) (ends (one ∷ []) (straight start one at in'))

-- from where the group at a place was found, as it is read
module _ (rows : List AccountRow) (starts groups : List SidValue) (before : List (Option ℕ)) (found : AreFoundFrom rows starts groups before)
    (place last : ℕ) (low : last < length groups) (from : Option ℕ) (read : from ≡ get_or before last from) (one : SidValue) (is : one ≡ get_or groups last one)
    (back : List SidValue) (ends : (d : SidValue) → Ends rows starts (get_or groups last d) (get_or groups place d) back) where
  known : IsFoundFrom rows starts groups last from
  known = subst (IsFoundFrom rows starts groups last) (at_read before (λ o. o ≡ from) last from (omega (arith, found.alike, low)) read refl None) (found.each last low)

  same : (d : SidValue) → get_or groups last d ≡ one
  same d = at_read groups (λ x. x ≡ one) last one low is refl d

  pub goes_back : (earlier : ℕ) → from ≡ Some earlier
      → (earlier < last) × ((d : SidValue) → Ends rows starts (get_or groups earlier d) (get_or groups place d) (back ++ one ∷ []))
  goes_back earlier some =
      let step = subst (IsFoundFrom rows starts groups last) some known in (
        step.0,
        λ d. subst (λ x. Ends rows starts (get_or groups earlier d) (get_or groups place d) (back ++ x ∷ [])) (same d)
            (one_more_ends rows starts (get_or groups earlier d) (get_or groups last d) (get_or groups place d) back (step.1 d d) (ends d)),
      )

  pub comes_to_start : from ≡ None → (d : SidValue) → IsWay rows starts (get_or groups place d) (reverse (back ++ one ∷ []))
  comes_to_start none d =
      let start = subst (IsFoundFrom rows starts groups last) none known in
      subst (λ x. IsWay rows starts (get_or groups place d) (reverse (back ++ x ∷ []))) (same d)
      (begins rows starts (get_or groups last d) (get_or groups place d) back (start d) (ends d))

-- ---- the group's place

pub at_place : (found : List SidValue) (group : SidValue) (place : ℕ) → position (λ one. same_sid one group) found ≡ Some place
    → (place < length found) × (get_or found place group ≡ group)
at_place found group place is =
    let at = position-Some (λ one. same_sid one group) found place group is in
    (at.0, same_sid-true (get_or found place group) group at.1)

pub at_no_place : (found : List SidValue) (group : SidValue) → position (λ one. same_sid one group) found ≡ None → Contains found group → ⊥
at_no_place found group none (k, low, at) =
    let first : ℕ = position_or_len (λ one. same_sid one group) found in
    elim (cases_lt k first) [
      | inl before ↦
          let fails = fails_before_first (λ one. same_sid one group) found k group before in
          false≢true (sym fails ∙ ap (λ one. same_sid one group) at ∙ same_sid-itself group)
      | inr past ↦
          let is : position (λ one. same_sid one group) found ≡ Some first = ap (λ b. cond b (Some first) None) (lt-ltb first (length found) (omega arith)) in
          cc (is, none)
    ]
