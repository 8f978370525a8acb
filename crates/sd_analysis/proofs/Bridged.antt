-- What a token is granted, pass by pass; and which demands on its passes make a gain.
use Rattle.sd_analysis.proofs.Cited.{AceKind, Allow, Bool, Demand, First, GroupState, List, MappingValue, None, Option, Parts, PassSids, Second, SidValue, Some, TokenValue, about, Deny, Enabled, a_group_stands_for, acl_grants, and-true, and_from, and_left, and_parts, ap, applies, applies_again, arith, cases_Bool, cond, counts, false, false≢true, gains, has_sid, inl, inr, is_given, is_granted, is_restricted, is_restricting_subject, limits_owner, list_any, lists, meets, not, not-true, option_to_list, or_assoc, or_cases, owns, refl, same_sid, sids_stand, stands_for_subject, stands_in, subject, sym, token_of, true, with_denied, ℕ, ◌&&◌, ◌==◌, ◌||◌, ◌∙◌, ◌∷◌, ◌≡◌, ◌⊎◌}

-- ---- a token in its passes

about_first : (t : TokenValue) (kind : AceKind) (who : Option SidValue) → stands_for_subject t kind who ≡ about (stands_in First t) kind who
about_first t kind None = refl
about_first t kind (Some s) = refl

about_second : (t : TokenValue) (kind : AceKind) (who : Option SidValue) → is_restricting_subject t who ≡ about (stands_in Second t) kind who
about_second t kind None = refl
about_second t kind (Some s) = refl

lists_first : (g : MappingValue) (parts : Parts) (t : TokenValue) (b : ℕ) → acl_grants g (applies t parts.owner) parts.dacl b ≡ lists g parts (stands_in First t) b
lists_first g parts t b = λ i. acl_grants g (λ kind s. about_first t kind (subject parts.owner s) i) parts.dacl b

lists_second : (g : MappingValue) (parts : Parts) (t : TokenValue) (b : ℕ) → acl_grants g (applies_again t parts.owner) parts.dacl b ≡ lists g parts (stands_in Second t) b
lists_second g parts t b = λ i. acl_grants g (λ kind s. about_second t kind (subject parts.owner s) i) parts.dacl b

-- what the privileges grant
abbrev pub privileged : TokenValue → ℕ → Bool
privileged t b = (t.privileges.take_ownership && b == 19) || (t.privileges.security && b == 24)

abbrev pub in_passes : Bool → Bool → Bool → Bool
in_passes restricted first second = first && (not restricted || second)

owner_in_passes : (o p r limited place : Bool) → ((in_passes r o p && not limited) && place) ≡ in_passes r ((o && not limited) && place) ((p && not limited) && place)
owner_in_passes o p r limited place = grind arith

pub granted_in_passes : (g : MappingValue) (parts : Parts) (t : TokenValue) (b : ℕ)
    → is_granted parts.owner parts.dacl g t b
    ≡ (in_passes (is_restricted t) (lists g parts (stands_in First t) b) (lists g parts (stands_in Second t) b)
    || (in_passes (is_restricted t) (owns parts (stands_in First t) b) (owns parts (stands_in Second t) b) || privileged t b))
granted_in_passes g parts t b =
    let o = stands_for_subject t Allow parts.owner in
    let p = is_restricting_subject t parts.owner in
    let place = b == 17 || b == 18 in
    (λ i. in_passes (is_restricted t) (lists_first g parts t b i) (lists_second g parts t b i) || is_given parts.owner parts.dacl t b)
    ∙ ap (λ x. in_passes (is_restricted t) (lists g parts (stands_in First t) b) (lists g parts (stands_in Second t) b) || x)
    (or_assoc ((in_passes (is_restricted t) o p && not (limits_owner parts.dacl)) && place) (t.privileges.take_ownership && b == 19) (t.privileges.security && b == 24)
    ∙ ap (λ x. x || privileged t b)
    (owner_in_passes o p (is_restricted t) (limits_owner parts.dacl) place
    ∙ (λ i. in_passes (is_restricted t)
    ((about_first t Allow parts.owner i && not (limits_owner parts.dacl)) && place)
    ((about_second t Allow parts.owner i && not (limits_owner parts.dacl)) && place))))

-- ---- demands

-- what a demand asks of the grants in a pass: by the new DACL and as its owner's, by the old one and as its owner's
abbrev pub asks : Demand → Bool → Bool → Bool → Bool → Bool
asks demand l n m q = cond demand.by_owner n l && (not (demand.unlisted && m) && not (demand.unowned && q))

-- the old descriptor fails in the first pass alone, or the second pass shows the rest
abbrev pub IsShown : (Demand → Bool) → (Demand → Bool) → Type 0
IsShown first second =
    (by_owner : Bool) × ((unlisted : Bool) × ((unowned : Bool)
    × ((first (record { by_owner = by_owner; unlisted = unlisted; unowned = unowned }) ≡ true)
    × (((unlisted ≡ true) × (unowned ≡ true))
    ⊎ (second (record { by_owner = by_owner; unlisted = not unlisted; unowned = not unowned }) ≡ true)))))

shown : (r l1 l2 n1 n2 m1 m2 q1 q2 by_owner : Bool) → in_passes r (cond by_owner n1 l1) (cond by_owner n2 l2) ≡ true
    → in_passes r m1 m2 ≡ false → in_passes r q1 q2 ≡ false
    → IsShown (λ demand. asks demand l1 n1 m1 q1) (λ demand. asks demand l2 n2 m2 q2)
shown r l1 l2 n1 n2 m1 m2 q1 q2 by_owner granted not_listed not_owned = (
  by_owner,
  (
    not m1,
    (
      not q1,
      (
        grind arith,
        elim (cases_Bool (m1 || q1)) [
          | inl second ↦ inr (grind arith)
          | inr first ↦ inl (grind arith, grind arith)
        ],
      ),
    ),
  ),
)

-- ---- gains

neither : (x y z : Bool) → (x || (y || z)) ≡ false → (x ≡ false) × ((y ≡ false) × (z ≡ false))
neither x y z h = grind arith

module _ (g : MappingValue) (old new : Parts) (b : ℕ) where
  abbrev shows : (AceKind → SidValue → Bool) → Demand → Bool
  shows stands demand = meets g old new demand stands b

  -- where a token gains the bit, its passes show it
  pub gain_shown : (t : TokenValue) → gains g old new t b ≡ true → IsShown (shows (stands_in First t)) (shows (stands_in Second t))
  gain_shown t h =
      let r = is_restricted t in
      let l1 = lists g new (stands_in First t) b in
      let l2 = lists g new (stands_in Second t) b in
      let n1 = owns new (stands_in First t) b in
      let n2 = owns new (stands_in Second t) b in
      let m1 = lists g old (stands_in First t) b in
      let m2 = lists g old (stands_in Second t) b in
      let q1 = owns old (stands_in First t) b in
      let q2 = owns old (stands_in Second t) b in
      let outer = and_parts (is_granted new.owner new.dacl g t b) (not (is_granted old.owner old.dacl g t b)) h in
      let granted = sym (granted_in_passes g new t b) ∙ outer.0 in
      let refused = neither (in_passes r m1 m2) (in_passes r q1 q2) (privileged t b) (sym (granted_in_passes g old t b) ∙ not-true _ outer.1) in
      elim (or_cases (in_passes r l1 l2) (in_passes r n1 n2 || privileged t b) granted) [
        | inl listed ↦ shown r l1 l2 n1 n2 m1 m2 q1 q2 false listed refused.0 refused.1.0
        | inr given ↦ elim (or_cases (in_passes r n1 n2) (privileged t b) given) [
          | inl owned ↦ shown r l1 l2 n1 n2 m1 m2 q1 q2 true owned refused.0 refused.1.0
          | inr power ↦ absurd (false≢true (sym refused.1.1 ∙ power))
        ]
      ]

-- ---- and back: what the passes of a witness show, it gains

refuse : (here m1 m2 : Bool) → not (here && m1) ≡ true → not (not here && m2) ≡ true → (m1 && m2) ≡ false
refuse here m1 m2 h j = grind arith

either : (by_owner l1 l2 n1 n2 r : Bool) → in_passes r (cond by_owner n1 l1) (cond by_owner n2 l2) ≡ true
    → (in_passes r l1 l2 || (in_passes r n1 n2 || false)) ≡ true
either by_owner l1 l2 n1 n2 r h = grind arith

restricting_is : (allowed : SidValue) (denied : Option SidValue) (s : SidValue)
    → list_any (λ one. same_sid one s) (allowed ∷ option_to_list denied) ≡ (same_sid allowed s || has_sid denied s)
restricting_is allowed denied s = grind arith

-- the user of a witness counts for both kinds
user_is : (s user : SidValue) (others : Bool) (kind : AceKind) → ((same_sid user s && counts kind Enabled) || others) ≡ (same_sid user s || others)
user_is s user others Allow = ap (λ x. x || others) (and-true (same_sid user s))
user_is s user others Deny = ap (λ x. x || others) (and-true (same_sid user s))

pub first_is : (base : List (SidValue × GroupState)) (sids : PassSids) (second : Option PassSids)
    → stands_in First (token_of base (record { first = sids; second = second })) ≡ sids_stand First base sids
first_is base sids second = λ i kind s. user_is s sids.allowed (a_group_stands_for (with_denied base sids.denied) kind s) kind i

module _ (g : MappingValue) (old new : Parts) (base : List (SidValue × GroupState)) (b : ℕ) where
  gain_of : (t : TokenValue) (by_owner : Bool) → privileged t b ≡ false
      → in_passes (is_restricted t)
      (cond by_owner (owns new (stands_in First t) b) (lists g new (stands_in First t) b))
      (cond by_owner (owns new (stands_in Second t) b) (lists g new (stands_in Second t) b)) ≡ true
      → in_passes (is_restricted t) (lists g old (stands_in First t) b) (lists g old (stands_in Second t) b) ≡ false
      → in_passes (is_restricted t) (owns old (stands_in First t) b) (owns old (stands_in Second t) b) ≡ false
      → gains g old new t b ≡ true
  gain_of t by_owner h j k l = grind (arith, granted_in_passes g new t b, granted_in_passes g old t b)

  -- by its first pass alone
  pub unrestricted_gains : (by_owner : Bool) (sids : PassSids)
      → meets g old new (record { by_owner = by_owner; unlisted = true; unowned = true }) (sids_stand First base sids) b ≡ true
      → gains g old new (token_of base (record { first = sids; second = None })) b ≡ true
  unrestricted_gains by_owner sids h =
      let t = token_of base (record { first = sids; second = None }) in
      let stands = stands_in First t in
      let met : meets g old new (record { by_owner = by_owner; unlisted = true; unowned = true }) stands b ≡ true =
      ap (λ who. meets g old new (record { by_owner = by_owner; unlisted = true; unowned = true }) who b) (first_is base sids None) ∙ h in
      let outer = and_parts (cond by_owner (owns new stands b) (lists g new stands b)) _ met in
      let inner = and_parts (not (lists g old stands b)) (not (owns old stands b)) outer.1 in
      gain_of t by_owner refl
      (and_from _ _ outer.0 refl) (and_left _ _ (not-true _ inner.0)) (and_left _ _ (not-true _ inner.1))

  again_is : (sids more : PassSids) → stands_in Second (token_of base (record { first = sids; second = Some more })) ≡ sids_stand Second base more
  again_is sids more = λ i kind s. restricting_is more.allowed more.denied s i

  restricted_is : (sids more : PassSids) → is_restricted (token_of base (record { first = sids; second = Some more })) ≡ true
  restricted_is sids more = grind arith

  -- and by both
  pub restricted_gains : (by_owner unlisted unowned : Bool) (sids more : PassSids)
      → meets g old new (record { by_owner = by_owner; unlisted = unlisted; unowned = unowned }) (sids_stand First base sids) b ≡ true
      → meets g old new (record { by_owner = by_owner; unlisted = not unlisted; unowned = not unowned }) (sids_stand Second base more) b ≡ true
      → gains g old new (token_of base (record { first = sids; second = Some more })) b ≡ true
  restricted_gains by_owner unlisted unowned sids more h k =
      let t = token_of base (record { first = sids; second = Some more }) in
      let stands = stands_in First t in
      let met : meets g old new (record { by_owner = by_owner; unlisted = unlisted; unowned = unowned }) stands b ≡ true =
      ap (λ who. meets g old new (record { by_owner = by_owner; unlisted = unlisted; unowned = unowned }) who b) (first_is base sids (Some more)) ∙ h in
      let again : meets g old new (record { by_owner = by_owner; unlisted = not unlisted; unowned = not unowned }) (stands_in Second t) b ≡ true =
      ap (λ who. meets g old new (record { by_owner = by_owner; unlisted = not unlisted; unowned = not unowned }) who b) (again_is sids more) ∙ k in
      let now = stands_in Second t in
      let outer = and_parts (cond by_owner (owns new stands b) (lists g new stands b)) _ met in
      let inner = and_parts (not (unlisted && lists g old stands b)) (not (unowned && owns old stands b)) outer.1 in
      let outer_again = and_parts (cond by_owner (owns new now b) (lists g new now b)) _ again in
      let inner_again = and_parts (not (not unlisted && lists g old now b)) (not (not unowned && owns old now b)) outer_again.1 in
      let both : (x y : Bool) → in_passes (is_restricted t) x y ≡ (x && y) = λ x y. ap (λ r. in_passes r x y) (restricted_is sids more) in
      gain_of t by_owner refl
      (both _ _ ∙ and_from _ _ outer.0 outer_again.0)
      (both _ _ ∙ refuse unlisted _ _ inner.0 inner_again.0)
      (both _ _ ∙ refuse unowned _ _ inner.1 inner_again.1)
