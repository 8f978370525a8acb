-- What a pass shows of two descriptors, two SIDs show.
use Rattle.sd_analysis.proofs.Cited.{Ace, AceKind, Allow, Bool, Demand, Deny, First, GroupState, HasBase, List, MappingValue, MayDecide, None, Option, Parts, Pass, PassSids, Second, SidValue, Some, TokenValue, [], a_group_stands_for, allowed_sids, and_from, and_parts, and_right, ap, arith, cond, denied_sids, false, false≢true, has_sid, inl, inr, is_among, is_named, limits_owner, lists, meets, nat_lt, not, not-true, not_from_false, or_cases, or_left, or_right, owns, refl, same_sid, same_sid-itself, same_sid-true, sids_stand, stands_for, stands_in, sym, true, with_denied, ℕ, ◌&&◌, ◌==◌, ◌||◌, ◌∙◌, ◌≡◌, ◌⊎◌}
use Rattle.sd_analysis.proofs.Walks.{stands_for_deny}
use Rattle.sd_analysis.proofs.Kept.{about_less, owner_named, IsWithin, keeps_listed, keeps_unlisted}

-- ---- the owner

low_places : (b : ℕ) → (b == 17 || b == 18) ≡ true → nat_lt b 21 ≡ true
low_places b h = grind arith

-- the owner's SID, through which the descriptor grants the bit as the owner's
keeps_owned : (owner : Option SidValue) (dacl : Option (List Ace)) (other : SidValue) (stands : AceKind → SidValue → Bool) (b : ℕ)
    → owns (record { owner = owner; dacl = dacl }) stands b ≡ true
    → (s : SidValue)
    × ((is_among (allowed_sids other (record { owner = owner; dacl = dacl })) s ≡ true)
    × ((stands Allow s ≡ true)
    × ((now : AceKind → SidValue → Bool) → now Allow s ≡ true → owns (record { owner = owner; dacl = dacl }) now b ≡ true)))
keeps_owned None dacl other stands b h = absurd (false≢true h)
keeps_owned (Some o) dacl other stands b h =
    let outer = and_parts (stands Allow o && not (limits_owner dacl)) (b == 17 || b == 18) h in
    let inner = and_parts (stands Allow o) (not (limits_owner dacl)) outer.0 in (
      o,
      (
        or_right (same_sid other o) _ (or_left _ _ (same_sid-itself o)),
        (inner.0, λ now is. and_from _ _ (and_from _ _ is inner.1) outer.1),
      ),
    )

-- a descriptor that doesn't grant it so still doesn't
keeps_unowned : (owner : Option SidValue) (dacl : Option (List Ace)) (stands now : AceKind → SidValue → Bool) (b : ℕ)
    → IsWithin (record { owner = owner; dacl = dacl }) stands now
    → owns (record { owner = owner; dacl = dacl }) stands b ≡ false → owns (record { owner = owner; dacl = dacl }) now b ≡ false
keeps_unowned owner dacl stands now b within h = grind (arith, about_less, owner_named)

-- ---- all that is demanded

-- of what somebody stands for, two SIDs
pub record Kept (g : MappingValue) (old new : Parts) (demand : Demand) (other : SidValue) (stands : AceKind → SidValue → Bool) (b : ℕ) (sids : PassSids) : Type 0 where
  pub may : MayDecide other old new sids
  pub allowed : (sids.allowed ≡ other) ⊎ (stands Allow sids.allowed ≡ true)
  pub denied : (s : SidValue) → sids.denied ≡ Some s → stands Deny s ≡ true
  pub needed : (s : SidValue) → sids.denied ≡ Some s → demand.unlisted ≡ true
  pub granted : (now : AceKind → SidValue → Bool) → IsWithin new stands now → now Allow sids.allowed ≡ true
      → cond demand.by_owner (owns new now b) (lists g new now b) ≡ true
  pub still : (now : AceKind → SidValue → Bool) → IsWithin old stands now → IsWithin new stands now → now Allow sids.allowed ≡ true
      → ((s : SidValue) → sids.denied ≡ Some s → now Deny s ≡ true)
      → meets g old new demand now b ≡ true

lists_low : (g : MappingValue) (owner : Option SidValue) (dacl : Option (List Ace)) (stands : AceKind → SidValue → Bool) (b : ℕ)
    → lists g (record { owner = owner; dacl = dacl }) stands b ≡ true → nat_lt b 21 ≡ true
lists_low g owner dacl stands b h = grind arith

pub not_and : (x y : Bool) → not (x && y) ≡ true → x ≡ true → y ≡ false
not_and x y h j = grind arith

not_and_from : (x y : Bool) → (x ≡ true → y ≡ false) → not (x && y) ≡ true
not_and_from x y h = grind arith

module _ (g : MappingValue) (old new : Parts) (other : SidValue) (stands : AceKind → SidValue → Bool) (b : ℕ) where
  keeps_granted : (by_owner : Bool) → cond by_owner (owns new stands b) (lists g new stands b) ≡ true
      → (s : SidValue)
      × ((is_among (allowed_sids other new) s ≡ true)
      × (((s ≡ other) ⊎ (stands Allow s ≡ true))
      × ((now : AceKind → SidValue → Bool) → IsWithin new stands now → now Allow s ≡ true
      → cond by_owner (owns new now b) (lists g new now b) ≡ true)))
  keeps_granted true h =
      let kept = keeps_owned new.owner new.dacl other stands b h in
      (kept.0, (kept.1.0, (inr kept.1.1.0, λ now within is. kept.1.1.1 now is)))
  keeps_granted false h = keeps_listed g new.owner stands b other new.dacl h

  granted_low : (by_owner : Bool) → cond by_owner (owns new stands b) (lists g new stands b) ≡ true → nat_lt b 21 ≡ true
  granted_low by_owner h = grind (arith, low_places, lists_low)

  keeps_refused : (unlisted : Bool) → nat_lt b 21 ≡ true → not (unlisted && lists g old stands b) ≡ true
      → (denied : Option SidValue)
      × (((s : SidValue) → denied ≡ Some s → (is_among (denied_sids old) s ≡ true) × ((stands Deny s ≡ true) × (unlisted ≡ true)))
      × ((now : AceKind → SidValue → Bool) → IsWithin old stands now → ((s : SidValue) → denied ≡ Some s → now Deny s ≡ true)
      → not (unlisted && lists g old now b) ≡ true))
  keeps_refused false low h = (None, ((λ s is. absurd cc), λ now within is. refl))
  keeps_refused true low h =
      let kept = keeps_unlisted g old.owner stands b old.dacl low (not-true _ h) in
      (kept.0, ((λ s is. let both = kept.1.0 s is in (both.0, (both.1, refl))), λ now within is. not_from_false _ (kept.1.1 now within is)))

  pub two_sids : (demand : Demand) → meets g old new demand stands b ≡ true → (sids : PassSids) × Kept g old new demand other stands b sids
  two_sids demand h =
      let outer = and_parts (cond demand.by_owner (owns new stands b) (lists g new stands b)) _ h in
      let inner = and_parts (not (demand.unlisted && lists g old stands b)) (not (demand.unowned && owns old stands b)) outer.1 in
      let granted = keeps_granted demand.by_owner outer.0 in
      let refused = keeps_refused demand.unlisted (granted_low demand.by_owner outer.0) inner.0 in (
        record { allowed = granted.0; denied = refused.0 },
        record {
          may = record { allowed = granted.1.0; denied = λ s is. (refused.1.0 s is).0 };
          allowed = granted.1.1.0;
          denied = λ s is. (refused.1.0 s is).1.0;
          needed = λ s is. (refused.1.0 s is).1.1;
          granted = granted.1.1.1;
          still = λ now within_old within_new is_allowed is_denied.
              and_from _ _ (granted.1.1.1 now within_new is_allowed)
              (and_from _ _ (refused.1.1 now within_old is_denied)
              (not_and_from demand.unowned (owns old now b)
              (λ unowned. keeps_unowned old.owner old.dacl stands now b within_old (not_and demand.unowned (owns old stands b) inner.1 unowned))));
        },
      )

-- ---- a base with two SIDs

-- who stands for a SID in allows does in denies
stands_more : (pass : Pass) (t : TokenValue) (kind : AceKind) (s : SidValue) → stands_in pass t Allow s ≡ true → stands_in pass t kind s ≡ true
stands_more First t Allow s h = h
stands_more First t Deny s h = stands_for_deny t s h
stands_more Second t kind s h = h

module _ (base : List (SidValue × GroupState)) (t : TokenValue) (has : HasBase base t) where
  denied_within : (kind : AceKind) (s : SidValue) (denied : Option SidValue) → ((d : SidValue) → denied ≡ Some d → stands_for t Deny d ≡ true)
      → a_group_stands_for (with_denied base denied) kind s ≡ true → stands_for t kind s ≡ true
  denied_within kind s None stands h = has kind s h
  denied_within Allow s (Some d) stands h = elim (or_cases (same_sid d s && false) (a_group_stands_for base Allow s) h) [
    | inl here ↦ absurd (false≢true (sym (and_right (same_sid d s) false refl) ∙ here))
    | inr based ↦ has Allow s based
  ]
  denied_within Deny s (Some d) stands h = elim (or_cases (same_sid d s && true) (a_group_stands_for base Deny s) h) [
    | inl here ↦ let same = same_sid-true d s (and_parts (same_sid d s) true here).0 in ap (stands_for t Deny) (sym same) ∙ stands d refl
    | inr based ↦ has Deny s based
  ]

  denied_again : (s : SidValue) (denied : Option SidValue) → ((d : SidValue) → denied ≡ Some d → stands_in Second t Deny d ≡ true)
      → has_sid denied s ≡ true → stands_in Second t Deny s ≡ true
  denied_again s None stands h = absurd (false≢true h)
  denied_again s (Some d) stands h = ap (stands_in Second t Deny) (sym (same_sid-true d s h)) ∙ stands d refl

  -- a SID of the two stands for what the token stood for, where the descriptor names it
  module _ (parts : Parts) (other : SidValue) (unnamed : is_named parts other ≡ false) (sids : PassSids) where
    allowed_within : (pass : Pass) → ((sids.allowed ≡ other) ⊎ (stands_in pass t Allow sids.allowed ≡ true))
        → (kind : AceKind) (s : SidValue) → is_named parts s ≡ true → same_sid sids.allowed s ≡ true → stands_in pass t kind s ≡ true
    allowed_within pass (inl is) kind s named h =
        let same : s ≡ other = sym (same_sid-true sids.allowed s h) ∙ is in
        absurd (false≢true (sym unnamed ∙ ap (is_named parts) (sym same) ∙ named))
    allowed_within pass (inr stood) kind s named h =
        let same = same_sid-true sids.allowed s h in
        stands_more pass t kind s (ap (stands_in pass t Allow) (sym same) ∙ stood)

    sids_within : (pass : Pass) → ((sids.allowed ≡ other) ⊎ (stands_in pass t Allow sids.allowed ≡ true))
        → ((d : SidValue) → sids.denied ≡ Some d → stands_in pass t Deny d ≡ true)
        → IsWithin parts (stands_in pass t) (sids_stand pass base sids)
    sids_within First allowed denied kind s named h = elim (or_cases (same_sid sids.allowed s) (a_group_stands_for (with_denied base sids.denied) kind s) h) [
      | inl user ↦ allowed_within First allowed kind s named user
      | inr group ↦ denied_within kind s sids.denied denied group
    ]
    sids_within Second allowed denied kind s named h = elim (or_cases (same_sid sids.allowed s) (has_sid sids.denied s) h) [
      | inl user ↦ allowed_within Second allowed kind s named user
      | inr one ↦ denied_again s sids.denied denied one
    ]

allowed_stands : (pass : Pass) (base : List (SidValue × GroupState)) (sids : PassSids) → sids_stand pass base sids Allow sids.allowed ≡ true
allowed_stands pass base sids = grind (arith, same_sid-itself)

denied_stands : (pass : Pass) (base : List (SidValue × GroupState)) (sids : PassSids) (s : SidValue) → sids.denied ≡ Some s → sids_stand pass base sids Deny s ≡ true
denied_stands pass base sids s h = grind (arith, same_sid-itself)

-- what a token shows in a pass, the base shows with two SIDs of those that may decide
pub two_suffice : (g : MappingValue) (old new : Parts) (base : List (SidValue × GroupState)) (t : TokenValue) (other : SidValue) (b : ℕ) (pass : Pass) (demand : Demand)
    → HasBase base t → is_named old other ≡ false → is_named new other ≡ false
    → meets g old new demand (stands_in pass t) b ≡ true
    → (sids : PassSids)
    × ((MayDecide other old new sids)
    × ((meets g old new demand (sids_stand pass base sids) b ≡ true)
    × (((s : SidValue) → sids.denied ≡ Some s → demand.unlisted ≡ true)
    × (cond demand.by_owner (owns new (sids_stand pass base (record { allowed = sids.allowed; denied = None })) b)
    (lists g new (sids_stand pass base (record { allowed = sids.allowed; denied = None })) b) ≡ true))))
two_suffice g old new base t other b pass demand has not_old not_new h =
    let found = two_sids g old new other (stands_in pass t) b demand h in
    let sids = found.0 in (
      sids,
      (
        found.1.may,
        (
          found.1.still (sids_stand pass base sids)
              (sids_within base t has old other not_old sids pass found.1.allowed found.1.denied)
              (sids_within base t has new other not_new sids pass found.1.allowed found.1.denied)
              (allowed_stands pass base sids) (denied_stands pass base sids),
          (
            found.1.needed,
            found.1.granted (sids_stand pass base (record { allowed = sids.allowed; denied = None }))
                (sids_within base t has new other not_new (record { allowed = sids.allowed; denied = None }) pass found.1.allowed (λ d is. absurd cc))
                (allowed_stands pass base (record { allowed = sids.allowed; denied = None })),
          ),
        ),
      ),
    )

-- only bits below 21 are granted by entries or to an owner
pub meets_low : (g : MappingValue) (old new : Parts) (stands : AceKind → SidValue → Bool) (b : ℕ) (demand : Demand)
    → meets g old new demand stands b ≡ true → nat_lt b 21 ≡ true
meets_low g old new stands b demand h =
    granted_low g old new (record { authority = 0; subs = [] }) stands b demand.by_owner
    (and_parts (cond demand.by_owner (owns new stands b) (lists g new stands b)) _ h).0
