-- What is left to restricted tokens where no unrestricted one gains the bit.
use Rattle.sd_analysis.proofs.Cited.{AceKind, Allow, Bool, Case, Demand, Deny, Enabled, First, GroupState, HasBase, IsCase, IsNeverMet, IsNotGained, IsRefusedAgain, IsSought, List, None, Option, Parts, Pass, PassSids, Second, SidValue, Some, TokenValue, ℕ, [], a_group_stands_for, about, and_from, and_parts, ap, arith, entries_of, false, false_from_ne_true, false≢true, has_sid, holds, inl, inr, is_rest, limits_owner, lists, mask_of, meets, new_of, no_privileges, not, not-true, old_of, owns, plain_token, refl, same_sid, same_sid-true, sids_meet, sids_stand, stands_in, sym, token_meets, token_of, true, ◌&&◌, ◌<◌, ◌==◌, ◌||◌, ◌∙◌, ◌∷◌, ◌≡◌}
use Rattle.sd_analysis.proofs.Bridged.{first_is}
use Rattle.sd_analysis.specs.Report.{is_granted_to}
use Rattle.sd_analysis.proofs.Effects.{has_base_with}
use Rattle.sd_analysis.proofs.Passed.{two_suffice}
use Rattle.sd_analysis.proofs.Reports.{both_in}

-- ---- an owner that both descriptors have

owner_stands : (stands : AceKind → SidValue → Bool) (owner : Option SidValue) (s : SidValue) → has_sid owner s ≡ true → stands Allow s ≡ true
    → about stands Allow owner ≡ true
owner_stands stands None s is h = absurd (false≢true is)
owner_stands stands (Some o) s is h = ap (stands Allow) (same_sid-true o s is) ∙ h

never_owned : (new : Parts) (stands : AceKind → SidValue → Bool) (b : ℕ) → new.owner ≡ None → owns new stands b ≡ true → ⊥
never_owned new stands b h j = grind arith

still_owned : (old new : Parts) (s : SidValue) (stands : AceKind → SidValue → Bool) (b : ℕ) → new.owner ≡ Some s
    → (has_sid old.owner s && not (limits_owner old.dacl)) ≡ true → owns new stands b ≡ true → owns old stands b ≡ true
still_owned old new s stands b is_new is_old h =
    let outer = and_parts (about stands Allow new.owner && not (limits_owner new.dacl)) (b == 17 || b == 18) h in
    let inner = and_parts (about stands Allow new.owner) (not (limits_owner new.dacl)) outer.0 in
    let before = and_parts (has_sid old.owner s) (not (limits_owner old.dacl)) is_old in
    and_from _ _ (and_from _ _ (owner_stands stands old.owner s before.0 (ap (about stands Allow) (sym is_new) ∙ inner.0)) before.1) outer.1

module _ (case : Case) where
  never_met : ((stands : AceKind → SidValue → Bool) (b : ℕ) → owns (new_of case) stands b ≡ true → owns (old_of case) stands b ≡ true) → IsNeverMet case true
  never_met still pass unlisted t b = false_from_ne_true _ (λ h.
      let stands = stands_in pass t in
      let listed = unlisted && lists case.mapping.now (old_of case) stands b in
      let outer = and_parts (owns (new_of case) stands b) (not listed && not (owns (old_of case) stands b)) h in
      let inner = and_parts (not listed) (not (owns (old_of case) stands b)) outer.1 in
      false≢true (sym (not-true _ inner.1) ∙ still stands b outer.0))

  pub without_owner : case.new.now.owner ≡ None → IsNeverMet case true
  without_owner none = never_met (λ stands b h. absurd (never_owned (new_of case) stands b none h))

  pub of_one_owner : (s : SidValue) → case.new.now.owner ≡ Some s
      → (has_sid case.old.now.owner s && not (limits_owner (entries_of case.old.now.dacl))) ≡ true → IsNeverMet case true
  of_one_owner s is_new is_old = never_met (λ stands b h. still_owned (old_of case) (new_of case) s stands b is_new is_old h)

  pub never_again : (by_owner : Bool) → IsNeverMet case by_owner → (t : TokenValue) (b : ℕ) → IsRefusedAgain case t by_owner b
  never_again by_owner never t b = record {
    owner_second = inr (never Second false t b);
    list_second = inl (never First false t b);
    both_second = inr (never Second true t b);
  }

pub less_asked : (case : Case) (by_owner : Bool) (t : TokenValue) (b : ℕ)
    → token_meets case Second (record { by_owner = by_owner; unlisted = true; unowned = false }) t b ≡ false
    → token_meets case Second (record { by_owner = by_owner; unlisted = true; unowned = true }) t b ≡ false
less_asked case by_owner t b h = grind arith

-- ---- the rest of the first pass

-- a group for denies alone doesn't make anybody the owner
owner_alone : (base : List (SidValue × GroupState)) (s : SidValue) (denied who : Option SidValue)
    → about (sids_stand First base (record { allowed = s; denied = denied })) Allow who
    ≡ about (sids_stand First base (record { allowed = s; denied = None })) Allow who
owner_alone base s denied who = grind arith

owned_alone : (parts : Parts) (base : List (SidValue × GroupState)) (s : SidValue) (denied : Option SidValue) (b : ℕ)
    → owns parts (sids_stand First base (record { allowed = s; denied = None })) b
    ≡ owns parts (sids_stand First base (record { allowed = s; denied = denied })) b
owned_alone parts base s denied b =
    ap (λ x. (x && not (limits_owner parts.dacl)) && (b == 17 || b == 18)) (sym (owner_alone base s denied parts.owner))

pub worth_rest : (case : Case) (pass : Pass) (demand : Demand) (granted owned worth : ℕ) (alone : PassSids) (denied : Option SidValue) (b : ℕ) → b < 21
    → alone.denied ≡ None → worth ≡ mask_of (λ k. holds granted k && holds owned k) 32
    → holds owned b ≡ owns (old_of case) (sids_stand pass case.base.now alone) b
    → is_rest pass demand ≡ true → holds granted b ≡ true
    → IsSought case pass demand (record { allowed = alone.allowed; denied = denied }) b
    → holds worth b ≡ true
worth_rest case First demand granted owned worth alone denied b low none is is_owned rest h sought =
    ap (λ m. holds m b) is
    ∙ both_in granted owned b (omega (arith, low)) h
    (is_owned ∙ ap (λ d. owns (old_of case) (sids_stand First case.base.now (record { allowed = alone.allowed; denied = d })) b) none
    ∙ owned_alone (old_of case) case.base.now alone.allowed denied b ∙ sought rest)
worth_rest case Second demand granted owned worth alone denied b low none is is_owned rest h sought = absurd (false≢true rest)

rest_owned : (granted listed owned unlisted unowned : Bool) → (unlisted && not unowned) ≡ true
    → (granted && (not (unlisted && listed) && not (unowned && owned))) ≡ true → (granted && (not listed && not owned)) ≡ false → owned ≡ true
rest_owned granted listed owned unlisted unowned rest met not_met = grind (arith, rest, met, not_met)

-- where no unrestricted token gains the bit, the old descriptor grants it as the owner's to whoever meets the rest
pub sought : (case : Case) (pass : Pass) (demand : Demand) (sids : PassSids) (b : ℕ)
    → (is_rest pass demand ≡ true → IsNotGained case demand.by_owner b)
    → sids_meet case pass demand sids b ≡ true → IsSought case pass demand sids b
sought case First demand sids b not_gained met rest =
    let t = token_of case.base.now (record { first = sids; second = None }) in
    let stands = sids_stand First case.base.now sids in
    let open_all : Demand = record { by_owner = demand.by_owner; unlisted = true; unowned = true } in
    let not_met : meets case.mapping.now (old_of case) (new_of case) open_all stands b ≡ false =
    ap (λ who. meets case.mapping.now (old_of case) (new_of case) open_all who b) (sym (first_is case.base.now sids None))
    ∙ not_gained rest t (has_base_with case.base.now sids.denied t refl) in
    rest_owned (is_granted_to case First demand sids b) (lists case.mapping.now (old_of case) stands b) (owns (old_of case) stands b)
    demand.unlisted demand.unowned rest met not_met
sought case Second demand sids b not_gained met rest = absurd (false≢true rest)

-- ---- without a base

abbrev enabled : Option SidValue → List (SidValue × GroupState)
enabled None = []
enabled (Some s) = (s, Enabled) ∷ []

-- the unrestricted token of the SIDs that a second pass has
abbrev unrestricted : PassSids → TokenValue
unrestricted sids = plain_token sids.allowed (enabled sids.denied)

enabled_stands : (denied : Option SidValue) (kind : AceKind) (s : SidValue) → a_group_stands_for (enabled denied) kind s ≡ has_sid denied s
enabled_stands denied kind s = grind arith

stands_so : (base : List (SidValue × GroupState)) (sids : PassSids) → stands_in First (unrestricted sids) ≡ sids_stand Second base sids
stands_so base sids = λ i kind s. so kind s i
  where
    so : (kind : AceKind) (s : SidValue) → stands_in First (unrestricted sids) kind s ≡ sids_stand Second base sids kind s
    so Allow s = grind (arith, enabled_stands sids.denied Allow s)
    so Deny s = grind (arith, enabled_stands sids.denied Deny s)

module _ (case : Case) (is : IsCase case) (none : case.base.now ≡ []) where
  any_has : (t : TokenValue) → HasBase case.base.now t
  any_has t kind s h = absurd (false≢true (sym (ap (λ base. a_group_stands_for base kind s) none) ∙ h))

  -- what no first pass meets, no second pass does
  second_as_first : (demand : Demand) (b : ℕ)
      → ((t : TokenValue) → HasBase case.base.now t → token_meets case First demand t b ≡ false)
      → (t : TokenValue) → HasBase case.base.now t → token_meets case Second demand t b ≡ false
  second_as_first demand b first t has = false_from_ne_true _ (λ met.
      let two = two_suffice case.mapping.now (old_of case) (new_of case) case.base.now t case.other b Second demand has is.not_old is.not_new met in
      let u = unrestricted two.0 in
      false≢true (sym (first u (any_has u))
      ∙ ap (λ who. meets case.mapping.now (old_of case) (new_of case) demand who b) (stands_so case.base.now two.0)
      ∙ two.1.1.0))

  pub refused_without_base : (by_owner : Bool) (b : ℕ) → IsNotGained case by_owner b
      → ((t : TokenValue) → HasBase case.base.now t
      → token_meets case First (record { by_owner = by_owner; unlisted = true; unowned = false }) t b ≡ false)
      → (t : TokenValue) → HasBase case.base.now t → IsRefusedAgain case t by_owner b
  refused_without_base by_owner b not_gained rest t has = record {
    owner_second = inl (rest t has);
    list_second = inr (second_as_first (record { by_owner = by_owner; unlisted = true; unowned = false }) b rest t has);
    both_second = inr (second_as_first (record { by_owner = by_owner; unlisted = true; unowned = true }) b not_gained t has);
  }
