-- How a search goes on: what it found stays found, and what is left is less.
use Rattle.sd_analysis.proofs.Cited.{All, All-push, AreFindings, Bool, Case, Demand, Finding, Found, IsCase, IsFound, IsLessLeft, IsSought, List, None, Option, Pass, PassSids, SidValue, Some, [], and_from, and_parts, ap, arith, false, false_from_ne_true, false≢true, get_or, holds, holds_place, inl, inr, is_among, is_found, is_granted_alone, length, list_any-append, list_any_more, mask_of, new_of, not, not-true, not_from_false, old_of, or_cases, or_parts, refl, same_sid, same_sid-true, sids_meet, subst, sym, take, true, ℕ, ◌&&◌, ◌++◌, ◌+◌, ◌<◌, ◌==◌, ◌||◌, ◌∙◌, ◌∷◌, ◌≡◌, ◌⊎◌}
use Rattle.sd_analysis.proofs.Passed.{two_suffice}
use Rattle.sd_analysis.proofs.Reports.{in_difference, none_held}
use Rattle.sd_analysis.proofs.Restricted.{sought}

pub among_more : (sids : List SidValue) (i : ℕ) (one s : SidValue) → i < length sids → one ≡ get_or sids i one
    → is_among (take (i + 1) sids) s ≡ true → (is_among (take i sids) s ≡ true) ⊎ (one ≡ s)
among_more sids i one s low is h =
    elim (or_cases (is_among (take i sids) s) (same_sid (get_or sids i one) s) (sym (list_any_more (λ x. same_sid x s) sids i one low) ∙ h)) [
      | inl before ↦ inl before
      | inr now ↦ inr (same_sid-true one s (ap (λ x. same_sid x s) is ∙ now))
    ]

pub still_left : (before now : Found) (b : ℕ) → IsLessLeft before now → holds before.left b ≡ false → holds now.left b ≡ false
still_left before now b less gone = grind (arith, less b)

found_push : (fs : List Finding) (f : Finding) (b : ℕ) → is_found (fs ++ f ∷ []) b ≡ (is_found fs b || holds f.mask b)
found_push fs f b = grind (arith, list_any-append)

pub found_one_more : (case : Case) (pass : Pass) (demand : Demand) (wanted : ℕ) (before now : Found) (sids : PassSids) (mask : ℕ)
    → ((b : ℕ) → holds mask b ≡ true → b < 21)
    → ((b : ℕ) → b < 21 → holds mask b ≡ (sids_meet case pass demand sids b && holds before.left b))
    → now.findings.items ≡ before.findings.items ++ record { mask = mask; sids = sids } ∷ []
    → now.left ≡ mask_of (λ k. holds before.left k && not (holds mask k)) 32
    → IsFound case pass demand wanted before → IsFound case pass demand wanted now
found_one_more case pass demand wanted before now sids mask within is_met is_items is_left found = record {
  shown = subst (All (λ (f : Finding). (b : ℕ) → holds f.mask b ≡ true → sids_meet case pass demand f.sids b ≡ true)) (sym is_items)
      (All-push (λ (f : Finding). (b : ℕ) → holds f.mask b ≡ true → sids_meet case pass demand f.sids b ≡ true)
      before.findings.items (record { mask = mask; sids = sids }) found.shown
      (λ b h. (and_parts (sids_meet case pass demand sids b) (holds before.left b) (sym (is_met b (within b h)) ∙ h)).0));
  left = λ b low in_wanted none.
      let parts = or_parts (is_found before.findings.items b) (holds mask b)
      (sym (ap (λ fs. is_found fs b) is_items ∙ found_push before.findings.items (record { mask = mask; sids = sids }) b) ∙ none) in
      ap (λ m. holds m b) is_left ∙ holds_place (λ k. holds before.left k && not (holds mask k)) b (omega arith)
      ∙ and_from _ _ (found.left b low in_wanted parts.0) (not_from_false _ parts.1);
}

-- what the SIDs meet is left no more
pub none_left : (left mask b : ℕ) (met : Bool) → holds mask b ≡ (met && holds left b) → (mask == 0) ≡ true → met ≡ true → holds left b ≡ false
none_left left mask b met is none h = grind (arith, none_held)

pub sids_gone : (left mask now b : ℕ) (met : Bool) → holds mask b ≡ (met && holds left b) → now ≡ mask_of (λ k. holds left k && not (holds mask k)) 32
    → met ≡ true → holds now b ≡ false
sids_gone left mask now b met is is_now h = false_from_ne_true _ (λ still.
    let parts = in_difference left mask b (sym (ap (λ m. holds m b) is_now) ∙ still) in
    false≢true (sym (not-true _ parts.1) ∙ is ∙ and_from _ _ h parts.0))

-- a search that has tried all that may decide
pub search_done : (case : Case) (is : IsCase case) (pass : Pass) (demand : Demand) (wanted : ℕ) (found : Found) → IsFound case pass demand wanted found
    → ((sids : PassSids) (b : ℕ) → b < 21 → is_among case.allowed.items sids.allowed ≡ true
    → ((s : SidValue) → sids.denied ≡ Some s → is_among case.denied.items s ≡ true)
    → ((s : SidValue) → sids.denied ≡ Some s → demand.unlisted ≡ true)
    → is_granted_alone case pass demand sids.allowed b ≡ true
    → IsSought case pass demand sids b
    → sids_meet case pass demand sids b ≡ true → holds found.left b ≡ false)
    → AreFindings case pass demand wanted found.findings.items
search_done case is pass demand wanted found so_far gone = record {
  shown = so_far.shown;
  complete = λ t b low has in_wanted not_gained none. false_from_ne_true _ (λ met.
      let two = two_suffice case.mapping.now (old_of case) (new_of case) case.base.now t case.other b pass demand has is.not_old is.not_new met in
      false≢true (sym (gone two.0 b low
      (ap (λ sids. is_among sids two.0.allowed) is.allowed ∙ two.1.0.allowed)
      (λ s eq. ap (λ sids. is_among sids s) is.denied ∙ two.1.0.denied s eq)
      two.1.1.1.0 two.1.1.1.1 (sought case pass demand two.0 b not_gained two.1.1.0) two.1.1.0) ∙ so_far.left b low in_wanted none));
}

pub nothing_found : (case : Case) (pass : Pass) (demand : Demand) (wanted : ℕ) (found : Found) → found.findings.items ≡ [] → found.left ≡ wanted
    → IsFound case pass demand wanted found
nothing_found case pass demand wanted found none all = record {
  shown = λ k d low. absurd (omega (arith, ap length none));
  left = λ b low in_wanted h. ap (λ m. holds m b) all ∙ in_wanted;
}

pub with_each : (case : Case) (pass : Pass) (demand : Demand) (allowed : SidValue) (left : ℕ)
    → ((b : ℕ) → b < 21 → sids_meet case pass demand (record { allowed = allowed; denied = None }) b ≡ true → holds left b ≡ false)
    → ((s : SidValue) (b : ℕ) → b < 21 → is_among case.denied.items s ≡ true → demand.unlisted ≡ true
    → is_granted_alone case pass demand allowed b ≡ true
    → IsSought case pass demand (record { allowed = allowed; denied = Some s }) b
    → sids_meet case pass demand (record { allowed = allowed; denied = Some s }) b ≡ true → holds left b ≡ false)
    → (denied : Option SidValue) (b : ℕ) → b < 21 → ((s : SidValue) → denied ≡ Some s → is_among case.denied.items s ≡ true)
    → ((s : SidValue) → denied ≡ Some s → demand.unlisted ≡ true)
    → is_granted_alone case pass demand allowed b ≡ true
    → IsSought case pass demand (record { allowed = allowed; denied = denied }) b
    → sids_meet case pass demand (record { allowed = allowed; denied = denied }) b ≡ true → holds left b ≡ false
with_each case pass demand allowed left alone each None b low among needed granted is_sought h = alone b low h
with_each case pass demand allowed left alone each (Some s) b low among needed granted is_sought h = each s b low (among s refl) (needed s refl) granted is_sought h

-- a search for nothing
pub none_sought : (case : Case) (pass : Pass) (demand : Demand) (wanted : ℕ) (findings : List Finding) → findings ≡ [] → (wanted == 0) ≡ true
    → AreFindings case pass demand wanted findings
none_sought case pass demand wanted findings none empty = record {
  shown = λ k d low. absurd (omega (arith, ap length none));
  complete = λ t b low has in_wanted not_gained h. absurd (false≢true (sym (none_held wanted b empty) ∙ in_wanted));
}
