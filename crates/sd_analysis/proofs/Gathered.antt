-- How findings become a report, and what a whole report says.
use Rattle.sd_analysis.proofs.Cited.{All, AreFindings, AreGains, Bool, Case, Change, Demand, Finding, First, GroupState, HasBase, IsLess, IsNotGained, IsRefused, IsRefusedAgain, IsReportOf, List, MappingValue, None, Parts, Report, Second, SidValue, Some, TokenValue, Witness, [], agree_below_at, and_from, and_parts, ap, arith, cases_Bool, false, false_from_ne_true, false≢true, gains, get_or, holds, inl, inr, is_found, is_granted, length, list_any_more, ltb-true, meets, new_of, not, not-true, not_from_false, old_of, or_cases, refl, rest_of, sids_stand, stands_in, subst, sym, take, token_meets, token_of, true, true_from_ne_false, ℕ, ◌+◌, ◌<◌, ◌∙◌, ◌∷◌, ◌≡◌, ◌⊎◌}
use Rattle.sd_analysis.proofs.Passed.{meets_low}
use Rattle.sd_analysis.proofs.Bridged.{gain_shown, unrestricted_gains, restricted_gains}

-- ---- loops over findings

pub found_more : (fs : List Finding) (i : ℕ) (f : Finding) (b : ℕ) → i < length fs → f ≡ get_or fs i f
    → is_found (take (i + 1) fs) b ≡ true → (is_found (take i fs) b ≡ true) ⊎ (holds f.mask b ≡ true)
found_more fs i f b low is h =
    elim (or_cases (is_found (take i fs) b) (holds (get_or fs i f).mask b) (sym (list_any_more (λ (x : Finding). holds x.mask b) fs i f low) ∙ h)) [
      | inl before ↦ inl before
      | inr now ↦ inr (ap (λ (x : Finding). holds x.mask b) is ∙ now)
    ]

pub still_gone : (before now : Report) (b : ℕ) → IsLess before now → holds before.wanted b ≡ false → holds now.wanted b ≡ false
still_gone before now b less gone = grind (arith, less b)

-- at the item of a step
pub at_item : {X : Type 0} (P : X → Type 0) (xs : List X) (i : ℕ) (x : X) → i < length xs → x ≡ get_or xs i x → All P xs → P x
at_item P xs i x low is all = subst P (sym is) (all i x low)

pub none_found : (fs : List Finding) (b : ℕ) → length fs ≡ 0 → is_found fs b ≡ false
none_found [] b h = refl
none_found (f ∷ fs) b h = absurd (omega arith)

-- ---- what witnesses gain

module _ (case : Case) where
  abbrev pub gains_of : Witness → ℕ → Bool
  gains_of w b = gains case.mapping.now (old_of case) (new_of case) (token_of case.base.now w) b

  pub each_gains : (by_owner : Bool) (wanted : ℕ) (fs xs : List Finding) → xs ≡ fs
      → AreFindings case First (record { by_owner = by_owner; unlisted = true; unowned = true }) wanted fs
      → All (λ (f : Finding). (b : ℕ) → holds f.mask b ≡ true → gains_of (record { first = f.sids; second = None }) b ≡ true) xs
  each_gains by_owner wanted fs xs same are =
      subst (All (λ (f : Finding). (b : ℕ) → holds f.mask b ≡ true → gains_of (record { first = f.sids; second = None }) b ≡ true)) (sym same) (λ k d low b h.
      unrestricted_gains case.mapping.now (old_of case) (new_of case) case.base.now b by_owner (get_or fs k d).sids (are.shown k d low b h))

  pub pairs_gain : (demand rest : Demand) (wanted more : ℕ) (fs ss xs ys : List Finding) → rest ≡ rest_of demand → xs ≡ fs → ys ≡ ss
      → AreFindings case First demand wanted fs → AreFindings case Second rest more ss
      → All (λ (f : Finding). All (λ (s : Finding). (b : ℕ) → holds f.mask b ≡ true → holds s.mask b ≡ true
      → gains_of (record { first = f.sids; second = Some s.sids }) b ≡ true) ys) xs
  pairs_gain demand rest wanted more fs ss xs ys is_rest same_first same_second first second = λ k d low i e small b h j.
      let low_there : k < length fs = omega (arith, ap length same_first) in
      let small_there : i < length ss = omega (arith, ap length same_second) in
      ap (λ (f : Finding). gains_of (record { first = f.sids; second = Some (get_or ys i e).sids }) b) (ap (λ zs. get_or zs k d) same_first)
      ∙ ap (λ (s : Finding). gains_of (record { first = (get_or fs k d).sids; second = Some s.sids }) b) (ap (λ zs. get_or zs i e) same_second)
      ∙ restricted_gains case.mapping.now (old_of case) (new_of case) case.base.now b demand.by_owner demand.unlisted demand.unowned
      (get_or fs k d).sids (get_or ss i e).sids
      (first.shown k d low_there b (ap (λ zs. holds (get_or zs k d).mask b) (sym same_first) ∙ h))
      (subst (λ r. meets case.mapping.now (old_of case) (new_of case) r (sids_stand Second case.base.now (get_or ss i e).sids) b ≡ true) is_rest
      (second.shown i e small_there b (ap (λ zs. holds (get_or zs i e).mask b) (sym same_second) ∙ j)))

  -- ---- which bits are left

  pub each_refused : (by_owner : Bool) (wanted : ℕ) (fs xs : List Finding) (now : Report) → xs ≡ fs
      → AreFindings case First (record { by_owner = by_owner; unlisted = true; unowned = true }) wanted fs
      → ((b : ℕ) → holds now.wanted b ≡ true → holds wanted b ≡ true)
      → ((b : ℕ) → b < 21 → is_found xs b ≡ true → holds now.wanted b ≡ false)
      → (t : TokenValue) (b : ℕ) → b < 21 → HasBase case.base.now t → holds now.wanted b ≡ true
      → token_meets case First (record { by_owner = by_owner; unlisted = true; unowned = true }) t b ≡ false
  each_refused by_owner wanted fs xs now same are less gone t b low has still =
      are.complete t b low has (less b still) (λ rest. absurd (false≢true rest))
      (false_from_ne_true _ (λ found. false≢true (sym (gone b low (ap (λ zs. is_found zs b) same ∙ found)) ∙ still)))

  pub pairs_refused : (demand rest : Demand) (wanted : ℕ) (fs ss xs ys : List Finding) (now : Report) → rest ≡ rest_of demand → xs ≡ fs → ys ≡ ss
      → AreFindings case First demand wanted fs → AreFindings case Second rest wanted ss
      → ((b : ℕ) → holds now.wanted b ≡ true → holds wanted b ≡ true)
      → ((b : ℕ) → b < 21 → is_found xs b ≡ true → is_found ys b ≡ true → holds now.wanted b ≡ false)
      → (b : ℕ) → b < 21 → holds now.wanted b ≡ true → IsNotGained case demand.by_owner b
      → (t : TokenValue) → HasBase case.base.now t → IsRefused case demand t b
  pairs_refused demand rest wanted fs ss xs ys now is_rest same_first same_second first second less gone b low still not_gained t has = elim (cases_Bool (is_found fs b)) [
    | inr none ↦ inl (first.complete t b low has (less b still) (λ so. not_gained) none)
    | inl found ↦ inr (subst (λ r. token_meets case Second r t b ≡ false) is_rest (second.complete t b low has (less b still) (λ so. absurd (false≢true so))
        (false_from_ne_true _ (λ again. false≢true
        (sym (gone b low (ap (λ zs. is_found zs b) same_first ∙ found) (ap (λ zs. is_found zs b) same_second ∙ again)) ∙ still)))))
  ]

  -- a second pass that shows nothing
  pub rest_refused : (demand rest : Demand) (wanted : ℕ) (ss : List Finding) → rest ≡ rest_of demand → AreFindings case Second rest wanted ss → length ss ≡ 0
      → (b : ℕ) → b < 21 → holds wanted b ≡ true → (t : TokenValue) → HasBase case.base.now t → token_meets case Second (rest_of demand) t b ≡ false
  rest_refused demand rest wanted ss is_rest second none b low still t has =
      subst (λ r. token_meets case Second r t b ≡ false) is_rest
      (second.complete t b low has still (λ so. absurd (false≢true so)) (none_found ss b none))

  -- ---- the whole

  abbrev pub IsWhole : Report → Bool → Type 0
  IsWhole report by_owner =
      (t : TokenValue) (b : ℕ) → b < 21 → HasBase case.base.now t → holds report.wanted b ≡ true
      → (token_meets case First (record { by_owner = by_owner; unlisted = true; unowned = true }) t b ≡ false) × IsRefusedAgain case t by_owner b

  not_shown : (t : TokenValue) (b : ℕ) (by_owner unlisted unowned : Bool)
      → (token_meets case First (record { by_owner = by_owner; unlisted = true; unowned = true }) t b ≡ false) × IsRefusedAgain case t by_owner b
      → token_meets case First (record { by_owner = by_owner; unlisted = unlisted; unowned = unowned }) t b ≡ true
      → ((unlisted ≡ true) × (unowned ≡ true)) ⊎ (token_meets case Second (record { by_owner = by_owner; unlisted = not unlisted; unowned = not unowned }) t b ≡ true)
      → ⊥
  not_shown t b by_owner unlisted unowned none first rest = grind arith

  at_either : (P : Bool → Type 0) (x : Bool) → P false → P true → P x
  at_either P false f t = f
  at_either P true f t = t

  pub whole_report : (report : Report) → IsReportOf case report → IsWhole report false → IsWhole report true
      → AreGains case.mapping.now case.base.now (old_of case) (new_of case) report.changes.items
  whole_report report is by_list by_owner = record {
    complete = λ t b has none granted. true_from_ne_false _ (λ refused.
        let shown = gain_shown case.mapping.now (old_of case) (new_of case) b t (and_from _ _ granted (not_from_false _ refused)) in
        let low = ltb-true b 21 (meets_low case.mapping.now (old_of case) (new_of case) (stands_in First t) b _ shown.1.1.1.0) in
        let still = is.left b low none in
        not_shown t b shown.0 shown.1.0 shown.1.1.0 (at_either (λ o. (token_meets case First (record { by_owner = o; unlisted = true; unowned = true }) t b ≡ false) × IsRefusedAgain case t o b) shown.0 (by_list t b low has still) (by_owner t b low has still)) shown.1.1.1.0 shown.1.1.1.1);
    shown = is.shown;
    some = is.some;
  }

pub nothing_reported : (case : Case) (report : Report) → report.changes.items ≡ [] → report.wanted ≡ 0x001FFFFF → IsReportOf case report
nothing_reported case report none all = record {
  shown = λ k d low. absurd (omega (arith, ap length none));
  some = λ k d low. absurd (omega (arith, ap length none));
  left = λ b low h. ap (λ m. holds m b) all ∙ agree_below_at (holds 0x001FFFFF) (λ k. true) 21 b refl low;
}

-- a descriptor and itself have no gains
pub nothing_gained : (g : MappingValue) (base : List (SidValue × GroupState)) (p : Parts) (changes : List Change) → AreGains g base p p changes → changes ≡ []
nothing_gained g base p [] are = refl
nothing_gained g base p (c ∷ changes) are =
    let bit = are.some 0 c (omega arith) in
    let parts = and_parts (is_granted p.owner p.dacl g (token_of base c.witness) bit.0) _ (are.shown 0 c (omega arith) bit.0 bit.1.1) in
    absurd (false≢true (sym (not-true _ parts.1) ∙ parts.0))
