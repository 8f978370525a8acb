-- An entry without a part changes no verdict.
use Rattle.std.proofs.Common.{◌≡◌, ℕ, ◌++◌, ◌∷◌, List, Bool, false, ◌&&◌, ◌||◌, ◌==◌, nat_lt, Option, Some, ap, arith, sym, ◌∙◌, inl, inr}
use Rattle.std.proofs.lemmas.Bool.{cond-false, eqb-true, or_cases}
use Rattle.std.proofs.lemmas.List.Folds.{find-append, list_any-append}
use Rattle.std.specs.List.{list_any}
use Rattle.std.specs.Option.{option_or}
use Rattle.sd_acl.specs.Ace.{is_inherit_only}
use Rattle.sd_acl.specs.declared.ace.Ace.{Ace}
use Rattle.sd_acl.specs.declared.ace.AceKind.{AceKind}
use Rattle.sd_check.proofs.LawProofs.{one_test}
use Rattle.sd_check.specs.Check.{applies, applies_again, decides, first, is_granted, is_limit, judged, limits_owner, verdict}
use Rattle.sd_check.specs.Token.{TokenValue}
use Rattle.sd_check.specs.declared.verdict.Verdict.{Verdict}
use Rattle.sd_sid.specs.Mapping.{MappingValue}
use Rattle.sd_sid.specs.Mask.{mask_of}
use Rattle.sd_sid.specs.Sid.{SidValue}
use Rattle.sd_specialize.proofs.Grants.{decides_nothing}
use Rattle.sd_specialize.proofs.Lists.{Split, listed, split}
use Rattle.sd_specialize.specs.Laws.{HasNoPart, NoPartChangesNothing}
use Rattle.sd_specialize.specs.Specialize.{entries_for}

-- for a list the verdict rests on which bits are granted
judged_list : MappingValue → (ℕ → Bool) → ℕ → Verdict
judged_list g p r = judged g p (mask_of (λ b. nat_lt b 21 && p b) 32) r

silent_decides : (g : MappingValue) (who : AceKind → SidValue → Bool) (b : ℕ) (e : Ace) → HasNoPart e → decides g who b e ≡ false
silent_decides g who b e none =
    elim (or_cases (is_inherit_only e) (e.mask == 0) none.silent) [
      | inl children ↦ grind (arith, children)
      | inr no_right ↦ decides_nothing g who b e (eqb-true e.mask 0 no_right)
    ]

module _ (owner : Option SidValue) (front back : List Ace) (e : Ace) (g : MappingValue) (t : TokenValue) (none : HasNoPart e) where
  same_limits : limits_owner (Some (front ++ e ∷ back)) ≡ limits_owner (Some (front ++ back))
  same_limits =
      list_any-append is_limit front (e ∷ back)
      ∙ ap (λ b. list_any is_limit front || (b || list_any is_limit back)) none.limits_not
      ∙ sym (list_any-append is_limit front back)

  same_first : (who : AceKind → SidValue → Bool) (b : ℕ) → first g who (front ++ e ∷ back) b ≡ first g who (front ++ back) b
  same_first who b =
      find-append (decides g who b) front (e ∷ back)
      ∙ ap (option_or (first g who front b)) (cond-false _ _ _ (silent_decides g who b e none))
      ∙ sym (find-append (decides g who b) front back)

  same_grants : (b : ℕ) → is_granted owner (Some (front ++ e ∷ back)) g t b ≡ is_granted owner (Some (front ++ back)) g t b
  same_grants b = grind (arith, same_first (applies t owner) b, same_first (applies_again t owner) b, same_limits)

  same_verdict : (r : ℕ) → verdict owner (Some (front ++ e ∷ back)) g t r ≡ verdict owner (Some (front ++ back)) g t r
  unfolding judged_list
  same_verdict r = ap (λ p. judged_list g p r) (one_test _ _ same_grants)

same_for : (p : Ace) (with without : List Ace) → Split p with without → HasNoPart p
    → (owner : Option SidValue) (g : MappingValue) (t : TokenValue) (r : ℕ)
    → verdict owner (Some with) g t r ≡ verdict owner (Some without) g t r
same_for p with without s none owner g t r =
    rw (s.with_it, s.without_it) (same_verdict owner s.front s.back p g t none r)

pub no_part_changes_nothing : NoPartChangesNothing
no_part_changes_nothing c before after e plain with without is none h k =
    let s = split c 1 1 before after e plain with without is (listed (entries_for c 1 (before ++ e ∷ after)) with h)
    (listed (entries_for c 1 (before ++ after)) without k) in
    same_for plain with without s none
