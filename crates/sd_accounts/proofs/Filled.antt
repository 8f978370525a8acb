-- The numbers that a walk has found: one more, unless it is found.
use Rattle.std.proofs.Common.{◌≡◌, ◌++◌, ◌∙◌, ◌||◌, ℕ, List, [], ◌∷◌, Bool, true, false, nat_eq, refl, ap, sym, subst}
use Rattle.std.proofs.lemmas.List.{append-nil, append_assoc}
use Rattle.std.proofs.lemmas.List.Folds.{list_any-append}
use Rattle.std.proofs.lemmas.Map.Keys.{IsDistinct-push}
use Rattle.std.specs.Cmp.{nat_eq_equiv}
use Rattle.std.specs.List.{IsDistinct, list_any}
use Rattle.std.specs.Prelude.{if◌then◌else◌}
use Rattle.indexmap.specs.IndexSet.{insert_key}

module _ (first further : List ℕ) (n : ℕ) where
  abbrev Inserted : Bool → List ℕ
  Inserted found = if found then first ++ further else (first ++ further) ++ n ∷ []

  pub found_before : list_any (nat_eq n) first ≡ true → first ++ further ≡ insert_key nat_eq (first ++ further) n
  found_before is = sym (ap Inserted (list_any-append (nat_eq n) first further ∙ ap (λ b. b || list_any (nat_eq n) further) is))

  pub one_of_few : list_any (nat_eq n) first ≡ false → further ≡ [] → (first ++ n ∷ []) ++ further ≡ insert_key nat_eq (first ++ further) n
  one_of_few not none =
      ap (λ l. (first ++ n ∷ []) ++ l) none ∙ append-nil (first ++ n ∷ []) ∙ ap (λ l. l ++ n ∷ []) (sym (append-nil first) ∙ ap (λ l. first ++ l) (sym none))
      ∙ sym (ap Inserted (list_any-append (nat_eq n) first further ∙ ap (λ b. b || list_any (nat_eq n) further) not ∙ ap (list_any (nat_eq n)) none))

  pub one_further : list_any (nat_eq n) first ≡ false → first ++ insert_key nat_eq further n ≡ insert_key nat_eq (first ++ further) n
  one_further not = by (list_any (nat_eq n) further) refl ∙ sym (ap Inserted (list_any-append (nat_eq n) first further ∙ ap (λ b. b || list_any (nat_eq n) further) not))
    where
      by : (b : Bool) → list_any (nat_eq n) further ≡ b → first ++ insert_key nat_eq further n ≡ Inserted (list_any (nat_eq n) further)
      by true e = ap (λ b. first ++ (if b then further else further ++ n ∷ [])) e ∙ sym (ap Inserted e)
      by false e = ap (λ b. first ++ (if b then further else further ++ n ∷ [])) e ∙ sym (append_assoc first further (n ∷ [])) ∙ sym (ap Inserted e)

pub still_apart : (found new : List ℕ) (n : ℕ) → new ≡ insert_key nat_eq found n → IsDistinct nat_eq found → IsDistinct nat_eq new
still_apart found new n is apart = subst (IsDistinct nat_eq) (sym is) (by (list_any (nat_eq n) found) refl)
  where
    by : (b : Bool) → list_any (nat_eq n) found ≡ b → IsDistinct nat_eq (insert_key nat_eq found n)
    by true e = subst (λ b. IsDistinct nat_eq (if b then found else found ++ n ∷ [])) (sym e) apart
    by false e = subst (λ b. IsDistinct nat_eq (if b then found else found ++ n ∷ [])) (sym e) (IsDistinct-push nat_eq_equiv found n apart e)
