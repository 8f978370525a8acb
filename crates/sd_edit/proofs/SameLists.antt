-- Two lists pass the test entry by entry just where they are one.
use Rattle.std.proofs.Common.{Bool, List, [], ap, ap₂, false, inl, inr, refl, sym, true, ◌∙◌, ◌∷◌, ◌≡◌}
use Rattle.std.proofs.lemmas.Bool.{and_from, and_parts, cases_Bool, false≢true}
use Rattle.std.specs.Bool.{Decides}
use Rattle.sd_acl.proofs.SameAces.{ace_itself, one_ace}
use Rattle.sd_acl.specs.Ace.{same_ace}
use Rattle.sd_acl.specs.declared.ace.Ace.{Ace}
use Rattle.sd_edit.specs.Inheritance.{same_list}

one_list : (es fs : List Ace) → same_list es fs ≡ true → es ≡ fs
one_list [] [] e = refl
one_list [] (f ∷ fs) e = absurd cc
one_list (a ∷ es) [] e = absurd cc
one_list (a ∷ es) (b ∷ fs) e =
    let parts = and_parts (same_ace a b) (same_list es fs) e in
    ap₂ (λ x xs. x ∷ xs) (one_ace a b parts.0) (one_list es fs parts.1)

list_itself : (es : List Ace) → same_list es es ≡ true
list_itself [] = refl
list_itself (e ∷ es) = and_from (same_ace e e) (same_list es es) (ace_itself e) (list_itself es)

-- the test decides whether they are one
pub same_decides : (es fs : List Ace) → Decides (same_list es fs) (es ≡ fs)
same_decides es fs = (one_list es fs, λ e. ap (same_list es) (sym e) ∙ list_itself es)

-- so what decides whether they are one is the test's answer
pub decided_same : (r : Bool) (es fs : List Ace) → Decides r (es ≡ fs) → r ≡ same_list es fs
decided_same true es fs d = sym (ap (same_list es) (sym (d.0 refl)) ∙ list_itself es)
decided_same false es fs d = elim (cases_Bool (same_list es fs)) [
  | inl same ↦ absurd (false≢true (d.1 (one_list es fs same)))
  | inr other ↦ sym other
]
