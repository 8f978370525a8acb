-- Kinds and their numbers.
use Rattle.sd_whole.proofs.Cited.{Bool, List, Some, [], cases_Bool, cond, eqb-true, find, inl, inr, kind_number, kind_of, kinds, refl, sym, true, ℕ, ◌==◌, ◌∙◌, ◌∷◌, ◌≡◌}
use Rattle.sd_whole.specs.declared.kind.WholeKind.{WholeKind}
use Rattle.sd_whole.specs.declared.kind.WholeKind.TheVariants.{Allow, Deny, Audit, Alarm, ObjectAllow, ObjectDeny, ObjectAudit, ObjectAlarm, CallbackAllow, CallbackDeny, CallbackObjectAllow, CallbackObjectDeny, CallbackAudit, CallbackObjectAudit, MandatoryLabel, ResourceAttribute, ScopedPolicy, TrustLabel, AccessFilter}

-- what is found passes the test
found_passes : {X : Type 0} (p : X → Bool) (xs : List X) (x : X) → find p xs ≡ Some x → p x ≡ true
found_passes p [] x e = absurd cc
found_passes p (y ∷ ys) x e = elim (cases_Bool (p y)) [
  | inl passes ↦ let first : cond (p y) (Some y) (find p ys) ≡ Some y = rw passes refl in let same : y ≡ x = cc in rw (← same) passes
  | inr fails ↦ let later : cond (p y) (Some y) (find p ys) ≡ find p ys = rw fails refl in found_passes p ys x (sym later ∙ e)
]

pub number_of_found : (number : ℕ) (kind : WholeKind) → kind_of number ≡ Some kind → kind_number kind ≡ number
number_of_found number kind e = eqb-true _ _ (found_passes (λ k. kind_number k == number) kinds kind e)

pub kind_is_found : (kind : WholeKind) → kind_of (kind_number kind) ≡ Some kind
kind_is_found Allow = refl
kind_is_found Deny = refl
kind_is_found Audit = refl
kind_is_found Alarm = refl
kind_is_found ObjectAllow = refl
kind_is_found ObjectDeny = refl
kind_is_found ObjectAudit = refl
kind_is_found ObjectAlarm = refl
kind_is_found CallbackAllow = refl
kind_is_found CallbackDeny = refl
kind_is_found CallbackObjectAllow = refl
kind_is_found CallbackObjectDeny = refl
kind_is_found CallbackAudit = refl
kind_is_found CallbackObjectAudit = refl
kind_is_found MandatoryLabel = refl
kind_is_found ResourceAttribute = refl
kind_is_found ScopedPolicy = refl
kind_is_found TrustLabel = refl
kind_is_found AccessFilter = refl
