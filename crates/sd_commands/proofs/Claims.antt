-- Where `compare` leaves out nothing of two SACLs, the conditions of both ask about the same claims.
use Rattle.sd_commands.proofs.Cited.{Bool, List, [], ap, arith, false, inl, inr, length, not, refl, sym, true, ◌&&◌, ◌∙◌, ◌∷◌, ◌==◌, ◌≡◌, ◌||◌}
use Rattle.std.proofs.Common.{suc, ℕ}
use Rattle.std.proofs.lemmas.Bool.{cases_Bool}
use Rattle.sd_access.specs.Access.{resource_claims}
use Rattle.sd_access.specs.Limits.{has_limits}
use Rattle.sd_commands.specs.Limits.{ConditionsAskAlike, both_ask, hands_on_claims, has_claims}

longer : (n : ℕ) → not (suc n == 0) ≡ false → ⊥
longer n none = grind (arith, none)

empty : {X : Type 0} (xs : List X) → not (length xs == 0) ≡ false → xs ≡ []
empty [] none = refl
empty (x ∷ xs) none = absurd (longer (length xs) none)

neither : (limits ask one more other others : Bool) → ask ≡ true
    → false ≡ ((limits || (ask && ((one || more) || (other || others)))) && true) → (one ≡ false) × (other ≡ false)
neither limits ask one more other others asks h = (grind (arith, asks, h), grind (arith, asks, h))

pub conditions_ask_alike : ConditionsAskAlike
conditions_ask_alike below old new (same, decides, none) ask = elim (cases_Bool same) [
  | inl is ↦ ap resource_claims (decides.0 is)
  | inr isnt ↦
      let limits = has_limits below old.sacl || has_limits below new.sacl in
      let claims = has_claims below old.sacl || has_claims below new.sacl in
      let own = not (length (resource_claims old.sacl) == 0) in
      let others = not (length (resource_claims new.sacl) == 0) in
      let without = neither limits (both_ask below old new) own (below && hands_on_claims old.sacl) others (below && hands_on_claims new.sacl) ask
      (none ∙ ap (λ b. (limits || (both_ask below old new && claims)) && not b) isnt) in
      empty (resource_claims old.sacl) without.0 ∙ sym (empty (resource_claims new.sacl) without.1)
]
