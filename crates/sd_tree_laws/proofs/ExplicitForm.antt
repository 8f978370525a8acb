-- That the explicit form of an entry counts and is handed on as the entry is.
use Rattle.sd_tree_laws.proofs.Cited.{Ace, AceKind, Bool, Container, List, MappingValue, NodeKind, Object, SidValue, Some, [], and_assoc, ap, ap₂, bit_and, bit_or, cond, decides, effective_copy, explicit_entries, explicit_entry, false, first, flat_map, holds, is_allowed_by, is_split, limits_owner, mapped, not, owner_rights, pass_on, refl, same_sid, true, waiting_copy, whole_copy, ℕ, ◌&&◌, ◌++◌, ◌||◌, ◌∙◌, ◌∷◌, ◌≡◌}
use Rattle.sd_tree_laws.proofs.Ordered.{flag_kept}

same_flags : (f kept : ℕ) → bit_and 0xEF kept ≡ kept → bit_and (bit_and f 0xEF) kept ≡ bit_and f kept
same_flags f kept e = and_assoc kept f 0xEF ∙ ap (bit_and f) e

decides_alike : (g : MappingValue) (who : AceKind → SidValue → Bool) (b : ℕ) (e : Ace) → decides g who b (explicit_entry e) ≡ decides g who b e
decides_alike g who b e = ap (λ x. (not x && who e.kind e.sid) && holds (mapped g e.mask) b) (flag_kept e.flags.0 0xEF 3 refl)

pub explicit_allowed : (g : MappingValue) (who : AceKind → SidValue → Bool) (b : ℕ) (es : List Ace)
    → is_allowed_by (first g who (explicit_entries es) b) ≡ is_allowed_by (first g who es b)
explicit_allowed g who b [] = refl
explicit_allowed g who b (e ∷ es) =
    ap (λ x. is_allowed_by (cond x (Some (explicit_entry e)) (first g who (explicit_entries es) b))) (decides_alike g who b e)
    ∙ (elim (decides g who b e) as (λ x. is_allowed_by (cond x (Some (explicit_entry e)) (first g who (explicit_entries es) b)) ≡ is_allowed_by (cond x (Some e) (first g who es b))) [
      | true ↦ refl
      | false ↦ explicit_allowed g who b es
    ])

pub explicit_limits : (es : List Ace) → limits_owner (Some (explicit_entries es)) ≡ limits_owner (Some es)
explicit_limits [] = refl
explicit_limits (e ∷ es) =
    ap₂ (λ x y. (not x && same_sid e.sid owner_rights) || y) (flag_kept e.flags.0 0xEF 3 refl) (explicit_limits es)

module _ (g : MappingValue) (owner group : SidValue) (e : Ace) where
  same_effective : effective_copy g owner group (explicit_entry e) ≡ effective_copy g owner group e
  same_effective = ap (λ n. record (effective_copy g owner group e) { flags = record { 0 = bit_or n 0x10 } }) (same_flags e.flags.0 0xC0 refl)

  same_waiting : waiting_copy (explicit_entry e) ≡ waiting_copy e
  same_waiting = ap (λ n. record e { flags = record { 0 = bit_or n 0x18 } }) (same_flags e.flags.0 0xC3 refl)

  same_whole : whole_copy (explicit_entry e) ≡ whole_copy e
  same_whole = ap (λ n. record e { flags = record { 0 = bit_or n 0x10 } }) (same_flags e.flags.0 0xC3 refl)

-- how the copies are chosen
abbrev chosen : Bool → Bool → Bool → Bool → Ace → Ace → Ace → List Ace
chosen object container stops split effective waiting whole =
    cond container (cond stops (effective ∷ []) (cond split (effective ∷ waiting ∷ []) (whole ∷ []))) (cond object (cond stops [] (waiting ∷ [])) [])

explicit_passes_alike : (g : MappingValue) (kind : NodeKind) (owner group : SidValue) (e : Ace)
    → pass_on g kind owner group (explicit_entry e) ≡ pass_on g kind owner group e
explicit_passes_alike g Object owner group e =
    ap₂ (λ object effective. cond object (effective ∷ []) []) (flag_kept e.flags.0 0xEF 0 refl) (same_effective g owner group e)
explicit_passes_alike g Container owner group e =
    λ i. chosen (flag_kept e.flags.0 0xEF 0 refl i) (flag_kept e.flags.0 0xEF 1 refl i) (flag_kept e.flags.0 0xEF 2 refl i) (is_split e)
    (same_effective g owner group e i) (same_waiting g owner group e i) (same_whole g owner group e i)

pub explicit_handed_alike : (g : MappingValue) (kind : NodeKind) (owner group : SidValue) (es : List Ace)
    → flat_map (pass_on g kind owner group) (explicit_entries es) ≡ flat_map (pass_on g kind owner group) es
explicit_handed_alike g kind owner group [] = refl
explicit_handed_alike g kind owner group (e ∷ es) =
    ap₂ (λ xs ys. xs ++ ys) (explicit_passes_alike g kind owner group e) (explicit_handed_alike g kind owner group es)
