-- A comparison without a line: no token gains or loses a right.
use Rattle.sd_review.proofs.Cited.{Ace, AreGrantedAlike, DescendantChange, IsDescendantChange, LineOf, List, MappingValue, SilentContainerPassesDownTheSame, SilentNodeGrantsTheSame, None, Some, [], descendant_lines, descendant_parts, descriptor_of, entries_or_none, inl, inr, list_of, no_gain_no_loss, parts_empty, parts_in, refl, subst, with_path, ℕ, ◌∷◌, ◌≡◌}
use Rattle.sd_review.proofs.GrantedAlike.{IsAlike, alike, each_alike}

descendant_alike : (g : MappingValue) (old new : List Ace) (c : DescendantChange)
    → IsDescendantChange g [] old new c → descendant_lines c ≡ [] → IsAlike g old new c.descendant
descendant_alike g old new c is none =
    let p = descendant_parts c.before.items in
    let q = descendant_parts c.after.items in
    let gained = c.comparison.gained.items in
    let lost = c.comparison.lost.items in
    let same = alike g p q gained lost is.gained is.lost
    (no_gain_no_loss (Some c.descendant) p q gained lost is.gained.some is.lost.some none) in
    subst (λ (es : List Ace). AreGrantedAlike g (descendant_parts es) (descendant_parts (list_of g c.descendant new))) is.before
    (subst (λ (es : List Ace). AreGrantedAlike g p (descendant_parts es)) is.after same)

pub silent_node : SilentNodeGrantsTheSame
silent_node g is_container before after c of none =
    let gained = c.comparison.gained.items in
    let lost = c.comparison.lost.items in
    alike g before.own after.own gained lost of.gained of.lost
    (no_gain_no_loss None (parts_in (descriptor_of c.before)) (parts_in (descriptor_of c.after)) gained lost of.gained.some of.lost.some
    (parts_empty _ _ (parts_empty _ _ none).0).0)

pub silent_container : SilentContainerPassesDownTheSame
silent_container g before after c d of none =
    let old = entries_or_none before.own.dacl in
    let new = entries_or_none after.own.dacl in
    let below = (parts_empty _ _ (parts_empty _ _ none).0).1 in
    elim of.below [
      | inl changes ↦ each_alike g old new descendant_lines (descendant_alike g old new) c.below.items changes below d
      | inr same ↦
          subst (λ (es : List Ace). AreGrantedAlike g (descendant_parts (list_of g d old)) (descendant_parts es)) (same.0 d) (λ t b. refl)
    ]

-- lines with a path before them are none only where there are none
pub none_with_path : (path : List ℕ) (ls : List LineOf) → with_path path ls ≡ [] → ls ≡ []
none_with_path path [] none = refl
none_with_path path (l ∷ ls) none = absurd (cc none)

pub ruleset silence = (silent_node, silent_container)
