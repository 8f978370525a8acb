-- A comparison of a node is right.
use Rattle.sd_review.proofs.Cited.{Bool, Compared, IsOf, IsRight, MappingValue, ReviewParts, descriptor_of, review_parts_in, subst, sym}

pub right_one : (g : MappingValue) (is_container : Bool) (before after : ReviewParts) (c : Compared) → IsOf g is_container before after c → IsRight g c
right_one g is_container before after c of =
    let x = review_parts_in (descriptor_of c.before) in
    let y = review_parts_in (descriptor_of c.after) in
    subst (λ (b : Bool). IsOf g b x y c) (sym of.container)
    (subst (λ (q : ReviewParts). IsOf g is_container x q c) (sym of.new) (subst (λ (p : ReviewParts). IsOf g is_container p after c) (sym of.old) of))
