-- Both lists in canonical order are one just where the test says so.
use Rattle.std.proofs.Common.{List, Option, ap, ap₂, ◌∙◌, ◌≡◌}
use Rattle.sd_acl.specs.Canonical.{canonical_order}
use Rattle.sd_acl.specs.declared.ace.Ace.{Ace}
use Rattle.sd_edit.proofs.SameLists.{decided_same}
use Rattle.sd_edit.specs.Inheritance.{handed_to, offered, same_list, still_offers}
use Rattle.sd_inheritance.specs.declared.kind.NodeKind.{NodeKind}
use Rattle.sd_sid.specs.Mapping.{MappingValue}
use Rattle.sd_tree.specs.Node.{joined}
use Rattle.sd_tree.proofs.inherit.still_offers.Goals as goal

in_order : (g : MappingValue) (kind : NodeKind) (above : Option (List Ace)) (offer one other : List Ace)
    → one ≡ canonical_order (offered g kind above) → other ≡ canonical_order offer → same_list one other ≡ still_offers g kind above offer
unfolding still_offers
in_order g kind above offer one other e f = ap₂ (λ es fs. same_list es fs) e f

pub returns : goal.returns
returns c =
    let g = c.args.mapping.now in
    let above = joined c.args.above in
    decided_same c.same_entries.result c.deref-2.result.now c.deref-3.result.now c.same_entries.ensures
    ∙ in_order g c.args.kind above c.args.offer.now c.deref-2.result.now c.deref-3.result.now
    (c.deref-2.ensures.value ∙ c.in_ok-offered-2.ensures ∙ ap canonical_order (c.deref.ensures.value ∙ c.in_ok-offered.ensures
    ∙ ap₂ (λ owner group. handed_to g c.args.kind owner group above) c.creator_owner-owner.ensures c.creator_group-group.ensures))
    (c.deref-3.ensures.value ∙ c.in_ok-offer.ensures)
