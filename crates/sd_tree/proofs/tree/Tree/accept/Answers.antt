use Rattle.sd_tree.proofs.Cited.{IsPlanned, TreeValue, [], ap, append_assoc, edits_in, subst, sym, ◌++◌, ◌∙◌, ◌∷◌, ◌≡◌}
use Rattle.sd_tree.proofs.Stands.{can_carry_out, stored_more}
use Rattle.sd_tree.proofs.tree.Tree.accept.Goals as goal

pub carry_out-requires : goal.carry_out-requires
carry_out-requires c =
    let planned = subst (λ (t : TreeValue). IsPlanned t.opening t.journal c.args.edit c.args.plan) (sym c.self.view_is) c.requires in
    can_carry_out c.self.inside.opening (edits_in c.self.inside.journal) c.args.edit c.args.plan c.self.inside.nodes c.self.invariant planned

pub invariant_of-self-2 : goal.invariant_of-self-2
invariant_of-self-2 c =
    let o = c.self.inside.opening in
    let journal = edits_in c.self.inside.journal in
    let room = c.make_room.new.self in
    let planned = subst (λ (t : TreeValue). IsPlanned t.opening t.journal c.args.edit c.args.plan) (sym c.self.view_is) c.requires in
    let grown : room.kept ++ c.push_reserved.new.self.items ≡ journal ++ c.args.edit ∷ [] =
    ap (λ es. room.kept ++ es) c.push_reserved.ensures.items ∙ sym (append_assoc room.kept room.last.items (c.args.edit ∷ []))
    ∙ ap (λ es. es ++ c.args.edit ∷ []) c.in_ok-make_room.ensures.same in
    rw (grown, c.in_ok-carry_out.ensures.done) (stored_more o journal c.args.edit c.args.plan c.self.inside.nodes c.self.invariant planned)
