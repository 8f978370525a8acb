use Rattle.sd_c.proofs.Cited.{NodeDacl, descriptors_come_back, is_protected, own_dacl, own_descriptor_of_row, own_list, refl, ◌≡◌}
use Rattle.sd_edit.specs.declared.node.NodeDacl.TheVariants.{Null, List as Entries, Stored}
use Rattle.sd_c.specs.Nodes.{ordinary}
use Rattle.sd_c.proofs.nodes.own_forms_come_back.Goals as goal

gives_again : (dacl : NodeDacl) → ordinary dacl ≡ own_dacl (is_protected dacl) (own_list dacl)
gives_again Null = refl
gives_again (Entries protected entries) = refl
gives_again (Stored own inherited offer) = refl

pub returns : goal.returns
returns c = λ row sound named.
    (own_descriptor_of_row row, descriptors_come_back (own_descriptor_of_row row) sound named, refl, refl, gives_again row.dacl)
