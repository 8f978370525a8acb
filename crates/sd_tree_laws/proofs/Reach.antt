-- How far an edit reaches, and that nothing comes to a protected node from above.
use Rattle.sd_tree_laws.proofs.Cited.{Ace, AddContainer, AddObject, Edit, EditStaysBelow, List, MappingValue, Move, Names, NodeDacl, NodeRow, Null, Option, PlainTree, ProtectKeeping, ProtectedStandsAlone, Remove, SetDacl, SetGroup, SetOwner, ap, ap₂, below_alike, dacl_at, dacl_at-append, dacl_at_alike, dacl_at_here, dacl_below, dacl_here, dacl_over, dacl_under, descriptor_of_row, edited, false, false≢true, is_protected, is_within, option_map, or_parts, refl, row_at, row_at-changed_other, row_at-insert_other, row_at-moved_other, row_at-remove_other, sym, touches, true, way_outside, within-append, within_itself, within_rest, ◌++◌, ◌||◌, ◌∙◌, ◌∷◌, ◌≡◌, ◌≢◌}
use Rattle.sd_edit.specs.declared.node.NodeDacl.TheVariants.{List as Entries, Stored}

pub outside_is_other : (at path : Names) → is_within at path ≡ false → path ≢ at
outside_is_other at path outside same = false≢true (sym outside ∙ ap (is_within at) same ∙ within_itself at)

-- an edit leaves each node that it doesn't touch as it was
row_at-untouched : (g : MappingValue) (t : PlainTree) (e : Edit) (q : Names) → touches e q ≡ false → row_at (edited g t e) q ≡ row_at t q
row_at-untouched g t (AddContainer path owner group dacl) q out = row_at-insert_other t path q _ (outside_is_other path q out)
row_at-untouched g t (AddObject path owner group dacl) q out = row_at-insert_other t path q _ (outside_is_other path q out)
row_at-untouched g t (SetOwner path owner) q out = row_at-changed_other t path q _ (outside_is_other path q out)
row_at-untouched g t (SetGroup path group) q out = row_at-changed_other t path q _ (outside_is_other path q out)
row_at-untouched g t (SetDacl path dacl) q out = row_at-changed_other t path q _ (outside_is_other path q out)
row_at-untouched g t (Remove path) q out = row_at-remove_other t path q (outside_is_other path q out)
row_at-untouched g t (ProtectKeeping path) q out = row_at-changed_other t path q _ (outside_is_other path q out)
row_at-untouched g t (Move source target) q out =
    let parts = or_parts (is_within source q) (is_within target q) out in
    row_at-moved_other t source target q parts.0 parts.1

-- nor does it touch what is on the way to such a node
way_untouched : (e : Edit) (q path : Names) → is_within q path ≡ true → touches e path ≡ false → touches e q ≡ false
way_untouched (AddContainer at owner group dacl) q path way out = way_outside at q path way out
way_untouched (AddObject at owner group dacl) q path way out = way_outside at q path way out
way_untouched (SetOwner at owner) q path way out = way_outside at q path way out
way_untouched (SetGroup at group) q path way out = way_outside at q path way out
way_untouched (SetDacl at dacl) q path way out = way_outside at q path way out
way_untouched (Remove at) q path way out = way_outside at q path way out
way_untouched (ProtectKeeping at) q path way out = way_outside at q path way out
way_untouched (Move source target) q path way out =
    let parts = or_parts (is_within source path) (is_within target path) out in
    (λ i. way_outside source q path way parts.0 i || way_outside target q path way parts.1 i)

pub edit_stays_below : EditStaysBelow
edit_stays_below g t edit path outside =
    let same_row = row_at-untouched g t edit path outside in
    let same_dacl = dacl_at_alike g (edited g t edit) t path (λ q way. row_at-untouched g t edit q (way_untouched edit q path way outside)) in
    ap₂ (λ row dacl. option_map (λ (r : NodeRow). descriptor_of_row r dacl) row) same_row same_dacl

pub nothing_from_above : (g : MappingValue) (row : NodeRow) (dacl : NodeDacl) (above other : Option (List Ace))
    → is_protected dacl ≡ true → dacl_under g row dacl above ≡ dacl_under g row dacl other
nothing_from_above g row Null above other h = refl
nothing_from_above g row (Entries true entries) above other h = refl
nothing_from_above g row (Entries false entries) above other h = absurd (false≢true h)
nothing_from_above g row (Stored entries inherited offer) above other h = absurd (false≢true h)

pub protected_stands_alone : ProtectedStandsAlone
protected_stands_alone g t u top path row there protected same below =
    let rest = within_rest top path below in
    let at_top : dacl_at g t top ≡ dacl_at g u top =
    dacl_at_here g t top ∙ ap (λ r. dacl_here g r (dacl_over g t top)) there
    ∙ nothing_from_above g row row.dacl (dacl_over g t top) (dacl_over g u top) protected
    ∙ sym (dacl_at_here g u top ∙ ap (λ r. dacl_here g r (dacl_over g u top)) (sym (same top (within_itself top)) ∙ there)) in
    ap (dacl_at g t) rest.1 ∙ dacl_at-append g t top rest.0
    ∙ ap (λ above. dacl_below g t top above rest.0) at_top
    ∙ below_alike g t u top (dacl_at g u top) rest.0 (λ name q within. same (top ++ name ∷ q) (within-append top (name ∷ q)))
    ∙ sym (ap (dacl_at g u) rest.1 ∙ dacl_at-append g u top rest.0)
