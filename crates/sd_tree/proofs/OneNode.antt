-- Changes of a node that change the DACL of no other: of its owner or group, or where nothing stands below it.
use Rattle.sd_tree.proofs.Cited.{ChangesOneNode, Dacl, Group, IsClosed, MappingValue, Names, NodeRow, None, Option, Owner, PlainTree, RowChange, Some, ap, cases_Bool, changed, changed_row, dacl_at, dacl_at_here, dacl_at_outside, dacl_here, dacl_over, false, false≢true, has_child, inl, inr, is_of_trustee, is_within, others_stay, refl, row_alike, row_at, row_at-changed_other, sym, true, ◌∙◌, ◌≡◌}
use Rattle.sd_tree.proofs.Adding.{nothing_below_childless}

-- ---- what changes of a node that stays where it is

pub trustee_stays : (g : MappingValue) (t : PlainTree) (path : Names) (change : RowChange) → is_of_trustee change ≡ true → ChangesOneNode g t (changed t path (changed_row change)) path
trustee_stays g t path (Owner owner) h q ne =
    others_stay g t path (changed_row (Owner owner)) (λ row r above. row_alike g r row.kind owner row.group row.owner row.group row.dacl above) q ne
trustee_stays g t path (Group group) h q ne =
    others_stay g t path (changed_row (Group group)) (λ row r above. row_alike g r row.kind row.owner group row.owner row.group row.dacl above) q ne
trustee_stays g t path (Dacl dacl) h q ne = absurd cc

-- nothing below a node without children is there to change
pub childless_stays : (g : MappingValue) (t : PlainTree) → IsClosed t → (path : Names) (change : NodeRow → NodeRow) → has_child t path ≡ false → ChangesOneNode g t (changed t path change) path
childless_stays g t closed path change none q ne = elim (cases_Bool (is_within path q)) [
  | inl within ↦ empty_stays (row_at t q) refl within
  | inr outside ↦ dacl_at_outside g u t path q (λ p other. row_at-changed_other t path p change other) outside
]
  where
    u : PlainTree
    u = changed t path change

    empty_stays : (o : Option NodeRow) → row_at t q ≡ o → is_within path q ≡ true → dacl_at g u q ≡ dacl_at g t q
    empty_stays None nothing within =
        dacl_at_here g u q ∙ ap (λ o. dacl_here g o (dacl_over g u q)) (row_at-changed_other t path q change ne ∙ nothing)
        ∙ sym (dacl_at_here g t q ∙ ap (λ o. dacl_here g o (dacl_over g t q)) nothing)
    empty_stays (Some row) there within = absurd (false≢true (sym (nothing_below_childless t closed path q row none there ne) ∙ within))
