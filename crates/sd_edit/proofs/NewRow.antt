-- The DACL of one node with a new row.
use Rattle.sd_edit.proofs.Cited.{Less, MappingValue, Names, NodeRow, None, PlainTree, ap, cases_Bool, dacl_at, dacl_here, dacl_of_row, false, inl, inr, insert, is_root, is_within, names_cmp, names_cmp_total, root_is_empty, row_at, sym, tied_itself, true, up, up_before, within_before, ◌∙◌, ◌≡◌, ◌≢◌}
use Rattle.sd_edit.proofs.Dacls.{dacl_at_root, dacl_at_up, dacl_at_outside}
use Rattle.sd_edit.proofs.Rows.{row_at-insert_same, row_at-insert_other}
use Rattle.sd_edit.proofs.Sorted.{greater_from_less}

-- a path and what holds it are two
pub up_other : (path : Names) → is_root path ≡ false → up path ≢ path
up_other path h same =
    let tied = tied_itself names_cmp_total path in
    let low : names_cmp path path ≡ Less = ap (λ p. names_cmp p path) (sym same) ∙ up_before path h in
    absurd cc

-- what holds a path doesn't stand below it
pub up_outside : (path : Names) → is_root path ≡ false → is_within path (up path) ≡ false
up_outside path h = elim (cases_Bool (is_within path (up path))) [
  | inl inside ↦
      let low = within_before path (up path) inside (up_other path h) in
      let high = greater_from_less names_cmp_total (up path) path (up_before path h) in
      absurd cc
  | inr outside ↦ outside
]

pub whole_at_root : (g : MappingValue) (t : PlainTree) (path : Names) (row : NodeRow) → is_root path ≡ true → dacl_of_row g row None ≡ dacl_at g (insert t path row) path
whole_at_root g t path row h =
    let empty = root_is_empty path h in
    let t' = insert t path row in
    ap (λ found. dacl_here g found None) (sym (row_at-insert_same t path row)) ∙ ap (λ p. dacl_here g (row_at t' p) None) empty
    ∙ sym (dacl_at_root g t') ∙ ap (dacl_at g t') (sym empty)

pub whole_below : (g : MappingValue) (t : PlainTree) (path : Names) (row : NodeRow) → is_root path ≡ false → dacl_of_row g row (dacl_at g t (up path)) ≡ dacl_at g (insert t path row) path
whole_below g t path row h =
    let t' = insert t path row in
    let above : dacl_at g t' (up path) ≡ dacl_at g t (up path) =
    dacl_at_outside g t' t path (up path) (λ q other. row_at-insert_other t path q row other) (up_outside path h) in
    ap (dacl_of_row g row) (sym above)
    ∙ ap (λ found. dacl_here g found (dacl_at g t' (up path))) (sym (row_at-insert_same t path row))
    ∙ sym (dacl_at_up g t' path h)
