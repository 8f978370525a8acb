-- The nodes of a tree after an edit.
use Rattle.sd_edit.proofs.Cited.{Equal, Greater, Less, Names, NodeRow, None, Option, Ordering, PlainTree, Some, ap, cases_Bool, changed, changed_where, cond, eq_by_cmp, false, false_from_ne_true, false≢true, get-empty, get-insert, get-remove, inl, inr, is_eq, names_cmp, names_cmp_antisymmetric, names_cmp_total, option_map, ordering_index, refl, row_at, sym, true, ◌==◌, ◌∙◌, ◌≡◌, ◌≢◌, ◌⊎◌}
use Rattle.std.specs.FinMap as map
use Rattle.std.proofs.lemmas.Cmp.{tied_itself}

-- ---- one path or two

tied : (r : Ordering) → is_eq r ≡ true → r ≡ Equal
tied Less e = absurd (false≢true e)
tied Equal e = refl
tied Greater e = absurd (false≢true e)

pub one_path : (p q : Names) → eq_by_cmp names_cmp p q ≡ true → p ≡ q
one_path p q e = names_cmp_antisymmetric p q (tied (names_cmp p q) e)

-- as `==` tells of how they compare
pub compared_same : (p q : Names) (o : Ordering) → o ≡ names_cmp p q → (ordering_index o == 1) ≡ true → p ≡ q
compared_same p q Less is e = absurd (false≢true e)
compared_same p q Equal is e = names_cmp_antisymmetric p q (sym is)
compared_same p q Greater is e = absurd (false≢true e)

pub path_itself : (p : Names) → eq_by_cmp names_cmp p p ≡ true
path_itself p = ap is_eq (tied_itself names_cmp_total p)

pub other_path : (p q : Names) → p ≢ q → eq_by_cmp names_cmp p q ≡ false
other_path p q other = false_from_ne_true _ (λ e. other (one_path p q e))

pub same_or_other : (p q : Names) → (p ≡ q) ⊎ (p ≢ q)
same_or_other p q = elim (cases_Bool (eq_by_cmp names_cmp p q)) [
  | inl same ↦ inl (one_path p q same)
  | inr apart ↦ inr (λ e. false≢true (sym apart ∙ ap (eq_by_cmp names_cmp p) (sym e) ∙ path_itself p))
]

-- ---- a node put in or taken out

pub row_at-empty : (q : Names) → row_at map.empty q ≡ None
row_at-empty q = get-empty names_cmp q

pub row_at-insert_same : (t : PlainTree) (path : Names) (row : NodeRow) → row_at (map.insert t path row) path ≡ Some row
row_at-insert_same t path row = get-insert names_cmp_total t path row path ∙ ap (λ b. cond b (Some row) (row_at t path)) (path_itself path)

pub row_at-insert_other : (t : PlainTree) (path q : Names) (row : NodeRow) → q ≢ path → row_at (map.insert t path row) q ≡ row_at t q
row_at-insert_other t path q row other =
    get-insert names_cmp_total t path row q ∙ ap (λ b. cond b (Some row) (row_at t q)) (other_path q path other)

pub row_at-remove_same : (t : PlainTree) (path : Names) → row_at (map.remove t path) path ≡ None
row_at-remove_same t path = get-remove names_cmp_total t path path ∙ ap (λ b. cond b None (row_at t path)) (path_itself path)

pub row_at-remove_other : (t : PlainTree) (path q : Names) → q ≢ path → row_at (map.remove t path) q ≡ row_at t q
row_at-remove_other t path q other = get-remove names_cmp_total t path q ∙ ap (λ b. cond b None (row_at t q)) (other_path q path other)

-- ---- a node changed

changed_where_same : (t : PlainTree) (path : Names) (change : NodeRow → NodeRow) (o : Option NodeRow) → row_at t path ≡ o
    → row_at (changed_where t path change o) path ≡ option_map change o
changed_where_same t path change None e = e
changed_where_same t path change (Some row) e = row_at-insert_same t path (change row)

changed_where_other : (t : PlainTree) (path q : Names) (change : NodeRow → NodeRow) (o : Option NodeRow) → q ≢ path
    → row_at (changed_where t path change o) q ≡ row_at t q
changed_where_other t path q change None other = refl
changed_where_other t path q change (Some row) other = row_at-insert_other t path q (change row) other

pub row_at-changed_same : (t : PlainTree) (path : Names) (change : NodeRow → NodeRow) → row_at (changed t path change) path ≡ option_map change (row_at t path)
row_at-changed_same t path change = changed_where_same t path change (row_at t path) refl

pub row_at-changed_other : (t : PlainTree) (path q : Names) (change : NodeRow → NodeRow) → q ≢ path → row_at (changed t path change) q ≡ row_at t q
row_at-changed_other t path q change other = changed_where_other t path q change (row_at t path) other
