-- What stands on the way to a node, and that nothing stands below a free path.
use Rattle.sd_edit.proofs.Cited.{IsClosed, IsSome, List, Names, NodeKind, NodeRow, None, Option, PlainTree, Some, [], ap, cases_Bool, false, false≢true, inl, inr, is_some, is_within, option_map, refl, row_at, sym, true, up, up-push, up_within, ℕ, ◌++◌, ◌∙◌, ◌∷◌, ◌≡◌}
use Rattle.sd_edit.proofs.Lists.{by_last}
use Rattle.sd_edit.proofs.Rows.{same_or_other}

-- the parent of a node is there
pub parent_there : (t : PlainTree) → IsClosed t → (q : Names) (row : NodeRow) → row_at t q ≡ Some row → IsSome (row_at t (up q))
parent_there t closed q row there = some_of_kind (row_at t (up q)) _ (closed.parents q row there)
  where
    some_of_kind : (o : Option NodeRow) (k : NodeKind) → option_map (λ (r : NodeRow). r.kind) o ≡ Some k → IsSome o
    some_of_kind None k e = absurd cc
    some_of_kind (Some row) k e = refl

pub some_row : (o : Option NodeRow) → IsSome o → (row : NodeRow) × (o ≡ Some row)
some_row None h = absurd (false≢true h)
some_row (Some row) h = (row, refl)

pub within_root : (q : Names) → is_within q [] ≡ true → q ≡ []
within_root [] h = refl
within_root (n ∷ q) h = absurd (false≢true h)

-- what stands on the way to a node is there
pub tops_there : (t : PlainTree) → IsClosed t → (q path : Names) (row : NodeRow) → row_at t path ≡ Some row → is_within q path ≡ true → IsSome (row_at t q)
tops_there t closed q path = by_last P first step path
  where
    P : Names → Type 0
    P p = (row : NodeRow) → row_at t p ≡ Some row → is_within q p ≡ true → IsSome (row_at t q)

    first : P []
    first row there inside = ap (λ p. is_some (row_at t p)) (within_root q inside) ∙ ap is_some there

    step : (p : Names) (name : List ℕ) → P p → P (p ++ name ∷ [])
    step p name ih row there inside = elim (same_or_other (p ++ name ∷ []) q) [
      | inl same ↦ ap (λ r. is_some (row_at t r)) (sym same) ∙ ap is_some there
      | inr other ↦
          let parent : IsSome (row_at t p) = ap (λ r. is_some (row_at t r)) (sym (up-push p name)) ∙ parent_there t closed (p ++ name ∷ []) row there in
          let found = some_row (row_at t p) parent in
          ih found.0 found.1 (ap (is_within q) (sym (up-push p name)) ∙ up_within q (p ++ name ∷ []) inside other)
    ]

-- nothing stands below a free path
pub nothing_below : (t : PlainTree) → IsClosed t → (q path : Names) (row : NodeRow) → row_at t q ≡ None → row_at t path ≡ Some row → is_within q path ≡ false
nothing_below t closed q path row free there = elim (cases_Bool (is_within q path)) [
  | inl inside ↦ absurd (false≢true (ap is_some (sym free) ∙ tops_there t closed q path row there inside))
  | inr outside ↦ outside
]
