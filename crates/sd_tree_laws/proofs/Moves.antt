-- What a move leaves, and that a move back undoes it.
use Rattle.sd_tree_laws.proofs.Cited.{Edit, IsClosed, IsLawful, IsMovable, List, Move, MoveBackUndoesIt, MoveCarriesTheSubtree, Names, NodeRow, None, Opening, Option, PlainTree, Some, [], ap, cases_Bool, closed_moved, closed_replay, dacl_at-moved_other, dacl_at_alike, false, false≢true, inl, inr, is_within, length, movable, moved, not_refused, nothing_below, refl, refusal, replay, row_at, row_at-moved_gone, row_at-moved_other, row_at-moved_there, some_row, sym, true, within-append, within_itself, within_rest, ◌++◌, ◌∙◌, ◌∷◌, ◌≡◌, ◌⊎◌}

-- of two beginnings of one path one begins the other
two_heads : (a b ones others : Names) → a ++ ones ≡ b ++ others → ((c : Names) × (b ≡ a ++ c)) ⊎ ((c : Names) × (a ≡ b ++ c))
two_heads [] b ones others e = inl (b, refl)
two_heads (n ∷ a) [] ones others e = inr (n ∷ a, refl)
two_heads (n ∷ a) (m ∷ b) ones others e =
    let head : n ≡ m = cc in
    let tail : a ++ ones ≡ b ++ others = cc in
    elim (two_heads a b ones others tail) [
      | inl found ↦ let is = found.1 in inl (found.0, cc)
      | inr found ↦ let is = found.1 in inr (found.0, cc)
    ]

none_from : (o : Option NodeRow) → ((row : NodeRow) → o ≡ Some row → ⊥) → o ≡ None
none_from None never = refl
none_from (Some row) never = absurd (never row refl)

module _ (t : PlainTree) (closed : IsClosed t) (source target : Names) (can : IsMovable t source target) where
  -- what stands at the source or below it doesn't stand at the target or below that
  pub apart : (path : Names) → is_within source path ≡ true → is_within target path ≡ false
  apart path inside = elim (cases_Bool (is_within target path)) [
    | inl both ↦
        let at_source = within_rest source path inside in
        let at_target = within_rest target path both in
        let stands = some_row (row_at t source) can.there in
        elim (two_heads source target at_source.0 at_target.0 (sym at_source.1 ∙ at_target.1)) [
          | inl found ↦ absurd (false≢true (sym can.apart ∙ ap (is_within source) found.1 ∙ within-append source found.0))
          | inr found ↦ absurd (false≢true
              (sym (nothing_below t closed target source stands.0 can.place.free stands.1) ∙ ap (is_within target) found.1 ∙ within-append target found.0))
        ]
    | inr out ↦ out
  ]

  back_inside : (rest : Names) → row_at (moved (moved t source target) target source) (source ++ rest) ≡ row_at t (source ++ rest)
  back_inside rest =
      row_at-moved_there (moved t source target) (closed_moved t source target can closed) target source
      (row_at-moved_gone t source target source (within_itself source) (apart source (within_itself source))) rest
      ∙ row_at-moved_there t closed source target can.place.free rest

  back_outside : (path : Names) → is_within source path ≡ false → row_at (moved (moved t source target) target source) path ≡ row_at t path
  back_outside path out = elim (cases_Bool (is_within target path)) [
    | inl inside ↦
        row_at-moved_gone (moved t source target) target source path inside out
        ∙ sym (none_from (row_at t path) (λ row there. false≢true (sym (nothing_below t closed target path row can.place.free there) ∙ inside)))
    | inr beside ↦
        row_at-moved_other (moved t source target) target source path beside out ∙ row_at-moved_other t source target path out beside
  ]

  pub rows_back : (path : Names) → row_at (moved (moved t source target) target source) path ≡ row_at t path
  rows_back path = elim (cases_Bool (is_within source path)) [
    | inl inside ↦
        let at_source = within_rest source path inside in
        ap (row_at (moved (moved t source target) target source)) at_source.1 ∙ back_inside at_source.0 ∙ ap (row_at t) (sym at_source.1)
    | inr out ↦ back_outside path out
  ]

pub accepted_can : (opening : Opening) (journal : List Edit) (source target : Names) → IsLawful opening journal
    → refusal opening journal (Move source target) ≡ None → IsMovable (replay opening journal) source target
accepted_can opening journal source target lawful accepted =
    movable (replay opening journal) source target (closed_replay opening journal lawful)
    (not_refused opening.limits opening.mapping (replay opening journal) (length journal) (Move source target) accepted).0

pub move_carries_the_subtree : MoveCarriesTheSubtree
move_carries_the_subtree opening journal source target lawful accepted =
    let t = replay opening journal in
    let closed : IsClosed t = closed_replay opening journal lawful in
    let can : IsMovable t source target = accepted_can opening journal source target lawful accepted in
    record {
      there = row_at-moved_there t closed source target can.place.free;
      gone = λ path inside. row_at-moved_gone t source target path inside (apart t closed source target can path inside);
      others = row_at-moved_other t source target;
      lists = dacl_at-moved_other opening.mapping t source target;
    }

pub move_back_undoes_it : MoveBackUndoesIt
move_back_undoes_it opening journal source target lawful accepted g path =
    let t = replay opening journal in
    let closed : IsClosed t = closed_replay opening journal lawful in
    let can : IsMovable t source target = accepted_can opening journal source target lawful accepted in (
      rows_back t closed source target can path,
      dacl_at_alike g (moved (moved t source target) target source) t path (λ top way. rows_back t closed source target can top),
    )
