-- That a move after ProtectKeeping of its source changes no DACL, so that the two edits together let nobody in.
use Rattle.sd_tree_laws.proofs.Cited.{Ace, Edit, IsClosed, IsLawful, IsMovable, IsSome, List, MappingValue, Move, Names, NodeDacl, NodeRow, None, Null, Opening, Option, PlainTree, ProtectKeeping, ProtectingFirstGrantsNoNewRequest, ProtectingFirstKeepsLists, ProtectingFirstLetsNobodyIn, Some, TokenValue, [], ap, append_assoc, ap₂, cases_Bool, changed, closed_replay, dacl_at, dacl_at-moved_other, dacl_at_here, dacl_here, dacl_over, dacl_under, false, granted_by_row, inl, inr, is_granted_at, is_within, keeping, lawful_before, lawful_last, moved, moved_path, moved_path-append, moved_path-outside, nothing_below, option_map, protected_then_moved, refl, replay, replay-push, reply_for, reply_in, row_at, row_at-changed_other, row_at-changed_same, row_at-moved_other, row_at-moved_there, some_row, subst, sym, true, within_itself, within_rest, ℕ, ◌++◌, ◌∙◌, ◌∷◌, ◌≡◌}
use Rattle.sd_edit.specs.declared.node.NodeDacl.TheVariants.{List as Entries, Stored}
use Rattle.sd_tree_laws.proofs.Keeping.{keeping_lets_nobody_in}
use Rattle.sd_tree_laws.proofs.KeptGrants.{keeping_grants_no_new_request}
use Rattle.sd_tree_laws.proofs.MovedLists.{StandsAlone, moves_unchanged}
use Rattle.sd_tree_laws.proofs.Moves.{accepted_can}
use Rattle.sd_tree_laws.proofs.Reach.{outside_is_other}

-- ---- a node that is protected with what it had, or whose DACL is null, inherits nothing

null_alone : (g : MappingValue) (row : NodeRow) (dacl : NodeDacl) (above : Option (List Ace))
    → dacl_under g row dacl above ≡ None → StandsAlone dacl
null_alone g row Null above e = λ h r one other. refl
null_alone g row (Entries protected entries) above e = absurd cc
null_alone g row (Stored entries inherited offer) above e = absurd cc

kept_alone : (g : MappingValue) (o : Option NodeRow) (whole above : Option (List Ace)) (row : NodeRow)
    → dacl_here g o above ≡ whole → option_map (keeping whole) o ≡ Some row → StandsAlone row.dacl
kept_alone g None whole above row is e = absurd cc
kept_alone g (Some old) None above row is e =
    let same : old ≡ row = cc in
    subst (λ (r : NodeRow). StandsAlone r.dacl) same (null_alone g old old.dacl above is)
kept_alone g (Some old) (Some entries) above row is e =
    let same : keeping (Some entries) old ≡ row = cc in
    subst (λ (r : NodeRow). StandsAlone r.dacl) same (λ h r one other. refl)

-- ---- the two edits

module _ (opening : Opening) (journal : List Edit) (source target : Names)
    (lawful : IsLawful opening (protected_then_moved journal source target)) where
  abbrev g : MappingValue
  g = opening.mapping

  abbrev before : PlainTree
  before = replay opening journal

  abbrev kept_journal : List Edit
  kept_journal = journal ++ ProtectKeeping source ∷ []

  abbrev kept : PlainTree
  kept = replay opening kept_journal

  abbrev after : PlainTree
  after = replay opening (protected_then_moved journal source target)

  as_pushed : protected_then_moved journal source target ≡ kept_journal ++ Move source target ∷ []
  as_pushed = sym (append_assoc journal (ProtectKeeping source ∷ []) (Move source target ∷ []))

  kept_is : kept ≡ changed before source (keeping (dacl_at g before source))
  kept_is = replay-push opening journal (ProtectKeeping source)

  after_is : after ≡ moved kept source target
  after_is = ap (replay opening) as_pushed ∙ replay-push opening kept_journal (Move source target)

  lawful_both : IsLawful opening (kept_journal ++ Move source target ∷ [])
  lawful_both = subst (λ es. IsLawful opening es) as_pushed lawful

  lawful_kept : IsLawful opening kept_journal
  lawful_kept = lawful_before opening kept_journal (Move source target) lawful_both

  closed : IsClosed kept
  closed = closed_replay opening kept_journal lawful_kept

  can : IsMovable kept source target
  can =
      accepted_can opening kept_journal source target lawful_kept
      (lawful_last opening kept_journal (Move source target) lawful_both)

  source_alone : (row : NodeRow) → row_at kept source ≡ Some row → StandsAlone row.dacl
  source_alone row there =
      kept_alone g (row_at before source) (dacl_at g before source) (dacl_over g before source) row
      (sym (dacl_at_here g before source))
      (sym (row_at-changed_same before source (keeping (dacl_at g before source)))
      ∙ sym (ap (λ u. row_at u source) kept_is) ∙ there)

  beside : (path : Names) → IsSome (row_at before path) → is_within source path ≡ false → is_within target path ≡ false
  beside path stands out =
      let old = some_row (row_at before path) stands in
      nothing_below kept closed target path old.0 can.place.free
      (ap (λ u. row_at u path) kept_is
      ∙ row_at-changed_other before source path (keeping (dacl_at g before source)) (outside_is_other source path out)
      ∙ old.1)

  same_row : (path : Names) → IsSome (row_at before path)
      → row_at after (moved_path source target path) ≡ row_at kept path
  same_row path stands =
      ap (λ u. row_at u (moved_path source target path)) after_is ∙ elim (cases_Bool (is_within source path)) [
        | inl inside ↦
            let rest = within_rest source path inside in
            ap (row_at (moved kept source target))
            (ap (moved_path source target) rest.1 ∙ moved_path-append source target rest.0)
            ∙ row_at-moved_there kept closed source target can.place.free rest.0 ∙ ap (row_at kept) (sym rest.1)
        | inr out ↦
            ap (row_at (moved kept source target)) (moved_path-outside source target path out)
            ∙ row_at-moved_other kept source target path out (beside path stands out)
      ]

  same_list : (path : Names) → IsSome (row_at before path) → (h : MappingValue)
      → dacl_at h after (moved_path source target path) ≡ dacl_at h kept path
  same_list path stands h =
      ap (λ u. dacl_at h u (moved_path source target path)) after_is ∙ elim (cases_Bool (is_within source path)) [
        | inl inside ↦
            let top = some_row (row_at kept source) can.there in
            moves_unchanged h kept closed source target can source path top.0 top.1 (source_alone top.0 top.1)
            (within_itself source) inside
        | inr out ↦
            ap (dacl_at h (moved kept source target)) (moved_path-outside source target path out)
            ∙ dacl_at-moved_other h kept source target path out (beside path stands out)
      ]

  nobody_in : (path : Names) (token : TokenValue) (b : ℕ) → IsSome (row_at before path)
      → is_granted_at g after (moved_path source target path) token b ≡ true
      → is_granted_at g before path token b ≡ true
  nobody_in path token b stands granted =
      keeping_lets_nobody_in g before source path token b
      (sym (ap (λ u. is_granted_at g u path token b) kept_is)
      ∙ sym (ap₂ (λ dacl row. granted_by_row g dacl token b row) (same_list path stands g) (same_row path stands))
      ∙ granted)

  same_reply : (path : Names) (token : TokenValue) (asked : ℕ) → IsSome (row_at before path)
      → reply_in g (changed before source (keeping (dacl_at g before source))) path token asked
      ≡ reply_in g after (moved_path source target path) token asked
  same_reply path token asked stands =
      sym (ap (λ u. reply_in g u path token asked) kept_is)
      ∙ sym (ap₂ (λ dacl row. reply_for g dacl token asked row) (same_list path stands g) (same_row path stands))

pub keeps_lists : ProtectingFirstKeepsLists
keeps_lists opening journal source target path lawful stands g =
    same_list opening journal source target lawful path stands g

pub lets_nobody_in : ProtectingFirstLetsNobodyIn
lets_nobody_in opening journal source target path token b lawful stands granted =
    nobody_in opening journal source target lawful path token b stands granted

pub grants_no_new_request : ProtectingFirstGrantsNoNewRequest
grants_no_new_request opening journal source target path token asked m lawful stands plain granted =
    keeping_grants_no_new_request opening.mapping (replay opening journal) source path token asked m plain
    (same_reply opening journal source target lawful path token asked stands ∙ granted)
