-- That nodes which inherit nothing, and those below them, keep their DACLs in a move, and that all do in a rename.
use Rattle.sd_tree_laws.proofs.Cited.{Ace, GivenKeepLists, IsClosed, IsMovable, List, MappingValue, Names, NodeDacl, NodeRow, NullKeepLists, Option, PlainTree, ProtectedKeepLists, RenamedKeepLists, Some, [], ap, append-nil, append_assoc, below_shift, closed_replay, dacl_at, dacl_at-append, dacl_at-moved_other, dacl_at_here, dacl_at_up, dacl_here, dacl_over, dacl_under, is_within, moved, moved_path, moved_path-append, replay, row_at, row_at-moved_there, sym, true, up, up_outside, way_outside, within_rest, within_up, ◌++◌, ◌∙◌, ◌∷◌, ◌≡◌}
use Rattle.sd_tree_laws.proofs.Moves.{accepted_can}
use Rattle.sd_tree_laws.proofs.Reach.{nothing_from_above}

-- nothing comes from above to a node that was given this DACL
abbrev pub StandsAlone : NodeDacl → Type 0
StandsAlone dacl =
    (g : MappingValue) (row : NodeRow) (above other : Option (List Ace))
    → dacl_under g row dacl above ≡ dacl_under g row dacl other

module _ (g : MappingValue) (t : PlainTree) (closed : IsClosed t) (source target : Names)
    (can : IsMovable t source target) where
  there : (rest : Names) → row_at (moved t source target) (target ++ rest) ≡ row_at t (source ++ rest)
  there = row_at-moved_there t closed source target can.place.free

  top_stays : (mid : Names) (row : NodeRow) → row_at t (source ++ mid) ≡ Some row → StandsAlone row.dacl
      → dacl_at g (moved t source target) (target ++ mid) ≡ dacl_at g t (source ++ mid)
  top_stays mid row is alone =
      let t' = moved t source target in
      dacl_at_here g t' (target ++ mid) ∙ ap (λ o. dacl_here g o (dacl_over g t' (target ++ mid))) (there mid ∙ is)
      ∙ alone g row (dacl_over g t' (target ++ mid)) (dacl_over g t (source ++ mid))
      ∙ sym (dacl_at_here g t (source ++ mid) ∙ ap (λ o. dacl_here g o (dacl_over g t (source ++ mid))) is)

  below_stays : (mid rest : Names) → dacl_at g (moved t source target) (target ++ mid) ≡ dacl_at g t (source ++ mid)
      → dacl_at g (moved t source target) (target ++ (mid ++ rest)) ≡ dacl_at g t (source ++ (mid ++ rest))
  below_stays mid rest same =
      let t' = moved t source target in
      ap (dacl_at g t') (sym (append_assoc target mid rest)) ∙ dacl_at-append g t' (target ++ mid) rest
      ∙ below_shift g t' t (target ++ mid) (source ++ mid) (dacl_at g t' (target ++ mid))
      (dacl_at g t (source ++ mid)) rest same
      (λ name below.
      ap (row_at t') (append_assoc target mid (name ∷ below)) ∙ there (mid ++ name ∷ below)
      ∙ sym (ap (row_at t) (append_assoc source mid (name ∷ below))))
      ∙ sym (ap (dacl_at g t) (sym (append_assoc source mid rest)) ∙ dacl_at-append g t (source ++ mid) rest)

  pub moves_unchanged : (top path : Names) (row : NodeRow) → row_at t top ≡ Some row → StandsAlone row.dacl
      → is_within source top ≡ true → is_within top path ≡ true
      → dacl_at g (moved t source target) (moved_path source target path) ≡ dacl_at g t path
  moves_unchanged top path row is alone inside below =
      let at_source = within_rest source top inside in
      let at_top = within_rest top path below in
      let mid = at_source.0 in
      let rest = at_top.0 in
      let way : path ≡ source ++ (mid ++ rest) =
      at_top.1 ∙ ap (λ p. p ++ rest) at_source.1 ∙ append_assoc source mid rest in
      ap (λ p. dacl_at g (moved t source target) (moved_path source target p)) way
      ∙ ap (dacl_at g (moved t source target)) (moved_path-append source target (mid ++ rest))
      ∙ below_stays mid rest (top_stays mid row (ap (row_at t) (sym at_source.1) ∙ is) alone)
      ∙ ap (dacl_at g t) (sym way)

  -- where the parent stays, what is inherited from it does
  renamed_top : up target ≡ up source → dacl_at g (moved t source target) target ≡ dacl_at g t source
  renamed_top same =
      let t' = moved t source target in
      let above : dacl_at g t' (up target) ≡ dacl_at g t (up source) =
      dacl_at-moved_other g t source target (up target)
      (way_outside source (up target) target (within_up target) can.apart)
      (up_outside target can.place.below_root)
      ∙ ap (dacl_at g t) same in
      let row : row_at t' target ≡ row_at t source =
      ap (row_at t') (sym (append-nil target)) ∙ there [] ∙ ap (row_at t) (append-nil source) in
      dacl_at_up g t' target can.place.below_root ∙ (λ i. dacl_here g (row i) (above i))
      ∙ sym (dacl_at_up g t source can.below_root)

  pub renamed_unchanged : (path : Names) → up target ≡ up source → is_within source path ≡ true
      → dacl_at g (moved t source target) (moved_path source target path) ≡ dacl_at g t path
  renamed_unchanged path same inside =
      let rest = within_rest source path inside in
      let t' = moved t source target in
      let top : dacl_at g t' (target ++ []) ≡ dacl_at g t (source ++ []) =
      ap (dacl_at g t') (append-nil target) ∙ renamed_top same ∙ sym (ap (dacl_at g t) (append-nil source)) in
      ap (λ p. dacl_at g t' (moved_path source target p)) rest.1
      ∙ ap (dacl_at g t') (moved_path-append source target rest.0)
      ∙ below_stays [] rest.0 top ∙ ap (dacl_at g t) (sym rest.1)

all_keep_lists : (IsGiven : NodeDacl → Type 0) → ((dacl : NodeDacl) → IsGiven dacl → StandsAlone dacl)
    → GivenKeepLists IsGiven
all_keep_lists IsGiven alone opening journal source target top path row lawful accepted is given inside below g =
    moves_unchanged g (replay opening journal) (closed_replay opening journal lawful) source target
    (accepted_can opening journal source target lawful accepted) top path row is (alone row.dacl given) inside below

pub protected_keep_lists : ProtectedKeepLists
protected_keep_lists =
    all_keep_lists _ (λ dacl protected g row above other. nothing_from_above g row dacl above other protected)

pub null_keep_lists : NullKeepLists
null_keep_lists =
    all_keep_lists _
    (λ dacl null g row above other.
    ap (λ d. dacl_under g row d above) null ∙ sym (ap (λ d. dacl_under g row d other) null))

pub renamed_keep_lists : RenamedKeepLists
renamed_keep_lists opening journal source target path lawful accepted same inside g =
    renamed_unchanged g (replay opening journal) (closed_replay opening journal lawful) source target
    (accepted_can opening journal source target lawful accepted) path same inside
