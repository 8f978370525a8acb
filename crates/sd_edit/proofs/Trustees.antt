-- A node that hands on what it did changes the DACL of no other node; so another owner or group of it changes none.
use Rattle.sd_acl.specs.Canonical.{canonical_order}
use Rattle.sd_inheritance.specs.Inheritance.{creator_group, creator_owner}
use Rattle.sd_edit.specs.Inheritance.{handed_to, kept_or_handed, offered, same_list, still_offers}
use Rattle.sd_edit.proofs.Cited.{Ace, Bool, ChangesOneNode, Container, List, MappingValue, Names, NodeDacl, NodeKind, NodeRow, None, Null, Object, Option, PlainTree, SidValue, Some, [], ap, append-nil, ap₂, arith, cases_Bool, changed, cond, container_inherit, dacl_at, dacl_below, dacl_here, dacl_of_row, dacl_under, effective_copy, effective_hands_nothing, false, flat_map, flat_map-append, handed_on, inl, inr, is_root, is_split, is_within, length, length-up, no_propagate, object_inherit, once, option_map, pass_on, refl, row_at, sym, true, up, waiting_copy, whole_copy, within_rest, ℕ, ◌++◌, ◌∙◌, ◌∷◌, ◌≡◌, ◌≢◌}
use Rattle.std.proofs.Common.{length-append}
use Rattle.sd_edit.specs.declared.node.NodeDacl.TheVariants.{List as Entries, Stored}
use Rattle.sd_edit.proofs.Rows.{row_at-changed_same, row_at-changed_other}
use Rattle.sd_edit.proofs.Dacls.{dacl_at_here, dacl_over, dacl_at-append, below_alike, dacl_at_outside}

-- ---- what is handed on two levels down doesn't depend on the trustees of the first

two_levels : (h : Ace → List Ace) (object container stops split : Bool) (one other waiting whole : Ace) → h one ≡ [] → h other ≡ []
    → flat_map h (cond container (cond stops (one ∷ []) (cond split (one ∷ waiting ∷ []) (whole ∷ []))) (cond object (cond stops [] (waiting ∷ [])) []))
    ≡ flat_map h (cond container (cond stops (other ∷ []) (cond split (other ∷ waiting ∷ []) (whole ∷ []))) (cond object (cond stops [] (waiting ∷ [])) []))
two_levels h object true true split one other waiting whole e k = ap (λ xs. xs ++ []) (e ∙ sym k)
two_levels h object true false true one other waiting whole e k = ap (λ xs. xs ++ (h waiting ++ [])) (e ∙ sym k)
two_levels h object true false false one other waiting whole e k = refl
two_levels h object false stops split one other waiting whole e k = refl

module _ (g : MappingValue) (r : NodeRow) (owner group other_owner other_group : SidValue) where
  abbrev h : Ace → List Ace
  h = pass_on g r.kind r.owner r.group

  nothing : (o p : SidValue) (e : Ace) → h (effective_copy g o p e) ≡ []
  nothing o p e = effective_hands_nothing g r.kind o p r.owner r.group e

  entry_alike : (kind : NodeKind) (e : Ace) → flat_map h (pass_on g kind owner group e) ≡ flat_map h (pass_on g kind other_owner other_group e)
  entry_alike Object e =
      once h (object_inherit e) (effective_copy g owner group e) (nothing owner group e)
      ∙ sym (once h (object_inherit e) (effective_copy g other_owner other_group e) (nothing other_owner other_group e))
  entry_alike Container e =
      two_levels h (object_inherit e) (container_inherit e) (no_propagate e) (is_split e)
      (effective_copy g owner group e) (effective_copy g other_owner other_group e) (waiting_copy e) (whole_copy e)
      (nothing owner group e) (nothing other_owner other_group e)

  entries_alike : (kind : NodeKind) (es : List Ace)
      → flat_map h (flat_map (pass_on g kind owner group) es) ≡ flat_map h (flat_map (pass_on g kind other_owner other_group) es)
  entries_alike kind [] = refl
  entries_alike kind (e ∷ es) =
      flat_map-append h (pass_on g kind owner group e) (flat_map (pass_on g kind owner group) es)
      ∙ ap₂ (λ xs ys. xs ++ ys) (entry_alike kind e) (entries_alike kind es)
      ∙ sym (flat_map-append h (pass_on g kind other_owner other_group e) (flat_map (pass_on g kind other_owner other_group) es))

-- ---- so what a node hands on doesn't depend on its own

module _ (g : MappingValue) (r : NodeRow) (kind : NodeKind) (owner group other_owner other_group : SidValue) where
  abbrev one : NodeDacl → NodeRow
  one d = record { kind = kind; owner = owner; group = group; dacl = d }

  abbrev other : NodeDacl → NodeRow
  other d = record { kind = kind; owner = other_owner; group = other_group; dacl = d }

  inherited_alike : (es : List Ace) (above : Option (List Ace))
      → flat_map (pass_on g r.kind r.owner r.group) (handed_on g (one (Entries false es)) above)
      ≡ flat_map (pass_on g r.kind r.owner r.group) (handed_on g (other (Entries false es)) above)
  inherited_alike es None = refl
  inherited_alike es (Some above) = entries_alike g r owner group other_owner other_group kind above

  behind_alike : (es : List Ace) (above : Option (List Ace))
      → handed_on g r (dacl_of_row g (one (Entries false es)) above) ≡ handed_on g r (dacl_of_row g (other (Entries false es)) above)
  behind_alike es above =
      flat_map-append (pass_on g r.kind r.owner r.group) es (handed_on g (one (Entries false es)) above)
      ∙ ap (λ xs. flat_map (pass_on g r.kind r.owner r.group) es ++ xs) (inherited_alike es above)
      ∙ sym (flat_map-append (pass_on g r.kind r.owner r.group) es (handed_on g (other (Entries false es)) above))

  kept_alike : (es inherited : List Ace) (above : Option (List Ace)) (keeps : Bool)
      → flat_map (pass_on g r.kind r.owner r.group) (es ++ kept_or_handed keeps inherited (handed_to g kind owner group above))
      ≡ flat_map (pass_on g r.kind r.owner r.group) (es ++ kept_or_handed keeps inherited (handed_to g kind other_owner other_group above))
  kept_alike es inherited above true = refl
  kept_alike es inherited above false = behind_alike es above

  pub row_alike : (d : NodeDacl) (above : Option (List Ace)) → handed_on g r (dacl_of_row g (one d) above) ≡ handed_on g r (dacl_of_row g (other d) above)
  row_alike Null above = refl
  row_alike (Entries true es) above = refl
  row_alike (Entries false es) above = behind_alike es above
  row_alike (Stored es inherited offer) above = kept_alike es inherited above (still_offers g kind above offer)

-- ---- what stands below two DACLs that hand on the same

still_offers_alike : (g : MappingValue) (kind : NodeKind) (one other : Option (List Ace)) (offer : List Ace)
    → offered g kind one ≡ offered g kind other → still_offers g kind one offer ≡ still_offers g kind other offer
unfolding still_offers
still_offers_alike g kind one other offer e = ap (λ es. same_list (canonical_order es) (canonical_order offer)) e

under_alike : (g : MappingValue) (row : NodeRow) (d : NodeDacl) (one other : Option (List Ace))
    → ((child : NodeRow) → handed_on g child one ≡ handed_on g child other) → dacl_under g row d one ≡ dacl_under g row d other
under_alike g row Null one other h = refl
under_alike g row (Entries true es) one other h = refl
under_alike g row (Entries false es) one other h = ap (λ xs. Some (es ++ xs)) (h row)
under_alike g row (Stored es inherited offer) one other h =
    ap₂ (λ keeps xs. Some (es ++ kept_or_handed keeps inherited xs))
    (still_offers_alike g row.kind one other offer (h (record { kind = row.kind; owner = creator_owner; group = creator_group; dacl = Null }))) (h row)

here_alike : (g : MappingValue) (o : Option NodeRow) (one other : Option (List Ace))
    → ((row : NodeRow) → handed_on g row one ≡ handed_on g row other) → dacl_here g o one ≡ dacl_here g o other
here_alike g None one other h = refl
here_alike g (Some row) one other h = under_alike g row row.dacl one other h

-- ---- the tree

not_within_up : (path : Names) → is_root path ≡ false → is_within path (up path) ≡ false
not_within_up [] h = absurd cc
not_within_up (n ∷ path) h = elim (cases_Bool (is_within (n ∷ path) (up (n ∷ path)))) [
  | inl within ↦
      let rest = within_rest (n ∷ path) (up (n ∷ path)) within in
      let longer = ap (λ (p : Names). length p) rest.1 ∙ length-append (n ∷ path) rest.0 in
      let shorter = length-up (n ∷ path) in
      absurd (omega (arith, longer, shorter))
  | inr not_within ↦ not_within
]

module _ (g : MappingValue) (t : PlainTree) (path : Names) (change : NodeRow → NodeRow)
    (alike : (row r : NodeRow) (above : Option (List Ace)) → handed_on g r (dacl_of_row g (change row) above) ≡ handed_on g r (dacl_of_row g row above)) where
  abbrev u : PlainTree
  u = changed t path change

  other_row : (q : Names) → q ≢ path → row_at u q ≡ row_at t q
  other_row q ne = row_at-changed_other t path q change ne

  over_alike : (p : Names) → p ≡ path → dacl_over g u path ≡ dacl_over g t path
  over_alike [] is = ap (dacl_over g u) (sym is) ∙ ap (dacl_over g t) is
  over_alike (n ∷ p) is =
      ap (dacl_over g u) (sym is)
      ∙ dacl_at_outside g u t path (up (n ∷ p)) other_row (ap (λ q. is_within q (up (n ∷ p))) (sym is) ∙ not_within_up (n ∷ p) refl)
      ∙ ap (dacl_over g t) is

  row_hands : (o : Option NodeRow) (above : Option (List Ace)) (r : NodeRow)
      → handed_on g r (dacl_here g (option_map change o) above) ≡ handed_on g r (dacl_here g o above)
  row_hands None above r = refl
  row_hands (Some row) above r = alike row r above

  node_hands : (r : NodeRow) → handed_on g r (dacl_at g u path) ≡ handed_on g r (dacl_at g t path)
  node_hands r =
      ap (handed_on g r) (dacl_at_here g u path ∙ ap₂ (λ o above. dacl_here g o above) (row_at-changed_same t path change) (over_alike path refl))
      ∙ row_hands (row_at t path) (dacl_over g t path) r
      ∙ ap (handed_on g r) (sym (dacl_at_here g t path))

  longer : (at : Names) (name : List ℕ) (names : Names) → at ++ name ∷ names ≢ at
  longer [] name names e = cc
  longer (n ∷ at) name names e = longer at name names cc

  below_node : (n : List ℕ) (names : Names) → dacl_at g u (path ++ n ∷ names) ≡ dacl_at g t (path ++ n ∷ names)
  below_node n names =
      dacl_at-append g u path (n ∷ names)
      ∙ below_alike g u t path (dacl_at g u path) (n ∷ names) (λ name q within. other_row (path ++ name ∷ q) (longer path name q))
      ∙ ap (λ d. dacl_below g t (path ++ n ∷ []) d names) (here_alike g (row_at t (path ++ n ∷ [])) (dacl_at g u path) (dacl_at g t path) node_hands)
      ∙ sym (dacl_at-append g t path (n ∷ names))

  within_node : (q rest : Names) → q ≡ path ++ rest → q ≢ path → dacl_at g u q ≡ dacl_at g t q
  within_node q [] is ne = absurd (ne (is ∙ append-nil path))
  within_node q (n ∷ names) is ne = ap (dacl_at g u) is ∙ below_node n names ∙ sym (ap (dacl_at g t) is)

  pub others_stay : (q : Names) → q ≢ path → dacl_at g u q ≡ dacl_at g t q
  others_stay q ne = elim (cases_Bool (is_within path q)) [
    | inl within ↦ let rest = within_rest path q within in within_node q rest.0 rest.1 ne
    | inr outside ↦ dacl_at_outside g u t path q other_row outside
  ]

pub same_row_stays : (g : MappingValue) (t : PlainTree) (path : Names) → ChangesOneNode g t (changed t path (λ row. row)) path
same_row_stays g t path q ne = others_stay g t path (λ row. row) (λ row r above. refl) q ne
