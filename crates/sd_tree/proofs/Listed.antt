-- The nodes one after the other, as the entries of the tree.
use Rattle.sd_tree.proofs.Cited.{IsInOrder, List, Names, Node, NodeRow, None, PlainTree, Some, ap, entries, entry_of, get_or, length, option_map, slice_get, slice_get-get_or, slice_get-map, slice_get_past, sym, tree_of, ℕ, ◌<◌, ◌∙◌, ◌≡◌, ◌≤◌}
use Rattle.sd_tree.proofs.Kept.{entries_kept}

-- the entries are those of the nodes, place by place
entry_at : (bs : List Node) → IsInOrder bs → (t : PlainTree) → tree_of bs ≡ t → (k : ℕ) → option_map entry_of (slice_get bs k) ≡ slice_get (entries t) k
entry_at bs order t same k =
    sym (slice_get-map entry_of bs k)
    ∙ ap (λ es. slice_get es k) (sym (entries_kept bs order))
    ∙ ap (λ u. slice_get (entries u) k) same

pub listed_here : (bs : List Node) → IsInOrder bs → (t : PlainTree) → tree_of bs ≡ t → (k : ℕ) → k < length bs
    → (b : Node) → b ≡ get_or bs k b → (entry : Names × NodeRow) → entry ≡ entry_of b → Some entry ≡ slice_get (entries t) k
listed_here bs order t same k lt b is entry of =
    ap Some (of ∙ ap entry_of is) ∙ sym (ap (option_map entry_of) (slice_get-get_or bs k b lt)) ∙ entry_at bs order t same k

pub listed_past : (bs : List Node) → IsInOrder bs → (t : PlainTree) → tree_of bs ≡ t → (k : ℕ) → length bs ≤ k → None ≡ slice_get (entries t) k
listed_past bs order t same k ge = sym (ap (option_map entry_of) (slice_get_past bs k ge)) ∙ entry_at bs order t same k
