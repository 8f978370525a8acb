-- Nodes that inherit do so alike below one parent, where nothing tells them apart.
use Rattle.sd_tree.proofs.Cited.{Ace, AreAlike, Bool, Container, InheritOne, List, MappingValue, NodeDacl, NodeKind, NodeRow, None, Null, Object, Option, SidValue, Some, [], ap, ap₂, behind_own, cond, container_inherit, created_by, creator_group, creator_owner, dacl_of_row, dacl_under, dacl_with, effective_copy, false, false≢true, flat_map, flat_map-append, handed_on, inherits, is_split, list_any, names_creator, no_propagate, object_inherit, own_entries, pass_on, refl, same_sid, sym, true, trustees_matter, waiting_copy, whole_copy, whole_with, ◌++◌, ◌||◌, ◌∙◌, ◌∷◌, ◌≡◌}
use Rattle.sd_edit.specs.declared.node.NodeDacl.TheVariants.{List as Entries, Stored}

-- a node that inherits has its own entries, and behind them what is handed on to it
pub inheriting_dacl : (g : MappingValue) (row : NodeRow) (above : Option (List Ace)) → inherits row.dacl ≡ true
    → dacl_of_row g row above ≡ Some (behind_own row (handed_on g row above))
inheriting_dacl g row above h = parts g row row.dacl above h
  where
    parts : (g : MappingValue) (row : NodeRow) (d : NodeDacl) (above : Option (List Ace)) → inherits d ≡ true
        → dacl_under g row d above ≡ Some (own_entries d ++ handed_on g row above)
    parts g row Null above h = absurd (false≢true h)
    parts g row (Entries true own) above h = absurd (false≢true h)
    parts g row (Entries false own) above h = refl
    parts g row (Stored own kept offer) above h = absurd (false≢true h)

-- ---- of one kind, owner and group
one_by_trustees : (one other : NodeRow) (above : Option (List Ace))
    → one.kind ≡ other.kind → one.owner ≡ other.owner → one.group ≡ other.group → (g : MappingValue) → handed_on g one above ≡ handed_on g other above
one_by_trustees one other None kind owner group g = refl
one_by_trustees one other (Some es) kind owner group g = λ i. flat_map (pass_on g (kind i) (owner i) (group i)) es

-- ---- of one kind, where no entry names a creator
pass_alike : (g : MappingValue) (kind : NodeKind) (owner group other_owner other_group : SidValue) (e : Ace) → created_by owner group e.sid ≡ created_by other_owner other_group e.sid
    → pass_on g kind owner group e ≡ pass_on g kind other_owner other_group e
pass_alike g Object owner group other_owner other_group e same =
    ap (λ (c : Ace). cond (object_inherit e) (c ∷ []) []) (copies g owner group other_owner other_group e same)
  where
    copies : (g : MappingValue) (owner group other_owner other_group : SidValue) (e : Ace) → created_by owner group e.sid ≡ created_by other_owner other_group e.sid
        → effective_copy g owner group e ≡ effective_copy g other_owner other_group e
    copies g owner group other_owner other_group e same = ap (λ (s : SidValue). record (effective_copy g owner group e) { sid = s }) same
pass_alike g Container owner group other_owner other_group e same =
    ap (λ (c : Ace). cond (container_inherit e) (cond (no_propagate e) (c ∷ []) (cond (is_split e) (c ∷ waiting_copy e ∷ []) (whole_copy e ∷ [])))
    (cond (object_inherit e) (cond (no_propagate e) [] (waiting_copy e ∷ [])) []))
    (ap (λ (s : SidValue). record (effective_copy g owner group e) { sid = s }) same)

no_creator : (a b : Bool) → (a || b) ≡ false → (owner group other_owner other_group s : SidValue)
    → cond a owner (cond b group s) ≡ cond a other_owner (cond b other_group s)
no_creator true b h owner group other_owner other_group s = absurd cc
no_creator false true h owner group other_owner other_group s = absurd cc
no_creator false false h owner group other_owner other_group s = refl

none_named : (e : Ace) (es : List Ace) → list_any names_creator (e ∷ es) ≡ false → (names_creator e ≡ false) × (list_any names_creator es ≡ false)
none_named e es h = parts (names_creator e) (list_any names_creator es) h
  where
    parts : (a b : Bool) → (a || b) ≡ false → (a ≡ false) × (b ≡ false)
    parts true b h = absurd (false≢true (sym h))
    parts false b h = (refl, h)

handed_alike : (g : MappingValue) (kind : NodeKind) (owner group other_owner other_group : SidValue) (es : List Ace) → list_any names_creator es ≡ false
    → flat_map (pass_on g kind owner group) es ≡ flat_map (pass_on g kind other_owner other_group) es
handed_alike g kind owner group other_owner other_group [] h = refl
handed_alike g kind owner group other_owner other_group (e ∷ es) h =
    let parts = none_named e es h in
    ap₂ (λ xs ys. xs ++ ys)
    (pass_alike g kind owner group other_owner other_group e (no_creator (same_sid e.sid creator_owner) (same_sid e.sid creator_group) parts.0 owner group other_owner other_group e.sid))
    (handed_alike g kind owner group other_owner other_group es parts.1)

one_without_creators : (one other : NodeRow) (above : Option (List Ace))
    → one.kind ≡ other.kind → trustees_matter above ≡ false → (g : MappingValue) → handed_on g one above ≡ handed_on g other above
one_without_creators one other None kind none g = refl
one_without_creators one other (Some es) kind none g =
    handed_alike g one.kind one.owner one.group other.owner other.group es none
    ∙ ap (λ k. flat_map (pass_on g k other.owner other.group) es) kind

-- ---- what the code asks of two rows
pub alike_inherit_one : (one other : NodeRow) (above : Option (List Ace)) (by_trustees : Bool) → AreAlike one other by_trustees
    → (by_trustees ≡ false → trustees_matter above ≡ false) → InheritOne one other above
alike_inherit_one one other above by_trustees h none = record {
  one_inherits = h.one_inherits;
  other_inherits = h.other_inherits;
  same = same by_trustees h none;
}
  where
    same : (by_trustees : Bool) → AreAlike one other by_trustees → (by_trustees ≡ false → trustees_matter above ≡ false)
        → (g : MappingValue) → handed_on g one above ≡ handed_on g other above
    same true h none = let same = h.trustees refl in one_by_trustees one other above h.kind same.0 same.1
    same false h none = one_without_creators one other above h.kind (none refl)
