-- What a sibling has is what a node beside it would have.
use Rattle.sd_tree.proofs.Cited.{Ace, AreMadeFor, AreStanding, InheritOne, IsSibling, List, MappingValue, Names, Node, NodeDacl, NodeRow, Null, Option, Some, ap, behind_own, dacl_at, dacl_at_up, dacl_here, dacl_of_row, dacl_with, false≢true, get_or, handed_on, inherits, length, own_entries, path_of_node, refl, same_behind, subst, sym, tree_of, true, up, whole_with, ℕ, ◌++◌, ◌-◌, ◌<◌, ◌∙◌, ◌≡◌}
use Rattle.sd_edit.specs.declared.node.NodeDacl.TheVariants.{List as Entries, Stored}
use Rattle.sd_tree.proofs.Kept.{row_here}
use Rattle.sd_tree.proofs.OneDacl.{inheriting_dacl}

pub behind_sibling : (g : MappingValue) (beside row : NodeRow) (above : Option (List Ace)) → InheritOne beside row above
    → dacl_of_row g beside above ≡ Some (behind_own beside (handed_on g row above))
behind_sibling g beside row above h =
    inheriting_dacl g beside above h.one_inherits ∙ ap (λ xs. Some (behind_own beside xs)) (h.same g)

-- of the nodes as they stand
pub sibling_whole : (g : MappingValue) (bs : List Node) → AreStanding g bs → (path : Names) (row : NodeRow) (above : Option (List Ace)) (k : ℕ)
    → above ≡ dacl_at g (tree_of bs) (up path) → IsSibling bs path row above k
    → (b : Node) → (get_or bs k b).whole ≡ Some (behind_own (get_or bs k b).row (handed_on g row above))
sibling_whole g bs standing path row above k is-above sibling b =
    let t = tree_of bs in
    let there = path_of_node (get_or bs k b) in
    let kept = standing.kept.whole k b sibling.place in
    let held : dacl_at g t (up there) ≡ above = ap (dacl_at g t) (sibling.parent b) ∙ sym is-above in
    kept.is ∙ dacl_at_up g t there (sibling.below_root b)
    ∙ ap (λ o. dacl_here g o (dacl_at g t (up there))) (row_here bs standing.kept.order k b sibling.place)
    ∙ ap (dacl_of_row g (get_or bs k b).row) held ∙ behind_sibling g (get_or bs k b).row row above (sibling.alike b)

-- a row that inherits has these behind its own entries
with_own : (row : NodeRow) (inherited : List Ace) → inherits row.dacl ≡ true → whole_with row inherited ≡ Some (behind_own row inherited)
with_own row inherited h = parts row.dacl inherited h
  where
    parts : (d : NodeDacl) (inherited : List Ace) → inherits d ≡ true → dacl_with d inherited ≡ Some (own_entries d ++ inherited)
    parts Null inherited h = absurd (false≢true h)
    parts (Entries is-protected own) inherited h = refl
    parts (Stored own kept offer) inherited h = refl

-- a row below the same parent has its own entries before what its sibling inherits
pub row_beside : (g : MappingValue) (beside row : NodeRow) (above : Option (List Ace)) → InheritOne beside row above → (inherited : List Ace)
    → inherited ≡ handed_on g row above → whole_with row inherited ≡ dacl_of_row g row above
row_beside g beside row above h inherited is =
    with_own row inherited h.other_inherits
    ∙ ap (λ xs. Some (behind_own row xs)) is ∙ sym (inheriting_dacl g row above h.other_inherits)

-- so it does where they are all that a sibling inherits, whose DACL is known as a whole
from_sibling : (g : MappingValue) (beside row : NodeRow) (above : Option (List Ace)) → InheritOne beside row above → (n : Node) (inherited : List Ace)
    → n.whole ≡ whole_with n.row inherited → n.whole ≡ Some (behind_own n.row (handed_on g row above)) → whole_with row inherited ≡ dacl_of_row g row above
from_sibling g beside row above h n inherited kept is =
    row_beside g beside row above h inherited (only_behind n.row.dacl inherited (handed_on g row above) (sym kept ∙ is))
  where
    same_Some : {X : Type 0} (x y : X) → ◌≡◌ {A = Option X} (Some x) (Some y) → x ≡ y
    same_Some x y e = cc

    only_behind : (d : NodeDacl) (xs ys : List Ace) → dacl_with d xs ≡ Some (own_entries d ++ ys) → xs ≡ ys
    only_behind Null xs ys e = absurd cc
    only_behind (Entries is-protected own) xs ys e = same_behind own xs ys (same_Some _ _ e)
    only_behind (Stored own kept offer) xs ys e = same_behind own xs ys (same_Some _ _ e)

pub dacl_beside : (g : MappingValue) (bs : List Node) → AreStanding g bs → (path : Names) (row : NodeRow) (above : Option (List Ace)) (k : ℕ)
    → above ≡ dacl_at g (tree_of bs) (up path) → IsSibling bs path row above k → (n : Node) → n ≡ get_or bs k n
    → (inherited : List Ace) → n.whole ≡ whole_with n.row inherited → whole_with row inherited ≡ dacl_of_row g row above
dacl_beside g bs standing path row above k is-above sibling n is inherited kept =
    let P : Node → Type 0 = λ m. m.whole ≡ Some (behind_own m.row (handed_on g row above)) in
    from_sibling g _ row above (sibling.alike n) n inherited kept (subst P (sym is) (sibling_whole g bs standing path row above k is-above sibling n))

pub made_beside : (g : MappingValue) (bs : List Node) (path : Names) (row : NodeRow) (above : Option (List Ace)) (at k : ℕ) (made : List Node)
    → AreMadeFor g bs path row above at made → IsSibling bs path row above k → at < k → k - at < length made
    → (n : Node) → n ≡ get_or made (k - at) n
    → (inherited : List Ace) → n.whole ≡ whole_with n.row inherited → whole_with row inherited ≡ dacl_of_row g row above
made_beside g bs path row above at k made are sibling behind lt n is inherited kept =
    let P : Node → Type 0 = λ m. m.whole ≡ Some (behind_own m.row (handed_on g row above)) in
    from_sibling g _ row above (sibling.alike n) n inherited kept (subst P (sym is) (are k n n sibling behind lt))
