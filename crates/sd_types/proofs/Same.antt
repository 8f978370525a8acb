-- What the entries of a DACL grant by propagation is what the lists for the chains grant.
use Rattle.std.proofs.Common.{◌≡◌, ◌∙◌, ℕ, Bool, List, ◌∷◌, Ok, sym, subst}
use Rattle.std.specs.List.{list_all}
use Rattle.sd_acl.specs.declared.ace.Ace.{Ace}
use Rattle.sd_acl.specs.declared.ace.AceKind.{AceKind}
use Rattle.sd_check.specs.Check.{first, is_allowed_by}
use Rattle.sd_sid.specs.Mapping.{MappingValue}
use Rattle.sd_sid.specs.Sid.{SidValue}
use Rattle.sd_specialize.specs.Context.{ContextValue}
use Rattle.sd_specialize.specs.Laws.{asking}
use Rattle.sd_specialize.specs.Specialize.{specialized_list}
use Rattle.sd_whole.specs.declared.ace.WholeAce.{WholeAce}
use Rattle.sd_whole.specs.declared.types.Guid.{Guid}
use Rattle.sd_types.proofs.Asked.{chain_is_asked}
use Rattle.sd_types.proofs.Chains.{is_tree}
use Rattle.sd_types.proofs.Leaves.{leaf_from}
use Rattle.sd_types.proofs.Lists.{all_same}
use Rattle.sd_types.proofs.Propagation.{propagation_is_the_same}
use Rattle.sd_types.specs.Laws.{PropagationGrantsTheSame}
use Rattle.sd_types.specs.Propagation.{Tells, Told, allows, first_for, nothing_told, sayings}
use Rattle.sd_types.specs.Tree.{Chain, IsNode, chains_of, leaves_under}
use Rattle.sd_types.specs.declared.tree.TypeNode.{TypeNode}

module _ (c : ContextValue) (g : MappingValue) (who : AceKind → SidValue → Bool) (b : ℕ) (es : List WholeAce) where
  abbrev IsAsked : Chain → Type 0
  IsAsked n = (plain : List Ace) → specialized_list (asking c n) es ≡ Ok plain
      → is_allowed_by (first g who plain b) ≡ allows (first_for n (sayings c g who b es))

  node_is_asked : (n : Chain) → (a : Guid) × (q : Chain) × (n ≡ a ∷ q) → IsAsked n
  node_is_asked n (a, q, is) = subst IsAsked (sym is) (chain_is_asked c a q g who b es)

-- at a node what is told is what the lists for its leaves grant
pub told_by_leaves : (nodes : List TypeNode) (c : ContextValue) (es : List WholeAce) (plain : Chain → List Ace)
    (g : MappingValue) (who : AceKind → SidValue → Bool) (b : ℕ) (told : Told)
    → Tells (chains_of nodes) (sayings c g who b es) nothing_told told
    → (m : Chain) → IsNode (chains_of nodes) m
    → ((n : Chain) → IsNode (leaves_under (chains_of nodes) m) n → specialized_list (asking c n) es ≡ Ok (plain n))
    → told.granted m ≡ list_all (λ n. is_allowed_by (first g who (plain n) b)) (leaves_under (chains_of nodes) m)
told_by_leaves nodes c es plain g who b told steps m at are =
    let tree = chains_of nodes in
    propagation_is_the_same nodes (sayings c g who b es) told steps m at
    ∙ all_same (λ n. allows (first_for n (sayings c g who b es))) (λ n. is_allowed_by (first g who (plain n) b)) (leaves_under tree m)
    (λ n leaf.
    sym (node_is_asked c g who b es n ((is_tree nodes).filled n (leaf_from tree m n leaf).0) (plain n) (are n leaf)))

pub propagation_grants_the_same : PropagationGrantsTheSame
propagation_grants_the_same nodes c es plain are g who b told steps m at =
    told_by_leaves nodes c es plain g who b told steps m at (λ n leaf. are n (leaf_from (chains_of nodes) m n leaf).0)
