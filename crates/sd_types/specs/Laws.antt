-- What follows from the rules, over all trees, lists and questions.
use Rattle.std.specs.Prelude.{◌≡◌, ℕ, Bool, List, [], Ok, map}
use Rattle.std.specs.List.{list_all, list_any}
use Rattle.sd_access.specs.Access.{context_for, taken_from}
use Rattle.sd_acl.specs.Descriptor.{DescriptorValue}
use Rattle.sd_acl.specs.declared.ace.Ace.{Ace}
use Rattle.sd_acl.specs.declared.ace.AceKind.{AceKind}
use Rattle.sd_check.specs.Check.{dacl_entries, first, is_allowed_by, is_granted, judged, most}
use Rattle.sd_check.specs.declared.verdict.Verdict.{Verdict}
use Rattle.sd_label.specs.Under.{granted_under, most_under}
use Rattle.sd_sid.specs.Mapping.{MappingValue}
use Rattle.sd_sid.specs.Mask.{holds, mask_of}
use Rattle.sd_sid.specs.Sid.{SidValue}
use Rattle.sd_specialize.specs.Context.{ContextValue}
use Rattle.sd_specialize.specs.Laws.{asking}
use Rattle.sd_specialize.specs.Specialize.{specialized, specialized_list}
use Rattle.sd_whole.specs.declared.ace.WholeAce.{WholeAce}
use Rattle.sd_whole.specs.declared.descriptor.WholeDescriptor.{WholeDescriptor}
use Rattle.sd_types.specs.Propagation.{Saying, Tells, Told, allows, denies, first_for, nothing_told, sayings}
use Rattle.sd_types.specs.Remaining.{AreTold, ToldInPasses, verdict_at}
use Rattle.sd_types.specs.Tree.{Chain, IsNode, chains_of, leaves_under}
use Rattle.sd_types.specs.Verdicts.{TreeQuestionValue, about, node_verdict, tree_verdicts}
use Rattle.sd_types.specs.declared.tree.TypeNode.{TypeNode}

-- ---- propagation

-- what is told by the chains: a right is granted to a node exactly if it is to each of its leaves, and denied if it is
-- to one
abbrev pub told_by_chains : List Chain → List Saying → Told
told_by_chains tree es = record {
  granted = λ m. list_all (λ n. allows (first_for n es)) (leaves_under tree m);
  denied = λ m. list_any (λ n. denies (first_for n es)) (leaves_under tree m);
}

-- each list tells this
abbrev pub EachListIsGoneThrough : Type 0
EachListIsGoneThrough = (nodes : List TypeNode) (es : List Saying)
    → Tells (chains_of nodes) es nothing_told (told_by_chains (chains_of nodes) es)

-- and whatever the entries of a DACL tell of a right grants it to a node exactly if to each of its leaves the list that
-- the DACL is for the leaf's chain does, in a pass in which `who` says to whom entries apply
abbrev pub PropagationGrantsTheSame : Type 0
PropagationGrantsTheSame =
    (nodes : List TypeNode) (c : ContextValue) (es : List WholeAce) (plain : Chain → List Ace)
    → ((n : Chain) → IsNode (chains_of nodes) n → specialized_list (asking c n) es ≡ Ok (plain n))
    → (g : MappingValue) (who : AceKind → SidValue → Bool) (b : ℕ) (told : Told)
    → Tells (chains_of nodes) (sayings c g who b es) nothing_told told
    → (m : Chain) → IsNode (chains_of nodes) m
    → told.granted m ≡ list_all (λ n. is_allowed_by (first g who (plain n) b)) (leaves_under (chains_of nodes) m)

-- ---- the verdict on a node

-- what is granted on a part of the object, by the plain descriptor for it, and what MAXIMUM_ALLOWED takes in there
abbrev pub granted_on : TreeQuestionValue → WholeDescriptor → DescriptorValue → ℕ → Bool
granted_on q d plain =
    granted_under (taken_from (about q []) d)
    (is_granted plain.owner (dacl_entries plain.dacl) q.mapping q.client.token)

abbrev pub most_on : TreeQuestionValue → WholeDescriptor → DescriptorValue → ℕ
most_on q d plain =
    most_under (taken_from (about q []) d)
    (most plain.owner (dacl_entries plain.dacl) q.mapping q.client.token)

-- the verdict on a node is that of a check that grants a right exactly if it is granted on each leaf
abbrev pub NodeIsGrantedWhatItsLeavesAre : Type 0
NodeIsGrantedWhatItsLeavesAre =
    (nodes : List TypeNode) (q : TreeQuestionValue) (d : WholeDescriptor) (plain : Chain → DescriptorValue)
    → q.tree ≡ chains_of nodes
    → ((n : Chain) → IsNode q.tree n → specialized (context_for (about q n) d) d ≡ Ok (plain n))
    → (m : Chain) → IsNode q.tree m
    → node_verdict q d m ≡ Ok (judged q.mapping
    (λ b. list_all (λ n. granted_on q d (plain n) b) (leaves_under q.tree m))
    (mask_of (λ b. list_all (λ n. holds (most_on q d (plain n)) b) (leaves_under q.tree m)) 32)
    q.asked)

-- ---- from propagation to the verdicts

-- whatever the entries tell, gone through in each pass for each right, the verdicts on the nodes are those by it
abbrev pub PropagationGivesTheVerdicts : Type 0
PropagationGivesTheVerdicts =
    (nodes : List TypeNode) (q : TreeQuestionValue) (d : WholeDescriptor) (told : ToldInPasses)
    → q.tree ≡ chains_of nodes → AreTold q d told
    → (verdicts : List Verdict) → tree_verdicts q d ≡ Ok verdicts → verdicts ≡ map (verdict_at q d told) q.tree
