-- The verdict on each node of a tree of object types ([MS-DTYP] 2.5.3.2, ObjectTypeList; [MS-ADTS] 5.1.3.3): on a leaf
-- that on its chain, and on a node with others below it what its leaves have in common.
use Rattle.std.specs.Prelude.{ℕ, ◌&&◌, ◌||◌, ◌==◌, if◌then◌else◌, List, [], ◌∷◌, Option, Result, Ok}
use Rattle.sd_check.specs.declared.verdict.Verdict.{Verdict}
use Rattle.sd_check.specs.declared.verdict.Verdict.TheVariants.{Granted, Denied, Reserved, EmptyRequest}
use Rattle.sd_access.specs.Access.{whole_verdict}
use Rattle.sd_access.specs.Question.{QuestionValue}
use Rattle.sd_client.specs.Client.{ClientValue}
use Rattle.sd_sid.specs.Mapping.{MappingValue}
use Rattle.sd_sid.specs.Mask.{holds, mask_of}
use Rattle.sd_sid.specs.Sid.{SidValue}
use Rattle.sd_specialize.specs.Specialize.{◌>>=◌}
use Rattle.sd_specialize.specs.declared.fault.SpecializeFault.{SpecializeFault}
use Rattle.sd_whole.specs.declared.descriptor.WholeDescriptor.{WholeDescriptor}
use Rattle.sd_types.specs.Tree.{Chain, leaves_under}

-- a question about each part of an object: who asks, about which tree of types, and for which rights
pub record TreeQuestionValue : Type 0 where
  pub client : ClientValue
  pub tree : List Chain
  -- the SID that PRINCIPAL SELF stands for
  pub principal_self : Option SidValue
  pub mapping : MappingValue
  pub asked : ℕ

-- the question about the part with this chain
abbrev pub about : TreeQuestionValue → Chain → QuestionValue
about q chain = record {
  client = q.client;
  chain = chain;
  principal_self = q.principal_self;
  mapping = q.mapping;
  asked = q.asked;
}

-- ---- two parts

abbrev pub common : ℕ → ℕ → ℕ
common a b = mask_of (λ bit. holds a bit && holds b bit) 32

abbrev pub joined : ℕ → ℕ → ℕ
joined a b = mask_of (λ bit. holds a bit || holds b bit) 32

-- what is granted on both; where that is nothing, MAXIMUM_ALLOWED itself is missing
abbrev pub granted_on_both : ℕ → Verdict
granted_on_both mask = if mask == 0 then Denied 0x02000000 else Granted mask

-- the verdict on two parts, from that on each: what both grant, and what is missing on either. On no part nothing is
-- asked for
abbrev pub both : Verdict → Verdict → Verdict
both EmptyRequest other = other
both one EmptyRequest = one
both (Reserved mask) other = Reserved mask
both one (Reserved mask) = Reserved mask
both (Granted one) (Granted other) = granted_on_both (common one other)
both (Granted one) (Denied missing) = Denied missing
both (Denied missing) (Granted other) = Denied missing
both (Denied one) (Denied other) = Denied (joined one other)

-- the verdict on these parts with that on others, or why one has none
abbrev pub with_parts : (Chain → Result Verdict SpecializeFault) → Verdict → List Chain → Result Verdict SpecializeFault
with_parts part others [] = Ok others
with_parts part others (n ∷ ns) = part n >>= λ verdict. with_parts part (both others verdict) ns

-- ---- the nodes

abbrev pub part_verdict : TreeQuestionValue → WholeDescriptor → Chain → Result Verdict SpecializeFault
part_verdict q d chain = whole_verdict (about q chain) d

-- the verdict on a node is that on all its leaves
abbrev pub node_verdict : TreeQuestionValue → WholeDescriptor → Chain → Result Verdict SpecializeFault
node_verdict q d m = with_parts (part_verdict q d) EmptyRequest (leaves_under q.tree m)

abbrev pub each_verdict : (Chain → Result Verdict SpecializeFault) → List Chain → Result (List Verdict) SpecializeFault
each_verdict node [] = Ok []
each_verdict node (m ∷ ms) = node m >>= λ verdict. (each_verdict node ms >>= λ verdicts. Ok (verdict ∷ verdicts))

-- on each node in order, or why one has none
abbrev pub tree_verdicts : TreeQuestionValue → WholeDescriptor → Result (List Verdict) SpecializeFault
tree_verdicts q d = each_verdict (node_verdict q d) q.tree
