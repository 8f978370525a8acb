-- The answer to a question about an object with a whole descriptor ([MS-DTYP] 2.5.3): its DACL as it is for the
-- question, with the claims of its SACL, and then the check, without what the label of its SACL takes.
use Rattle.std.specs.Prelude.{ℕ, Bool, true, false, ◌&&◌, not, List, [], Option, None, Result, Ok, ◌⊎◌}
use Rattle.std.specs.Prelude.{if◌then◌else◌}
use Rattle.std.specs.List.{filter_map}
use Rattle.sd_acl.specs.Descriptor.{DescriptorValue, descriptor_of}
use Rattle.sd_acl.specs.declared.descriptor.DaclOf.TheVariants.{Absent, Null, List as Entries}
use Rattle.sd_check.specs.Check.{dacl_entries}
use Rattle.sd_check.specs.Token.{is_restricted}
use Rattle.sd_check.specs.declared.verdict.Verdict.{Verdict}
use Rattle.sd_claim.specs.Claim.{ClaimValue}
use Rattle.sd_claim.specs.Reading.{claim_read}
use Rattle.sd_condition.specs.Reading.{condition_read}
use Rattle.sd_evaluation.specs.Facts.{FactsValue}
use Rattle.sd_explain.specs.Reasons.{reasons_of}
use Rattle.sd_explain.specs.declared.reason.Reason.{Reason}
use Rattle.sd_label.specs.Label.{label_of_object, taken_by}
use Rattle.sd_label.specs.Under.{reasons_under, verdict_under}
use Rattle.sd_specialize.specs.Context.{ContextValue, truth_of}
use Rattle.sd_specialize.specs.Specialize.{HasDaclEntries, specialized, ◌>>=◌}
use Rattle.sd_specialize.specs.declared.fault.SpecializeFault.{SpecializeFault}
use Rattle.sd_whole.specs.Entry.{for_children_alone}
use Rattle.sd_whole.specs.declared.ace.WholeAce.{WholeAce}
use Rattle.sd_whole.specs.declared.ace.WholeAce.TheVariants.{Plain, Typed, Opaque}
use Rattle.sd_whole.specs.declared.descriptor.WholeDescriptor.{WholeDescriptor}
use Rattle.sd_whole.specs.declared.kind.WholeKind.{WholeKind}
use Rattle.sd_whole.specs.declared.kind.WholeKind.TheVariants.{ResourceAttribute}
use Rattle.sd_whole.specs.Reading.{WholeAcl}
use Rattle.sd_access.specs.Question.{QuestionValue}
use Rattle.sd_access.specs.declared.access.Explained.{Explained}

-- ---- the claims of an object (2.4.4.15)

abbrev pub is_attribute : WholeKind → Bool
is_attribute ResourceAttribute = true
is_attribute _ = false

-- the claim of an effective resource attribute entry; data that is no claim counts as none
abbrev pub claim_in : WholeAce → Option ClaimValue
claim_in (Plain e) = None
claim_in (Typed e) = if is_attribute e.kind && not (for_children_alone e.flags.0) then claim_read e.trailing else None
claim_in (Opaque e) = None

-- the claims of a SACL, in order
abbrev pub resource_claims : WholeAcl → List ClaimValue
resource_claims Absent = []
resource_claims Null = []
resource_claims (Entries list) = filter_map claim_in list.entries

-- ---- the question, of a descriptor

-- what conditions can ask about: the client's, and the claims of the object (2.5.3.1.5)
abbrev pub facts_for : QuestionValue → WholeDescriptor → FactsValue
facts_for q d = record {
  token = q.client.token;
  device_groups = q.client.device_groups;
  local = q.client.local;
  user = q.client.user;
  device = q.client.device;
  resource = resource_claims d.sacl;
}

abbrev pub context_for : QuestionValue → WholeDescriptor → ContextValue
context_for q d = record {
  chain = q.chain;
  principal_self = q.principal_self;
  is_restricted = is_restricted q.client.token;
  truth = λ pass kind bytes. truth_of (facts_for q d) pass kind (condition_read bytes);
}

-- what the object's label takes from the client (2.5.3.3)
abbrev pub taken_from : QuestionValue → WholeDescriptor → ℕ
taken_from q d = taken_by (label_of_object d.sacl) q.client.level q.mapping

-- ---- the answer

-- of the plain descriptor that the whole one is for the question
abbrev pub plain_verdict : QuestionValue → WholeDescriptor → DescriptorValue → Verdict
plain_verdict q d plain =
    verdict_under (taken_from q d) plain.owner (dacl_entries plain.dacl) q.mapping q.client.token q.asked

abbrev pub plain_reasons : QuestionValue → WholeDescriptor → DescriptorValue → List (Option Reason)
plain_reasons q d plain =
    reasons_under (taken_from q d) (reasons_of plain.owner (dacl_entries plain.dacl) q.mapping q.client.token q.asked)

-- the verdict on the question, or why the descriptor has no plain one for it
abbrev pub whole_verdict : QuestionValue → WholeDescriptor → Result Verdict SpecializeFault
whole_verdict q d = specialized (context_for q d) d >>= λ plain. Ok (plain_verdict q d plain)

-- the plain descriptor, and the reason of each bit by it
abbrev pub whole_reasons : QuestionValue → WholeDescriptor
    → Result (DescriptorValue × List (Option Reason)) SpecializeFault
whole_reasons q d = specialized (context_for q d) d >>= λ plain. Ok (plain, plain_reasons q d plain)

abbrev pub explained_of : Explained → DescriptorValue × List (Option Reason)
explained_of e = (descriptor_of e.descriptor, e.explanation.reasons)

-- memory runs out only where a list of the descriptor has entries
abbrev pub TakesMemory : WholeDescriptor → Type 0
TakesMemory d = HasDaclEntries d.sacl ⊎ HasDaclEntries d.dacl
