-- What the code hands to the check is what the question says.
use Rattle.std.proofs.Common.{◌≡◌, ℕ, List, Option, Result, Ok, Err, ap, refl, sym, ◌∙◌}
use Rattle.sd_acl.specs.Dacl.{Dacl}
use Rattle.sd_acl.specs.Descriptor.{DescriptorValue}
use Rattle.sd_acl.specs.declared.ace.Ace.{Ace}
use Rattle.sd_check.specs.Check.{dacl_entries, verdict}
use Rattle.sd_check.specs.Token.{TokenValue, is_restricted}
use Rattle.sd_check.specs.declared.token.GroupState.{GroupState}
use Rattle.sd_check.specs.declared.verdict.Verdict.{Verdict}
use Rattle.sd_claim.specs.Claim.{ClaimValue}
use Rattle.sd_condition.specs.Reading.{condition_read}
use Rattle.sd_evaluation.specs.Facts.{FactsValue}
use Rattle.sd_label.specs.Under.{verdict_under}
use Rattle.sd_sid.specs.Mapping.{MappingValue}
use Rattle.sd_sid.specs.Sid.{SidValue}
use Rattle.sd_specialize.specs.Context.{ContextValue, truth_of}
use Rattle.sd_specialize.specs.Specialize.{Fails, specialized, specialized_acl, ◌>>=◌}
use Rattle.sd_specialize.specs.Verdict.{dacl_verdict}
use Rattle.sd_specialize.specs.declared.fault.SpecializeError.{SpecializeError}
use Rattle.sd_specialize.specs.declared.fault.SpecializeError.TheVariants as errors
use Rattle.sd_specialize.specs.declared.fault.SpecializeFault.{SpecializeFault}
use Rattle.sd_whole.specs.Plain.{with_dacl}
use Rattle.sd_whole.specs.declared.descriptor.WholeDescriptor.{WholeDescriptor}
use Rattle.sd_whole.specs.declared.types.Guid.{Guid}
use Rattle.sd_access.specs.Access.{context_for, facts_for, plain_verdict, resource_claims, taken_from, whole_verdict}
use Rattle.sd_access.specs.Question.{QuestionValue}

-- the context of these facts
abbrev pub context_from : FactsValue → List Guid → Option SidValue → ContextValue
context_from facts chain self = record {
  chain = chain;
  principal_self = self;
  is_restricted = is_restricted facts.token;
  truth = λ pass kind bytes. truth_of facts pass kind (condition_read bytes);
}

abbrev pub facts_from : TokenValue → List (SidValue × GroupState) → List ClaimValue → List ClaimValue → List ClaimValue → List ClaimValue → FactsValue
facts_from token groups local user device resource =
    record { token = token; device_groups = groups; local = local; user = user; device = device; resource = resource }

-- a context that says what the question does is that of the question
pub same_context : (q : QuestionValue) (d : WholeDescriptor) (token : TokenValue) (groups : List (SidValue × GroupState))
    (local user device resource : List ClaimValue) (chain : List Guid) (self : Option SidValue)
    → token ≡ q.client.token → groups ≡ q.client.device_groups → local ≡ q.client.local → user ≡ q.client.user → device ≡ q.client.device
    → resource ≡ resource_claims d.sacl → chain ≡ q.chain → self ≡ q.principal_self
    → context_from (facts_from token groups local user device resource) chain self ≡ context_for q d
same_context q d token groups local user device resource chain self is_token are_groups is_local is_user is_device is_resource is_chain is_self =
    let facts : facts_from token groups local user device resource ≡ facts_for q d = cc in
    ap (λ (f : FactsValue). context_from f chain self) facts
    ∙ ap (λ (x : List Guid). context_from (facts_for q d) x self) is_chain ∙ ap (λ (x : Option SidValue). context_from (facts_for q d) q.chain x) is_self

-- the verdict on the plain descriptor answers the question
pub checked : (q : QuestionValue) (d : WholeDescriptor) (plain : DescriptorValue) (taken : ℕ) (g : MappingValue) (t : TokenValue) (r : ℕ) (v : Verdict)
    → specialized (context_for q d) d ≡ Ok plain → taken ≡ taken_from q d → g ≡ q.mapping → t ≡ q.client.token → r ≡ q.asked
    → v ≡ verdict_under taken plain.owner (dacl_entries plain.dacl) g t r → whole_verdict q d ≡ Ok v
checked q d plain taken g t r v found is_taken is_mapping is_token is_asked is =
    let same : v ≡ plain_verdict q d plain =
    is ∙ ap (λ (n : ℕ). verdict_under n plain.owner (dacl_entries plain.dacl) g t r) is_taken
    ∙ ap (λ (m : MappingValue). verdict_under (taken_from q d) plain.owner (dacl_entries plain.dacl) m t r) is_mapping
    ∙ ap (λ (x : TokenValue). verdict_under (taken_from q d) plain.owner (dacl_entries plain.dacl) q.mapping x r) is_token
    ∙ ap (λ (x : ℕ). verdict_under (taken_from q d) plain.owner (dacl_entries plain.dacl) q.mapping q.client.token x) is_asked in
    ap (λ (x : Result DescriptorValue SpecializeFault). x >>= λ (p : DescriptorValue). Ok (plain_verdict q d p)) found ∙ ap Ok (sym same)

-- the verdict on the DACL as it is for the question, without what the label takes, answers the question
module _ (q : QuestionValue) (d : WholeDescriptor) (k : ContextValue) (same : k ≡ context_for q d) (g : MappingValue) (t : TokenValue) (r : ℕ) where
  plain_by : (found : Result Dacl SpecializeFault) → specialized_acl k d.dacl ≡ found → specialized (context_for q d) d ≡ (found >>= λ dacl. Ok (with_dacl d dacl))
  plain_by found at = ap (λ (c : ContextValue). specialized c d) (sym same) ∙ ap (λ f. f >>= λ dacl. Ok (with_dacl d dacl)) at

  pub less_label : (found : Result Dacl SpecializeFault) (taken : ℕ) (v left : Verdict) → specialized_acl k d.dacl ≡ found
      → taken ≡ taken_from q d → g ≡ q.mapping → t ≡ q.client.token → r ≡ q.asked
      → (found >>= λ dacl. Ok (verdict d.owner (dacl_entries dacl) g t r)) ≡ Ok v
      → ((owner : Option SidValue) (dacl : Option (List Ace)) (u : TokenValue) → v ≡ verdict owner dacl g u r → left ≡ verdict_under taken owner dacl g u r)
      → whole_verdict q d ≡ Ok left
  less_label (Ok dacl) taken v left at is_taken is_mapping is_token is_asked is under =
      let unlabelled : v ≡ verdict d.owner (dacl_entries dacl) g t r = cc is in
      checked q d (with_dacl d dacl) taken g t r left (plain_by (Ok dacl) at) is_taken is_mapping is_token is_asked (under d.owner (dacl_entries dacl) t unlabelled)
  less_label (Err fault) taken v left at is_taken is_mapping is_token is_asked is under = absurd cc

  same_fault : (found : Result Dacl SpecializeFault) (fault : SpecializeFault) → specialized_acl k d.dacl ≡ found
      → (found >>= λ dacl. Ok (verdict d.owner (dacl_entries dacl) g t r)) ≡ Err fault → whole_verdict q d ≡ Err fault
  same_fault (Ok dacl) fault at is = absurd cc
  same_fault (Err other) fault at is = ap (λ x. x >>= λ (p : DescriptorValue). Ok (plain_verdict q d p)) (plain_by (Err other) at) ∙ cc is

  pub fails : (error : SpecializeError) → Fails error (dacl_verdict k d.owner d.dacl g t r) → Fails error (whole_verdict q d)
  fails errors.Memory h = tt
  fails (errors.Fault fault) h = same_fault (specialized_acl k d.dacl) fault refl h
