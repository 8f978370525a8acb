-- The question about a part is that about the tree with the part's chain.
use Rattle.std.proofs.Common.{◌≡◌, ℕ, Option, Result, subst}
use Rattle.sd_access.specs.Access.{whole_verdict}
use Rattle.sd_access.specs.Question.{QuestionValue}
use Rattle.sd_check.specs.declared.verdict.Verdict.{Verdict}
use Rattle.sd_client.specs.Client.{ClientValue}
use Rattle.sd_sid.specs.Mapping.{MappingValue}
use Rattle.sd_sid.specs.Sid.{SidValue}
use Rattle.sd_specialize.specs.Specialize.{Gives}
use Rattle.sd_specialize.specs.declared.fault.SpecializeError.{SpecializeError}
use Rattle.sd_whole.specs.declared.descriptor.WholeDescriptor.{WholeDescriptor}
use Rattle.sd_types.specs.Tree.{Chain}
use Rattle.sd_types.specs.Verdicts.{TreeQuestionValue, about, part_verdict}

abbrev pub question_from : ClientValue → Chain → Option SidValue → MappingValue → ℕ → QuestionValue
question_from client chain self mapping asked =
    record { client = client; chain = chain; principal_self = self; mapping = mapping; asked = asked }

pub asked_of : (q : TreeQuestionValue) (d : WholeDescriptor) (chain : Chain) (found : Result Verdict SpecializeError)
    (client : ClientValue) (self : Option SidValue) (mapping : MappingValue) (asked : ℕ)
    → client ≡ q.client → self ≡ q.principal_self → mapping ≡ q.mapping → asked ≡ q.asked
    → Gives (λ verdict. verdict) found (whole_verdict (question_from client chain self mapping asked) d)
    → Gives (λ verdict. verdict) found (part_verdict q d chain)
asked_of q d chain found client self mapping asked is_client is_self is_mapping is_asked h =
    let same : question_from client chain self mapping asked ≡ about q chain = cc in
    subst (λ (k : QuestionValue). Gives (λ verdict. verdict) found (whole_verdict k d)) same h
