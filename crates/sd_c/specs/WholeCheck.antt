-- The check of the whole descriptor that bytes hold, by a kept client ([MS-DTYP] 2.5.3).
use Rattle.std.specs.Prelude.{◌≡◌, ◌⊎◌, ℕ, ◌<◌, ◌/◌, ◌%◌, ◌==◌, ◌&&◌, nat_lt, List, length, map, Option, Some, None}
use Rattle.std.specs.Prelude.{Result, Ok, Err, if◌then◌else◌}
use Rattle.std.specs.Simd.{first_chunks}
use Rattle.sd_access.specs.Access.{TakesMemory, whole_reasons, whole_verdict}
use Rattle.sd_access.specs.Limits.{may_be_denied}
use Rattle.sd_access.specs.Question.{QuestionValue}
use Rattle.sd_check.specs.declared.verdict.Verdict.{Verdict}
use Rattle.sd_client.specs.Client.{ClientValue}
use Rattle.sd_explain.specs.Parts.{reason_in, told_verdict}
use Rattle.sd_explain.specs.declared.reason.Reason.{Reason}
use Rattle.sd_sid.specs.Mapping.{MappingValue}
use Rattle.sd_sid.specs.Sid.{SidValue}
use Rattle.sd_sid.specs.SidBytes.{sid_reading}
use Rattle.sd_sid.specs.declared.sid.SidError.{SidError}
use Rattle.sd_specialize.specs.declared.fault.SpecializeFault.{SpecializeFault}
use Rattle.sd_whole.specs.Memory.{WholeTakesMemory}
use Rattle.sd_whole.specs.Reading.{whole_read}
use Rattle.sd_whole.specs.declared.descriptor.WholeDescriptor.{WholeDescriptor}
use Rattle.sd_whole.specs.declared.types.Guid.{Guid}
use Rattle.sd_wire.specs.declared.fault.WireFault.{WireFault}
use Rattle.sd_c.specs.declared.call_answer.CheckAnswer.{CheckAnswer}
use Rattle.sd_c.specs.declared.explaining.Explained.{Explained}
use Rattle.sd_c.specs.declared.handle.Handle.{Handle}
use Rattle.sd_c.specs.declared.handle.kept.Kept.{Kept}
use Rattle.sd_c.specs.declared.mapping.Mapping.{Mapping}
use Rattle.sd_c.specs.declared.stop.NotRead.{NotRead}
use Rattle.sd_c.specs.declared.stop.NotRead.TheVariants.{ClientHandle, Descriptor, MayBeDenied, PrincipalSelf, Types}
use Rattle.sd_c.specs.declared.stop.NotRead.TheVariants.{Undecided}
use Rattle.sd_c.specs.CallAnswer.{check_memory, not_read, verdict_given}
use Rattle.sd_c.specs.Explaining.{parts_of, unexplained}
use Rattle.sd_c.specs.Kept.{client_in, is_kept}
use Rattle.sd_c.specs.Request.{◌>>=◌, mapping_read}

-- ---- the arguments beside the descriptor

abbrev pub types_of : List (List ℕ) → List Guid
types_of parts = map (λ part. record { bytes = part }) parts

-- each 16 bytes as an object type ([MS-DTYP] 2.3.4.2)
abbrev pub types_in : List ℕ → List Guid
types_in bytes = types_of (first_chunks 16 (length bytes / 16) bytes)

-- at most five object types, of 16 bytes each: fewer than 96 bytes
abbrev pub types_read : List ℕ → Result (List Guid) NotRead
types_read bytes = if (length bytes % 16 == 0) && nat_lt (length bytes) 96 then Ok (types_in bytes) else Err Types

abbrev pub of_self : Result (SidValue × ℕ) SidError → Result (Option SidValue) NotRead
of_self (Ok x) = Ok (Some x.0)
of_self (Err fault) = Err (PrincipalSelf fault)

-- the SID that PRINCIPAL SELF stands for is at the front of the bytes; without bytes it stands for itself
abbrev pub self_read : List ℕ → Result (Option SidValue) NotRead
self_read bytes = if length bytes == 0 then Ok None else of_self (sid_reading bytes)

-- the terms of a question: the SID that PRINCIPAL SELF stands for, and what the generic rights do
pub record TermsValue : Type 0 where
  pub principal_self : Option SidValue
  pub mapping : MappingValue

-- who PRINCIPAL SELF is, then the mapping
abbrev pub terms_read : List ℕ → Mapping → Result TermsValue NotRead
terms_read principal_self mapping =
    self_read principal_self >>= λ sid.
    (mapping_read mapping >>= λ g. Ok (record { principal_self = sid; mapping = g }))

abbrev pub question_of : ClientValue → List Guid → TermsValue → ℕ → QuestionValue
question_of c chain terms asked = record {
  client = c;
  chain = chain;
  principal_self = terms.principal_self;
  mapping = terms.mapping;
  asked = asked;
}

-- the client that is kept, then the object types, then the terms
unfoldable pub question_by : Kept → List ℕ → List ℕ → Mapping → ℕ → Result QuestionValue NotRead
question_by kept types principal_self mapping asked =
    client_in kept >>= λ c.
    (types_read types >>= λ chain. (terms_read principal_self mapping >>= λ t. Ok (question_of c chain t asked)))

-- the question of a client's handle
unfoldable pub question_read : Handle → List ℕ → List ℕ → Mapping → ℕ → Result QuestionValue NotRead
question_read client types principal_self mapping asked =
    is_kept client.is_there ClientHandle >>= λ u.
    question_by client.seal.kept types principal_self mapping asked

-- ---- the descriptor, after them

abbrev pub of_whole : Result WholeDescriptor WireFault → Result WholeDescriptor NotRead
of_whole (Ok w) = Ok w
of_whole (Err fault) = Err (Descriptor fault)

-- what is decided, or why it can't be
abbrev pub of_decision : {A : Type 0} → Result A SpecializeFault → Result A NotRead
of_decision (Ok answer) = Ok answer
of_decision (Err fault) = Err (Undecided fault)

-- no grant stands that an entry of the SACL may deny (2.5.3.3)
abbrev pub unless_denied : WholeDescriptor → Verdict → Result Verdict NotRead
unless_denied w verdict = if may_be_denied verdict w then Err MayBeDenied else Ok verdict

-- the verdict on a question about the whole descriptor that the bytes hold
abbrev pub verdict_over : List ℕ → Result QuestionValue NotRead → Result Verdict NotRead
verdict_over bytes question =
    question >>= λ q.
    (of_whole (whole_read bytes) >>= λ w. (of_decision (whole_verdict q w) >>= λ verdict. unless_denied w verdict))

-- the reasons of the same question, by the plain descriptor that the whole one is for it
abbrev pub reasons_over : List ℕ → Result QuestionValue NotRead → Result (List (Option Reason)) NotRead
reasons_over bytes question =
    question >>= λ q.
    (of_whole (whole_read bytes) >>= λ w. (of_decision (whole_reasons q w) >>= λ reasons.
    (unless_denied w (told_verdict (reason_in reasons.1)) >>= λ verdict. Ok reasons.1)))

-- ---- the answer

abbrev pub verdict_answer : Result Verdict NotRead → CheckAnswer
verdict_answer (Ok verdict) = verdict_given verdict
verdict_answer (Err why) = not_read why

-- memory runs out only where there are object types, or where the descriptor has entries
abbrev pub TakesMemoryOver : List ℕ → List ℕ → Type 0
TakesMemoryOver bytes types =
    (0 < length types) ⊎ WholeTakesMemory bytes
    ⊎ ((w : WholeDescriptor) × (whole_read bytes ≡ Ok w) × TakesMemory w)

-- the verdict, or the first argument that is refused; or memory ran out
abbrev pub AnswersWhole : List ℕ → List ℕ → Result QuestionValue NotRead → CheckAnswer → Type 0
AnswersWhole bytes types question answer =
    (answer ≡ verdict_answer (verdict_over bytes question)) ⊎ (TakesMemoryOver bytes types × (answer ≡ check_memory))

-- the verdict's answer, and the parts of the reasons; no parts without a verdict
abbrev pub explained_by : Result Verdict NotRead → Result (List (Option Reason)) NotRead → Explained
explained_by verdict (Ok reasons) =
    record { answer = verdict_answer verdict; parts = parts_of (reason_in reasons) }
explained_by verdict (Err why) = unexplained (not_read why)

-- the verdict with its reasons, or the first argument that is refused; or memory ran out
abbrev pub ExplainsWhole : List ℕ → List ℕ → Result QuestionValue NotRead → Explained → Type 0
ExplainsWhole bytes types question answer =
    (answer ≡ explained_by (verdict_over bytes question) (reasons_over bytes question))
    ⊎ (TakesMemoryOver bytes types × (answer ≡ unexplained check_memory))
