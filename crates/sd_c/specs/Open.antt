-- The verdict on an open of an existing file ([MS-FSA] 2.1.5.1.2.1), over the bytes of its descriptor and that of its
-- parent, with a kept token.
use Rattle.std.specs.Prelude.{◌≡◌, ◌⊎◌, ℕ, ◌==◌, List, length, Option, Some, None, Result, Ok, Err, if◌then◌else◌}
use Rattle.sd_acl.specs.Descriptor.{DescriptorValue}
use Rattle.sd_check.specs.declared.verdict.Verdict.{Verdict}
use Rattle.sd_open.specs.Open.{open_verdict}
use Rattle.sd_wire.specs.Memory.{TakesMemory}
use Rattle.sd_wire.specs.Reading.{descriptor_read}
use Rattle.sd_wire.specs.declared.fault.WireFault.{WireFault}
use Rattle.sd_c.specs.declared.call_answer.CheckAnswer.{CheckAnswer}
use Rattle.sd_c.specs.declared.handle.Handle.{Handle}
use Rattle.sd_c.specs.declared.handle.kept.Kept.{Kept}
use Rattle.sd_c.specs.declared.mapping.Mapping.{Mapping}
use Rattle.sd_c.specs.declared.stop.NotRead.{NotRead}
use Rattle.sd_c.specs.declared.stop.NotRead.TheVariants.{Parent, TokenHandle}
use Rattle.sd_c.specs.CallAnswer.{check_memory}
use Rattle.sd_c.specs.Kept.{is_kept, token_in}
use Rattle.sd_c.specs.Request.{◌>>=◌, mapping_read, of_wire}
use Rattle.sd_c.specs.WholeCheck.{verdict_answer}

abbrev pub of_parent : Result DescriptorValue WireFault → Result (Option DescriptorValue) NotRead
of_parent (Ok d) = Ok (Some d)
of_parent (Err fault) = Err (Parent fault)

-- the parent's descriptor; without bytes there is no parent, as for a volume's root
abbrev pub parent_read : List ℕ → Result (Option DescriptorValue) NotRead
parent_read bytes = if length bytes == 0 then Ok None else of_parent (descriptor_read bytes)

-- by the token that is kept, then the mapping, then the file's descriptor, then its parent's
unfoldable pub open_by : List ℕ → List ℕ → Kept → Mapping → ℕ → Result Verdict NotRead
open_by file parent kept mapping asked =
    token_in kept >>= λ t.
    (mapping_read mapping >>= λ g.
    (of_wire (descriptor_read file) >>= λ d.
    (parent_read parent >>= λ p. Ok (open_verdict d p g t asked))))

-- by a token's handle
unfoldable pub open_read : List ℕ → List ℕ → Handle → Mapping → ℕ → Result Verdict NotRead
open_read file parent token mapping asked =
    is_kept token.is_there TokenHandle >>= λ u. open_by file parent token.seal.kept mapping asked

-- memory runs out only where one of the descriptors has entries
abbrev pub OpenTakesMemory : List ℕ → List ℕ → Type 0
OpenTakesMemory file parent = TakesMemory file ⊎ TakesMemory parent

-- the verdict, or the first argument that is refused; or memory ran out
abbrev pub AnswersOpen : List ℕ → List ℕ → Result Verdict NotRead → CheckAnswer → Type 0
AnswersOpen file parent read answer =
    (answer ≡ verdict_answer read) ⊎ (OpenTakesMemory file parent × (answer ≡ check_memory))
