-- What `hudarin_who`, `hudarin_lint` and `hudarin_compare` return: who is granted rights, what is doubtful in a
-- descriptor, and what a change of it grants and takes away, of all tokens that have a base.
use Rattle.std.specs.Prelude.{◌≡◌, ◌⊎◌, ◌<◌, ℕ, List, [], ◌++◌, length, None, Result, Ok, Err, IsOk}
use Rattle.sd_sid.specs.Mapping.{MappingValue}
use Rattle.sd_sid.specs.Mask.{mask_of}
use Rattle.sd_sid.specs.Sid.{SidValue}
use Rattle.sd_acl.specs.Descriptor.{DescriptorValue}
use Rattle.sd_check.specs.Check.{dacl_entries}
use Rattle.sd_check.specs.declared.token.GroupState.{GroupState}
use Rattle.sd_analysis.specs.Compare.{AreGains, is_reported}
use Rattle.sd_analysis.specs.Descendants.{AreDescendantChanges}
use Rattle.sd_analysis.specs.Who.{AllBeyond, HasEachOnce, IsMost, IsWho}
use Rattle.sd_analysis.specs.declared.compare_report.Change.{Change}
use Rattle.sd_analysis.specs.declared.descendants_compare.DescendantChange.{DescendantChange}
use Rattle.sd_analysis.specs.declared.who_has.Access.{Access}
use Rattle.sd_answer.specs.Compare.{gains_and_losses}
use Rattle.sd_answer.specs.Descendants.{descendants_lines, inheritance_lines}
use Rattle.sd_answer.specs.Lint.{AreFindings}
use Rattle.sd_answer.specs.Parts.{entries_in, parts_in}
use Rattle.sd_answer.specs.Who.{rights_asked, who_lines}
use Rattle.sd_line.specs.Line.{LineOf}
use Rattle.sd_c.specs.declared.analysis.CompareAnswer.{CompareAnswer}
use Rattle.sd_c.specs.declared.call_answer.CheckAnswer.{CheckAnswer}
use Rattle.sd_c.specs.declared.handle.Handle.{Handle}
use Rattle.sd_c.specs.declared.handle.kept.Kept.{Kept}
use Rattle.sd_c.specs.declared.mapping.Mapping.{Mapping}
use Rattle.sd_c.specs.declared.stop.NotRead.{NotRead}
use Rattle.sd_c.specs.declared.stop.NotRead.TheVariants.{DescriptorHandle, NewHandle}
use Rattle.sd_c.specs.declared.stop.Stop.{Stop}
use Rattle.sd_c.specs.declared.stop.Stop.TheVariants as stops
use Rattle.sd_c.specs.CallAnswer.{unread, why_not}
use Rattle.sd_c.specs.Kept.{KeepsLines, LinesInUse, descriptor_in, is_kept}
use Rattle.sd_c.specs.Request.{◌>>=◌, Fails, groups_read, mapping_read}

-- ---- the arguments, from the left

-- the descriptor that a handle keeps
unfoldable pub kept_in : Handle → Result DescriptorValue NotRead
kept_in handle = is_kept handle.is_there DescriptorHandle >>= λ u. descriptor_in handle.seal.kept

-- the new descriptor of a comparison
abbrev pub as_new : Result DescriptorValue NotRead → Result DescriptorValue NotRead
as_new (Ok d) = Ok d
as_new (Err why) = Err NewHandle

-- the old and the new descriptor
unfoldable pub descriptors_in : Kept → Kept → Result (DescriptorValue × DescriptorValue) NotRead
descriptors_in old new = descriptor_in old >>= λ d. (as_new (descriptor_in new) >>= λ e. Ok (d, e))

-- the old and the new descriptor that two handles keep
unfoldable pub both_kept : Handle → Handle → Result (DescriptorValue × DescriptorValue) NotRead
both_kept old new =
    is_kept old.is_there DescriptorHandle >>= λ u.
    (is_kept new.is_there NewHandle >>= λ v. descriptors_in old.seal.kept new.seal.kept)

-- the groups that all tokens in question have, and what the generic rights stand for
pub record BaseValue : Type 0 where
  pub groups : List (SidValue × GroupState)
  pub mapping : MappingValue

unfoldable pub base_read : List ℕ → List ℕ → Mapping → Result BaseValue NotRead
base_read groups states mapping =
    groups_read groups states 0 (length states) >>= λ base.
    (mapping_read mapping >>= λ g. Ok (record { groups = base; mapping = g }))

-- what is kept, one descriptor or two, and the base
unfoldable pub asked_over : {D : Type 0} → Result D NotRead → List ℕ → List ℕ → Mapping → Result (D × BaseValue) NotRead
asked_over kept groups states mapping = kept >>= λ d. (base_read groups states mapping >>= λ base. Ok (d, base))

-- why there is no answer: the first invalid argument, or out of memory, which takes valid handles, and groups to hold
-- or lines to write
abbrev pub Stops : {D : Type 0} → Result D NotRead → List ℕ → List ℕ → Mapping → Stop → Type 0
Stops kept groups states mapping stop =
    Fails stop (asked_over kept groups states mapping)
    × (stop ≡ stops.Memory → IsOk kept × ((0 < length states) ⊎ IsOk (asked_over kept groups states mapping)))

-- the lines are these of what is kept and the base
abbrev pub AreLinesOf :
    {D : Type 0} → (D → BaseValue → List LineOf → Type 0) → Result D NotRead → List ℕ → List ℕ → Mapping
    → List LineOf → Type 0
AreLinesOf {D} AreLines kept groups states mapping ls =
    (d : D) × (base : BaseValue) × (asked_over kept groups states mapping ≡ Ok (d, base)) × AreLines d base ls

-- they are kept, or nothing is for a reason that holds
abbrev pub AnswersLines :
    {D : Type 0} → (D → BaseValue → List LineOf → Type 0) → Result D NotRead → List ℕ → List ℕ → Mapping
    → (old new : Handle) → CheckAnswer → Type 0
AnswersLines {D} AreLines kept groups states mapping old new answer =
    ((ls : List LineOf) × AreLinesOf AreLines kept groups states mapping ls × KeepsLines ls old new
    × (answer ≡ unread 0 0 0 0))
    ⊎ ((stop : Stop) × (old.is_there ≡ 0) × Stops kept groups states mapping stop × (new ≡ old)
    × (answer ≡ why_not stop))
    ⊎ LinesInUse old new answer

-- ---- who

-- the lines of accesses that say exactly who is granted each right once, of the tokens with the base
abbrev pub AreWhoLines : ℕ → DescriptorValue → BaseValue → List LineOf → Type 0
AreWhoLines asked d base ls =
    (all : List Access)
    × IsWho d.owner (dacl_entries d.dacl) base.mapping base.groups (rights_asked base.mapping asked) all
    × IsMost d.owner (dacl_entries d.dacl) base.mapping base.groups (rights_asked base.mapping asked) all
    × HasEachOnce (rights_asked base.mapping asked) all
    × AllBeyond base.groups all
    × (ls ≡ who_lines all)

-- ---- lint

-- the lines of what is doubtful
abbrev pub AreLintLines : DescriptorValue → BaseValue → List LineOf → Type 0
AreLintLines d base ls = AreFindings base.mapping base.groups d ls

-- ---- compare

-- the bits of all changes
abbrev pub bits_of : List Change → ℕ
bits_of changes = mask_of (is_reported changes) 32

-- the lines of what tokens with the base gain and lose where the second descriptor takes the place of the first, of the
-- object itself, none where both are the same to a check, and of what is made in it, if it is a container; and whether
-- its list is protected from inheritance where it was not. The bits that some token gains of the object itself, and
-- those that some token loses
abbrev pub AreCompareLines :
    DescriptorValue × DescriptorValue → BaseValue → (gained_bits lost_bits : ℕ) → List LineOf → Type 0
AreCompareLines ds base gained_bits lost_bits ls =
    (gained lost : List Change) × (below : List DescendantChange)
    × AreGains base.mapping base.groups (parts_in ds.0) (parts_in ds.1) gained
    × AreGains base.mapping base.groups (parts_in ds.1) (parts_in ds.0) lost
    × (parts_in ds.0 ≡ parts_in ds.1 → (gained ≡ []) × (lost ≡ []))
    × AreDescendantChanges base.mapping base.groups (entries_in ds.0.dacl) (entries_in ds.1.dacl) below
    × (ls ≡ gains_and_losses None (parts_in ds.0) (parts_in ds.1) gained lost
    ++ descendants_lines below ++ inheritance_lines ds.0.protected ds.1.protected)
    × (gained_bits ≡ bits_of gained) × (lost_bits ≡ bits_of lost)

abbrev pub no_comparison : CheckAnswer → CompareAnswer
no_comparison told = record { answer = told; gained = 0; lost = 0 }

-- the lines are kept, or nothing is for a reason that holds
abbrev pub AnswersCompare :
    Result (DescriptorValue × DescriptorValue) NotRead → List ℕ → List ℕ → Mapping → (old new : Handle) → CompareAnswer
    → Type 0
AnswersCompare kept groups states mapping old new answer =
    ((ls : List LineOf)
    × AreLinesOf (λ ds base lines. AreCompareLines ds base answer.gained answer.lost lines)
    kept groups states mapping ls
    × KeepsLines ls old new × (answer.answer ≡ unread 0 0 0 0))
    ⊎ ((stop : Stop) × (old.is_there ≡ 0) × Stops kept groups states mapping stop × (new ≡ old)
    × (answer ≡ no_comparison (why_not stop)))
    ⊎ ((old.is_there ≡ 1) × (new ≡ old) × (answer ≡ no_comparison (unread 11 17 0 0)))
