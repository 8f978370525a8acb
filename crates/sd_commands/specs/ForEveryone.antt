-- What is answered of a whole descriptor whoever asks: of the plain one that it is for the object types asked about
-- ([MS-DTYP] 2.5.3.2).
use Rattle.std.specs.Prelude.{◌≡◌, ℕ, List, ◌++◌, None, Result, Ok, Err}
use Rattle.sd_acl.specs.Descriptor.{DescriptorValue, descriptor_of}
use Rattle.sd_specialize.specs.Copies.{with_copies}
use Rattle.sd_specialize.specs.Marked.{conditionals, marked}
use Rattle.sd_specialize.specs.declared.fault.SpecializeFault.{SpecializeFault}
use Rattle.sd_whole.specs.Plain.{has_sacl}
use Rattle.sd_whole.specs.Reading.{WholeAcl}
use Rattle.sd_whole.specs.declared.ace.TypedAce.{TypedAce}
use Rattle.sd_whole.specs.declared.descriptor.WholeDescriptor.{WholeDescriptor}
use Rattle.sd_whole_parse.specs.Part.{IsWhole}
use Rattle.sd_commands.specs.Answer.{AnswerValue, AnswersFit, Telling, answer_of}
use Rattle.sd_commands.specs.Diagnostic.{sacl_note}
use Rattle.sd_commands.specs.Required.{missing_dacl}
use Rattle.sd_commands.specs.WholeText.{AnswersOfWhole}
use Rattle.sd_commands.specs.WholeVerdict.{IsUndecided, everyone_context}
use Rattle.sd_commands.specs.declared.for_everyone.ForEveryone.{ForEveryone}
use Rattle.sd_commands.specs.declared.for_everyone.ForEveryone.TheVariants.{Plain, Refused}
use Rattle.sd_commands.specs.declared.settings.Settings.{Settings}

-- the entries whose conditions have markers: those of a list before this one, and then its own
abbrev pub marks_of : (before dacl : WholeAcl) → List TypedAce
marks_of before dacl = conditionals before ++ conditionals dacl

-- the plain descriptor that the whole one is, or the entry that depends on who asks
abbrev pub seen_as : (before : WholeAcl) → Settings → WholeDescriptor → Result DescriptorValue SpecializeFault
seen_as before settings d = marked (everyone_context settings) (marks_of before d.dacl) d

-- the plain one of either as `compare` looks at it: with copies of its entries for the markers of both
abbrev pub compared_as : Settings → (old new : WholeDescriptor) → DescriptorValue → DescriptorValue
compared_as settings old new plain = with_copies (everyone_context settings) (marks_of old.dacl new.dacl) plain

-- what is answered of that, where the whole one is the argument of this name, or which entry it is
abbrev pub AnswersSeen : List ℕ → Result DescriptorValue SpecializeFault
    → (DescriptorValue → AnswerValue → Type 0) → AnswerValue → Type 0
AnswersSeen argument (Ok d) Answers = Answers d
AnswersSeen argument (Err fault) Answers = IsUndecided argument fault

-- what is answered of the plain descriptor that the whole one is, where it doesn't lack the list that is required, and
-- what of its SACL is left out
abbrev pub AnswersForEveryone : (argument what : List ℕ) → (before : WholeAcl) → Settings → WholeDescriptor
    → (DescriptorValue → AnswerValue → Type 0) → AnswerValue → Type 0
AnswersForEveryone argument what before settings d Answers = Telling (sacl_note argument what (has_sacl d))
    (AnswersFit argument (missing_dacl settings.require_dacl d.dacl)
    (AnswersSeen argument (seen_as before settings d) Answers))

-- what is answered of the whole descriptor of the text, and of that
abbrev pub AnswersOfEveryone : (argument what : List ℕ) → (before : WholeAcl) → Settings → List ℕ
    → (WholeDescriptor → DescriptorValue → AnswerValue → Type 0) → AnswerValue → Type 0
AnswersOfEveryone argument what before settings text Answers =
    AnswersOfWhole argument settings text (λ d. AnswersForEveryone argument what before settings d (Answers d))

-- ---- what the code returns

-- the plain descriptor that the whole one is; or, where it is none, the answer without the SACL's note
abbrev pub IsPlainFor : List ℕ → (before : WholeAcl) → Settings → WholeDescriptor → ForEveryone → Type 0
IsPlainFor argument before settings d (Plain plain) =
    (missing_dacl settings.require_dacl d.dacl ≡ None)
    × (seen_as before settings d ≡ Ok (descriptor_of plain.descriptor)) × (plain.whole ≡ d)
IsPlainFor argument before settings d (Refused answer) =
    AnswersFit argument (missing_dacl settings.require_dacl d.dacl)
    (AnswersSeen argument (seen_as before settings d) (λ plain other. ⊥)) (answer_of answer)

-- with it
abbrev pub IsForEveryone : (argument what : List ℕ) → (before : WholeAcl) → Settings → WholeDescriptor
    → ForEveryone → Type 0
IsForEveryone argument what before settings d (Plain plain) =
    IsPlainFor argument before settings d (Plain plain)
IsForEveryone argument what before settings d (Refused answer) =
    AnswersForEveryone argument what before settings d (λ plain other. ⊥) (answer_of answer)

-- the plain descriptor that the one of the text is; or, where it is none, the answer
abbrev pub IsOfEveryone : (argument what : List ℕ) → (before : WholeAcl) → Settings → List ℕ → ForEveryone
    → Type 0
IsOfEveryone argument what before settings text (Plain plain) = (d : WholeDescriptor)
    × IsWhole settings.aliases text d × IsForEveryone argument what before settings d (Plain plain)
IsOfEveryone argument what before settings text (Refused answer) =
    AnswersOfEveryone argument what before settings text (λ whole plain other. ⊥) (answer_of answer)
