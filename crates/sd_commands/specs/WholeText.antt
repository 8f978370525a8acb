-- What is answered to the text of a whole descriptor: under `--whole` to one that is printed, sorted or written.
use Rattle.std.specs.Prelude.{◌⊎◌, ℕ, List, codes}
use Rattle.sd_text.specs.declared.fault.TextFault.{TextFault}
use Rattle.sd_answer.specs.VerdictLines.{sddl_fault_line}
use Rattle.sd_usage.specs.declared.row.DescriptorCommand.{DescriptorCommand}
use Rattle.sd_usage.specs.declared.row.DescriptorCommand.TheVariants as about
use Rattle.sd_whole.specs.declared.descriptor.WholeDescriptor.{WholeDescriptor}
use Rattle.sd_whole_parse.specs.Part.{IsWhole, IsWholeFault}
use Rattle.sd_commands.specs.Answer.{AnswerValue, IsFault}
use Rattle.sd_commands.specs.Diagnostic.{sddl_fault_text, told_line}
use Rattle.sd_commands.specs.Whole.{PrintsWhole, WritesWhole}
use Rattle.sd_commands.specs.WholeSort.{AnswersSorted}
use Rattle.sd_commands.specs.declared.settings.Settings.{Settings}

-- what `tobin`, `sort` and `print` answer
abbrev pub AnswersWholeOn : Settings → DescriptorCommand → WholeDescriptor → AnswerValue → Type 0
AnswersWholeOn settings about.ToBinary = WritesWhole (codes "SDDL") settings
AnswersWholeOn settings about.Sort = AnswersSorted settings
AnswersWholeOn settings question = PrintsWhole (codes "SDDL") settings

-- the text of the argument of this name has this fault first
abbrev pub IsRefusedWhole : List ℕ → Settings → List ℕ → AnswerValue → Type 0
IsRefusedWhole argument settings text answer =
    (fault : TextFault) × (place : ℕ) × IsWholeFault settings.aliases text fault place
    × IsFault (sddl_fault_line fault place)
    (told_line argument (sddl_fault_text settings.points text fault place)) answer

-- what is answered of the whole descriptor that the argument of this name is, or its first fault
abbrev pub AnswersOfWhole : List ℕ → Settings → List ℕ → (WholeDescriptor → AnswerValue → Type 0) → AnswerValue
    → Type 0
AnswersOfWhole argument settings text Answers answer =
    ((d : WholeDescriptor) × IsWhole settings.aliases text d × Answers d answer)
    ⊎ IsRefusedWhole argument settings text answer

abbrev pub AnswersWholeText : Settings → DescriptorCommand → List ℕ → AnswerValue → Type 0
AnswersWholeText settings question text =
    AnswersOfWhole (codes "SDDL") settings text (AnswersWholeOn settings question)
