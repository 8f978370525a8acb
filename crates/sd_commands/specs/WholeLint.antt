-- What `lint` answers under `--whole` and `--object`: the findings in a whole DACL, whoever asks.
use Rattle.std.specs.Prelude.{List, [], ◌++◌, Result, Ok, Err, codes}
use Rattle.sd_sid.specs.Sid.{SidValue}
use Rattle.sd_acl.specs.Descriptor.{DescriptorValue}
use Rattle.sd_check.specs.declared.token.GroupState.{GroupState}
use Rattle.sd_specialize.specs.declared.fault.SpecializeFault.{SpecializeFault}
use Rattle.sd_whole.specs.declared.descriptor.WholeDescriptor.{WholeDescriptor}
use Rattle.sd_line.specs.Line.{LineOf, form, line_of}
use Rattle.sd_line.specs.Spelling.{right_names_of}
use Rattle.sd_answer.specs.declared.forms.TheConstants.{CLEAN}
use Rattle.sd_whole_lint.specs.Findings.{AreWholeFindings}
use Rattle.sd_commands.specs.Answer.{AnswerValue, IsFound, Telling}
use Rattle.sd_commands.specs.Chain.{types_of}
use Rattle.sd_commands.specs.Diagnostic.{object_note}
use Rattle.sd_commands.specs.Object.{leaves_out, looked_at}
use Rattle.sd_commands.specs.WholeRisks.{whole_risk_lines}
use Rattle.sd_commands.specs.WholeVerdict.{IsUndecided}
use Rattle.sd_commands.specs.declared.settings.Settings.{Settings}

-- the findings, the lines of risks, and what is left out, or that there are none; or why there are no risks
abbrev pub FoundBeside : (left_out lines : List LineOf) → Result (List LineOf) SpecializeFault → AnswerValue → Type 0
FoundBeside left_out lines (Ok risks) = IsFound (line_of (form CLEAN) []) ((lines ++ risks) ++ left_out)
FoundBeside left_out lines (Err fault) = IsUndecided (codes "SDDL") fault

abbrev pub PrintsWholeFindings : Settings → WholeDescriptor → List LineOf → DescriptorValue
    → List (SidValue × GroupState) → AnswerValue → Type 0
PrintsWholeFindings settings whole left_out d base answer = (lines : List LineOf)
    × AreWholeFindings (right_names_of settings.spelling) (types_of settings.chain) settings.mapping base whole.dacl d
    lines
    × FoundBeside left_out lines (whole_risk_lines settings whole d base) answer

-- those in the descriptor as it is looked at, and whether something was left out of it
abbrev pub AnswersWholeFindings : Settings → WholeDescriptor → List LineOf → DescriptorValue
    → List (SidValue × GroupState) → AnswerValue → Type 0
AnswersWholeFindings settings whole left_out d base = Telling (object_note (leaves_out settings.object d))
    (PrintsWholeFindings settings whole left_out (looked_at settings.object d) base)
