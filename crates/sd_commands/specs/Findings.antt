-- What `lint` answers: the findings in a plain descriptor.
use Rattle.std.specs.Prelude.{List, [], ◌++◌}
use Rattle.sd_sid.specs.Sid.{SidValue}
use Rattle.sd_acl.specs.Descriptor.{DescriptorValue}
use Rattle.sd_check.specs.declared.token.GroupState.{GroupState}
use Rattle.sd_line.specs.Line.{LineOf, form, line_of}
use Rattle.sd_answer.specs.Lint.{AreFindings}
use Rattle.sd_answer.specs.declared.forms.TheConstants.{CLEAN}
use Rattle.sd_commands.specs.Answer.{AnswerValue, IsFound, Telling}
use Rattle.sd_commands.specs.Diagnostic.{object_note}
use Rattle.sd_commands.specs.Object.{leaves_out, looked_at}
use Rattle.sd_commands.specs.Risks.{risk_lines}
use Rattle.sd_commands.specs.declared.settings.Settings.{Settings}

-- the findings, or that there are none
abbrev pub PrintsFindings : Settings → DescriptorValue → List (SidValue × GroupState) → AnswerValue → Type 0
PrintsFindings settings d base answer = (lines : List LineOf) × AreFindings settings.mapping base d lines
    × IsFound (line_of (form CLEAN) []) (lines ++ risk_lines settings d base) answer

-- the findings in the descriptor as it is looked at, and whether something was left out of it
abbrev pub AnswersFindings : Settings → DescriptorValue → List (SidValue × GroupState) → AnswerValue → Type 0
AnswersFindings settings d base =
    Telling (object_note (leaves_out settings.object d)) (PrintsFindings settings (looked_at settings.object d) base)
