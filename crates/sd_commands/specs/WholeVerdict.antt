-- What is answered under `--whole` of a verdict: that on a whole descriptor for who asks ([MS-DTYP] 2.5.3.2, 2.5.3.3),
-- or which of its entries can't be decided.
use Rattle.std.specs.Prelude.{ℕ, Bool, true, false, List, [], ◌∷◌, ◌++◌, Option, Result, Ok, Err, codes}
use Rattle.std.specs.Prelude.{if◌then◌else◌}
use Rattle.std.specs.Fmt.{decimal}
use Rattle.sd_check.specs.declared.verdict.Verdict.{Verdict}
use Rattle.sd_check.specs.declared.verdict.Verdict.TheVariants.{Granted}
use Rattle.sd_explain.specs.Parts.{reason_in, told_verdict}
use Rattle.sd_explain.specs.declared.reason.Reason.{Reason}
use Rattle.sd_acl.specs.Descriptor.{DescriptorValue}
use Rattle.sd_line.specs.Line.{LineOf, form, line_of}
use Rattle.sd_line.specs.declared.line.Value.TheVariants as values
use Rattle.sd_answer.specs.VerdictLines.{entry_fault_line, verdict_line}
use Rattle.sd_answer.specs.Why.{explanation_lines}
use Rattle.sd_answer.specs.declared.forms.TheConstants.{FAULT_NAMED}
use Rattle.sd_show.specs.declared.forms.TheConstants.{SACL_LEFT_OUT}
use Rattle.sd_whole.specs.declared.descriptor.WholeDescriptor.{WholeDescriptor}
use Rattle.sd_whole_text.specs.declared.no_text.AclKind.TheVariants.{Dacl}
use Rattle.sd_evaluation.specs.declared.truth.Truth.TheVariants.{Unknown}
use Rattle.sd_specialize.specs.Context.{ContextValue}
use Rattle.sd_specialize.specs.Specialize.{fault_name, fault_number, refused_name}
use Rattle.sd_specialize.specs.declared.fault.SpecializeFault.{SpecializeFault}
use Rattle.sd_specialize.specs.declared.fault.SpecializeFault.TheVariants.{Refused, TooLarge}
use Rattle.sd_client.specs.Client.{ClientValue}
use Rattle.sd_access.specs.Access.{whole_reasons, whole_verdict}
use Rattle.sd_access.specs.Limits.{may_be_denied}
use Rattle.sd_access.specs.Question.{QuestionValue}
use Rattle.sd_commands.specs.Answer.{AnswerValue, IsAnswer, IsFault}
use Rattle.sd_commands.specs.Chain.{types_of}
use Rattle.sd_commands.specs.Limits.{sacl_left_out}
use Rattle.sd_commands.specs.Diagnostic.{told_line}
use Rattle.sd_commands.specs.Whole.{entry_place}
use Rattle.sd_commands.specs.declared.command_answer.Outcome.{Outcome}
use Rattle.sd_commands.specs.declared.command_answer.Outcome.TheVariants as outcomes
use Rattle.sd_commands.specs.declared.settings.Settings.{Settings}
use Rattle.sd_commands.specs.declared.verdict.Form.{Form}
use Rattle.sd_commands.specs.declared.verdict.Form.TheVariants.{Short, Explained}

abbrev pub verdict_outcome : Verdict → Outcome
verdict_outcome (Granted mask) = outcomes.Done
verdict_outcome verdict = outcomes.Refused

-- ---- the question

abbrev pub question_of : Settings → ClientValue → ℕ → QuestionValue
question_of settings client asked = record {
  client = client;
  chain = types_of settings.chain;
  principal_self = settings.principal_self;
  mapping = settings.mapping;
  asked = asked;
}

-- a question about these object types, whoever asks: no condition is known
abbrev pub everyone_context : Settings → ContextValue
everyone_context settings = record {
  chain = types_of settings.chain;
  principal_self = settings.principal_self;
  is_restricted = false;
  truth = λ pass kind bytes. Unknown;
}

-- ---- what can't be decided

-- which fault it is, by number and name, and of an entry which one
abbrev pub fault_place : SpecializeFault → List ℕ
fault_place (Refused entry) = entry_place Dacl entry.entry
fault_place TooLarge = []

abbrev pub told_fault : SpecializeFault → List ℕ
told_fault fault = decimal (fault_number fault) ++ codes " " ++ fault_name fault ++ fault_place fault

abbrev pub specialize_fault_line : SpecializeFault → LineOf
specialize_fault_line (Refused entry) = entry_fault_line entry.entry (refused_name entry.kind)
specialize_fault_line TooLarge = line_of (form FAULT_NAMED) (values.Text (codes "dacl")
    ∷ values.Number (fault_number TooLarge) ∷ values.Text (fault_name TooLarge) ∷ [])

-- an entry of the argument of this name can't be decided
abbrev pub IsUndecided : List ℕ → SpecializeFault → AnswerValue → Type 0
IsUndecided argument fault = IsFault (specialize_fault_line fault) (told_line argument (told_fault fault))

-- ---- the answer

-- where it grants what the rest of the SACL may deny, a verdict isn't what was asked for
abbrev pub judged_outcome : WholeDescriptor → Verdict → Outcome
judged_outcome d verdict = if may_be_denied verdict d then outcomes.Refused else verdict_outcome verdict

-- the verdict's line, which says then that this is left out
abbrev pub short_line : Bool → Verdict → LineOf
short_line true (Granted mask) = line_of (form SACL_LEFT_OUT) (values.Mask mask ∷ [])
short_line may_be_denied verdict = verdict_line verdict

abbrev pub AnswersShortly : WholeDescriptor → Result Verdict SpecializeFault → AnswerValue → Type 0
AnswersShortly d (Ok verdict) =
    IsAnswer (short_line (may_be_denied verdict d) verdict ∷ []) [] (judged_outcome d verdict)
AnswersShortly d (Err fault) = IsUndecided (codes "SDDL") fault

-- the verdict and the reasons, by the entries of the plain descriptor that the whole one is for the question; then a
-- last line says what is left out
abbrev pub AnswersWhy : WholeDescriptor → Result (DescriptorValue × List (Option Reason)) SpecializeFault → AnswerValue
    → Type 0
AnswersWhy d (Ok explained) = let verdict = told_verdict (reason_in explained.1) in
    IsAnswer (explanation_lines explained.0 explained.1 ++ sacl_left_out (may_be_denied verdict d)) []
    (judged_outcome d verdict)
AnswersWhy d (Err fault) = IsUndecided (codes "SDDL") fault

-- the answer is the verdict on the descriptor, in this form, or which entry can't be decided
abbrev pub IsWholeVerdict : Settings → Form → WholeDescriptor → ClientValue → ℕ → AnswerValue → Type 0
IsWholeVerdict settings Short d client asked = AnswersShortly d (whole_verdict (question_of settings client asked) d)
IsWholeVerdict settings Explained d client asked = AnswersWhy d (whole_reasons (question_of settings client asked) d)
