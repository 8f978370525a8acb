-- The answers of commands: lines, what standard error says beside them, and whether they are what was asked for.
use Rattle.std.specs.Prelude.{◌≡◌, ℕ, Bool, List, [], ◌∷◌, ◌++◌, codes, string_bytes, if◌then◌else◌}
use Rattle.std.specs.Prelude.{Option, Some, None}
use Rattle.sd_acl.specs.Descriptor.{DescriptorValue}
use Rattle.sd_text.specs.declared.fault.TextError.{TextError}
use Rattle.sd_text.specs.declared.fault.TextError.TheVariants.{Fault as FaultAt, Memory}
use Rattle.sd_wire.specs.Fault.{wire_fault_name, wire_fault_number}
use Rattle.sd_wire.specs.declared.fault.WireFault.{WireFault}
use Rattle.sd_line.specs.Line.{LineOf, form, line_of}
use Rattle.sd_line.specs.declared.line.Value.{Value}
use Rattle.sd_line.specs.declared.line.Value.TheVariants as values
use Rattle.sd_answer.specs.VerdictLines.{fault_line}
use Rattle.sd_answer.specs.declared.forms.TheConstants.{FAULT_NAMED}
use Rattle.sd_commands.specs.Diagnostic.{all_left_out, fault_text, sacl_note, told_line}
use Rattle.sd_commands.specs.declared.command_answer.Answer.{Answer}
use Rattle.sd_commands.specs.declared.command_answer.Outcome.{Outcome}
use Rattle.sd_commands.specs.declared.command_answer.Outcome.TheVariants.{Done, Refused, Fault}
use Rattle.sd_commands.specs.declared.settings.Settings.{Settings}

-- ---- lines

-- the line for bytes that hold no descriptor
abbrev pub wire_fault_line : WireFault → LineOf
wire_fault_line fault = line_of (form FAULT_NAMED) (values.Text (codes "wire")
    ∷ values.Number (wire_fault_number fault) ∷ values.Text (wire_fault_name fault) ∷ [])

-- a value alone, in a line of no kind
abbrev pub value_line : Value → LineOf
value_line value = line_of ([], codes "{text}") (value ∷ [])

-- the status behind an answer: that of a fault is one of its own where this is asked for
abbrev pub outcome_status : Bool → Outcome → ℕ
outcome_status is_strict Done = 0
outcome_status is_strict Refused = 1
outcome_status is_strict Fault = if is_strict then 4 else 1

-- the worse of two: a fault, or else a refusal
abbrev pub or_worse : Outcome → Outcome → Outcome
or_worse Fault other = Fault
or_worse Refused Fault = Fault
or_worse Refused other = Refused
or_worse Done other = other

-- ---- answers

-- the lines, what standard error says beside them, and the outcome
pub record AnswerValue : Type 0 where
  pub lines : List LineOf
  pub told : List ℕ
  pub outcome : Outcome

abbrev pub answer_of : Answer → AnswerValue
answer_of answer = record {
  lines = answer.lines.items;
  told = string_bytes answer.told;
  outcome = answer.outcome;
}

abbrev pub IsAnswer : List LineOf → List ℕ → Outcome → AnswerValue → Type 0
IsAnswer lines told outcome answer =
    (answer.lines ≡ lines) × (answer.told ≡ told) × (answer.outcome ≡ outcome)

-- these are the lines, and what was asked for was done
abbrev pub AreDone : List LineOf → AnswerValue → Type 0
AreDone lines = IsAnswer lines [] Done

-- this is the one line, and what was asked for was done
abbrev pub IsDone : LineOf → AnswerValue → Type 0
IsDone line = AreDone (line ∷ [])

-- these are the lines, and after them what is left out: nothing, or not all that was asked for was done
abbrev pub AreDoneBut : (left_out : List LineOf) → List LineOf → AnswerValue → Type 0
AreDoneBut [] lines = AreDone lines
AreDoneBut (line ∷ left_out) lines = IsAnswer (lines ++ line ∷ left_out) [] Refused

-- these are the lines of what was found; or this one, where nothing was
abbrev pub IsFound : (nothing : LineOf) → List LineOf → AnswerValue → Type 0
IsFound nothing [] = IsDone nothing
IsFound nothing (line ∷ lines) = IsAnswer (line ∷ lines) [] Refused

-- this line of a fault is the answer, and standard error says this of it
abbrev pub IsFault : LineOf → List ℕ → AnswerValue → Type 0
IsFault line told = IsAnswer (line ∷ []) told Fault

-- an argument's text has this fault first; out of memory is no answer
abbrev pub IsFaultOf : Settings → List ℕ → List ℕ → List ℕ → TextError → AnswerValue → Type 0
IsFaultOf settings what name text (FaultAt fault place) answer =
    IsFault (fault_line what) (told_line name (fault_text settings.points text fault place)) answer
IsFaultOf settings what name text Memory answer = ⊥

-- the descriptor lacks the list that is required
abbrev pub IsMissingDacl : List ℕ → List ℕ → AnswerValue → Type 0
IsMissingDacl argument missing answer = IsFault (fault_line (codes "nodacl")) (told_line argument missing) answer

-- what is answered of a descriptor that is the argument of this name, where it doesn't lack the list that is required
abbrev pub AnswersFit : List ℕ → Option (List ℕ) → (AnswerValue → Type 0) → AnswerValue → Type 0
AnswersFit argument None Answers answer = Answers answer
AnswersFit argument (Some missing) Answers answer = IsMissingDacl argument missing answer

-- a descriptor
abbrev pub descriptor_line : DescriptorValue → LineOf
descriptor_line d = value_line (values.Descriptor d)

-- ---- what standard error says beside an answer

-- the other answer, and before what else standard error says, this
unfoldable pub IsTold : List ℕ → AnswerValue → AnswerValue → Type 0
IsTold note inner answer = answer ≡ record inner { told = note ++ inner.told }

-- what is answered otherwise, with that
abbrev pub Telling : List ℕ → (AnswerValue → Type 0) → AnswerValue → Type 0
Telling note Answers answer = (inner : AnswerValue) × IsTold note inner answer × Answers inner

-- what is answered otherwise, and where a SACL was left out, that
abbrev pub Noting : List ℕ → Bool → (AnswerValue → Type 0) → AnswerValue → Type 0
Noting argument left_out = Telling (sacl_note argument all_left_out left_out)
