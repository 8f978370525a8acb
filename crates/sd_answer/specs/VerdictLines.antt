-- The lines of verdicts and of invalid arguments.
use Rattle.std.specs.Prelude.{ℕ, List, [], ◌∷◌, codes}
use Rattle.sd_check.specs.declared.verdict.Verdict.{Verdict}
use Rattle.sd_check.specs.declared.verdict.Verdict.TheVariants as verdicts
use Rattle.sd_line.specs.Line.{LineOf, form, line_of}
use Rattle.sd_line.specs.declared.line.Value.TheVariants.{Mask, Number, Text}
use Rattle.sd_text.specs.Fault as text
use Rattle.sd_text.specs.declared.fault.TextFault.{TextFault}
use Rattle.sd_answer.specs.declared.forms.TheConstants.{DENIED, EMPTY, FAULT, FAULT_AT, FAULT_ENTRY, GRANTED, RESERVED}

-- a verdict's line
abbrev pub verdict_line : Verdict → LineOf
verdict_line (verdicts.Granted mask) = line_of (form GRANTED) (Mask mask ∷ [])
verdict_line (verdicts.Denied missing) = line_of (form DENIED) (Mask missing ∷ [])
verdict_line (verdicts.Reserved mask) = line_of (form RESERVED) (Mask mask ∷ [])
verdict_line verdicts.EmptyRequest = line_of (form EMPTY) []

-- the line of an invalid argument
abbrev pub fault_line : List ℕ → LineOf
fault_line what = line_of (form FAULT) (Text what ∷ [])

-- the line of a descriptor's text with a fault
abbrev pub sddl_fault_line : TextFault → ℕ → LineOf
sddl_fault_line fault place = line_of (form FAULT_AT)
    (Text (codes "sddl") ∷ Number (text.number_of fault) ∷ Text (text.name_of fault) ∷ Number place ∷ [])

-- the line of an entry that a question doesn't take, by its number and what it is
abbrev pub entry_fault_line : ℕ → List ℕ → LineOf
entry_fault_line entry name = line_of (form FAULT_ENTRY) (Text (codes "entry") ∷ Number entry ∷ Text name ∷ [])
