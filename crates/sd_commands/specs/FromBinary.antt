-- What `frombin` answers: the descriptor that bytes hold in self-relative form ([MS-DTYP] 2.4.6).
use Rattle.std.specs.Prelude.{ℕ, MatchBool, List, ◌++◌, Result, Ok, Err, codes}
use Rattle.sd_acl.specs.Descriptor.{DescriptorValue}
use Rattle.sd_wire.specs.Reading.{descriptor_read}
use Rattle.sd_wire.specs.declared.fault.WireFault.{WireFault}
use Rattle.sd_whole.specs.Reading.{whole_read}
use Rattle.sd_answer.specs.VerdictLines.{fault_line}
use Rattle.sd_commands.specs.Bytes.{BytesRead, bytes_read, form_name}
use Rattle.sd_commands.specs.Required.{missing_dacl}
use Rattle.sd_commands.specs.Pointer.{pointed}
use Rattle.sd_commands.specs.Diagnostic.{at_byte, told_line, told_wire_fault}
use Rattle.sd_commands.specs.declared.settings.Settings.{Settings}
use Rattle.sd_commands.specs.Answer.{wire_fault_line, AnswerValue, IsDone, IsFault, AnswersFit}
use Rattle.sd_commands.specs.Answer.{descriptor_line}
use Rattle.sd_commands.specs.Whole.{AnswersHeader}

-- what is answered of the descriptor that bytes hold, or their fault
abbrev pub AnswersRead : {D : Type 0} → (D → AnswerValue → Type 0) → List ℕ → Result D WireFault → AnswerValue → Type 0
AnswersRead Answers bytes (Ok d) answer = Answers d answer
AnswersRead Answers bytes (Err fault) answer = IsFault (wire_fault_line fault)
    (told_line (codes "BYTES") (told_wire_fault bytes fault)) answer

-- a descriptor
abbrev pub AnswersPlain : Settings → DescriptorValue → AnswerValue → Type 0
AnswersPlain settings d = AnswersFit (codes "BYTES") (missing_dacl settings.require_dacl d.dacl)
    (IsDone (descriptor_line d))

abbrev pub AnswersHeld : Settings → List ℕ → AnswerValue → Type 0
AnswersHeld settings bytes = AnswersRead (AnswersPlain settings) bytes (descriptor_read bytes)

-- a whole descriptor
abbrev pub AnswersWhole : Settings → List ℕ → AnswerValue → Type 0
AnswersWhole settings bytes = AnswersRead (AnswersHeader settings) bytes (whole_read bytes)

-- the descriptor that bytes hold, or their fault: `--whole` takes all that it has
abbrev pub AnswersBytes : Settings → List ℕ → AnswerValue → Type 0
AnswersBytes settings bytes answer =
    MatchBool settings.whole (AnswersWhole settings bytes answer) (AnswersHeld settings bytes answer)

-- the descriptor that a text spells in bytes, or a fault: it spells none
abbrev pub AnswersDecoded : Settings → List ℕ → BytesRead → AnswerValue → Type 0
AnswersDecoded settings written (Ok bytes) answer = AnswersBytes settings bytes answer
AnswersDecoded settings written (Err (what, place)) answer = IsFault (fault_line (form_name settings.bytes))
    (told_line (codes "BYTES") (at_byte what place ++ pointed settings.points written place)) answer

abbrev pub AnswersFromBinary : Settings → List ℕ → AnswerValue → Type 0
AnswersFromBinary settings written = AnswersDecoded settings written (bytes_read settings.bytes written)
