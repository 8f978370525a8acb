-- What is answered under `--whole` of a descriptor with a SACL and with entries of every type.
use Rattle.std.specs.Prelude.{ℕ, Bool, true, false, List, [], ◌∷◌, ◌++◌, Result, Ok, Err}
use Rattle.std.specs.Prelude.{codes, not, ◌==◌, bit_and, MatchBool}
use Rattle.std.specs.Fmt.{decimal}
use Rattle.hex.specs.Hex.{encode_lower}
use Rattle.sd_text.specs.Canon.{where_set}
use Rattle.sd_line.specs.Line.{LineOf, form, line_of, text_line}
use Rattle.sd_line.specs.declared.line.Value.TheVariants as values
use Rattle.sd_line.specs.Spelling.{right_names_of}
use Rattle.sd_answer.specs.VerdictLines.{entry_fault_line}
use Rattle.sd_answer.specs.declared.forms.TheConstants.{FAULT_NAMED}
use Rattle.sd_wire.specs.Reading.{is_set}
use Rattle.sd_whole.specs.Plain.{odd_name, odd_number}
use Rattle.sd_whole.specs.Writing.{whole_wire_of}
use Rattle.sd_whole.specs.declared.descriptor.WholeDescriptor.{WholeDescriptor}
use Rattle.sd_whole.specs.declared.plain.OddEntry.{OddEntry}
use Rattle.sd_whole_text.specs.Descriptor.{whole_text}
use Rattle.sd_whole_text.specs.NoText.{no_text_name, no_text_number}
use Rattle.sd_whole_text.specs.declared.no_text.AclKind.{AclKind}
use Rattle.sd_whole_text.specs.declared.no_text.AclKind.TheVariants.{Dacl, Sacl}
use Rattle.sd_whole_text.specs.declared.no_text.NoText.{NoText}
use Rattle.sd_whole_text.specs.declared.no_text.NoText.TheVariants.{ResourceManager, Control, Keywords, Opaque, Kind}
use Rattle.sd_whole_text.specs.declared.no_text.NoText.TheVariants.{Data}
use Rattle.sd_usage.specs.declared.row.DescriptorCommand.{DescriptorCommand}
use Rattle.sd_usage.specs.declared.row.DescriptorCommand.TheVariants as about
use Rattle.sd_commands.specs.Answer.{AnswerValue, AnswersFit, IsDone, IsFault, IsTold}
use Rattle.sd_commands.specs.Diagnostic.{told_line}
use Rattle.sd_commands.specs.Required.{missing_dacl}
use Rattle.sd_commands.specs.declared.settings.Settings.{Settings}

-- the line for what has no text
abbrev pub no_text_line : NoText → LineOf
no_text_line why = line_of (form FAULT_NAMED) (values.Text (codes "notext")
    ∷ values.Number (no_text_number why) ∷ values.Text (no_text_name why) ∷ [])

abbrev pub acl_name : AclKind → List ℕ
acl_name Dacl = codes "DACL"
acl_name Sacl = codes "SACL"

abbrev pub entry_place : AclKind → ℕ → List ℕ
entry_place acl entry = codes " (entry " ++ decimal entry ++ codes " of the " ++ acl_name acl ++ codes ")"

-- which part of the descriptor it is, if it isn't the header
abbrev pub no_text_place : NoText → List ℕ
no_text_place ResourceManager = []
no_text_place Control = []
no_text_place (Keywords acl) = codes " (the " ++ acl_name acl ++ codes ")"
no_text_place (Opaque acl entry) = entry_place acl entry
no_text_place (Kind acl entry) = entry_place acl entry
no_text_place (Data acl entry) = entry_place acl entry

-- what has no text, by number and name, and which part it is
abbrev pub told_no_text : NoText → List ℕ
told_no_text why = decimal (no_text_number why) ++ codes " " ++ no_text_name why ++ no_text_place why

-- the text of the argument of this name, or what has none
abbrev pub AnswersText : List ℕ → Result (List ℕ) NoText → AnswerValue → Type 0
AnswersText argument (Ok text) answer = IsDone (text_line text) answer
AnswersText argument (Err why) answer = IsFault (no_text_line why) (told_line argument (told_no_text why)) answer

-- its text, where it doesn't lack the list that is required
abbrev pub PrintsWhole : List ℕ → Settings → WholeDescriptor → AnswerValue → Type 0
PrintsWhole argument settings d = AnswersFit argument (missing_dacl settings.require_dacl d.dacl)
    (AnswersText argument (whole_text (right_names_of settings.spelling) d))

-- ---- the header without what SDDL has no word for

-- the control bits (2.4.6), and the resource manager's byte, which are left out
abbrev pub left_out_names : WholeDescriptor → List ℕ
left_out_names d =
    where_set (is_set 0x0001 d.control) (codes " OD") ++ where_set (is_set 0x0002 d.control) (codes " GD")
    ++ where_set (is_set 0x0008 d.control) (codes " DD") ++ where_set (is_set 0x0020 d.control) (codes " SD")
    ++ where_set (is_set 0x0040 d.control) (codes " SS") ++ where_set (is_set 0x0080 d.control) (codes " DT")
    ++ where_set (is_set 0x4000 d.control) (codes " RM") ++ where_set (not (d.resource_manager == 0)) (codes " Sbz1")

-- what standard error says of that
abbrev pub left_out_note : List ℕ → List ℕ
left_out_note [] = []
left_out_note (c ∷ names) = told_line (codes "BYTES") (codes "left out:" ++ c ∷ names)

abbrev pub without_bits : WholeDescriptor → WholeDescriptor
without_bits d = record d { control = bit_and d.control 0xbf14; resource_manager = 0 }

-- what is answered of the descriptor that bytes hold
abbrev pub AnswersHeader : Settings → WholeDescriptor → AnswerValue → Type 0
AnswersHeader settings d answer = MatchBool settings.without_bits
    ((inner : AnswerValue) × IsTold (left_out_note (left_out_names d)) inner answer
    × PrintsWhole (codes "BYTES") settings (without_bits d) inner)
    (PrintsWhole (codes "BYTES") settings d answer)

-- ---- what `tobin` writes

-- its self-relative form in hexadecimal, where it doesn't lack the list that is required
abbrev pub WritesWhole : List ℕ → Settings → WholeDescriptor → AnswerValue → Type 0
WritesWhole argument settings d = AnswersFit argument (missing_dacl settings.require_dacl d.dacl)
    (IsDone (text_line (encode_lower (whole_wire_of d))))

-- the command looks at all that a whole descriptor has: it gives a verdict, prints who gains and loses rights, or of
-- the object alone to whom some are granted or what is doubtful, or prints, sorts or writes the descriptor
abbrev pub takes_whole : (below : Bool) → (object : Bool) → DescriptorCommand → Bool
takes_whole below object about.Verdict = true
takes_whole below object about.Why = true
takes_whole below object about.Who = not below
takes_whole below object about.Compare = true
takes_whole below object about.Lint = object
takes_whole below object about.Print = true
takes_whole below object about.Sort = true
takes_whole below object about.ToBinary = true

-- ---- an entry that no question takes

-- what it is, by number and name, and which one
abbrev pub told_odd : OddEntry → List ℕ
told_odd odd = decimal (odd_number odd.kind) ++ codes " " ++ odd_name odd.kind ++ entry_place Dacl odd.entry

-- the argument of this name has an entry that no question takes
abbrev pub IsEntryFault : List ℕ → OddEntry → AnswerValue → Type 0
IsEntryFault argument odd =
    IsFault (entry_fault_line odd.entry (odd_name odd.kind)) (told_line argument (told_odd odd))
