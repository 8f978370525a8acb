-- What standard error says beside an answer: which argument isn't read, and why; or what is left out.
use Rattle.std.specs.Prelude.{◌≡◌, ◌⊎◌, ℕ, ◌+◌, ◌==◌, Bool, false, MatchBool, List, [], ◌∷◌, ◌++◌}
use Rattle.std.specs.Prelude.{if◌then◌else◌, codes}
use Rattle.std.specs.Fmt.{decimal}
use Rattle.std.specs.List.{before_first}
use Rattle.sd_sid.specs.Sid.{SidValue}
use Rattle.sd_text.specs.Fault.{number_of, name_of}
use Rattle.sd_text.specs.Grammar.{Spells, HasFault}
use Rattle.sd_text.specs.Sid.{sid_text_in}
use Rattle.sd_text.specs.declared.alias.Aliases.{Aliases}
use Rattle.sd_text.specs.declared.fault.TextFault.{TextFault}
use Rattle.sd_wire.specs.Fault.{wire_fault_number, wire_fault_name}
use Rattle.sd_wire.specs.declared.fault.WireFault.{WireFault}
use Rattle.sd_line.specs.Printed.{line}
use Rattle.sd_commands.specs.Kinds.{kind_note, wire_kind_note}
use Rattle.sd_commands.specs.Pointer.{pointed}
use Rattle.sd_commands.specs.Escaped.{escaped}

-- what is wrong with an argument
abbrev pub told_line : List ℕ → List ℕ → List ℕ
told_line argument what = line (codes "sdstore: " ++ argument ++ codes ": " ++ what)

-- what is wrong with a text, and at which byte
abbrev pub at_byte : List ℕ → ℕ → List ℕ
at_byte what place = what ++ codes " at " ++ decimal place

-- the first fault of a text, by number and name, and its byte
abbrev pub fault_name : TextFault → ℕ → List ℕ
fault_name fault place = at_byte (decimal (number_of fault) ++ codes " " ++ name_of fault) place

-- the first fault of a text, by number and name, and its byte; where that is asked for, the text there
abbrev pub fault_text : Bool → List ℕ → TextFault → ℕ → List ℕ
fault_text points text fault place = fault_name fault place ++ pointed points text place

-- the first fault of an SDDL text, by number and name, its byte, and which kind an entry is that isn't supported; where
-- that is asked for, the text there
abbrev pub sddl_fault_text : Bool → List ℕ → TextFault → ℕ → List ℕ
sddl_fault_text points text fault place = fault_name fault place ++ kind_note text fault place
    ++ pointed points text place

-- the first test that bytes don't pass
abbrev pub wire_fault_text : WireFault → List ℕ
wire_fault_text fault = decimal (wire_fault_number fault) ++ codes " " ++ wire_fault_name fault

-- the first test that bytes don't pass, and which entry and which kind it is that isn't supported
abbrev pub told_wire_fault : List ℕ → WireFault → List ℕ
told_wire_fault bytes fault = wire_fault_text fault ++ wire_kind_note bytes fault

-- what of a SACL is left out, where the argument has one
abbrev pub sacl_note : (argument what : List ℕ) → Bool → List ℕ
sacl_note argument what is_there = if is_there then told_line argument what else []

-- all of it, or all but the label
abbrev pub all_left_out : List ℕ
all_left_out = codes "the SACL is left out"

abbrev pub all_but_label : List ℕ
all_but_label = codes "of the SACL only the label is looked at"

-- OI or CI of entries were left out
abbrev pub object_note : Bool → List ℕ
object_note left_out = if left_out then told_line (codes "--object")
    (codes "what entries pass on to what is made in a container is left out") else []

-- ---- words

-- which WORD it is, counted from 1
abbrev pub word_argument : ℕ → List ℕ → List ℕ
word_argument place word = codes "WORD " ++ decimal (place + 1) ++ codes ", \"" ++ escaped word ++ codes "\""

abbrev pub begins_by_plus : List ℕ → Bool
begins_by_plus [] = false
begins_by_plus (b ∷ bs) = b == 43

-- why a text isn't what it should be: the first fault of its SID, or where it is one, that it isn't a fit one
abbrev pub IsSidReason : Bool → Aliases → List ℕ → List ℕ → List ℕ → Type 0
IsSidReason points known unfit text reason =
    ((sid : SidValue) × Spells (sid_text_in known) text sid × (reason ≡ unfit))
    ⊎ ((fault : TextFault) × (place : ℕ) × HasFault (sid_text_in known) text fault place
    × (reason ≡ fault_text points text fault place))

-- the SID of a word: what stands before the first `=`, or all of it
abbrev pub sid_of : List ℕ → List ℕ
sid_of word = before_first (λ b. b == 61) word

-- why a text is no SID with a state
abbrev pub IsStateReason : Bool → Aliases → List ℕ → List ℕ → Type 0
IsStateReason points known word reason =
    IsSidReason points known (codes "no such state") (sid_of word) reason

-- why a text is no word
abbrev pub IsWordReason : Bool → Aliases → List ℕ → List ℕ → Type 0
IsWordReason points known word reason = MatchBool (begins_by_plus word) (reason ≡ codes "no such privilege")
    (IsStateReason points known word reason)
