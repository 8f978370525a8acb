-- The line of each reply of a store.
use Rattle.std.specs.Prelude.{ℕ, Bool, true, false, List, [], ◌∷◌, Option, Some, None, option_map, codes}
use Rattle.sd_acl.specs.Descriptor.{DescriptorValue, descriptor_of}
use Rattle.sd_check.specs.Token.{TokenValue}
use Rattle.sd_sid.specs.Mapping.{MappingValue}
use Rattle.sd_edit.specs.Refusals.{number_of, name_of}
use Rattle.sd_edit.specs.declared.refusal.EditRefusal.{EditRefusal}
use Rattle.sd_edit.specs.declared.reply.CheckReply.{CheckReply}
use Rattle.sd_edit.specs.declared.reply.CheckReply.TheVariants as checks
use Rattle.sd_edit.specs.declared.request.Reply.{Reply}
use Rattle.sd_edit.specs.declared.request.Reply.TheVariants.{Edited, Refused, Published, Told, Learned, Answered}
use Rattle.sd_edit.specs.declared.request.Reply.TheVariants.{Shown, NoReader, NoNotice, Memory}
use Rattle.sd_edit.specs.declared.start.StartError.{StartError}
use Rattle.sd_edit.specs.declared.start.StartError.TheVariants as starts
use Rattle.sd_answer.specs.VerdictLines.{verdict_line}
use Rattle.sd_answer.specs.Why.{why_lines}
use Rattle.sd_answer.specs.declared.forms.TheConstants.{LEARNED, NO_NODE, NO_NOTICE, NO_READER, OK, OPENED, PUBLISHED}
use Rattle.sd_answer.specs.declared.forms.TheConstants.{REFUSED, REFUSED_NAMED, SEEN, SHOWN, TOLD}
use Rattle.sd_script.specs.declared.forms.TheConstants.{DIFFERS}
use Rattle.sd_line.specs.Line.{Form, LineOf, form, line_of, line_with, part_of, with_head}
use Rattle.sd_line.specs.declared.line.Value.TheVariants.{Descriptor, Number, Text, Words}

-- a line without a value
abbrev pub plain_line : Form → LineOf
plain_line f = line_of f []

-- a line of a number
abbrev pub counted_line : Form → ℕ → LineOf
counted_line f n = line_of f (Number n ∷ [])

-- `ok`, and what it says of entries
abbrev pub ok_line : List (List ℕ) → LineOf
ok_line words = line_of (form OK) (Words words ∷ [])

-- that a node differs from the text of its descriptor
abbrev pub differs : List (List ℕ)
differs = codes "differs" ∷ []

-- a store is opened whose root has all that the text of its descriptor says, or something of it was left out
abbrev pub opened_line : (is_all : Bool) → ℕ → LineOf
opened_line true readers = counted_line (form OPENED) readers
opened_line false readers = line_with (form OPENED).0
    (part_of (form OPENED).1 (Number readers ∷ []) ∷ part_of DIFFERS.now (Words differs ∷ []) ∷ [])

abbrev pub refused_line : EditRefusal → LineOf
refused_line refusal =
    line_of (form REFUSED_NAMED) (Number (number_of refusal) ∷ Text (name_of refusal) ∷ [])

-- after by how long a journal it is answered
abbrev pub seen_line : ℕ → LineOf → LineOf
seen_line seen what = with_head (part_of SEEN.now (Number seen ∷ [])) what

abbrev pub check_line : CheckReply → LineOf
check_line (checks.Verdict verdict) = verdict_line verdict
check_line checks.NoNode = plain_line (form NO_NODE)

abbrev pub shown_line : Option DescriptorValue → LineOf
shown_line (Some d) = line_of (form SHOWN) (Descriptor d ∷ [])
shown_line None = plain_line (form NO_NODE)

-- out of memory has no line
abbrev pub reply_line : Reply → Option LineOf
reply_line Edited = Some (ok_line [])
reply_line (Refused refusal) = Some (refused_line refusal)
reply_line (Published len) = Some (counted_line (form PUBLISHED) len)
reply_line (Told len) = Some (counted_line (form TOLD) len)
reply_line (Learned floor) = Some (counted_line (form LEARNED) floor)
reply_line (Answered answer) = Some (seen_line answer.seen (check_line answer.reply))
reply_line (Shown seen descriptor) = Some (seen_line seen (shown_line (option_map descriptor_of descriptor)))
reply_line NoReader = Some (plain_line (form NO_READER))
reply_line NoNotice = Some (plain_line (form NO_NOTICE))
reply_line Memory = None

-- the line of a reply to an edit by a descriptor of whose text something was left out
abbrev pub trimmed_line : Reply → Option LineOf
trimmed_line Edited = Some (ok_line differs)
trimmed_line reply = reply_line reply

-- the error that a store of one thread never returns has no line either
abbrev pub start_error_line : StartError → Option LineOf
start_error_line starts.Readers = Some (line_of (form REFUSED) (Text (codes "readers") ∷ []))
start_error_line (starts.Root refusal) = Some (refused_line refusal)
start_error_line starts.Memory = None
start_error_line starts.Place = None

-- an answer of one line, where there is one
abbrev pub alone : Option LineOf → Option (List LineOf)
alone line = option_map (λ (l : LineOf). l ∷ []) line

-- ---- several lines

-- the first of them after by how long a journal they are
abbrev pub seen_lines : ℕ → List LineOf → List LineOf
seen_lines seen [] = []
seen_lines seen (first ∷ more) = seen_line seen first ∷ more

-- the explanation by the descriptor of a node, where there is one
abbrev pub node_why_lines : MappingValue → TokenValue → ℕ → Option DescriptorValue → List LineOf
node_why_lines g t asked None = plain_line (form NO_NODE) ∷ []
node_why_lines g t asked (Some d) = why_lines g d t asked
