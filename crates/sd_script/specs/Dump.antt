-- What `dump` is answered by: the published tree as lines of a script, that of its root first and a parent before what
-- it holds. They are the answer only where the text of each is parsed to what makes its node.
use Rattle.std.specs.Prelude.{◌≡◌, ◌⊎◌, ⊤, ℕ, Bool, true, false, List, [], ◌∷◌, ◌++◌, length, map, Option, Some}
use Rattle.std.specs.Prelude.{None, Ok, if◌then◌else◌, codes}
use Rattle.std.specs.FinMap.{entries}
use Rattle.std.specs.Str.Lines.{lines}
use Rattle.sd_edit.specs.Additions.{addition_of, root_of}
use Rattle.sd_path.specs.Names.{Names, is_root}
use Rattle.sd_edit.specs.Plain.{PlainTree}
use Rattle.sd_edit.specs.Descriptors.{own_descriptor_of_row}
use Rattle.sd_edit.specs.Journal.{replay}
use Rattle.sd_inheritance.specs.declared.kind.NodeKind.{NodeKind}
use Rattle.sd_inheritance.specs.declared.kind.NodeKind.TheVariants.{Container, Object}
use Rattle.sd_edit.specs.declared.node.NodeRow.{NodeRow}
use Rattle.sd_acl.specs.Descriptor.{DescriptorValue}
use Rattle.sd_acl.specs.declared.ace.Ace.{Ace}
use Rattle.sd_acl.specs.declared.descriptor.DaclOf.TheVariants.{List as Entries}
use Rattle.sd_edit.specs.declared.node.NodeDacl.{NodeDacl}
use Rattle.sd_edit.specs.declared.node.NodeDacl.TheVariants.{Stored}
use Rattle.sd_edit.specs.Machine.{Machine}
use Rattle.sd_script.specs.Argument.{given_with}
use Rattle.sd_script.specs.declared.forms.TheConstants.{ADD_STORED_CONTAINER, ADD_STORED_OBJECT}
use Rattle.sd_edit.specs.declared.request.Request.TheVariants as requests
use Rattle.sd_answer.specs.VerdictLines.{fault_line}
use Rattle.sd_answer.specs.declared.forms.TheConstants.{ADD_CONTAINER, ADD_OBJECT, OPEN, PUBLISH}
use Rattle.sd_line.specs.Line.{Form, LineOf, form, line_of}
use Rattle.sd_line.specs.Printed.{lines_text}
use Rattle.sd_line.specs.declared.line.Value.TheVariants.{Descriptor, Number, Text}
use Rattle.sd_script.specs.Command.{line_asks}
use Rattle.sd_script.specs.Lines.{is_silent}
use Rattle.sd_script.specs.Paths.{path_word}
use Rattle.sd_script.specs.Reply.{plain_line}
use Rattle.sd_script.specs.declared.line_request.LineRequest.{LineRequest}
use Rattle.sd_script.specs.declared.line_request.LineRequest.TheVariants.{Opening, Asking, Importing}
use Rattle.sd_script.specs.declared.paths.PathSpelling.{PathSpelling}
use Rattle.sd_script.specs.declared.script_options.Notation.{Notation}

-- ---- what makes a node, and the line that asks for it

-- each other node than the root is added; of one that was stored the answer says whether it keeps what it had inherited
abbrev pub adding : Names → NodeRow → NodeDacl → LineRequest
adding path row (Stored own inherited offer) =
    Importing (addition_of row.kind path row) path (given_with own inherited true)
adding path row dacl = Asking (requests.Edit (addition_of row.kind path row))

-- the root is made by an opening, for so many readers
abbrev pub making : ℕ → Names → NodeRow → LineRequest
making readers [] row = Opening readers (root_of row) true
making readers (name ∷ names) row = adding (name ∷ names) row row.dacl

abbrev pub adding_form : NodeKind → Form
adding_form Container = form ADD_CONTAINER
adding_form Object = form ADD_OBJECT

abbrev pub storing_form : NodeKind → Form
storing_form Container = form ADD_STORED_CONTAINER
storing_form Object = form ADD_STORED_OBJECT

-- a list, as a descriptor
abbrev pub descriptor_of_list : List Ace → DescriptorValue
descriptor_of_list entries = record {
  owner = None;
  group = None;
  dacl = Entries entries;
  protected = false;
  auto_req = false;
  auto_inherited = false;
}

abbrev pub adding_line : PathSpelling → Names × NodeRow → NodeDacl → LineOf
adding_line paths node (Stored own inherited offer) = line_of (storing_form node.1.kind)
    (Text (path_word paths node.0) ∷ Descriptor (own_descriptor_of_row node.1)
    ∷ Descriptor (descriptor_of_list inherited) ∷ Descriptor (descriptor_of_list offer) ∷ [])
adding_line paths node dacl = line_of (adding_form node.1.kind)
    (Text (path_word paths node.0) ∷ Descriptor (own_descriptor_of_row node.1) ∷ [])

abbrev pub making_line : PathSpelling → ℕ → Names × NodeRow → LineOf
making_line paths readers node =
    if is_root node.0 then line_of (form OPEN) (Number readers ∷ Descriptor (own_descriptor_of_row node.1) ∷ [])
    else adding_line paths node node.1.dacl

-- ---- the whole tree

abbrev pub makings : ℕ → List (Names × NodeRow) → List LineRequest
makings readers nodes = map (λ (node : Names × NodeRow). making readers node.0 node.1) nodes

-- after the nodes' lines one asks for a publish
abbrev pub wanted : ℕ → Option (Names × NodeRow) → LineRequest
wanted readers None = Asking requests.Publish
wanted readers (Some node) = making readers node.0 node.1

-- a line asks for this, where a store is open or none is
abbrev pub IsAskedBy : Notation → Bool → List ℕ → LineRequest → Type 0
IsAskedBy notation is_open text asked = (is_silent text ≡ false) × line_asks notation is_open text (Ok asked)

-- these lines ask for these, one for one, where the first opens the store
abbrev pub AreAskedBy : Notation → Bool → List (List ℕ) → List LineRequest → Type 0
AreAskedBy notation is_open [] [] = ⊤
AreAskedBy notation is_open (text ∷ texts) (asked ∷ more) =
    IsAskedBy notation is_open text asked × AreAskedBy notation true texts more
AreAskedBy notation is_open texts more = ⊥

-- the nodes' lines, and then the publish
abbrev pub dump_lines : PathSpelling → ℕ → PlainTree → List LineOf
dump_lines paths readers t = map (making_line paths readers) (entries t) ++ plain_line (form PUBLISH) ∷ []

abbrev pub dump_text : Notation → ℕ → PlainTree → List ℕ
dump_text notation readers t = lines_text notation.spelling (dump_lines notation.paths readers t)

abbrev pub IsReadBack : Notation → ℕ → PlainTree → List ℕ → Type 0
IsReadBack notation readers t text = AreAskedBy notation false (lines text)
    (makings readers (entries t) ++ Asking requests.Publish ∷ [])

-- a name that can't stand in a script is a fault, and so is an entry's flag without a name
abbrev pub IsDumpOf : Notation → ℕ → PlainTree → List LineOf → Type 0
IsDumpOf notation readers t answer =
    (IsReadBack notation readers t (dump_text notation readers t) × (answer ≡ dump_lines notation.paths readers t))
    ⊎ ((IsReadBack notation readers t (dump_text notation readers t) → ⊥)
    × (answer ≡ fault_line (codes "name") ∷ []))

abbrev pub IsDump : Notation → Machine → List LineOf → Type 0
IsDump notation m answer = IsDumpOf notation (length m.floors) (replay m.opening m.published) answer
