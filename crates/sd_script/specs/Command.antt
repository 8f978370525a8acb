-- What a line asks for: the table of commands.
use Rattle.std.specs.Prelude.{◌≡◌, ℕ, Bool, true, false, not, ◌==◌, ◌&&◌, MatchBool, if◌then◌else◌, ◌⊎◌, List, [], ◌∷◌}
use Rattle.std.specs.Prelude.{length, nat_eq, Option, Some, None, Result, Ok, Err, option_map, codes, bytes_eq}
use Rattle.std.specs.List.{list_any, starts_with}
use Rattle.std.specs.Str.{IsUtf8}
use Rattle.sd_sid.specs.Sid.{SidValue}
use Rattle.sd_check.specs.Token.{TokenValue}
use Rattle.sd_check.specs.declared.token.GroupState.{GroupState}
use Rattle.sd_edit.specs.Additions.{addition_of, row_of}
use Rattle.sd_edit.specs.Descriptors.{stored_dacl}
use Rattle.sd_edit.specs.Refusals.{own_entries}
use Rattle.sd_acl.specs.declared.ace.Ace.{Ace}
use Rattle.sd_path.specs.Names.{Names}
use Rattle.sd_edit.specs.declared.edit.Edit.{Edit}
use Rattle.sd_edit.specs.declared.edit.Edit.TheVariants as edits
use Rattle.sd_edit.specs.declared.node.NodeDacl.{NodeDacl}
use Rattle.sd_inheritance.specs.declared.kind.NodeKind.{NodeKind}
use Rattle.sd_inheritance.specs.declared.kind.NodeKind.TheVariants.{Container, Object}
use Rattle.sd_edit.specs.declared.opening.RootSpec.{RootSpec}
use Rattle.sd_edit.specs.declared.request.Request.{Request}
use Rattle.sd_edit.specs.declared.request.Request.TheVariants as requests
use Rattle.sd_script.specs.Argument.{number, path, sid, mask, request_in, token, base, node, dacl}
use Rattle.sd_script.specs.Argument.{given_with, imported, list}
use Rattle.sd_script.specs.Fault.{Reading, Just, Then, UnlessMemory}
use Rattle.sd_script.specs.Lines.{words_of}
use Rattle.sd_answer.specs.Word.{texts}
use Rattle.sd_script.specs.declared.line_request.LineRequest.{LineRequest}
use Rattle.sd_script.specs.declared.line_request.LineRequest.TheVariants.{Opening, Asking, AskingNode}
use Rattle.sd_script.specs.declared.line_request.LineRequest.TheVariants.{Trimming, Viewing, Importing, Moving}
use Rattle.sd_script.specs.declared.line_request.GroupsQuestion.{GroupsQuestion}
use Rattle.sd_script.specs.declared.line_request.GroupsQuestion.TheVariants as granted
use Rattle.sd_script.specs.declared.line_request.TokenQuestion.{TokenQuestion}
use Rattle.sd_script.specs.declared.line_request.TokenQuestion.TheVariants as questions
use Rattle.sd_script.specs.declared.command.CommandWithArguments.{CommandWithArguments}
use Rattle.sd_script.specs.declared.command.ScriptCommand.{ScriptCommand}
use Rattle.sd_script.specs.declared.command.ScriptCommand.TheVariants.{Open, AddContainer, AddObject, SetOwner}
use Rattle.sd_script.specs.declared.command.ScriptCommand.TheVariants.{SetGroup, SetDacl, Remove, Protect, Move}
use Rattle.sd_script.specs.declared.command.ScriptCommand.TheVariants.{Publish, Tell, Learn, Check, Why, Find, Show}
use Rattle.sd_script.specs.declared.command.ScriptCommand.TheVariants.{ListNodes, Dump, Who, ExpectOnly, Review}
use Rattle.sd_script.specs.declared.command.ScriptCommand.TheVariants.{ImportNode, Delete}
use Rattle.sd_script.specs.declared.fault.LineFault.TheVariants as faults
use Rattle.sd_script.specs.declared.fault.LineStop.{LineStop}
use Rattle.sd_script.specs.declared.importing.Given.{Given}
use Rattle.sd_script.specs.declared.script_options.Notation.{Notation}
use Rattle.sd_script.specs.declared.view.ViewRequest.{ViewRequest}
use Rattle.sd_script.specs.declared.listing.NodeFilter.TheVariants.{Granting}
use Rattle.sd_script.specs.declared.question.NodeQuestion.TheVariants as nodes
use Rattle.sd_script.specs.declared.view.ViewRequest.TheVariants as views

-- ---- arguments by kind

-- an argument, by its kind
pub data Argument : Type 0 where
  Number Path Sid Mask Requested Node Dacl Imported Listed : List ℕ → Argument
  Token : SidValue → List (List ℕ) → Argument
  Groups : List (List ℕ) → Argument

-- what it is parsed to
abbrev pub Value : Argument → Type 0
Value (Number word) = ℕ
Value (Path word) = Names
Value (Sid word) = SidValue
Value (Mask word) = ℕ
Value (Requested word) = ℕ
Value (Node word) = RootSpec × Bool
Value (Dacl word) = NodeDacl × Bool
Value (Imported word) = RootSpec × Given
Value (Listed word) = List Ace × Bool
Value (Token user words) = TokenValue
Value (Groups words) = List (SidValue × GroupState)

abbrev pub reading : Notation → (argument : Argument) → Reading (Value argument)
reading notation (Number word) = number word
reading notation (Path word) = path notation.paths word
reading notation (Sid word) = sid notation word
reading notation (Mask word) = mask notation word
reading notation (Requested word) = request_in notation word
reading notation (Node word) = node notation word
reading notation (Dacl word) = dacl notation word
reading notation (Imported word) = imported notation word
reading notation (Listed word) = list notation word
reading notation (Token user words) = token notation user words
reading notation (Groups words) = base notation words

infixr 20 ◌▸◌
-- what is left to be parsed of a command's arguments, and what they ask for
pub data Arguments : Type 0 where
  Asks : LineRequest → Arguments
  ◌▸◌ : (argument : Argument) → (Value argument → Arguments) → Arguments

-- they are parsed from the left, and the first fault is the answer
abbrev pub reads : Notation → Arguments → Reading LineRequest
reads notation (Asks asked) = Just asked
reads notation (argument ▸ next) = Then (reading notation argument) (λ value. reads notation (next value))

-- ---- the table: each command's name, its arguments by kind, and what it asks for

abbrev pub names : List (List ℕ × ScriptCommand)
names =
    (codes "open", Open) ∷ (codes "addc", AddContainer) ∷ (codes "addo", AddObject) ∷ (codes "owner", SetOwner)
    ∷ (codes "group", SetGroup) ∷ (codes "dacl", SetDacl) ∷ (codes "remove", Remove) ∷ (codes "protect", Protect)
    ∷ (codes "move", Move) ∷ (codes "publish", Publish) ∷ (codes "tell", Tell) ∷ (codes "learn", Learn)
    ∷ (codes "check", Check) ∷ (codes "why", Why) ∷ (codes "find", Find) ∷ (codes "show", Show)
    ∷ (codes "list", ListNodes) ∷ (codes "dump", Dump) ∷ (codes "who", Who) ∷ (codes "review", Review)
    ∷ (codes "import", ImportNode) ∷ (codes "delete", Delete) ∷ (codes "expect-only", ExpectOnly) ∷ []

-- the kind of node that the word names
abbrev pub kind_named : List ℕ → Option NodeKind
kind_named word =
    if bytes_eq word (codes "container") then Some Container
    else if bytes_eq word (codes "object") then Some Object
    else None

abbrev pub edit : Edit → Arguments
edit e = Asks (Asking (requests.Edit e))

abbrev pub request : Request → Arguments
request r = Asks (Asking r)

abbrev pub view : ViewRequest → Arguments
view v = Asks (Viewing v)

-- a question for a token, to a reader, of a path
abbrev pub poses : TokenQuestion → ℕ → Names → TokenValue → ℕ → LineRequest
poses questions.Check reader p t asked = Asking (requests.Check reader p t asked)
poses questions.Why reader p t asked = AskingNode reader p (nodes.Why t asked)
poses questions.Find reader p t asked = AskingNode reader p (nodes.Find (Granting t asked))

unfoldable pub posed : TokenQuestion → List ℕ → List ℕ → List ℕ → List ℕ → List (List ℕ) → Arguments
posed question reader at user asked words =
    Number reader ▸ λ i. Path at ▸ λ p. Sid user ▸ λ s. Requested asked ▸ λ m. Token s words ▸ λ t.
    Asks (poses question i p t m)

-- an edit by the descriptor of a text, which has all that the text says, or something of it was left out
abbrev pub stored : (is_all : Bool) → Edit → LineRequest
stored true e = Asking (requests.Edit e)
stored false e = Trimming e

-- a store with the descriptor of a text
abbrev pub opens_with : List ℕ → List ℕ → Arguments
opens_with readers sddl = Number readers ▸ λ n. Node sddl ▸ λ root. Asks (Opening n root.0 root.1)

-- a node of this kind, with the descriptor of a text
abbrev pub adds : NodeKind → List ℕ → List ℕ → Arguments
adds kind at sddl = Path at ▸ λ p. Node sddl ▸ λ n. Asks (stored n.1 (addition_of kind p (row_of kind n.0)))

-- a node of this kind with the descriptor of a text, and with what it had inherited and been offered elsewhere
abbrev pub keeping : NodeKind → Names → RootSpec × Bool → List Ace × Bool → List Ace × Bool → LineRequest
keeping kind p n i o =
    Importing (addition_of kind p (row_of kind (record n.0 { dacl = stored_dacl n.0.dacl i.0 o.0 }))) p
    (given_with (own_entries n.0.dacl) i.0 (n.1 && i.1 && o.1))

abbrev pub keeps : NodeKind → List ℕ → List ℕ → List ℕ → List ℕ → Arguments
keeps kind at sddl inherited offer =
    Path at ▸ λ p. Node sddl ▸ λ n. Listed inherited ▸ λ i. Listed offer ▸ λ o. Asks (keeping kind p n i o)

-- where both of the last two texts begin as lists do; else blanks in a text made them, and they are too many
abbrev pub begins_list : List ℕ → Bool
begins_list word = starts_with nat_eq word (codes "D:")

abbrev pub keeps_lists : NodeKind → List ℕ → List ℕ → List ℕ → List ℕ → Option Arguments
keeps_lists kind at sddl inherited offer =
    if begins_list inherited && begins_list offer then Some (keeps kind at sddl inherited offer) else None

-- the DACL of a text
abbrev pub sets_dacl : List ℕ → List ℕ → Arguments
sets_dacl at sddl = Path at ▸ λ p. Dacl sddl ▸ λ d. Asks (stored d.1 (edits.SetDacl p d.0))

-- what a node that comes from elsewhere asks for
abbrev pub imports : List ℕ → List ℕ → NodeKind → Arguments
imports at sddl kind =
    Path at ▸ λ p. Imported sddl ▸ λ i. Asks (Importing (addition_of kind p (row_of kind i.0)) p i.1)

-- a node is moved
abbrev pub moves : List ℕ → List ℕ → Arguments
moves source target = Path source ▸ λ from. Path target ▸ λ to. Asks (Moving (edits.Move from to) from to)

-- a question of a path, for groups
abbrev pub asks_of : GroupsQuestion → Names → List (SidValue × GroupState) → ℕ → ViewRequest
asks_of granted.Who p groups asked = views.Who p groups asked
asks_of granted.Only p groups asked = views.Only p groups asked

-- a path, a mask and groups
unfoldable pub asks_groups : GroupsQuestion → List ℕ → List ℕ → List (List ℕ) → Arguments
asks_groups question at asked words =
    Path at ▸ λ p. Mask asked ▸ λ m. Groups words ▸ λ groups. view (asks_of question p groups m)

-- a reader, a path, a user and words: whether the user may delete the node
unfoldable pub deletes : List ℕ → List ℕ → List ℕ → List (List ℕ) → Arguments
deletes reader at user words =
    Number reader ▸ λ i. Path at ▸ λ p. Sid user ▸ λ s. Token s words ▸ λ t. Asks (AskingNode i p (nodes.Delete t))

-- each other command on these arguments, where they are as many as it takes
abbrev pub asks_taking : ScriptCommand → List (List ℕ) → Option Arguments
asks_taking Open (readers ∷ sddl ∷ []) = Some (opens_with readers sddl)
asks_taking AddContainer (at ∷ sddl ∷ []) = Some (adds Container at sddl)
asks_taking AddObject (at ∷ sddl ∷ []) = Some (adds Object at sddl)
asks_taking AddContainer (at ∷ sddl ∷ inherited ∷ offer ∷ []) = keeps_lists Container at sddl inherited offer
asks_taking AddObject (at ∷ sddl ∷ inherited ∷ offer ∷ []) = keeps_lists Object at sddl inherited offer
asks_taking SetOwner (at ∷ owner ∷ []) = Some (Path at ▸ λ p. Sid owner ▸ λ s. edit (edits.SetOwner p s))
asks_taking SetGroup (at ∷ group ∷ []) = Some (Path at ▸ λ p. Sid group ▸ λ s. edit (edits.SetGroup p s))
asks_taking SetDacl (at ∷ sddl ∷ []) = Some (sets_dacl at sddl)
asks_taking Remove (at ∷ []) = Some (Path at ▸ λ p. edit (edits.Remove p))
asks_taking Protect (at ∷ []) = Some (Path at ▸ λ p. edit (edits.ProtectKeeping p))
asks_taking Move (source ∷ target ∷ []) = Some (moves source target)
asks_taking Publish [] = Some (request requests.Publish)
asks_taking Tell [] = Some (request requests.Tell)
asks_taking Learn (reader ∷ len ∷ []) = Some (Number reader ▸ λ i. Number len ▸ λ n. request (requests.Learn i n))
asks_taking Check (reader ∷ at ∷ user ∷ asked ∷ words) = Some (posed questions.Check reader at user asked words)
asks_taking Why (reader ∷ at ∷ user ∷ asked ∷ words) = Some (posed questions.Why reader at user asked words)
asks_taking Find (reader ∷ at ∷ user ∷ asked ∷ words) = Some (posed questions.Find reader at user asked words)
asks_taking Show (reader ∷ at ∷ []) = Some (Number reader ▸ λ i. Path at ▸ λ p. request (requests.Show i p))
asks_taking ListNodes [] = Some (Path (codes "/") ▸ λ p. view (views.List p))
asks_taking ListNodes (at ∷ []) = Some (Path at ▸ λ p. view (views.List p))
asks_taking Dump [] = Some (view views.Dump)
asks_taking Review [] = Some (Path (codes "/") ▸ λ p. view (views.Review p))
asks_taking Review (at ∷ []) = Some (Path at ▸ λ p. view (views.Review p))
asks_taking ImportNode (kind ∷ at ∷ sddl ∷ []) = option_map (imports at sddl) (kind_named kind)
asks_taking name arguments = None

abbrev pub asks : ScriptCommand → List (List ℕ) → Option Arguments
asks Who (at ∷ asked ∷ words) = Some (asks_groups granted.Who at asked words)
asks ExpectOnly (at ∷ asked ∷ words) = Some (asks_groups granted.Only at asked words)
asks Delete (reader ∷ at ∷ user ∷ words) = Some (deletes reader at user words)
asks name arguments = asks_taking name arguments

-- a store is opened where none is open, and each other command is for where one is
abbrev pub is_untimely : Bool → ScriptCommand → Bool
is_untimely is_open Open = is_open
is_untimely is_open name = not is_open

-- ---- what a line asks for

-- what stands beside this word
abbrev pub value_named : {A : Type 0} → List ℕ → List (List ℕ × A) → Option A
value_named word [] = None
value_named word (row ∷ rows) = if bytes_eq word row.0 then Some row.1 else value_named word rows

abbrev pub is_empty : List ℕ → Bool
is_empty word = length word == 0

abbrev pub command_named : List ℕ → Option ScriptCommand
command_named word = value_named word names

abbrev pub command_value : CommandWithArguments → ScriptCommand × List (List ℕ)
command_value command = (command.name, texts command.arguments.now)

-- the command that the words name, none of which is empty, and its arguments
abbrev pub command_of : List (List ℕ) → Option (ScriptCommand × List (List ℕ))
command_of [] = None
command_of (word ∷ words) =
    if list_any is_empty (word ∷ words) then None else option_map (λ name. (name, words)) (command_named word)

abbrev pub reads_where : Notation → Bool → ScriptCommand → Option Arguments → Reading LineRequest
reads_where notation is_open name None read = read ≡ Err faults.Words
reads_where notation is_open name (Some arguments) read =
    MatchBool (is_untimely is_open name) (read ≡ Err faults.Open) (reads notation arguments read)

abbrev pub asks_where : Notation → Bool → Option (ScriptCommand × List (List ℕ)) → Reading LineRequest
asks_where notation is_open None read = read ≡ Err faults.Words
asks_where notation is_open (Some command) read = reads_where notation is_open command.0 (asks command.0 command.1) read

abbrev pub line_asks : Notation → Bool → List ℕ → Reading LineRequest
line_asks notation is_open line read =
    (IsUtf8 line × asks_where notation is_open (command_of (words_of line)) read)
    ⊎ ((IsUtf8 line → ⊥) × (read ≡ Err faults.Utf8))

-- ---- what parses a command's arguments and may be out of memory; nothing, where they aren't as many as it takes

abbrev pub Parses : Notation → Option Arguments → Result (Option LineRequest) LineStop → Type 0
Parses notation None parsed = parsed ≡ Ok None
Parses notation (Some arguments) (Ok (Some asked)) = reads notation arguments (Ok asked)
Parses notation (Some arguments) (Err stop) = UnlessMemory (reads notation arguments) (Err stop)
Parses notation (Some arguments) (Ok None) = ⊥
