-- The arguments of a line, each parsed.
use Rattle.std.specs.Prelude.{◌≡◌, ◌⊎◌, ℕ, ◌<◌, ◌^◌, Bool, true, false, List, [], ◌++◌, filter, map, Option, Some}
use Rattle.std.specs.Prelude.{None, Result, Ok, Err}
use Rattle.std.specs.Str.Parse.{IsNumeral, digits_value}
use Rattle.sd_sid.specs.Sid.{SidValue}
use Rattle.sd_acl.specs.Canonical.{canonical_order, is_explicit}
use Rattle.sd_acl.specs.Descriptor.{DescriptorValue}
use Rattle.sd_acl.specs.declared.ace.Ace.{Ace}
use Rattle.sd_acl.specs.Dacl.{Dacl}
use Rattle.sd_acl.specs.declared.descriptor.DaclOf.TheVariants as dacls
use Rattle.sd_text.specs.Grammar.{Spells}
use Rattle.sd_text.specs.Sid.{sid_text_in}
use Rattle.sd_text.specs.declared.alias.Aliases.{Aliases}
use Rattle.sd_text.specs.declared.fault.TextFault.{TextFault}
use Rattle.sd_check.specs.Token.{TokenValue}
use Rattle.sd_edit.specs.Descriptors.{own_dacl}
use Rattle.sd_edit.specs.Inheritance.{inherited_entry}
use Rattle.sd_path.specs.Names.{Names}
use Rattle.sd_edit.specs.declared.node.NodeDacl.{NodeDacl}
use Rattle.sd_edit.specs.declared.node.NodeDacl.TheVariants.{List as Entries}
use Rattle.sd_edit.specs.declared.opening.RootSpec.{RootSpec}
use Rattle.sd_script.specs.Fault.{Reading, Just, SomeOr, Then}
use Rattle.sd_script.specs.Paths.{IsPath}
use Rattle.sd_check.specs.declared.token.GroupState.{GroupState}
use Rattle.sd_line.specs.Mask.{IsMaskIn}
use Rattle.sd_line.specs.Request.{requested}
use Rattle.sd_answer.specs.Word.{AreGroups, IsToken}
use Rattle.sd_script.specs.declared.fault.LineFault.{LineFault}
use Rattle.sd_script.specs.declared.fault.LineFault.TheVariants.{Number, Path, Sid, Sddl, Entry, Parts, Mask, Token}
use Rattle.sd_script.specs.declared.script_options.Notation.{Notation}
use Rattle.sd_script.specs.declared.paths.PathSpelling.{PathSpelling}
use Rattle.sd_script.specs.declared.importing.Given.{Given}
use Rattle.sd_whole.specs.declared.plain.OddEntry.{OddEntry}
use Rattle.sd_whole_parse.specs.Part.{IsOddPart, IsPartFault, IsTextPart, is_nothing}
use Rattle.sd_whole_parse.specs.declared.part.LeftOut.{LeftOut}

-- the decimal digits of this number, which has 64 bits
abbrev pub IsNumber : List ℕ → ℕ → Type 0
IsNumber word n = IsNumeral 10 word × (digits_value 10 word ≡ n) × (n < 2 ^ 64)

abbrev pub number : List ℕ → Reading ℕ
number word = SomeOr (IsNumber word) Number

abbrev pub path : PathSpelling → List ℕ → Reading Names
path paths word = SomeOr (IsPath paths word) Path

abbrev pub sid : Notation → List ℕ → Reading SidValue
sid notation word = SomeOr (Spells (sid_text_in notation.aliases) word) Sid

abbrev pub mask : Notation → List ℕ → Reading ℕ
mask notation word = SomeOr (IsMaskIn notation.spelling word) Mask

-- the rights that a mask asks for
abbrev pub request_in : Notation → List ℕ → Reading ℕ
request_in notation word = Then (mask notation word) (λ asked. Just (requested notation.kind asked))

-- the token of a user and words
abbrev pub token : Notation → SidValue → List (List ℕ) → Reading TokenValue
token notation user words = SomeOr (IsToken notation.aliases user words) Token

-- the groups that words are
abbrev pub base : Notation → List (List ℕ) → Reading (List (SidValue × GroupState))
base notation words = SomeOr (AreGroups notation.aliases words) Token

-- a descriptor, or the plain part of a whole one, and what was left out; or the first fault of its text, at its place,
-- or an entry that has no plain form
abbrev pub descriptor_in : Aliases → (whole : Bool) → List ℕ → Reading (DescriptorValue × LeftOut)
descriptor_in known whole word (Ok d) = IsTextPart known whole word d.0 d.1
descriptor_in known whole word (Err told) =
    ((fault : TextFault) × (place : ℕ) × IsPartFault known whole word fault place × (told ≡ Sddl fault place))
    ⊎ ((odd : OddEntry) × IsOddPart known whole word odd × (told ≡ Entry odd))

abbrev pub descriptor : Notation → List ℕ → Reading (DescriptorValue × LeftOut)
descriptor notation = descriptor_in notation.aliases notation.whole

-- an owner, a group and a DACL, where both are there
abbrev pub with_parts : Option SidValue → Option SidValue → NodeDacl → Result RootSpec LineFault
with_parts (Some owner) (Some group) dacl = Ok (record { owner = owner; group = group; dacl = dacl })
with_parts owner group dacl = Err Parts

-- a value, where neither is
abbrev pub without_parts : {A : Type 0} → Option SidValue → Option SidValue → A → Result A LineFault
without_parts None None a = Ok a
without_parts owner group a = Err Parts

-- a value with another, if there is one
abbrev pub beside : {A B : Type 0} → B → Result A LineFault → Result (A × B) LineFault
beside b (Ok a) = Ok (a, b)
beside b (Err fault) = Err fault

-- what a node is given, and whether that is all that the text says
abbrev pub node_of : DescriptorValue × LeftOut → Result (RootSpec × Bool) LineFault
node_of d = beside (is_nothing d.1) (with_parts d.0.owner d.0.group (own_dacl d.0.protected d.0.dacl))

abbrev pub dacl_of : DescriptorValue × LeftOut → Result (NodeDacl × Bool) LineFault
dacl_of d = beside (is_nothing d.1) (without_parts d.0.owner d.0.group (own_dacl d.0.protected d.0.dacl))

-- the text of a descriptor with an owner and a group
abbrev pub node : Notation → List ℕ → Reading (RootSpec × Bool)
node notation word = Then (descriptor notation word) (λ d read. read ≡ node_of d)

-- the text of a descriptor with neither
abbrev pub dacl : Notation → List ℕ → Reading (NodeDacl × Bool)
dacl notation word = Then (descriptor notation word) (λ d read. read ≡ dacl_of d)

-- ---- a descriptor that a node had elsewhere

-- the DACL that it gives a node: what the node had of its own, the denies first; what it had inherited is left out
abbrev pub imported_dacl : Bool → Dacl → NodeDacl
imported_dacl protected (dacls.List entries) = Entries protected (canonical_order (filter is_explicit entries))
imported_dacl protected dacl = own_dacl protected dacl

-- the entries of a list
abbrev pub entries_in : Dacl → List Ace
entries_in (dacls.List entries) = entries
entries_in dacl = []

-- the entries of a descriptor that has a DACL; a null one has none
abbrev pub given_in : Dacl → Option (List Ace)
given_in dacls.Absent = None
given_in dacl = Some (entries_in dacl)

-- the entries of a list that isn't protected, where that and nothing else is there
abbrev pub only_list : Option SidValue → Option SidValue → Bool → Dacl → Result (List Ace) LineFault
only_list None None false (dacls.List entries) = Ok entries
only_list owner group protected dacl = Err Parts

-- the text of such a list: its entries, and whether they are all that it says
abbrev pub list_of : DescriptorValue × LeftOut → Result (List Ace × Bool) LineFault
list_of d = beside (is_nothing d.1) (only_list d.0.owner d.0.group d.0.protected d.0.dacl)

abbrev pub list : Notation → List ℕ → Reading (List Ace × Bool)
list notation word = Then (descriptor notation word) (λ d read. read ≡ list_of d)

-- what such a node had: its own entries, and those that it had inherited
abbrev pub given_with : List Ace → List Ace → Bool → Given
given_with own inherited is_all = record { entries = Some (own ++ map inherited_entry inherited); is_all = is_all }

-- what its text gives to compare the node with
abbrev pub given_of : DescriptorValue × LeftOut → Given
given_of d = record { entries = given_in d.0.dacl; is_all = is_nothing d.1 }

abbrev pub import_of : DescriptorValue × LeftOut → Result (RootSpec × Given) LineFault
import_of d = beside (given_of d) (with_parts d.0.owner d.0.group (imported_dacl d.0.protected d.0.dacl))

-- the text of such a descriptor, with an owner and a group
abbrev pub imported : Notation → List ℕ → Reading (RootSpec × Given)
imported notation word = Then (descriptor notation word) (λ d read. read ≡ import_of d)
