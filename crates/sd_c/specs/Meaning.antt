-- What the statuses and faults of an answer mean, in words.
use Rattle.std.specs.Prelude.{◌≡◌, ℕ, ◌==◌, List, [], Option, Some, None, option_map, unwrap_or, codes, if◌then◌else◌}
use Rattle.sd_sid.specs.Sid.{sid_error_name, sid_error_number}
use Rattle.sd_sid.specs.declared.sid.SidError.{SidError}
use Rattle.sd_sid.specs.declared.sid.SidError.TheVariants as sids
use Rattle.sd_path.specs.PathText.{path_error_number}
use Rattle.sd_path.specs.declared.error.PathError.TheVariants as paths
use Rattle.sd_text.specs.Fault.{name_of as text_fault_name, number_of as text_fault_number}
use Rattle.sd_text.specs.declared.fault.TextFault.{TextFault}
use Rattle.sd_text.specs.declared.fault.TextFault.TheVariants as texts
use Rattle.sd_wire.specs.Fault.{wire_fault_name, wire_fault_number}
use Rattle.sd_wire.specs.declared.fault.WireFault.{WireFault}
use Rattle.sd_wire.specs.declared.fault.WireFault.TheVariants as wires
use Rattle.sd_edit.specs.Limits.{limits_error_name, limits_error_number}
use Rattle.sd_edit.specs.Refusals.{name_of as refusal_name, number_of as refusal_number}
use Rattle.sd_edit.specs.declared.limits.LimitsError.{LimitsError}
use Rattle.sd_edit.specs.declared.limits.LimitsError.TheVariants as limits
use Rattle.sd_edit.specs.declared.refusal.EditRefusal.{EditRefusal}
use Rattle.sd_edit.specs.declared.refusal.EditRefusal.TheVariants as refusals
use Rattle.sd_whole.specs.Plain.{odd_name, odd_number}
use Rattle.sd_whole.specs.declared.plain.OddKind.{OddKind}
use Rattle.sd_whole.specs.declared.plain.OddKind.TheVariants as odd
use Rattle.sd_specialize.specs.Specialize.{fault_name as specialize_fault_name, fault_number as specialize_fault_number}
use Rattle.sd_specialize.specs.declared.fault.SpecializeFault.{SpecializeFault}
use Rattle.sd_whole_text.specs.NoText.{no_text_name, no_text_number}
use Rattle.sd_whole_text.specs.declared.no_text.NoText.{NoText}
use Rattle.sd_accounts.specs.declared.fault.AccountsFault.TheVariants as rows
use Rattle.sd_accounts.specs.declared.names.NameError.TheVariants as names
use Rattle.sd_named.specs.declared.arguments.NamedError.TheVariants as named
use Rattle.sd_types.specs.Tree.{kind_name, kind_number}
use Rattle.sd_types.specs.declared.tree.TreeFaultKind.{TreeFaultKind}
use Rattle.sd_types.specs.declared.tree.TreeFaultKind.TheVariants as kinds
use Rattle.sd_create.specs.Create.{fault_name as create_fault_name, fault_number as create_fault_number}
use Rattle.sd_create.specs.declared.fault.CreateFault.{CreateFault}
use Rattle.sd_create.specs.declared.fault.CreateFault.TheVariants as creates
use Rattle.sd_c.specs.Accounts.{no_user, row_number}

-- what a status means; nothing of a number that is no status
abbrev pub status_text : ℕ → List ℕ
status_text n =
    if n == 0 then codes "success"
    else if n == 1 then codes "out of memory"
    else if n == 2 then codes "the buffer is too small"
    else if n == 3 then codes "a text isn't UTF-8"
    else if n == 4 then codes "a text is invalid"
    else if n == 5 then codes "the bytes hold no descriptor"
    else if n == 6 then codes "the bytes don't start with a SID"
    else if n == 7 then codes "bytes follow the groups"
    else if n == 8 then codes "a group's state is invalid"
    else if n == 9 then codes "a bit is no privilege"
    else if n == 10 then codes "a mask of the mapping has a bit beyond 0x001FFFFF"
    else if n == 11 then codes "a handle is empty, in use or of another kind"
    else if n == 12 then codes "there is no such edit, or it takes no value"
    else if n == 13 then codes "a text is no path"
    else if n == 14 then codes "an owner or a group is missing, or isn't allowed"
    else if n == 15 then codes "the tree refuses the edit"
    else if n == 16 then codes "there is no node at the path"
    else if n == 17 then codes "the SID is no domain's"
    else if n == 18 then codes "there is no such part"
    else if n == 19 then codes "a limit of the store is out of range"
    else if n == 20 then codes "a part of the descriptor has no text"
    else if n == 21 then codes "an entry of the DACL isn't plain"
    else if n == 22 then codes "a word says nothing of a client"
    else if n == 23 then codes "the last word has no zero byte after it"
    else if n == 24 then codes "the object types are more than five, or not of 16 bytes"
    else if n == 25 then codes "the descriptor can't be decided for the question"
    else if n == 26 then codes "a line of the accounts is no row"
    else if n == 27 then codes "the text means no user that may log on"
    else if n == 28 then codes "no kind of object has the number"
    else if n == 29 then codes "the nodes are no tree of object types"
    else if n == 30 then codes "the new object gets no descriptor"
    else []

-- ---- the fault with a number

abbrev pub text_fault : ℕ → Option TextFault
text_fault n =
    if n == 1 then Some texts.Syntax
    else if n == 2 then Some texts.HasSacl
    else if n == 3 then Some texts.EntryKind
    else if n == 4 then Some texts.ObjectGuid
    else if n == 5 then Some texts.UnknownAlias
    else if n == 6 then Some texts.DomainAlias
    else if n == 7 then Some texts.Range
    else if n == 8 then Some texts.AclTooLarge
    else None

abbrev pub wire_fault : ℕ → Option WireFault
wire_fault n =
    if n == 1 then Some wires.Short
    else if n == 2 then Some wires.Revision
    else if n == 3 then Some wires.NotSelfRelative
    else if n == 4 then Some wires.HasSacl
    else if n == 5 then Some wires.BadOffset
    else if n == 6 then Some wires.BadSid
    else if n == 7 then Some wires.AclRevision
    else if n == 8 then Some wires.AclSize
    else if n == 9 then Some wires.EntrySize
    else if n == 10 then Some wires.EntryKind
    else None

-- of the errors of a SID those that its bytes have
abbrev pub sid_fault : ℕ → Option SidError
sid_fault n =
    if n == 1 then Some sids.Revision
    else if n == 2 then Some sids.Count
    else if n == 3 then Some sids.Short
    else None

abbrev pub path_fault_name : ℕ → List ℕ
path_fault_name n =
    if n == 1 then codes "Syntax"
    else if n == 2 then codes "NameTooLong"
    else if n == 3 then codes "TooManyNames"
    else []

abbrev pub refusal_of : ℕ → Option EditRefusal
refusal_of n =
    if n == 1 then Some refusals.NoParent
    else if n == 2 then Some refusals.ParentIsObject
    else if n == 3 then Some refusals.Exists
    else if n == 4 then Some refusals.NoNode
    else if n == 5 then Some refusals.NotEmpty
    else if n == 6 then Some refusals.IsRoot
    else if n == 7 then Some refusals.InheritedEntry
    else if n == 8 then Some refusals.NotCanonical
    else if n == 9 then Some refusals.AclTooLarge
    else if n == 10 then Some refusals.TooDeep
    else if n == 11 then Some refusals.NodesFull
    else if n == 12 then Some refusals.JournalFull
    else if n == 13 then Some refusals.IntoItself
    else None

abbrev pub limits_fault : ℕ → Option LimitsError
limits_fault n =
    if n == 1 then Some limits.NoNodes
    else if n == 2 then Some limits.TooManyNodes
    else if n == 3 then Some limits.TooManyEdits
    else None

abbrev pub no_text_fault_name : ℕ → List ℕ
no_text_fault_name n =
    if n == 1 then codes "ResourceManager"
    else if n == 2 then codes "Control"
    else if n == 3 then codes "Keywords"
    else if n == 4 then codes "Opaque"
    else if n == 5 then codes "Kind"
    else if n == 6 then codes "Data"
    else []

abbrev pub odd_kind : ℕ → Option OddKind
odd_kind n =
    if n == 1 then Some odd.ObjectAce
    else if n == 2 then Some odd.ConditionalAce
    else if n == 3 then Some odd.SystemAce
    else if n == 4 then Some odd.OpaqueAce
    else None

abbrev pub tree_fault_kind : ℕ → Option TreeFaultKind
tree_fault_kind n =
    if n == 1 then Some kinds.NoClass
    else if n == 2 then Some kinds.LevelLeftOut
    else if n == 3 then Some kinds.SecondClass
    else if n == 4 then Some kinds.TooDeep
    else if n == 5 then Some kinds.Repeated
    else None

abbrev pub create_fault : ℕ → Option CreateFault
create_fault n =
    if n == 1 then Some creates.Owner
    else if n == 2 then Some creates.NoOwner
    else if n == 3 then Some creates.NoGroup
    else if n == 4 then Some creates.TooLarge
    else None

-- ---- its name

-- nothing where there is no such fault
abbrev pub name_or_nothing : {F : Type 0} → (F → List ℕ) → Option F → List ℕ
name_or_nothing name (Some fault) = name fault
name_or_nothing name None = []

-- of an entry that isn't plain the name of its kind
abbrev pub undecided_fault_name : ℕ → List ℕ
undecided_fault_name n =
    if n == 5 then codes "PassesDiffer"
    else if n == 6 then codes "TooLarge"
    else if n == 7 then codes "MayBeDenied"
    else name_or_nothing odd_name (odd_kind n)

abbrev pub row_fault_name : ℕ → List ℕ
row_fault_name n =
    if n == 1 then codes "Keyword"
    else if n == 2 then codes "Sid"
    else if n == 3 then codes "Name"
    else if n == 4 then codes "Surplus"
    else if n == 5 then codes "Incomplete"
    else []

abbrev pub account_fault_name : ℕ → List ℕ
account_fault_name n =
    if n == 1 then codes "Unknown"
    else if n == 2 then codes "Ambiguous"
    else if n == 3 then codes "NoUser"
    else if n == 4 then codes "Disabled"
    else []

abbrev pub fault_name : ℕ → ℕ → List ℕ
fault_name status n =
    if status == 4 then name_or_nothing text_fault_name (text_fault n)
    else if status == 5 then name_or_nothing wire_fault_name (wire_fault n)
    else if status == 6 then name_or_nothing sid_error_name (sid_fault n)
    else if status == 13 then path_fault_name n
    else if status == 15 then name_or_nothing refusal_name (refusal_of n)
    else if status == 19 then name_or_nothing limits_error_name (limits_fault n)
    else if status == 20 then no_text_fault_name n
    else if status == 21 then name_or_nothing odd_name (odd_kind n)
    else if status == 25 then undecided_fault_name n
    else if status == 26 then row_fault_name n
    else if status == 27 then account_fault_name n
    else if status == 29 then name_or_nothing kind_name (tree_fault_kind n)
    else if status == 30 then name_or_nothing create_fault_name (create_fault n)
    else []

-- each fault that a call answers has its name at its number. Bytes have no authority of 2^48, and want of memory is a
-- status
abbrev pub FaultsHaveNames : Type 0
FaultsHaveNames =
    ((f : TextFault) → fault_name 4 (text_fault_number f) ≡ text_fault_name f)
    × ((f : WireFault) → fault_name 5 (wire_fault_number f) ≡ wire_fault_name f)
    × (fault_name 6 (sid_error_number sids.Revision) ≡ sid_error_name sids.Revision)
    × (fault_name 6 (sid_error_number sids.Count) ≡ sid_error_name sids.Count)
    × (fault_name 6 (sid_error_number sids.Short) ≡ sid_error_name sids.Short)
    × (fault_name 13 (path_error_number paths.Syntax) ≡ codes "Syntax")
    × (fault_name 13 (path_error_number paths.NameTooLong) ≡ codes "NameTooLong")
    × (fault_name 13 (path_error_number paths.TooManyNames) ≡ codes "TooManyNames")
    × ((r : EditRefusal) → fault_name 15 (refusal_number r) ≡ refusal_name r)
    × ((l : LimitsError) → fault_name 19 (limits_error_number l) ≡ limits_error_name l)
    × ((why : NoText) → fault_name 20 (no_text_number why) ≡ no_text_name why)
    × ((k : OddKind) → fault_name 21 (odd_number k) ≡ odd_name k)
    × ((f : SpecializeFault) → fault_name 25 (specialize_fault_number f) ≡ specialize_fault_name f)
    × (fault_name 26 (row_number rows.Keyword) ≡ codes "Keyword")
    × (fault_name 26 (row_number rows.Sid) ≡ codes "Sid")
    × (fault_name 26 (row_number rows.Name) ≡ codes "Name")
    × (fault_name 26 (row_number rows.Surplus) ≡ codes "Surplus")
    × (fault_name 26 (row_number rows.Incomplete) ≡ codes "Incomplete")
    × (fault_name 27 (no_user (named.User names.Unknown)).fault ≡ codes "Unknown")
    × (fault_name 27 (no_user (named.User names.Ambiguous)).fault ≡ codes "Ambiguous")
    × (fault_name 27 (no_user named.NoUser).fault ≡ codes "NoUser")
    × (fault_name 27 (no_user named.Disabled).fault ≡ codes "Disabled")
    × ((k : TreeFaultKind) → fault_name 29 (kind_number k) ≡ kind_name k)
    × ((f : CreateFault) → fault_name 30 (create_fault_number f) ≡ create_fault_name f)
