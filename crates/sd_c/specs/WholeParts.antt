-- What the calls answer that return the parts of a whole descriptor: its owner and group, its lists and their entries
-- ([MS-DTYP] 2.4.4 to 2.4.6).
use Rattle.std.specs.Prelude.{◌≡◌, ◌⊎◌, ℕ, ◌+◌, ◌==◌, cond, is_some, List, [], ◌++◌, length, replicate, bit_and}
use Rattle.std.specs.Prelude.{slice_get, Option, Some, None, option_and_then, Ok, if◌then◌else◌}
use Rattle.sd_sid.specs.Sid.{SidValue}
use Rattle.sd_sid.specs.SidBytes.{bytes_of_sid}
use Rattle.sd_acl.specs.declared.descriptor.DaclOf.TheVariants.{Absent, Null, List as Entries}
use Rattle.sd_whole.specs.Entry.{flags_of, type_of}
use Rattle.sd_whole.specs.Layout.{no_types}
use Rattle.sd_whole.specs.Reading.{WholeAcl, whole_read}
use Rattle.sd_whole.specs.Values.{revision_number}
use Rattle.sd_whole.specs.declared.ace.WholeAce.{WholeAce}
use Rattle.sd_whole.specs.declared.ace.WholeAce.TheVariants.{Plain, Typed, Opaque}
use Rattle.sd_whole.specs.declared.descriptor.WholeDescriptor.{WholeDescriptor}
use Rattle.sd_whole.specs.declared.types.Guid.{Guid}
use Rattle.sd_whole.specs.declared.types.ObjectTypes.{ObjectTypes}
use Rattle.sd_c.specs.declared.refusal.Refusal.{Refusal}
use Rattle.sd_c.specs.declared.refusal.Refusal.TheVariants.{Lacking}
use Rattle.sd_c.specs.declared.whole_parts.WholeEntry.{WholeEntry}
use Rattle.sd_c.specs.declared.whole_parts.WholeListAnswer.{WholeListAnswer}
use Rattle.sd_c.specs.Whole.{RefusesWhole}
use Rattle.sd_c.specs.Written.{Writes, refused}

-- the bytes hold no descriptor, or it doesn't have the part
abbrev pub RefusesPart : {A : Type 0} → (WholeDescriptor → Option A) → List ℕ → Refusal → Type 0
RefusesPart part bytes Lacking = (w : WholeDescriptor) × (whole_read bytes ≡ Ok w) × (part w ≡ None)
RefusesPart part bytes why = RefusesWhole bytes why

-- ---- the owner and the group

-- the part with this number: 1 the owner, 2 the group
abbrev pub trustee_with : ℕ → WholeDescriptor → Option SidValue
trustee_with part w = if part == 1 then w.owner else if part == 2 then w.group else None

-- the bytes of its SID
abbrev pub IsTrustee : ℕ → List ℕ → List ℕ → Type 0
IsTrustee part bytes sid =
    (w : WholeDescriptor) × (s : SidValue) × (whole_read bytes ≡ Ok w) × (trustee_with part w ≡ Some s)
    × (sid ≡ bytes_of_sid s)

-- ---- a list

-- the list with this number: 1 the DACL, 2 the SACL
abbrev pub list_with : ℕ → WholeDescriptor → Option WholeAcl
list_with list w = if list == 1 then Some w.dacl else if list == 2 then Some w.sacl else None

-- the control bits that speak of it: DD, DC, DI and PD, or SD, SC, SI and PS (2.4.6)
abbrev pub bits_of_list : ℕ → ℕ
bits_of_list list = if list == 1 then 0x1508 else 0x2a20

-- 1 an absent one, 2 a null one, 3 a list
abbrev pub acl_kind : WholeAcl → ℕ
acl_kind Absent = 1
acl_kind Null = 2
acl_kind (Entries list) = 3

-- AclRevision; 0 without a list
abbrev pub acl_revision : WholeAcl → ℕ
acl_revision (Entries list) = revision_number list.revision
acl_revision _ = 0

abbrev pub entries_of : WholeAcl → List WholeAce
entries_of (Entries list) = list.entries
entries_of _ = []

-- of the list with this number, where the control bits are these
abbrev pub list_answer : ℕ → ℕ → WholeAcl → WholeListAnswer
list_answer list control acl =
    record {
      status = 0;
      fault = 0;
      kind = acl_kind acl;
      revision = acl_revision acl;
      control = bit_and control (bits_of_list list);
      entries = length (entries_of acl);
    }

abbrev pub no_list : Refusal → WholeListAnswer
no_list why =
    record {
      status = (refused why).status;
      fault = (refused why).fault;
      kind = 0;
      revision = 0;
      control = 0;
      entries = 0;
    }

abbrev pub IsListAnswer : ℕ → List ℕ → WholeListAnswer → Type 0
IsListAnswer list bytes answer =
    (w : WholeDescriptor) × (acl : WholeAcl) × (whole_read bytes ≡ Ok w) × (list_with list w ≡ Some acl)
    × (answer ≡ list_answer list w.control acl)

abbrev pub ReturnsList : ℕ → List ℕ → WholeListAnswer → Type 0
ReturnsList list bytes answer =
    IsListAnswer list bytes answer
    ⊎ ((why : Refusal) × RefusesPart (list_with list) bytes why × (answer ≡ no_list why))

-- ---- an entry

abbrev pub entry_with : ℕ → ℕ → WholeDescriptor → Option WholeAce
entry_with list index w = option_and_then (λ acl. slice_get (entries_of acl) index) (list_with list w)

abbrev pub mask_in : WholeAce → ℕ
mask_in (Plain e) = e.mask
mask_in (Typed e) = e.mask
mask_in (Opaque e) = 0

abbrev pub types_in : WholeAce → ObjectTypes
types_in (Plain e) = no_types
types_in (Typed e) = e.types
types_in (Opaque e) = no_types

-- 1 an ObjectType, 2 an InheritedObjectType
abbrev pub types_number : ObjectTypes → ℕ
types_number types = cond (is_some types.object) 1 0 + cond (is_some types.inherited) 2 0

-- the bytes of a GUID; zeros without one
abbrev pub guid_in : Option Guid → List ℕ
guid_in (Some guid) = guid.bytes
guid_in None = replicate 16 0

-- what is written: the SID and the bytes after it; of an entry without a layout its body
abbrev pub sid_and_data : WholeAce → List ℕ
sid_and_data (Plain e) = bytes_of_sid e.sid
sid_and_data (Typed e) = bytes_of_sid e.sid ++ e.trailing
sid_and_data (Opaque e) = e.body

abbrev pub sid_length_in : WholeAce → ℕ
sid_length_in (Plain e) = length (bytes_of_sid e.sid)
sid_length_in (Typed e) = length (bytes_of_sid e.sid)
sid_length_in (Opaque e) = 0

abbrev pub no_entry : Refusal → WholeEntry
no_entry why =
    record {
      written = refused why;
      kind = 0;
      flags = 0;
      mask = 0;
      object_types = 0;
      object_type = replicate 16 0;
      inherited_object_type = replicate 16 0;
      sid_length = 0;
    }

-- the fields of the entry
pub record HasFields (e : WholeAce) (answer : WholeEntry) : Type 0 where
  pub kind : answer.kind ≡ type_of e
  pub flags : answer.flags ≡ flags_of e
  pub mask : answer.mask ≡ mask_in e
  pub object_types : answer.object_types ≡ types_number (types_in e)
  pub object_type : answer.object_type ≡ guid_in (types_in e).object
  pub inherited_object_type : answer.inherited_object_type ≡ guid_in (types_in e).inherited
  pub sid_length : answer.sid_length ≡ sid_length_in e

-- the fields are those of the entry, and these are its SID and data
abbrev pub IsEntryAnswer : ℕ → ℕ → List ℕ → WholeEntry → List ℕ → Type 0
IsEntryAnswer list index bytes answer written =
    (w : WholeDescriptor) × (e : WholeAce) × (whole_read bytes ≡ Ok w) × (entry_with list index w ≡ Some e)
    × (written ≡ sid_and_data e) × HasFields e answer

-- the entry is returned, and its SID and data written unless the buffer is too small; or nothing is, for a reason that
-- holds
abbrev pub WritesWholeEntry : ℕ → ℕ → List ℕ → List ℕ → List ℕ → WholeEntry → Type 0
WritesWholeEntry list index bytes old new answer =
    ((made : List ℕ) × IsEntryAnswer list index bytes answer made × Writes made old new answer.written)
    ⊎ ((why : Refusal) × RefusesPart (entry_with list index) bytes why × (new ≡ old) × (answer ≡ no_entry why))
