-- The one written form of a descriptor: the header, the owner, the group and the DACL, without gaps ([MS-DTYP] 2.4.6,
-- with 2.4.5 for the list, 2.4.4 for its entries, 2.4.2.2 for the SIDs).
use Rattle.std.specs.Prelude.{ℕ, ◌+◌, Bool, true, false, is_some, cond, if◌then◌else◌, List, [], ◌∷◌, ◌++◌, length}
use Rattle.std.specs.Prelude.{bit_and, bit_or, Option, Some, None}
use Rattle.std.specs.Int.{w16, w32, to_le_bytes}
use Rattle.std.specs.List.{flat_map}
use Rattle.sd_sid.specs.Sid.{SidValue}
use Rattle.sd_sid.specs.SidBytes.{bytes_of_sid}
use Rattle.sd_acl.specs.Ace.{all_named, ace_size, acl_size_of}
use Rattle.sd_acl.specs.Dacl.{Dacl, is_absent}
use Rattle.sd_acl.specs.Descriptor.{DescriptorValue}
use Rattle.sd_acl.specs.declared.ace.Ace.{Ace}
use Rattle.sd_acl.specs.declared.ace.AceKind.{AceKind}
use Rattle.sd_acl.specs.declared.ace.AceKind.TheVariants.{Allow, Deny}
use Rattle.sd_acl.specs.declared.descriptor.DaclOf.TheVariants.{Absent, Null, List as Entries}

-- AceType
abbrev pub kind_byte : AceKind → ℕ
kind_byte Allow = 0
kind_byte Deny = 1

-- an entry of this AceSize: type, flags, size, mask, SID
abbrev pub entry_parts : AceKind → ℕ → ℕ → ℕ → SidValue → List ℕ
entry_parts kind flags size mask sid = kind_byte kind ∷ flags
    ∷ (to_le_bytes w16 size ++ (to_le_bytes w32 mask ++ bytes_of_sid sid))

-- an entry, with its named flags, and with no bytes after its SID
unfoldable pub entry_bytes : Ace → List ℕ
entry_bytes e = entry_parts e.kind (bit_and e.flags.0 all_named) (ace_size e) e.mask e.sid

-- a list: revision 2, a zero, AclSize, AceCount, two zeros, the entries
unfoldable pub list_bytes : List Ace → List ℕ
list_bytes es = 2 ∷ 0
    ∷ (to_le_bytes w16 (acl_size_of es) ++ (to_le_bytes w16 (length es) ++ 0 ∷ 0 ∷ flat_map entry_bytes es))

-- the owner or the group, if there is one
abbrev pub trustee_part : Option SidValue → List ℕ
trustee_part None = []
trustee_part (Some s) = bytes_of_sid s

-- the DACL, if it is a list
abbrev pub dacl_part : Dacl → List ℕ
dacl_part Absent = []
dacl_part Null = []
dacl_part (Entries es) = list_bytes es

-- the DACL is a list
abbrev pub is_list : Dacl → Bool
is_list Absent = false
is_list Null = false
is_list (Entries es) = true

-- the offset of a part, 0 if there is none
abbrev pub offset_of : Bool → ℕ → ℕ
offset_of is_there place = if is_there then place else 0

-- SR, and DP unless the DACL is absent, DC, DI and PD
abbrev pub control_of : DescriptorValue → ℕ
control_of d =
    bit_or (bit_or (bit_or (bit_or 0x8000 (cond (is_absent d.dacl) 0 0x0004)) (cond d.auto_req 0x0100 0))
    (cond d.auto_inherited 0x0400 0)) (cond d.protected 0x1000 0)

-- the offsets of owner, group, SACL and DACL
abbrev pub offset_bytes : ℕ → ℕ → ℕ → ℕ → List ℕ
offset_bytes owner group sacl dacl = to_le_bytes w32 owner
    ++ (to_le_bytes w32 group ++ (to_le_bytes w32 sacl ++ to_le_bytes w32 dacl))

-- a header: revision 1, Sbz1, the control bits, the offsets
unfoldable pub header_bytes : ℕ → ℕ → ℕ → ℕ → ℕ → ℕ → List ℕ
header_bytes resource_manager control owner group sacl dacl =
    1 ∷ resource_manager ∷ (to_le_bytes w16 control ++ offset_bytes owner group sacl dacl)

-- the header of a descriptor, whose SACL is always absent
unfoldable pub header_of : DescriptorValue → List ℕ
header_of d =
    header_bytes 0 (control_of d) (offset_of (is_some d.owner) 20)
    (offset_of (is_some d.group) (20 + length (trustee_part d.owner))) 0
    (offset_of (is_list d.dacl) (20 + length (trustee_part d.owner) + length (trustee_part d.group)))

-- the written form
unfoldable pub wire_of : DescriptorValue → List ℕ
wire_of d = header_of d ++ (trustee_part d.owner ++ (trustee_part d.group ++ dacl_part d.dacl))
