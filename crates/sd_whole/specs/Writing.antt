-- The one written form of a whole descriptor: the header, the owner, the group, the SACL and the DACL, without gaps
-- ([MS-DTYP] 2.4.6, with 2.4.5 for the lists).
use Rattle.std.specs.Prelude.{ℕ, ◌+◌, Bool, true, false, is_some, cond, List, [], ◌∷◌, ◌++◌, length, bit_and, bit_or}
use Rattle.std.specs.Int.{w16, to_le_bytes}
use Rattle.std.specs.List.{flat_map}
use Rattle.sd_acl.specs.declared.descriptor.DaclOf.TheVariants.{Absent, Null, List as Entries}
use Rattle.sd_wire.specs.Writing.{header_bytes, offset_of, trustee_part}
use Rattle.sd_whole.specs.declared.descriptor.WholeDescriptor.{WholeDescriptor}
use Rattle.sd_whole.specs.Entry.{whole_acl_size, whole_entry_bytes}
use Rattle.sd_whole.specs.Reading.{WholeAcl, kept_bits}
use Rattle.sd_whole.specs.Values.{WholeListValue, revision_number}

-- a list: AclRevision, a zero, AclSize, AceCount, two zeros, the entries
unfoldable pub whole_list_bytes : WholeListValue → List ℕ
whole_list_bytes list = revision_number list.revision ∷ 0
    ∷ (to_le_bytes w16 (whole_acl_size list.entries) ++ (to_le_bytes w16 (length list.entries)
    ++ 0 ∷ 0 ∷ flat_map whole_entry_bytes list.entries))

-- the SACL or the DACL, if it is a list
abbrev pub acl_part : WholeAcl → List ℕ
acl_part Absent = []
acl_part Null = []
acl_part (Entries list) = whole_list_bytes list

-- there is no SACL, or no DACL
abbrev pub is_without : WholeAcl → Bool
is_without Absent = true
is_without Null = false
is_without (Entries list) = false

-- the SACL or the DACL is a list
abbrev pub has_entries : WholeAcl → Bool
has_entries Absent = false
has_entries Null = false
has_entries (Entries list) = true

-- the control bits of the value, SR, SP unless the SACL is absent, DP unless the DACL is absent
abbrev pub whole_control_of : WholeDescriptor → ℕ
whole_control_of d =
    bit_or (bit_or (bit_or (bit_and d.control kept_bits) 0x8000) (cond (is_without d.sacl) 0 0x0010))
    (cond (is_without d.dacl) 0 0x0004)

-- where the group, the SACL and the DACL are
abbrev pub group_place : WholeDescriptor → ℕ
group_place d = 20 + length (trustee_part d.owner)

abbrev pub sacl_place : WholeDescriptor → ℕ
sacl_place d = group_place d + length (trustee_part d.group)

abbrev pub dacl_place : WholeDescriptor → ℕ
dacl_place d = sacl_place d + length (acl_part d.sacl)

-- the header of a descriptor
unfoldable pub whole_header_of : WholeDescriptor → List ℕ
whole_header_of d =
    header_bytes d.resource_manager (whole_control_of d) (offset_of (is_some d.owner) 20)
    (offset_of (is_some d.group) (group_place d)) (offset_of (has_entries d.sacl) (sacl_place d))
    (offset_of (has_entries d.dacl) (dacl_place d))

-- the written form
unfoldable pub whole_wire_of : WholeDescriptor → List ℕ
whole_wire_of d =
    whole_header_of d ++ (trustee_part d.owner ++ (trustee_part d.group ++ (acl_part d.sacl ++ acl_part d.dacl)))
