-- How a whole descriptor is parsed: the tests in their order, and every entry that has a size that fits ([MS-DTYP]
-- 2.4.6, with 2.4.5 for the lists, 2.4.4 for their entries).
use Rattle.std.specs.Prelude.{ℕ, ◌%◌, Bool, not, ◌==◌, nat_lt, List, length, drop}
use Rattle.std.specs.Prelude.{slice_index, slice_range, bit_and, Option, Some, None, Result, Ok, Err, if◌then◌else◌}
use Rattle.sd_sid.specs.SidBytes.{u32_at}
use Rattle.sd_acl.specs.declared.ace.AceKind.{AceKind}
use Rattle.sd_acl.specs.declared.descriptor.DaclOf.{DaclOf}
use Rattle.sd_acl.specs.declared.descriptor.DaclOf.TheVariants.{Absent, Null, List as Entries}
use Rattle.sd_wire.specs.Reading.{◌>>=◌, entries_of, header_read, is_outside, is_set, trustee_read, u16_at}
use Rattle.sd_wire.specs.declared.fault.WireFault.{WireFault}
use Rattle.sd_wire.specs.declared.fault.WireFault.TheVariants.{BadOffset, BadSid, AclRevision}
use Rattle.sd_wire.specs.declared.fault.WireFault.TheVariants.{AclSize, EntrySize}
use Rattle.sd_whole.specs.declared.ace.TypedAce.{TypedAce}
use Rattle.sd_whole.specs.declared.ace.WholeAce.{WholeAce}
use Rattle.sd_whole.specs.declared.ace.WholeAce.TheVariants.{Plain, Typed, Opaque}
use Rattle.sd_whole.specs.declared.kind.WholeKind.{WholeKind}
use Rattle.sd_whole.specs.declared.layout.Layout.{Layout}
use Rattle.sd_whole.specs.declared.list.ListRevision.{ListRevision}
use Rattle.sd_whole.specs.declared.list.ListRevision.TheVariants.{Standard, DirectoryService}
use Rattle.sd_whole.specs.declared.descriptor.WholeDescriptor.{WholeDescriptor}
use Rattle.sd_whole.specs.Kind.{has_object_types, kind_of, plain_kind}
use Rattle.sd_whole.specs.Layout.{layout_read}
use Rattle.sd_whole.specs.Values.{WholeListValue}

-- ---- entries

-- an allow or a deny is plain where nothing follows its SID
abbrev pub plain_or_typed : Option AceKind → TypedAce → WholeAce
plain_or_typed None e = Typed e
plain_or_typed (Some kind) e =
    if length e.trailing == 0 then Plain (record { kind = kind; flags = e.flags; mask = e.mask; sid = e.sid })
    else Typed e

-- an entry whose type has no layout, or whose body isn't of its type's
abbrev pub opaque : ℕ → ℕ → List ℕ → WholeAce
opaque type flags body = Opaque (record { kind = type; flags = record { 0 = flags }; body = body })

-- an entry whose body has the layout of its kind
abbrev pub of_layout : WholeKind → ℕ → List ℕ → Layout → WholeAce
of_layout kind flags body layout = plain_or_typed (plain_kind kind) (record {
  kind = kind;
  flags = record { 0 = flags };
  mask = layout.mask;
  types = layout.types;
  sid = layout.sid;
  trailing = drop layout.place body;
})

-- a body that isn't of its type's layout: allows and denies are never opaque
abbrev pub misfit : ℕ → ℕ → List ℕ → Result WholeAce WireFault
misfit type flags body =
    if nat_lt 1 type then Ok (opaque type flags body)
    else if nat_lt (length body) 12 then Err EntrySize
    else Err BadSid

-- a body, by the layout of its kind
abbrev pub by_layout : WholeKind → ℕ → ℕ → List ℕ → Option Layout → Result WholeAce WireFault
by_layout kind type flags body None = misfit type flags body
by_layout kind type flags body (Some layout) = Ok (of_layout kind flags body layout)

-- a body, by its kind
abbrev pub by_kind : Option WholeKind → ℕ → ℕ → List ℕ → Result WholeAce WireFault
by_kind None type flags body = Ok (opaque type flags body)
by_kind (Some kind) type flags body = by_layout kind type flags body (layout_read (has_object_types kind) body)

-- the entry of a type, flags and a body
unfoldable pub body_read : ℕ → ℕ → List ℕ → Result WholeAce WireFault
body_read type flags body = by_kind (kind_of type) type flags body

-- the entry at the front of the bytes, and its AceSize
unfoldable pub whole_entry_read : List ℕ → Result (WholeAce × ℕ) WireFault
whole_entry_read bytes =
    if nat_lt (length bytes) 4 then Err EntrySize
    else if nat_lt (u16_at bytes 2) 4 then Err EntrySize
    else if not (u16_at bytes 2 % 4 == 0) then Err EntrySize
    else if nat_lt (length bytes) (u16_at bytes 2) then Err EntrySize
    else (body_read (slice_index bytes 0) (slice_index bytes 1) (slice_range bytes 4 (u16_at bytes 2)) >>= λ entry.
    Ok (entry, u16_at bytes 2))

-- ---- lists

-- AclRevision: 2 or 4
abbrev pub revision_read : ℕ → Result ListRevision WireFault
revision_read byte =
    if byte == 2 then Ok Standard
    else if byte == 4 then Ok DirectoryService
    else Err AclRevision

-- the list at the front of the bytes: AclRevision, AclSize, AceCount, and the entries within AclSize
unfoldable pub whole_list_read : List ℕ → Result WholeListValue WireFault
whole_list_read bytes =
    revision_read (slice_index bytes 0) >>= λ revision.
    (if nat_lt (u16_at bytes 2) 8 then Err AclSize
    else if nat_lt (length bytes) (u16_at bytes 2) then Err AclSize
    else (entries_of whole_entry_read (slice_range bytes 8 (u16_at bytes 2)) (u16_at bytes 4) >>= λ entries.
    Ok (record { revision = revision; entries = entries })))

-- ---- descriptors

-- a SACL or a DACL
abbrev pub WholeAcl : Type 0
WholeAcl = DaclOf WholeListValue

-- the SACL or the DACL at its offset, if its control bit is set: Null if the offset is 0
unfoldable pub acl_read : Bool → List ℕ → ℕ → Result WholeAcl WireFault
acl_read is_present bytes o =
    if not is_present then Ok Absent
    else if o == 0 then Ok Null
    else if is_outside bytes o then Err BadOffset
    else (whole_list_read (drop o bytes) >>= λ list. Ok (Entries list))

-- all control bits but SR, SP and DP, which follow from what is there
abbrev pub kept_bits : ℕ
kept_bits = 0x7feb

-- the descriptor: the header, the owner, the group, the SACL if SP is set, the DACL if DP is set
unfoldable pub whole_read : List ℕ → Result WholeDescriptor WireFault
whole_read bytes =
    header_read bytes >>= λ control.
    (trustee_read bytes (u32_at bytes 4) >>= λ owner.
    (trustee_read bytes (u32_at bytes 8) >>= λ group.
    (acl_read (is_set 0x0010 control) bytes (u32_at bytes 12) >>= λ sacl.
    (acl_read (is_set 0x0004 control) bytes (u32_at bytes 16) >>= λ dacl. Ok (record {
      resource_manager = slice_index bytes 1;
      control = bit_and control kept_bits;
      owner = owner;
      group = group;
      sacl = sacl;
      dacl = dacl;
    })))))
