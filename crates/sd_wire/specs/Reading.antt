-- How a self-relative descriptor is parsed: each part at its offset in the bytes, and the tests in their order
-- ([MS-DTYP] 2.4.6, with 2.4.5 for the list, 2.4.4 for its entries, 2.4.2.2 for the SIDs).
use Rattle.std.specs.Prelude.{◌≡◌, ℕ, zero, suc, ◌+◌, ◌%◌, Bool, false, not, ◌&&◌, ◌||◌, ◌==◌, nat_lt, List, [], ◌∷◌}
use Rattle.std.specs.Prelude.{length, drop, slice_index, slice_range, bit_and, Option, Some, None, Result, Ok, Err}
use Rattle.std.specs.Prelude.{if◌then◌else◌}
use Rattle.std.specs.Int.{w16, from_le_bytes}
use Rattle.sd_sid.specs.Sid.{SidValue}
use Rattle.sd_sid.specs.SidBytes.{u32_at, sid_reading}
use Rattle.sd_sid.specs.declared.sid.SidError.{SidError}
use Rattle.sd_acl.specs.Ace.{all_named}
use Rattle.sd_acl.specs.Descriptor.{DescriptorValue}
use Rattle.sd_acl.specs.declared.ace.Ace.{Ace}
use Rattle.sd_acl.specs.declared.ace.AceKind.{AceKind}
use Rattle.sd_acl.specs.declared.ace.AceKind.TheVariants.{Allow, Deny}
use Rattle.sd_acl.specs.Dacl.{Dacl}
use Rattle.sd_acl.specs.declared.descriptor.DaclOf.TheVariants.{Absent, Null, List as Entries}
use Rattle.sd_wire.specs.declared.fault.WireFault.{WireFault}
use Rattle.sd_wire.specs.declared.fault.WireFault.TheVariants.{Short, Revision, NotSelfRelative, HasSacl, BadOffset}
use Rattle.sd_wire.specs.declared.fault.WireFault.TheVariants.{BadSid, AclRevision, AclSize, EntrySize, EntryKind}
use Rattle.sd_wire.specs.declared.fault.WireError.{WireError}
use Rattle.sd_wire.specs.declared.fault.WireError.TheVariants as errors

infixl 10 ◌>>=◌
-- one parse after another: the first fault is the result
abbrev pub ◌>>=◌ : {A B : Type 0} → Result A WireFault → (A → Result B WireFault) → Result B WireFault
(Ok x) >>= f = f x
(Err fault) >>= f = Err fault

-- an error is the parse's fault, or out of memory
abbrev pub Fails : {Y : Type 0} → WireError → Result Y WireFault → Type 0
Fails errors.Memory read = Unit {0}
Fails (errors.Fault fault) read = read ≡ Err fault

-- what a function returns, seen by view, is what the parse gives, unless memory runs out
abbrev pub Gives : {X Y : Type 0} → (X → Y) → Result X WireError → Result Y WireFault → Type 0
Gives view (Ok x) read = read ≡ Ok (view x)
Gives view (Err e) read = Fails e read

-- the number in the two bytes at an offset, little-endian
abbrev pub u16_at : List ℕ → ℕ → ℕ
u16_at bytes o = from_le_bytes w16 (slice_index bytes o ∷ slice_index bytes (o + 1) ∷ [])

-- any of the control bits is set
abbrev pub is_set : ℕ → ℕ → Bool
is_set bits control = not (bit_and control bits == 0)

-- ---- SIDs

-- all faults of a SID are one
abbrev pub bad_sid : Result (SidValue × ℕ) SidError → Result SidValue WireFault
bad_sid (Ok x) = Ok x.0
bad_sid (Err e) = Err BadSid

-- the SID at an offset, which doesn't pass an end
abbrev pub sid_read : List ℕ → ℕ → ℕ → Result SidValue WireFault
sid_read bytes o end = bad_sid (sid_reading (slice_range bytes o end))

-- ---- lists

-- the kind of a type: 0 an allow, 1 a deny
abbrev pub kind_read : ℕ → Result AceKind WireFault
kind_read byte =
    if byte == 0 then Ok Allow
    else if byte == 1 then Ok Deny
    else Err EntryKind

-- the entry at an offset and its AceSize, in a list that ends at end; flags without a name are dropped
unfoldable pub entry_read : List ℕ → ℕ → ℕ → Result (Ace × ℕ) WireFault
entry_read bytes o end =
    if nat_lt end (o + 4) then Err EntrySize
    else if nat_lt (u16_at bytes (o + 2)) 4 then Err EntrySize
    else if not (u16_at bytes (o + 2) % 4 == 0) then Err EntrySize
    else if nat_lt end (o + u16_at bytes (o + 2)) then Err EntrySize
    else (kind_read (slice_index bytes o) >>= λ kind.
    (if nat_lt (u16_at bytes (o + 2)) 16 then Err EntrySize
    else (sid_read bytes (o + 8) (o + u16_at bytes (o + 2)) >>= λ sid. Ok (
      record {
        kind = kind;
        flags = record { 0 = bit_and (slice_index bytes (o + 1)) all_named };
        mask = u32_at bytes (o + 4);
        sid = sid;
      },
      u16_at bytes (o + 2),
    ))))

-- so many entries at the front of the bytes, each where the AceSize of the one before it ends, by how one of them is
-- read
unfoldable pub entries_of : {A : Type 0} → (List ℕ → Result (A × ℕ) WireFault) → List ℕ → ℕ → Result (List A) WireFault
entries_of read bytes zero = Ok []
entries_of read bytes (suc n) =
    read bytes >>= λ first.
    (entries_of read (drop first.1 bytes) n >>= λ others. Ok (first.0 ∷ others))

-- the entry at the front of the bytes
abbrev pub front_read : List ℕ → Result (Ace × ℕ) WireFault
front_read bytes = entry_read bytes 0 (length bytes)

-- so many entries from an offset on, each where the AceSize of the one before it ends
unfoldable pub entries_read : List ℕ → ℕ → ℕ → ℕ → Result (List Ace) WireFault
entries_read bytes o end zero = Ok []
entries_read bytes o end (suc n) =
    entry_read bytes o end >>= λ first.
    (entries_read bytes (o + first.1) end n >>= λ others. Ok (first.0 ∷ others))

-- the list at an offset: revision, AclSize, AceCount, and the entries within AclSize
unfoldable pub list_read : List ℕ → ℕ → Result (List Ace) WireFault
list_read bytes o =
    if not (slice_index bytes o == 2 || slice_index bytes o == 4) then Err AclRevision
    else if nat_lt (u16_at bytes (o + 2)) 8 then Err AclSize
    else if nat_lt (length bytes) (o + u16_at bytes (o + 2)) then Err AclSize
    else entries_read bytes (o + 8) (o + u16_at bytes (o + 2)) (u16_at bytes (o + 4))

-- ---- descriptors

-- an offset points into the header, or to fewer than 8 bytes
abbrev pub is_outside : List ℕ → ℕ → Bool
is_outside bytes o = nat_lt o 20 || nat_lt (length bytes) (o + 8)

-- the owner or the group at its offset, none if that is 0
unfoldable pub trustee_read : List ℕ → ℕ → Result (Option SidValue) WireFault
trustee_read bytes o =
    if o == 0 then Ok None
    else if is_outside bytes o then Err BadOffset
    else (sid_read bytes o (length bytes) >>= λ sid. Ok (Some sid))

-- the DACL at its offset: Null if that is 0
unfoldable pub dacl_read : List ℕ → ℕ → Result Dacl WireFault
dacl_read bytes o =
    if o == 0 then Ok Null
    else if is_outside bytes o then Err BadOffset
    else (list_read bytes o >>= λ entries. Ok (Entries entries))

-- the control bits of a header: SR is set
unfoldable pub header_read : List ℕ → Result ℕ WireFault
header_read bytes =
    if nat_lt (length bytes) 20 then Err Short
    else if not (slice_index bytes 0 == 1) then Err Revision
    else if not (is_set 0x8000 (u16_at bytes 2)) then Err NotSelfRelative
    else Ok (u16_at bytes 2)

-- the control bits of a header without a SACL: if SP is set OffsetSacl is 0
unfoldable pub control_read : List ℕ → Result ℕ WireFault
control_read bytes =
    header_read bytes >>= λ control.
    (if (is_set 0x0010 control && not (u32_at bytes 12 == 0)) then Err HasSacl else Ok control)

-- the descriptor: the header, the owner, the group, and if DP is set the DACL with PD, DC and DI
unfoldable pub descriptor_read : List ℕ → Result DescriptorValue WireFault
descriptor_read bytes =
    control_read bytes >>= λ control.
    (trustee_read bytes (u32_at bytes 4) >>= λ owner.
    (trustee_read bytes (u32_at bytes 8) >>= λ group.
    (if is_set 0x0004 control
    then (dacl_read bytes (u32_at bytes 16) >>= λ dacl. Ok (record {
      owner = owner;
      group = group;
      dacl = dacl;
      protected = is_set 0x1000 control;
      auto_req = is_set 0x0100 control;
      auto_inherited = is_set 0x0400 control;
    }))
    else Ok (record {
      owner = owner;
      group = group;
      dacl = Absent;
      protected = false;
      auto_req = false;
      auto_inherited = false;
    }))))
