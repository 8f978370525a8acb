-- The plain part of a whole descriptor: of bytes without a SACL, what parsing plain descriptors alone gives of them. It
-- lacks the flag bit 0x20 of an entry, and the bytes after its SID.
use Rattle.std.specs.Prelude.{◌≡◌, ℕ, Bool, false, not, ◌&&◌, List, bit_and, codes, ◌+◌, option_map, slice_get}
use Rattle.std.specs.Prelude.{Option, Some, None, Result, Ok, Err}
use Rattle.std.specs.List.{filter_map, position}
use Rattle.std.specs.Option.{is_none, option_and_then}
use Rattle.std.specs.Result.{result_map_both}
use Rattle.sd_sid.specs.Sid.{SidValue}
use Rattle.sd_acl.specs.Ace.{all_named}
use Rattle.sd_acl.specs.Dacl.{Dacl}
use Rattle.sd_acl.specs.Descriptor.{DescriptorValue}
use Rattle.sd_acl.specs.declared.ace.Ace.{Ace}
use Rattle.sd_acl.specs.declared.ace.AceKind.{AceKind}
use Rattle.sd_acl.specs.declared.descriptor.DaclOf.TheVariants.{Absent, Null, List as Entries}
use Rattle.sd_wire.specs.Reading.{is_set}
use Rattle.sd_whole.specs.declared.ace.TypedAce.{TypedAce}
use Rattle.sd_whole.specs.declared.ace.WholeAce.{WholeAce}
use Rattle.sd_whole.specs.declared.ace.WholeAce.TheVariants.{Plain, Typed, Opaque}
use Rattle.sd_whole.specs.declared.descriptor.WholeDescriptor.{WholeDescriptor}
use Rattle.sd_whole.specs.declared.kind.WholeKind.{WholeKind}
use Rattle.sd_whole.specs.declared.kind.WholeKind.TheVariants.{ObjectAllow, ObjectDeny, CallbackAllow, CallbackDeny}
use Rattle.sd_whole.specs.declared.kind.WholeKind.TheVariants.{CallbackObjectAllow, CallbackObjectDeny}
use Rattle.sd_whole.specs.declared.plain.OddKind.{OddKind}
use Rattle.sd_whole.specs.declared.plain.OddKind.TheVariants.{ObjectAce, ConditionalAce, SystemAce, OpaqueAce}
use Rattle.sd_whole.specs.declared.plain.OddEntry.{OddEntry}
use Rattle.sd_whole.specs.declared.plain.PlainError.{PlainError}
use Rattle.sd_whole.specs.declared.plain.PlainError.TheVariants.{Odd, Memory}
use Rattle.sd_whole.specs.Kind.{plain_kind}
use Rattle.sd_whole.specs.Reading.{WholeAcl}
use Rattle.sd_whole.specs.Writing.{has_entries, is_without}

-- an entry with its named flags
abbrev pub plain_ace : AceKind → ℕ → ℕ → SidValue → Ace
plain_ace kind flags mask sid =
    record { kind = kind; flags = record { 0 = bit_and flags all_named }; mask = mask; sid = sid }

-- an allow or a deny, without the bytes after its SID
abbrev pub plain_as : Option AceKind → TypedAce → Option Ace
plain_as None e = None
plain_as (Some kind) e = Some (plain_ace kind e.flags.0 e.mask e.sid)

-- the plain form of an entry: only allows and denies have one
abbrev pub plain_form : WholeAce → Option Ace
plain_form (Plain e) = Some (plain_ace e.kind e.flags.0 e.mask e.sid)
plain_form (Typed e) = plain_as (plain_kind e.kind) e
plain_form (Opaque e) = None

-- ---- entries without a plain form

abbrev pub is_odd : WholeAce → Bool
is_odd e = is_none (plain_form e)

-- what an entry with a layout is
abbrev pub odd_typed : WholeKind → OddKind
odd_typed ObjectAllow = ObjectAce
odd_typed ObjectDeny = ObjectAce
odd_typed CallbackAllow = ConditionalAce
odd_typed CallbackDeny = ConditionalAce
odd_typed CallbackObjectAllow = ConditionalAce
odd_typed CallbackObjectDeny = ConditionalAce
odd_typed _ = SystemAce

-- what an entry is, if it has no plain form
abbrev pub odd_kind : WholeAce → OddKind
odd_kind (Plain e) = SystemAce
odd_kind (Typed e) = odd_typed e.kind
odd_kind (Opaque e) = OpaqueAce

abbrev pub odd_number : OddKind → ℕ
odd_number ObjectAce = 1
odd_number ConditionalAce = 2
odd_number SystemAce = 3
odd_number OpaqueAce = 4

abbrev pub odd_name : OddKind → List ℕ
odd_name ObjectAce = codes "ObjectAce"
odd_name ConditionalAce = codes "ConditionalAce"
odd_name SystemAce = codes "SystemAce"
odd_name OpaqueAce = codes "OpaqueAce"

-- the first of the entries that has no plain form, by its number from 1 on
abbrev pub first_odd : List WholeAce → Option OddEntry
first_odd es = option_and_then
    (λ place. option_map (λ e. record { entry = place + 1; kind = odd_kind e }) (slice_get es place))
    (position is_odd es)

-- ---- the plain part

abbrev pub plain_or : Option OddEntry → List WholeAce → Result (List Ace) OddEntry
plain_or (Some odd) es = Err odd
plain_or None es = Ok (filter_map plain_form es)

-- the plain forms of the entries, or the first that has none
abbrev pub plain_list : List WholeAce → Result (List Ace) OddEntry
plain_list es = plain_or (first_odd es) es

abbrev pub plain_acl : WholeAcl → Result Dacl OddEntry
plain_acl Absent = Ok Absent
plain_acl Null = Ok Null
plain_acl (Entries list) = result_map_both Entries (λ odd. odd) (plain_list list.entries)

-- a control bit that speaks of the DACL, if there is one
abbrev pub dacl_bit : WholeDescriptor → ℕ → Bool
dacl_bit d bit = is_set bit d.control && not (is_without d.dacl)

-- owner, group and this DACL
abbrev pub with_dacl : WholeDescriptor → Dacl → DescriptorValue
with_dacl d dacl = record {
  owner = d.owner;
  group = d.group;
  dacl = dacl;
  protected = dacl_bit d 0x1000;
  auto_req = dacl_bit d 0x0100;
  auto_inherited = dacl_bit d 0x0400;
}

-- the plain part of a whole descriptor, whatever else it has; or the first entry of its DACL that has no plain form
abbrev pub plain_part : WholeDescriptor → Result DescriptorValue OddEntry
plain_part d = result_map_both (with_dacl d) (λ odd. odd) (plain_acl d.dacl)

-- there is a SACL, if only a null one
abbrev pub has_sacl : WholeDescriptor → Bool
has_sacl d = not (is_without d.sacl)

-- the plain form of a whole descriptor, which has no entries in its SACL
pub record IsPlainOf (d : WholeDescriptor) (plain : DescriptorValue) : Type 0 where
  pub sacl : has_entries d.sacl ≡ false
  pub part : plain_part d ≡ Ok plain

-- the first entry without a plain form is why nothing is found; or memory ran out where there is none
abbrev pub IsUnlisted : {A : Type 0} → Result A OddEntry → PlainError → Type 0
IsUnlisted found (Odd odd) = found ≡ Err odd
IsUnlisted {A = A} found Memory = (plain : A) × (found ≡ Ok plain)
