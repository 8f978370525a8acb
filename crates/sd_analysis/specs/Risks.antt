-- The risks in a descriptor: whom it shuts out, what it grants to nearly everybody, of the object or of what is made in
-- it, and SIDs of no known kind. Each is found if and only if its condition here holds.
use Rattle.std.specs.Prelude.{ℕ, zero, suc, ◌+◌, Bool, false, not, ◌&&◌, ◌||◌, ◌==◌, nat_le, if◌then◌else◌}
use Rattle.std.specs.Prelude.{List, [], ◌∷◌, ◌++◌, fold, length, slice_get, Option, Some, None}
use Rattle.std.specs.List.{flat_map, list_any}
use Rattle.sd_sid.specs.Mask.{holds, mask_of}
use Rattle.sd_sid.specs.Mapping.{MappingValue, mapped}
use Rattle.sd_sid.specs.Sid.{SidValue, same_sid}
use Rattle.sd_acl.specs.Dacl.{Dacl}
use Rattle.sd_acl.specs.Descriptor.{DescriptorValue}
use Rattle.sd_acl.specs.declared.ace.Ace.{Ace}
use Rattle.sd_acl.specs.declared.descriptor.DaclOf.TheVariants.{Absent, Null, List as Entries}
use Rattle.sd_check.specs.Check.{verdict}
use Rattle.sd_check.specs.Token.{plain_token}
use Rattle.sd_check.specs.declared.token.GroupState.{GroupState}
use Rattle.sd_inheritance.specs.Inheritance.{creator_owner}
use Rattle.sd_analysis.specs.Descendants.{descendants_of, list_of, stops_somewhere}
use Rattle.sd_analysis.specs.Effect.{granted_by}
use Rattle.sd_analysis.specs.Sufficient.{is_among}
use Rattle.sd_analysis.specs.declared.descendants.Descendant.{Descendant}
use Rattle.sd_analysis.specs.declared.risks.Right.TheVariants.{FullControl, Write, Delete, ChangePermissions}
use Rattle.sd_analysis.specs.declared.risks.Risk.{Risk}
use Rattle.sd_analysis.specs.declared.risks.Risk.TheVariants.{EmptyList, OwnerCannotRead, Grants, UnknownEntry}
use Rattle.sd_analysis.specs.declared.risks.Risk.TheVariants.{UnknownOwner, UnknownGroup}

-- ---- rights that change an object

abbrev pub has_all : ℕ → ℕ → Bool
has_all granted rights = mask_of (λ b. holds rights b && not (holds granted b)) 32 == 0

-- all that GENERIC_ALL stands for, unless that is nothing
abbrev pub has_full_control : MappingValue → ℕ → Bool
has_full_control g granted = not (mapped g 0x10000000 == 0) && has_all granted (mapped g 0x10000000)

-- what GENERIC_WRITE stands for, and neither GENERIC_READ nor GENERIC_EXECUTE
abbrev pub writing : MappingValue → ℕ
writing g = mask_of (λ b. holds (mapped g 0x40000000) b && not (holds (mapped g 0xA0000000) b)) 32

abbrev pub has_write : MappingValue → ℕ → Bool
has_write g granted = not (mask_of (λ b. holds granted b && holds (writing g) b) 32 == 0)

-- place 6 is FILE_DELETE_CHILD, as of files, where of the generic rights only GENERIC_ALL stands for it
abbrev pub has_delete_child : MappingValue → Bool
has_delete_child g = holds (mapped g 0x10000000) 6 && not (holds (mapped g 0xE0000000) 6)

-- DELETE, place 16, or FILE_DELETE_CHILD
abbrev pub has_delete : MappingValue → ℕ → Bool
has_delete g granted = holds granted 16 || (holds granted 6 && has_delete_child g)

-- WRITE_DAC or WRITE_OWNER, places 18 and 19
abbrev pub has_permissions : ℕ → Bool
has_permissions granted = holds granted 18 || holds granted 19

-- ---- SIDs of concern: tokens of anybody have them, or of nearly everybody ([MS-DTYP] 2.4.2.4)

abbrev pub everyone : SidValue
everyone = record { authority = 1; subs = 0 ∷ [] }

abbrev pub anonymous : SidValue
anonymous = record { authority = 5; subs = 7 ∷ [] }

-- Everyone, Anonymous, Authenticated Users, Users, Guests, INTERACTIVE, NETWORK and This Organization
abbrev pub wide_sids : List SidValue
wide_sids =
    everyone ∷ anonymous ∷ record { authority = 5; subs = 11 ∷ [] }
    ∷ record { authority = 5; subs = 32 ∷ 545 ∷ [] } ∷ record { authority = 5; subs = 32 ∷ 546 ∷ [] }
    ∷ record { authority = 5; subs = 4 ∷ [] } ∷ record { authority = 5; subs = 2 ∷ [] }
    ∷ record { authority = 5; subs = 15 ∷ [] } ∷ []

-- Domain Users, Domain Guests and Domain Computers of any domain: S-1-5-21, three numbers, and 513, 514 or 515
abbrev pub is_wide_in_domain : List ℕ → Bool
is_wide_in_domain (kind ∷ x ∷ y ∷ z ∷ rid ∷ []) = kind == 21 && (nat_le 513 rid && nat_le rid 515)
is_wide_in_domain subs = false

-- one more, unless it is among them
abbrev pub with_sid : List SidValue → SidValue → List SidValue
with_sid sids s = if is_among sids s then sids else sids ++ s ∷ []

-- of those of any domain the one that an entry names
abbrev pub with_sid_of : List SidValue → Ace → List SidValue
with_sid_of sids e =
    if e.sid.authority == 5 && is_wide_in_domain e.sid.subs then with_sid sids e.sid else sids

abbrev pub common_sids : List Ace → List SidValue
common_sids es = fold with_sid_of wide_sids es

-- with those that are given, each once
abbrev pub sids_of_concern : List SidValue → List Ace → List SidValue
sids_of_concern given es = fold with_sid (common_sids es) given

-- ---- what a list grants

-- the groups of a token whose user has the SID: the base, of which Anonymous is in Everyone alone
abbrev pub where_everyone : SidValue × GroupState → List (SidValue × GroupState)
where_everyone group = if same_sid group.0 everyone then group ∷ [] else []

abbrev pub groups_beside : List (SidValue × GroupState) → SidValue → List (SidValue × GroupState)
groups_beside base s = if same_sid s anonymous then flat_map where_everyone base else base

-- what such a token is granted, without privileges
abbrev pub rights_of : Option SidValue → List Ace → MappingValue → List (SidValue × GroupState) → SidValue → ℕ
rights_of owner es g base s = granted_by (verdict owner (Some es) g
    (plain_token s (groups_beside base s)) 0x02000000)

abbrev pub risk_if : Bool → Risk → List Risk
risk_if test risk = if test then risk ∷ [] else []

-- full control, or else of the other rights those that the SID has, of the object or of a descendant
abbrev pub grants : MappingValue → Option Descendant → SidValue → ℕ → List Risk
grants g whose s granted =
    if has_full_control g granted then Grants whose s FullControl ∷ []
    else risk_if (has_write g granted) (Grants whose s Write)
    ++ risk_if (has_delete g granted) (Grants whose s Delete)
    ++ risk_if (has_permissions granted) (Grants whose s ChangePermissions)

abbrev pub grants_to : Option Descendant → Option SidValue → List Ace → MappingValue → List (SidValue × GroupState)
    → SidValue → List Risk
grants_to whose owner es g base s = grants g whose s (rights_of owner es g base s)

-- of a descendant, which S-1-3-0 owns, to each of the SIDs; nothing where it inherits no entry, since whoever makes it
-- gives it another list then ([MS-DTYP] 2.5.3.4)
abbrev pub grants_in : List Ace → MappingValue → List (SidValue × GroupState) → List SidValue → Descendant → List Risk
grants_in es g base sids d =
    if length (list_of g d es) == 0 then []
    else flat_map (grants_to (Some d) (Some creator_owner) (list_of g d es) g base) sids

-- neither all that GENERIC_READ stands for nor WRITE_DAC, by which the list could be made to grant it
abbrev pub cannot_read : MappingValue → ℕ → Bool
cannot_read g granted = not (has_all granted (mapped g 0x80000000)) && not (holds granted 18)

abbrev pub owner_risks : Option SidValue → List Ace → MappingValue → List (SidValue × GroupState) → List Risk
owner_risks None es g base = []
owner_risks (Some s) es g base = risk_if (cannot_read g (rights_of (Some s) es g base s)) (OwnerCannotRead s)

-- ---- kinds of SIDs

-- an authority, and from which first sub-authority to which its SIDs are of a known kind: those of [MS-DTYP] 2.4.1.1
-- and 2.4.2.4, and from 80 to 111 what winnt.h reserves for services and the like
unfoldable pub known_kinds : List (ℕ × ℕ × ℕ)
known_kinds =
    (0, 0, 0) ∷ (1, 0, 0) ∷ (2, 0, 1) ∷ (3, 0, 4) ∷ (4, 0, 0xFFFFFFFF) ∷ (5, 1, 15) ∷ (5, 17, 21) ∷ (5, 32, 33)
    ∷ (5, 64, 65) ∷ (5, 80, 111) ∷ (5, 113, 114) ∷ (5, 1000, 1000) ∷ (15, 2, 3) ∷ (16, 0, 0xFFFFFFFF)
    ∷ (17, 0, 0xFFFFFFFF) ∷ (18, 1, 6) ∷ []

abbrev pub is_of_kind : ℕ → ℕ → ℕ × ℕ × ℕ → Bool
is_of_kind authority first kind = kind.0 == authority && (nat_le kind.1 first && nat_le first kind.2)

abbrev pub is_known : ℕ → List ℕ → Bool
is_known authority [] = false
is_known authority (first ∷ subs) = list_any (is_of_kind authority first) known_kinds

abbrev pub unknown_if_any : (SidValue → Risk) → Option SidValue → List Risk
unknown_if_any risk None = []
unknown_if_any risk (Some s) = risk_if (not (is_known s.authority s.subs)) (risk s)

-- the risks of the entry at a place, which they name by its number, from 1 on
abbrev pub risks_at : ℕ → Option Ace → List Risk
risks_at place None = []
risks_at place (Some e) = risk_if (not (is_known e.sid.authority e.sid.subs)) (UnknownEntry (place + 1) e)

-- the risks of the entries below a place
unfoldable pub entry_risks : List Ace → ℕ → List Risk
entry_risks es zero = []
entry_risks es (suc k) = entry_risks es k ++ risks_at k (slice_get es k)

-- ---- all of them

unfoldable pub list_risks : Option SidValue → List Ace → MappingValue → List (SidValue × GroupState) → List SidValue
    → List Risk
list_risks owner es g base given =
    risk_if (length es == 0) EmptyList
    ++ owner_risks owner es g base
    ++ flat_map (grants_to None owner es g base) (sids_of_concern given es)
    ++ flat_map (grants_in es g base (sids_of_concern given es)) (descendants_of (stops_somewhere es))
    ++ entry_risks es (length es)

-- an absent or a null DACL grants everything to everybody, which is a finding of its own
abbrev pub dacl_risks : Option SidValue → Dacl → MappingValue → List (SidValue × GroupState) → List SidValue → List Risk
dacl_risks owner Absent g base given = []
dacl_risks owner Null g base given = []
dacl_risks owner (Entries es) g base given = list_risks owner es g base given

-- where these SIDs are of concern too
abbrev pub risks_of : MappingValue → List (SidValue × GroupState) → List SidValue → DescriptorValue → List Risk
risks_of g base given d =
    dacl_risks d.owner d.dacl g base given
    ++ unknown_if_any UnknownOwner d.owner
    ++ unknown_if_any UnknownGroup d.group
