-- The descriptor of a new object: CreateSecurityDescriptor of [MS-DTYP] 2.5.3.4.
use Rattle.std.specs.Prelude.{◌≡◌, ℕ, ◌+◌, ◌<◌, Bool, false, not, ◌&&◌, ◌||◌, ◌==◌, bit_and, bit_or, if◌then◌else◌}
use Rattle.std.specs.Prelude.{List, [], ◌∷◌, length, codes, cond, Option, Some, None, is_some, Result, Ok, Err, IsOk}
use Rattle.std.specs.Borrow.{Bor}
use Rattle.std.specs.List.{list_any}
use Rattle.sd_sid.specs.Mapping.{MappingValue}
use Rattle.sd_sid.specs.Sid.{SidValue, same_sid}
use Rattle.sd_acl.specs.declared.descriptor.DaclOf.{DaclOf}
use Rattle.sd_acl.specs.declared.descriptor.DaclOf.TheVariants.{Absent, Null, List as Entries}
use Rattle.sd_inheritance.specs.declared.kind.NodeKind.{NodeKind}
use Rattle.sd_whole.specs.Reading.{WholeAcl}
use Rattle.sd_whole.specs.Writing.{is_without}
use Rattle.sd_whole.specs.declared.ace.WholeAce.{WholeAce}
use Rattle.sd_whole.specs.declared.descriptor.WholeDescriptor.{WholeDescriptor}
use Rattle.sd_whole.specs.declared.types.Guid.{Guid}
use Rattle.sd_wire.specs.Reading.{is_set}
use Rattle.sd_create.specs.Entry.{NewValue}
use Rattle.sd_create.specs.Acl.{SourcesValue, computed, is_automatic, is_defaulted, list_of, stays_protected}
use Rattle.sd_create.specs.declared.creation.Creation.{Creation}
use Rattle.sd_create.specs.declared.creation.CreatorToken.{CreatorToken}
use Rattle.sd_create.specs.declared.fault.CreateError.{CreateError}
use Rattle.sd_create.specs.declared.fault.CreateError.TheVariants as errors
use Rattle.sd_create.specs.declared.fault.CreateFault.{CreateFault}
use Rattle.sd_create.specs.declared.fault.CreateFault.TheVariants.{Owner, NoOwner, NoGroup, TooLarge}

-- ---- what is given

-- AutoInheritFlags, and their bits
abbrev pub flag_names : List (List ℕ × ℕ)
flag_names =
    (codes "DACL_AUTO_INHERIT", 0x01) ∷ (codes "SACL_AUTO_INHERIT", 0x02)
    ∷ (codes "DEFAULT_DESCRIPTOR_FOR_OBJECT", 0x04) ∷ (codes "AVOID_OWNER_CHECK", 0x10)
    ∷ (codes "DEFAULT_OWNER_FROM_PARENT", 0x20) ∷ (codes "DEFAULT_GROUP_FROM_PARENT", 0x40) ∷ []

-- the token of who creates the object, as far as creation looks at it (2.5.2)
pub record CreatorValue : Type 0 where
  -- Token.SIDs[Token.OwnerIndex], Token.SIDs[Token.PrimaryGroup] and Token.DefaultDACL
  pub owner : SidValue
  pub group : SidValue
  pub dacl : WholeAcl
  -- the SIDs that it may make the owner
  pub owners : List SidValue
  -- SeRestorePrivilege: it may make any SID the owner
  pub restore : Bool

pub record CreationValue : Type 0 where
  pub parent : Option WholeDescriptor
  pub creator : Option WholeDescriptor
  pub kind : NodeKind
  pub types : List Guid
  pub flags : ℕ
  pub token : CreatorValue
  pub mapping : MappingValue

abbrev pub creator_of : CreatorToken → CreatorValue
creator_of t = record {
  owner = t.owner;
  group = t.group;
  dacl = t.dacl.now;
  owners = t.owners.now;
  restore = t.restore;
}

-- a descriptor that is borrowed, if there is one
abbrev pub lent_descriptor : Option (Bor WholeDescriptor) → Option WholeDescriptor
lent_descriptor None = None
lent_descriptor (Some d) = Some d.now

abbrev pub creation_of : Creation → CreationValue
creation_of c = record {
  parent = lent_descriptor c.parent;
  creator = lent_descriptor c.creator;
  kind = c.kind;
  types = c.types.now;
  flags = c.flags.0;
  token = creator_of c.token.now;
  mapping = c.mapping.now;
}

-- the flag is given
abbrev pub asks : CreationValue → ℕ → Bool
asks c flag = bit_and c.flags flag == flag

-- ---- parts of a descriptor, if there is one

abbrev pub owner_in : Option WholeDescriptor → Option SidValue
owner_in None = None
owner_in (Some d) = d.owner

abbrev pub group_in : Option WholeDescriptor → Option SidValue
group_in None = None
group_in (Some d) = d.group

abbrev pub dacl_in : Option WholeDescriptor → WholeAcl
dacl_in None = Absent
dacl_in (Some d) = d.dacl

abbrev pub sacl_in : Option WholeDescriptor → WholeAcl
sacl_in None = Absent
sacl_in (Some d) = d.sacl

-- none where there is no list
abbrev pub entries_of : WholeAcl → List WholeAce
entries_of Absent = []
entries_of Null = []
entries_of (Entries list) = list.entries

-- a control bit that speaks of a list, if that is there
abbrev pub bit_in : Option WholeDescriptor → WholeAcl → ℕ → Bool
bit_in None acl bit = false
bit_in (Some d) acl bit = is_set bit d.control && not (is_without acl)

-- ---- owner and group

-- the token may make the SID the owner, or nobody asks
abbrev pub may_own : CreationValue → SidValue → Bool
may_own c sid = asks c 0x10 || c.token.restore || list_any (λ owner. same_sid owner sid) c.token.owners

-- a SID that has to be there
abbrev pub present : CreateFault → Option SidValue → Result SidValue CreateFault
present fault None = Err fault
present fault (Some sid) = Ok sid

abbrev pub owner_by : CreationValue → Option SidValue → Result SidValue CreateFault
owner_by c (Some sid) = if may_own c sid then Ok sid else Err Owner
owner_by c None = if asks c 0x20 then present NoOwner (owner_in c.parent) else Ok c.token.owner

-- the creator's, else the parent's by DEFAULT_OWNER_FROM_PARENT, else the token's
abbrev pub owner_of : CreationValue → Result SidValue CreateFault
owner_of c = owner_by c (owner_in c.creator)

abbrev pub group_by : CreationValue → Option SidValue → Result SidValue CreateFault
group_by c (Some sid) = Ok sid
group_by c None = if asks c 0x40 then present NoGroup (group_in c.parent) else Ok c.token.group

-- the creator's, else the parent's by DEFAULT_GROUP_FROM_PARENT, else the token's
abbrev pub group_of : CreationValue → Result SidValue CreateFault
group_of c = group_by c (group_in c.creator)

-- ---- the lists

-- what the DACL is made of
abbrev pub dacl_sources : CreationValue → SourcesValue
dacl_sources c = record {
  parent = entries_of (dacl_in c.parent);
  given = dacl_in c.creator;
  otherwise = c.token.dacl;
  is_protected = bit_in c.creator (dacl_in c.creator) 0x1000;
  is_automatic = asks c 0x01;
  is_default = asks c 0x04;
}

-- what the SACL is made of
abbrev pub sacl_sources : CreationValue → SourcesValue
sacl_sources c = record {
  parent = entries_of (sacl_in c.parent);
  given = sacl_in c.creator;
  otherwise = Absent;
  is_protected = bit_in c.creator (sacl_in c.creator) 0x2000;
  is_automatic = asks c 0x02;
  is_default = asks c 0x04;
}

infixl 10 ◌>>=◌
-- one step after another, up to the first fault
abbrev pub ◌>>=◌ : {A B : Type 0} → Result A CreateFault → (A → Result B CreateFault) → Result B CreateFault
(Ok x) >>= f = f x
(Err fault) >>= f = Err fault

-- an ACL of these entries
abbrev pub acl_with : DaclOf (List WholeAce) → Result WholeAcl CreateFault
acl_with Absent = Ok Absent
acl_with Null = Ok Null
acl_with (Entries es) = list_of es >>= λ list. Ok (Entries list)

abbrev pub acl_of : NewValue → SourcesValue → Result WholeAcl CreateFault
acl_of o s = acl_with (computed o s)

-- ---- the descriptor

-- the new object, with its owner and its group
abbrev pub new_object : CreationValue → SidValue → SidValue → NewValue
new_object c owner group =
    record { kind = c.kind; types = c.types; owner = owner; group = group; mapping = c.mapping }

-- Control (2.4.6) without SR, SP and DP: OD and GD where the creator gave no owner and no group, DD, DI, SI, PD, PS
abbrev pub control_of : CreationValue → ℕ
control_of c =
    bit_or (bit_or (bit_or (bit_or (bit_or (bit_or
    (cond (is_some (owner_in c.creator)) 0 0x0001)
    (cond (is_some (group_in c.creator)) 0 0x0002))
    (cond (is_defaulted (dacl_sources c)) 0x0008 0))
    (cond (is_automatic (dacl_sources c)) 0x0400 0))
    (cond (is_automatic (sacl_sources c)) 0x0800 0))
    (cond (stays_protected (dacl_sources c)) 0x1000 0))
    (cond (stays_protected (sacl_sources c)) 0x2000 0)

-- CreateSecurityDescriptor: owner, group, SACL and DACL, or the first of them that is refused
abbrev pub created : CreationValue → Result WholeDescriptor CreateFault
created c =
    owner_of c >>= λ owner.
    (group_of c >>= λ group.
    (acl_of (new_object c owner group) (sacl_sources c) >>= λ sacl.
    (acl_of (new_object c owner group) (dacl_sources c) >>= λ dacl. Ok (record {
      resource_manager = 0;
      control = control_of c;
      owner = Some owner;
      group = Some group;
      sacl = sacl;
      dacl = dacl;
    }))))

-- ---- what a call answers

abbrev pub fault_number : CreateFault → ℕ
fault_number Owner = 1
fault_number NoOwner = 2
fault_number NoGroup = 3
fault_number TooLarge = 4

abbrev pub fault_name : CreateFault → List ℕ
fault_name Owner = codes "Owner"
fault_name NoOwner = codes "NoOwner"
fault_name NoGroup = codes "NoGroup"
fault_name TooLarge = codes "TooLarge"

-- an error is the fault, or that memory ran out
abbrev pub Fails : {B : Type 0} → CreateError → Result B CreateFault → Type 0
Fails errors.Memory found = Unit {0}
Fails (errors.Fault fault) found = found ≡ Err fault

-- what a function returns is what is found, unless memory runs out
abbrev pub Gives : {A B : Type 0} → (A → B) → Result A CreateError → Result B CreateFault → Type 0
Gives view (Ok x) found = found ≡ Ok (view x)
Gives view (Err e) found = Fails e found

-- how many entries a list can be made of
abbrev pub source_count : SourcesValue → ℕ
source_count s = length s.parent + length (entries_of s.given) + length (entries_of s.otherwise)

-- owner and group aren't refused, and there are entries of which a list can be made
pub record TakesMemory (c : CreationValue) : Type 0 where
  pub owner : IsOk (owner_of c)
  pub group : IsOk (group_of c)
  pub entries : 0 < source_count (sacl_sources c) + source_count (dacl_sources c)
