-- The descriptor of a new object ([MS-DTYP] 2.5.3.4), of what the arguments of the call hold.
use Rattle.std.specs.Prelude.{◌≡◌, ◌⊎◌, ℕ, ◌<◌, ◌%◌, ◌==◌, not, List, length, Option, Some, None, Result, Ok, Err, IsOk}
use Rattle.std.specs.Prelude.{if◌then◌else◌}
use Rattle.sd_create.specs.Create.{CreationValue, TakesMemory, created}
use Rattle.sd_create.specs.declared.fault.CreateFault.{CreateFault}
use Rattle.sd_inheritance.specs.declared.kind.NodeKind.{NodeKind}
use Rattle.sd_inheritance.specs.declared.kind.NodeKind.TheVariants.{Container, Object}
use Rattle.sd_sid.specs.Mapping.{MappingValue}
use Rattle.sd_sid.specs.Sid.{SidValue}
use Rattle.sd_whole.specs.Memory.{WholeTakesMemory}
use Rattle.sd_whole.specs.Reading.{WholeAcl, whole_read}
use Rattle.sd_whole.specs.Writing.{whole_wire_of}
use Rattle.sd_whole.specs.declared.descriptor.WholeDescriptor.{WholeDescriptor}
use Rattle.sd_whole.specs.declared.types.Guid.{Guid}
use Rattle.sd_wire.specs.declared.fault.WireFault.{WireFault}
use Rattle.sd_c.specs.declared.call_answer.CheckAnswer.{CheckAnswer}
use Rattle.sd_c.specs.declared.creating.Created.{Created}
use Rattle.sd_c.specs.declared.creation.CreationPart.{CreationPart}
use Rattle.sd_c.specs.declared.creation.CreationPart.TheVariants as parts
use Rattle.sd_c.specs.declared.mapping.Mapping.{Mapping}
use Rattle.sd_c.specs.declared.stop.NotRead.{NotRead}
use Rattle.sd_c.specs.declared.stop.NotRead.TheVariants.{Creator, Defaults, NoDefault, NotCreated, Owner, Parent}
use Rattle.sd_c.specs.declared.stop.NotRead.TheVariants.{Restricting, Types}
use Rattle.sd_c.specs.CallAnswer.{check_memory, not_read, unwritten}
use Rattle.sd_c.specs.Request.{◌>>=◌, mapping_read, restricting_read}
use Rattle.sd_c.specs.WholeCheck.{types_in}
use Rattle.sd_c.specs.Written.{Writes}

-- ---- the arguments

abbrev pub part_fault : CreationPart → WireFault → NotRead
part_fault parts.Parent fault = Parent fault
part_fault parts.Creator fault = Creator fault
part_fault parts.Defaults fault = Defaults fault

abbrev pub of_bytes : CreationPart → Result WholeDescriptor WireFault → Result WholeDescriptor NotRead
of_bytes part (Ok w) = Ok w
of_bytes part (Err fault) = Err (part_fault part fault)

-- the descriptor that the bytes hold; without bytes there is none
abbrev pub given_read : CreationPart → List ℕ → Result (Option WholeDescriptor) NotRead
given_read part bytes =
    if length bytes == 0 then Ok None else (of_bytes part (whole_read bytes) >>= λ w. Ok (Some w))

-- what the creator's token has by default: owner, group and DACL
pub record DefaultsValue : Type 0 where
  pub owner : SidValue
  pub group : SidValue
  pub dacl : WholeAcl

abbrev pub defaults_of : Option SidValue → Option SidValue → WholeAcl → Result DefaultsValue NotRead
defaults_of (Some owner) (Some group) dacl = Ok (record { owner = owner; group = group; dacl = dacl })
defaults_of (Some owner) None dacl = Err NoDefault
defaults_of None group dacl = Err NoDefault

-- a descriptor's, which has to have an owner and a group
abbrev pub defaults_in : WholeDescriptor → Result DefaultsValue NotRead
defaults_in w = defaults_of w.owner w.group w.dacl

abbrev pub owner_fault : NotRead → NotRead
owner_fault (Restricting fault at) = Owner fault at
owner_fault why = why

abbrev pub of_owners : Result (List SidValue) NotRead → Result (List SidValue) NotRead
of_owners (Ok sids) = Ok sids
of_owners (Err why) = Err (owner_fault why)

-- the SIDs that the token may make the owner, as restricting SIDs are given
abbrev pub owners_read : List ℕ → Result (List SidValue) NotRead
owners_read bytes = of_owners (restricting_read bytes)

-- the object's classes, of 16 bytes each ([MS-DTYP] 2.3.4.2)
abbrev pub classes_read : List ℕ → Result (List Guid) NotRead
classes_read bytes = if length bytes % 16 == 0 then Ok (types_in bytes) else Err Types

-- what the arguments hold
pub record HeldValue : Type 0 where
  pub parent : Option WholeDescriptor
  pub creator : Option WholeDescriptor
  pub defaults : DefaultsValue
  pub owners : List SidValue
  pub types : List Guid
  pub mapping : MappingValue

-- the parent, then what the creator gave, what its token has by default, the owners, the classes, and the mapping
unfoldable pub held_read : (parent creator defaults owners types : List ℕ) → Mapping → Result HeldValue NotRead
held_read parent creator defaults owners types mapping =
    given_read parts.Parent parent >>= λ p.
    (given_read parts.Creator creator >>= λ c.
    (of_bytes parts.Defaults (whole_read defaults) >>= λ w.
    (defaults_in w >>= λ d.
    (owners_read owners >>= λ sids.
    (classes_read types >>= λ classes.
    (mapping_read mapping >>= λ g. Ok (record {
      parent = p;
      creator = c;
      defaults = d;
      owners = sids;
      types = classes;
      mapping = g;
    })))))))

-- ---- the object

abbrev pub kind_of : ℕ → NodeKind
kind_of container = if container == 0 then Object else Container

-- the input of CreateSecurityDescriptor
abbrev pub creation_by : (container flags restores : ℕ) → HeldValue → CreationValue
creation_by container flags restores held = record {
  parent = held.parent;
  creator = held.creator;
  kind = kind_of container;
  types = held.types;
  flags = flags;
  token = record {
    owner = held.defaults.owner;
    group = held.defaults.group;
    dacl = held.defaults.dacl;
    owners = held.owners;
    restore = not (restores == 0);
  };
  mapping = held.mapping;
}

abbrev pub of_creation : Result WholeDescriptor CreateFault → Result WholeDescriptor NotRead
of_creation (Ok w) = Ok w
of_creation (Err fault) = Err (NotCreated fault)

-- the form of its descriptor, or why there is none
abbrev pub form_of : (container flags restores : ℕ) → Result HeldValue NotRead → Result (List ℕ) NotRead
form_of container flags restores read =
    read >>= λ held.
    (of_creation (created (creation_by container flags restores held)) >>= λ w. Ok (whole_wire_of w))

-- ---- the answer

abbrev pub not_created : CheckAnswer → Created
not_created told = record { written = unwritten told; argument = told.argument }

-- memory runs out only where a descriptor has entries, or there are owners or classes
abbrev pub HeldTakesMemory : (parent creator defaults owners types : List ℕ) → Type 0
HeldTakesMemory parent creator defaults owners types =
    WholeTakesMemory parent ⊎ WholeTakesMemory creator ⊎ WholeTakesMemory defaults
    ⊎ (0 < length owners) ⊎ (0 < length types)

-- or where the object's lists can have entries, or its descriptor is there to be written
abbrev pub MakingTakesMemory : CreationValue → Type 0
MakingTakesMemory c = TakesMemory c ⊎ IsOk (created c)

abbrev pub CreateTakesMemory : (parent creator defaults owners types : List ℕ) → (container flags restores : ℕ)
    → Mapping → Type 0
CreateTakesMemory parent creator defaults owners types container flags restores mapping =
    HeldTakesMemory parent creator defaults owners types
    ⊎ ((held : HeldValue) × (held_read parent creator defaults owners types mapping ≡ Ok held)
    × MakingTakesMemory (creation_by container flags restores held))

-- the form is written, or the buffer is too small for it; or nothing is written, and the first argument that is refused
-- is said, or why the object gets no descriptor
abbrev pub Creates : Result (List ℕ) NotRead → List ℕ → List ℕ → Created → Type 0
Creates (Ok form) old new answer = Writes form old new answer.written × (answer.argument ≡ 0)
Creates (Err why) old new answer = (answer ≡ not_created (not_read why)) × (new ≡ old)

-- or memory ran out
abbrev pub AnswersCreate : Type 0 → Result (List ℕ) NotRead → List ℕ → List ℕ → Created → Type 0
AnswersCreate TakesIt form old new answer =
    Creates form old new answer ⊎ (TakesIt × (answer ≡ not_created check_memory) × (new ≡ old))
