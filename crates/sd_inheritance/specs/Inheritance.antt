-- What an entry hands on to a child ([MS-DTYP] 2.5.3.4).
use Rattle.std.specs.Prelude.{Bool, ◌||◌, bit_and, bit_or, if◌then◌else◌, List, [], ◌∷◌}
use Rattle.sd_sid.specs.Mask.{holds}
use Rattle.sd_sid.specs.Mapping.{MappingValue, mapped}
use Rattle.sd_sid.specs.Sid.{SidValue, same_sid}
use Rattle.sd_acl.specs.declared.ace.Ace.{Ace}
use Rattle.sd_inheritance.specs.declared.kind.NodeKind.{NodeKind}
use Rattle.sd_inheritance.specs.declared.kind.NodeKind.TheVariants.{Container, Object}

-- ---- the flags that say how an entry is inherited (2.4.4.1)

abbrev pub object_inherit : Ace → Bool
object_inherit e = holds e.flags.0 0

abbrev pub container_inherit : Ace → Bool
container_inherit e = holds e.flags.0 1

abbrev pub no_propagate : Ace → Bool
no_propagate e = holds e.flags.0 2

-- CREATOR OWNER, S-1-3-0, and CREATOR GROUP, S-1-3-1 (2.4.2.4)
abbrev pub creator_owner : SidValue
creator_owner = record { authority = 3; subs = 0 ∷ [] }

abbrev pub creator_group : SidValue
creator_group = record { authority = 3; subs = 1 ∷ [] }

-- ---- the three copies. Each has ID, and keeps the audit flags SA and FA

-- whom the SID stands for in a child: its owner and its group in place of CREATOR OWNER and CREATOR GROUP
abbrev pub created_by : SidValue → SidValue → SidValue → SidValue
created_by owner group s =
    if same_sid s creator_owner then owner
    else if same_sid s creator_group then group
    else s

-- counts for the child alone: mapped and with the child's own SIDs, and it is handed on no further
abbrev pub effective_copy : MappingValue → SidValue → SidValue → Ace → Ace
effective_copy g owner group e = record {
  kind = e.kind;
  flags = record { 0 = bit_or (bit_and e.flags.0 0xC0) 0x10 };
  mask = mapped g e.mask;
  sid = created_by owner group e.sid;
}

-- waits in the child to be handed on: inherit-only
abbrev pub waiting_copy : Ace → Ace
waiting_copy e = record e { flags = record { 0 = bit_or (bit_and e.flags.0 0xC3) 0x18 } }

-- both counts and is handed on
abbrev pub whole_copy : Ace → Ace
whole_copy e = record e { flags = record { 0 = bit_or (bit_and e.flags.0 0xC3) 0x10 } }

-- whether what counts for the child differs from what is handed on: a generic right, or the creator's SID
abbrev pub is_split : Ace → Bool
is_split e =
    (holds e.mask 28 || holds e.mask 29 || holds e.mask 30 || holds e.mask 31)
    || (same_sid e.sid creator_owner || same_sid e.sid creator_group)

-- ---- what one entry hands on, to a child object and to a child container

abbrev pub to_object : MappingValue → SidValue → SidValue → Ace → List Ace
to_object g owner group e = if object_inherit e then effective_copy g owner group e ∷ [] else []

abbrev pub to_container : MappingValue → SidValue → SidValue → Ace → List Ace
to_container g owner group e =
    if container_inherit e then
    (if no_propagate e then effective_copy g owner group e ∷ []
    else if is_split e then effective_copy g owner group e ∷ waiting_copy e ∷ []
    else whole_copy e ∷ [])
    else if object_inherit e then (if no_propagate e then [] else waiting_copy e ∷ [])
    else []

abbrev pub pass_on : MappingValue → NodeKind → SidValue → SidValue → Ace → List Ace
pass_on g Object owner group e = to_object g owner group e
pass_on g Container owner group e = to_container g owner group e
