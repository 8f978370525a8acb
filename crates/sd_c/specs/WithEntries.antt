-- What the call answers that makes a list of a whole descriptor of entries ([MS-DTYP] 2.4.4 to 2.4.6).
use Rattle.std.specs.Prelude.{◌≡◌, ◌⊎◌, ℕ, ◌+◌, ◌<◌, ◌≤◌, ◌==◌, List, [], ◌∷◌, length, drop, Ok, Err, IsSome}
use Rattle.std.specs.Prelude.{if◌then◌else◌}
use Rattle.sd_acl.specs.declared.descriptor.DaclOf.TheVariants.{List as Entries}
use Rattle.sd_wire.specs.declared.fault.WireFault.{WireFault}
use Rattle.sd_wire.specs.declared.fault.WireFault.TheVariants.{AclSize}
use Rattle.sd_whole.specs.Entry.{whole_acl_size}
use Rattle.sd_whole.specs.Reading.{WholeAcl, revision_read, whole_entry_read, whole_read}
use Rattle.sd_whole.specs.Values.{WholeListValue}
use Rattle.sd_whole.specs.Writing.{whole_wire_of}
use Rattle.sd_whole.specs.declared.ace.WholeAce.{WholeAce}
use Rattle.sd_whole.specs.declared.descriptor.WholeDescriptor.{WholeDescriptor}
use Rattle.sd_c.specs.declared.refusal.Refusal.{Refusal}
use Rattle.sd_c.specs.declared.refusal.Refusal.TheVariants.{Memory, Wire}
use Rattle.sd_c.specs.WholeParts.{RefusesPart, list_with}

-- ---- entries, one after the other

-- the bytes start with these entries, one after the other, and the rest follows
abbrev pub StartsWith : List ℕ → List WholeAce → List ℕ → Type 0
StartsWith bytes [] rest = bytes ≡ rest
StartsWith bytes (e ∷ es) rest = (n : ℕ) × (whole_entry_read bytes ≡ Ok (e, n)) × StartsWith (drop n bytes) es rest

-- the bytes are read as these entries, one after the other
abbrev pub AreEntriesOf : List ℕ → List WholeAce → Type 0
AreEntriesOf bytes es = StartsWith bytes es []

-- no entry is at the front of the bytes. An allocation fails only where there is room for one
abbrev pub RefusesEntry : List ℕ → Refusal → Type 0
RefusesEntry bytes Memory = 4 ≤ length bytes
RefusesEntry bytes (Wire fault) = whole_entry_read bytes ≡ Err fault
RefusesEntry bytes _ = ⊥

-- after some entries more bytes follow, and no entry is at their front
abbrev pub RefusesEntries : List ℕ → Refusal → Type 0
RefusesEntries bytes why =
    (es : List WholeAce) × (rest : List ℕ) × StartsWith bytes es rest × (0 < length rest) × RefusesEntry rest why

-- ---- their list

-- the list has this AclRevision and these entries, and at most 65,535 bytes
abbrev pub IsListOf : ℕ → List ℕ → WholeListValue → Type 0
IsListOf revision entries list =
    (revision_read revision ≡ Ok list.revision) × AreEntriesOf entries list.entries
    × (whole_acl_size list.entries ≤ 65535)

-- AclRevision is neither 2 nor 4, the list would have more bytes, or the entries are refused
abbrev pub RefusesList : ℕ → List ℕ → Refusal → Type 0
RefusesList revision entries why =
    ((fault : WireFault) × (revision_read revision ≡ Err fault) × (why ≡ Wire fault))
    ⊎ (((65535 < 8 + length entries) × (why ≡ Wire AclSize)) ⊎ RefusesEntries entries why)

-- ---- the descriptor with it

-- the descriptor with this as its list of the number: 1 the DACL, 2 the SACL
abbrev pub with_list : ℕ → WholeAcl → WholeDescriptor → WholeDescriptor
with_list list acl w = if list == 1 then record w { dacl = acl } else record w { sacl = acl }

-- the written form of the descriptor that the bytes hold, with the list of these entries
abbrev pub IsWithEntries : List ℕ → ℕ → ℕ → List ℕ → List ℕ → Type 0
IsWithEntries bytes list revision entries form =
    (w : WholeDescriptor) × (made : WholeListValue) × (whole_read bytes ≡ Ok w) × IsSome (list_with list w)
    × IsListOf revision entries made × (form ≡ whole_wire_of (with_list list (Entries made) w))

-- the bytes hold no descriptor, or it doesn't have such a list, or the list of the entries is refused
abbrev pub RefusesWithEntries : List ℕ → ℕ → ℕ → List ℕ → Refusal → Type 0
RefusesWithEntries bytes list revision entries why =
    RefusesPart (list_with list) bytes why
    ⊎ ((w : WholeDescriptor) × (whole_read bytes ≡ Ok w) × RefusesList revision entries why)
