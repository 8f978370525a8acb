-- The length of a self-relative descriptor ([MS-DTYP] 2.4.6): from its first byte to the end of the last part.
use Rattle.std.specs.Prelude.{◌≡◌, ◌⊎◌, ℕ, ◌+◌, ◌*◌, ◌<◌, ◌≤◌, max, List, length, take, slice_index, Option, Some, None}
use Rattle.std.specs.Prelude.{Ok}
use Rattle.sd_sid.specs.Sid.{SidValue}
use Rattle.sd_sid.specs.SidBytes.{u32_at}
use Rattle.sd_acl.specs.Descriptor.{DescriptorValue, IsDescriptor}
use Rattle.sd_acl.specs.Dacl.{Dacl}
use Rattle.sd_acl.specs.declared.descriptor.DaclOf.TheVariants.{List as Entries}
use Rattle.sd_wire.specs.Reading.{u16_at, descriptor_read}
use Rattle.sd_c.specs.declared.call_answer.Written.{Written}
use Rattle.sd_c.specs.declared.refusal.Refusal.{Refusal}
use Rattle.sd_c.specs.Written.{RefusesBytes, refused}

-- the end of the owner or the group at the offset; of none, the header's end
abbrev pub trustee_end : ℕ → Option SidValue → ℕ
trustee_end o None = 20
trustee_end o (Some s) = o + (8 + 4 * length s.subs)

-- the end of the list at the offset, by its AclSize; of none, the header's end
abbrev pub dacl_end : List ℕ → ℕ → Dacl → ℕ
dacl_end bytes o (Entries es) = o + u16_at bytes (o + 2)
dacl_end bytes o _ = 20

-- where there is a list, the bytes have the front of its header
abbrev pub HasListRoom : List ℕ → ℕ → Dacl → Type 0
HasListRoom bytes o (Entries es) = o + 4 ≤ length bytes
HasListRoom bytes o _ = Unit {0}

-- the end of the last part
abbrev pub descriptor_end : List ℕ → DescriptorValue → ℕ
descriptor_end bytes d =
    max (max (trustee_end (u32_at bytes 4) d.owner) (trustee_end (u32_at bytes 8) d.group))
    (dacl_end bytes (u32_at bytes 16) d.dacl)

abbrev pub IsLengthOf : List ℕ → ℕ → Type 0
IsLengthOf bytes n = (d : DescriptorValue) × (descriptor_read bytes ≡ Ok d) × (n ≡ descriptor_end bytes d)

-- a length is returned, and nothing is written
abbrev pub length_told : ℕ → Written
length_told n = record { status = 0; fault = 0; place = 0; length = n }

abbrev pub AnswersLength : List ℕ → Written → Type 0
AnswersLength bytes answer =
    ((n : ℕ) × IsLengthOf bytes n × (answer ≡ length_told n))
    ⊎ ((why : Refusal) × RefusesBytes bytes why × (answer ≡ refused why))

-- the front of the bytes, up to that end or further, is parsed as the same descriptor
abbrev pub FrontIsRead : Type 0
FrontIsRead =
    (bytes : List ℕ) (d : DescriptorValue) (n : ℕ) → ((i : ℕ) → slice_index bytes i < 256) → IsDescriptor d
    → descriptor_read bytes ≡ Ok d → descriptor_end bytes d ≤ n → descriptor_read (take n bytes) ≡ Ok d
