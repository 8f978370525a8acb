-- What `--object` makes of a descriptor: that of an object and of no container, which hands nothing on. The flags OI
-- and CI of its entries ([MS-DTYP] 2.4.4.1) say nothing then, and are left out.
use Rattle.std.specs.Prelude.{◌≡◌, ℕ, Bool, ◌&&◌, bit_and, if◌then◌else◌, List, [], map, Option, Some}
use Rattle.std.specs.List.{list_any}
use Rattle.sd_sid.specs.Mapping.{MappingValue}
use Rattle.sd_sid.specs.Sid.{SidValue}
use Rattle.sd_acl.specs.Ace.{passes_on}
use Rattle.sd_acl.specs.Dacl.{Dacl}
use Rattle.sd_acl.specs.Descriptor.{DescriptorValue}
use Rattle.sd_acl.specs.declared.ace.Ace.{Ace}
use Rattle.sd_acl.specs.declared.descriptor.DaclOf.TheVariants.{Absent, Null, List as Entries}
use Rattle.sd_answer.specs.Parts.{entries_in}
use Rattle.sd_check.specs.Check.{verdict}
use Rattle.sd_check.specs.Token.{TokenValue}
use Rattle.sd_analysis.specs.Descendants.{list_of}
use Rattle.sd_analysis.specs.declared.descendants.Descendant.{Descendant}

-- without OI, 0x01, and CI, 0x02
abbrev pub object_entry : Ace → Ace
object_entry e = record e { flags = record { 0 = bit_and e.flags.0 0xFC } }

abbrev pub object_dacl : Dacl → Dacl
object_dacl Absent = Absent
object_dacl Null = Null
object_dacl (Entries es) = Entries (map object_entry es)

abbrev pub looked_at : Bool → DescriptorValue → DescriptorValue
looked_at is_object d = if is_object then record d { dacl = object_dacl d.dacl } else d

-- what has OI or CI is passed on, so that something is left out
abbrev pub is_passed_on : Ace → Bool
is_passed_on e = passes_on e.flags.0

abbrev pub leaves_out : Bool → DescriptorValue → Bool
leaves_out is_object d = is_object && list_any is_passed_on (entries_in d.dacl)

-- each check of the object has the verdict of the list that is given, and nothing that is made in it would inherit
abbrev pub ObjectDecidesAlike : Type 0
ObjectDecidesAlike = (owner : Option SidValue) (es : List Ace) (g : MappingValue) (t : TokenValue) (r : ℕ)
    → verdict owner (Some (map object_entry es)) g t r ≡ verdict owner (Some es) g t r

abbrev pub ObjectHandsNothingOn : Type 0
ObjectHandsNothingOn = (g : MappingValue) (d : Descendant) (es : List Ace) → list_of g d (map object_entry es) ≡ []
