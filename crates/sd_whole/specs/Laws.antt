-- The laws of whole descriptors as bytes.
use Rattle.std.specs.Prelude.{◌≡◌, ℕ, ◌<◌, List, length, take, drop, slice_index, Ok}
use Rattle.std.specs.List.{flat_map}
use Rattle.sd_acl.specs.Descriptor.{DescriptorValue}
use Rattle.sd_wire.specs.Reading.{descriptor_read}
use Rattle.sd_whole.specs.declared.ace.WholeAce.{WholeAce}
use Rattle.sd_whole.specs.Entry.{whole_entry_bytes}
use Rattle.sd_whole.specs.declared.descriptor.WholeDescriptor.{WholeDescriptor}
use Rattle.sd_whole.specs.Plain.{IsPlainOf}
use Rattle.sd_whole.specs.Reading.{whole_entry_read, whole_list_read, whole_read}
use Rattle.sd_whole.specs.Values.{WholeListValue}
use Rattle.sd_whole.specs.Whole.{IsWholeDescriptor}
use Rattle.sd_whole.specs.Writing.{whole_wire_of}

-- an entry goes out as it came in: what is written is what was parsed
abbrev pub EntriesStayAsTheyAre : Type 0
EntriesStayAsTheyAre = (bytes : List ℕ) (e : WholeAce) (n : ℕ) → ((i : ℕ) → slice_index bytes i < 256)
    → whole_entry_read bytes ≡ Ok (e, n) → take n bytes ≡ whole_entry_bytes e

-- the entries of a list, one after another, are the bytes after the list's header, as far as they reach
abbrev pub ListsStayAsTheyAre : Type 0
ListsStayAsTheyAre = (bytes : List ℕ) (list : WholeListValue) → ((i : ℕ) → slice_index bytes i < 256)
    → whole_list_read bytes ≡ Ok list → take (length (flat_map whole_entry_bytes list.entries)) (drop 8 bytes)
    ≡ flat_map whole_entry_bytes list.entries

-- what is written is parsed again
abbrev pub WholeDescriptorsComeBack : Type 0
WholeDescriptorsComeBack = (d : WholeDescriptor) → IsWholeDescriptor d → whole_read (whole_wire_of d) ≡ Ok d

-- what is parsed as a plain descriptor is parsed as a whole one, whose plain form it is
abbrev pub PlainDescriptorsAreWhole : Type 0
PlainDescriptorsAreWhole = (bytes : List ℕ) (plain : DescriptorValue) → descriptor_read bytes ≡ Ok plain
    → (d : WholeDescriptor) × (whole_read bytes ≡ Ok d) × IsPlainOf d plain
