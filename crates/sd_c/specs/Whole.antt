-- Whole descriptors ([MS-DTYP] 2.4.6, with entries of every type in both lists) out of texts, bytes and blobs.
use Rattle.std.specs.Prelude.{◌≡◌, ◌⊎◌, ℕ, ◌+◌, ◌-◌, ◌<◌, ◌≤◌, nat_lt, List, [], ◌++◌, length, drop, slice_range}
use Rattle.std.specs.Prelude.{Option, Result, Ok, Err, IsTrue, if◌then◌else◌}
use Rattle.std.specs.Str.{IsUtf8}
use Rattle.sd_text.specs.Alias.{in_domain}
use Rattle.sd_text.specs.declared.alias.Aliases.{Aliases}
use Rattle.sd_text.specs.declared.domain.Domain.{Domain}
use Rattle.sd_wire.specs.declared.fault.WireFault.{WireFault}
use Rattle.sd_wire.specs.declared.fault.WireFault.TheVariants.{Short}
use Rattle.sd_whole.specs.Memory.{WholeTakesMemory}
use Rattle.sd_whole.specs.Reading.{whole_read}
use Rattle.sd_whole.specs.Writing.{whole_wire_of}
use Rattle.sd_whole.specs.declared.descriptor.WholeDescriptor.{WholeDescriptor}
use Rattle.sd_whole_parse.specs.Descriptor.{whole_found}
use Rattle.sd_whole_parse.specs.Finding.{has_opening}
use Rattle.sd_c.specs.declared.refusal.Refusal.{Refusal}
use Rattle.sd_c.specs.declared.refusal.Refusal.TheVariants.{Memory, Utf8, Text, Wire}
use Rattle.sd_c.specs.InDomain.{IsDomainArgument, RefusesDomain}
use Rattle.sd_c.specs.Written.{IsNotUtf8}

-- ---- a text

-- the text spells this descriptor
abbrev pub SaysWhole : Aliases → List ℕ → WholeDescriptor → Type 0
SaysWhole known text w = IsUtf8 text × (whole_found known text ≡ Ok (w, []))

-- the text is refused: it isn't UTF-8 from there on, or its first fault is there. Memory is wanting only for a text
-- that has an entry, or that is valid
abbrev pub RefusesWholeText : Aliases → List ℕ → Refusal → Type 0
RefusesWholeText known text Memory = IsTrue (has_opening text) ⊎ ((w : WholeDescriptor) × SaysWhole known text w)
RefusesWholeText known text (Utf8 place) = IsNotUtf8 text place
RefusesWholeText known text (Text fault place) =
    (there : List ℕ) × (whole_found known text ≡ Err (fault, there)) × (place ≡ length text - length there)
RefusesWholeText known text _ = ⊥

-- the written form of the descriptor that the text spells in the domain, if one is given
abbrev pub IsWholeForm : List ℕ → List ℕ → List ℕ → Type 0
IsWholeForm domain text form =
    (known : Option Domain) × (w : WholeDescriptor) × IsDomainArgument domain known
    × SaysWhole (in_domain known) text w × (form ≡ whole_wire_of w)

-- the domain's bytes are refused, or the text is
abbrev pub RefusesWholeSddl : List ℕ → List ℕ → Refusal → Type 0
RefusesWholeSddl domain text why =
    ((0 < length domain) × RefusesDomain domain why)
    ⊎ ((known : Option Domain) × IsDomainArgument domain known × RefusesWholeText (in_domain known) text why)

-- ---- bytes

-- bytes are refused: they hold no descriptor. Memory is wanting only for bytes whose lists have entries, or that hold a
-- descriptor
abbrev pub RefusesWhole : List ℕ → Refusal → Type 0
RefusesWhole bytes Memory = WholeTakesMemory bytes ⊎ ((w : WholeDescriptor) × (whole_read bytes ≡ Ok w))
RefusesWhole bytes (Wire fault) = whole_read bytes ≡ Err fault
RefusesWhole bytes _ = ⊥

-- ---- a blob

-- the blob with the header at the place instead of its first 20 bytes: its offsets count from the front
abbrev pub header_first : List ℕ → ℕ → List ℕ
header_first blob place = slice_range blob place (place + 20) ++ drop 20 blob

-- the descriptor whose header is at the place
abbrev pub whole_at : List ℕ → ℕ → Result WholeDescriptor WireFault
whole_at blob place =
    if nat_lt (length blob) (place + 20) then Err Short else whole_read (header_first blob place)

-- its written form
abbrev pub IsWholeAt : List ℕ → ℕ → List ℕ → Type 0
IsWholeAt blob place form = (w : WholeDescriptor) × (whole_at blob place ≡ Ok w) × (form ≡ whole_wire_of w)

abbrev pub RefusesBlob : List ℕ → ℕ → Refusal → Type 0
RefusesBlob blob place Memory = place + 20 ≤ length blob
RefusesBlob blob place (Wire fault) = whole_at blob place ≡ Err fault
RefusesBlob blob place _ = ⊥
