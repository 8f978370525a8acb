-- What has no text ([MS-DTYP] 2.5.1.1): what the text doesn't say, so that it would be parsed as another descriptor.
use Rattle.std.specs.Prelude.{◌≡◌, ℕ, ◌+◌, not, ◌==◌, List, [], ◌∷◌, length, is_some, Result, Ok, Err, codes}
use Rattle.std.specs.Prelude.{if◌then◌else◌}
use Rattle.sd_acl.specs.declared.descriptor.DaclOf.TheVariants.{Absent, Null, List as Entries}
use Rattle.sd_whole.specs.Reading.{WholeAcl}
use Rattle.sd_whole.specs.declared.ace.WholeAce.{WholeAce}
use Rattle.sd_whole.specs.declared.ace.WholeAce.TheVariants as aces
use Rattle.sd_whole.specs.declared.descriptor.WholeDescriptor.{WholeDescriptor}
use Rattle.sd_wire.specs.Reading.{is_set}
use Rattle.sd_whole_text.specs.Data.{data_text}
use Rattle.sd_whole_text.specs.Kind.{letters_of}
use Rattle.sd_whole_text.specs.declared.no_text.AclKind.{AclKind}
use Rattle.sd_whole_text.specs.declared.no_text.AclKind.TheVariants.{Dacl, Sacl}
use Rattle.sd_whole_text.specs.declared.no_text.NoText.{NoText}
use Rattle.sd_whole_text.specs.declared.no_text.NoText.TheVariants.{ResourceManager, Control, Keywords, Opaque, Kind}
use Rattle.sd_whole_text.specs.declared.no_text.NoText.TheVariants.{Data}
use Rattle.sd_whole_text.specs.declared.no_text.WholeTextError.{WholeTextError}
use Rattle.sd_whole_text.specs.declared.no_text.WholeTextError.TheVariants as errors

abbrev pub no_text_number : NoText → ℕ
no_text_number ResourceManager = 1
no_text_number Control = 2
no_text_number (Keywords acl) = 3
no_text_number (Opaque acl entry) = 4
no_text_number (Kind acl entry) = 5
no_text_number (Data acl entry) = 6

abbrev pub no_text_name : NoText → List ℕ
no_text_name ResourceManager = codes "ResourceManager"
no_text_name Control = codes "Control"
no_text_name (Keywords acl) = codes "Keywords"
no_text_name (Opaque acl entry) = codes "Opaque"
no_text_name (Kind acl entry) = codes "Kind"
no_text_name (Data acl entry) = codes "Data"

infixl 10 ◌>>◌
-- one test after another: the first that fails is the result
abbrev pub ◌>>◌ : {A : Type 0} → Result (Unit {0}) NoText → Result A NoText → Result A NoText
(Ok passed) >> next = next
(Err why) >> next = Err why

-- ---- the header

-- the control bits without a keyword: OD, GD, DD, SD, SS, DT and RM (2.4.6)
abbrev pub bits_without_keyword : ℕ
bits_without_keyword = 0x40eb

-- the control bits of the keywords P, AR and AI
abbrev pub keyword_bits : AclKind → ℕ
keyword_bits Dacl = 0x1500
keyword_bits Sacl = 0x2a00

-- keywords of a SACL or a DACL need its section
abbrev pub keywords_test : AclKind → ℕ → WholeAcl → Result (Unit {0}) NoText
keywords_test acl control Absent = if is_set (keyword_bits acl) control then Err (Keywords acl) else Ok tt
keywords_test acl control Null = Ok tt
keywords_test acl control (Entries list) = Ok tt

abbrev pub header_test : WholeDescriptor → Result (Unit {0}) NoText
header_test d =
    if not (d.resource_manager == 0) then Err ResourceManager
    else if is_set bits_without_keyword d.control then Err Control
    else keywords_test Dacl d.control d.dacl >> keywords_test Sacl d.control d.sacl

-- ---- the entries

-- an entry at this place of its list, from 1 on
abbrev pub entry_test : AclKind → ℕ → WholeAce → Result (Unit {0}) NoText
entry_test acl place (aces.Plain e) = Ok tt
entry_test acl place (aces.Typed e) =
    if length (letters_of e.kind) == 0 then Err (Kind acl place)
    else if is_some (data_text e) then Ok tt
    else Err (Data acl place)
entry_test acl place (aces.Opaque e) = Err (Opaque acl place)

-- entries, the first of which is at this place
abbrev pub entries_test : AclKind → ℕ → List WholeAce → Result (Unit {0}) NoText
entries_test acl place [] = Ok tt
entries_test acl place (e ∷ es) = entry_test acl place e >> entries_test acl (place + 1) es

-- a SACL or a DACL
abbrev pub acl_test : AclKind → WholeAcl → Result (Unit {0}) NoText
acl_test acl Absent = Ok tt
acl_test acl Null = Ok tt
acl_test acl (Entries list) = entries_test acl 1 list.entries

-- ---- the descriptor: its header, then its entries in the order of the text

abbrev pub sections_test : WholeDescriptor → Result (Unit {0}) NoText
sections_test d = acl_test Dacl d.dacl >> acl_test Sacl d.sacl

unfoldable pub whole_test : WholeDescriptor → Result (Unit {0}) NoText
whole_test d = header_test d >> sections_test d

-- what printing returns, seen by view, is the text, or what has none, unless memory runs out
abbrev pub Gives : {X Y : Type 0} → (X → Y) → Result X WholeTextError → Result Y NoText → Type 0
Gives view (Ok x) text = text ≡ Ok (view x)
Gives view (Err (errors.NoText why)) text = text ≡ Err why
Gives view (Err errors.Memory) text = Unit {0}
