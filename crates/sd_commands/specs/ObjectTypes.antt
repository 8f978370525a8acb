-- Which object types an answer is about, where that depends on it: what the answer leaves out, and standard error says.
use Rattle.std.specs.Prelude.{◌≡◌, ℕ, Bool, true, false, not, ◌&&◌, ◌||◌, is_some, List, [], ◌∷◌, ◌++◌, codes}
use Rattle.std.specs.Prelude.{if◌then◌else◌, Ok, Option}
use Rattle.std.specs.Bool.{Decides}
use Rattle.std.specs.List.{list_any}
use Rattle.sd_acl.specs.Descriptor.{DescriptorValue}
use Rattle.sd_acl.specs.declared.descriptor.DaclOf.TheVariants.{Absent, Null, List as Entries}
use Rattle.sd_specialize.specs.Children.{handed_entries}
use Rattle.sd_specialize.specs.Context.{ContextValue}
use Rattle.sd_specialize.specs.Laws.{asking}
use Rattle.sd_specialize.specs.Marked.{conditionals, marked}
use Rattle.sd_whole.specs.Entry.{for_children_alone}
use Rattle.sd_whole.specs.Reading.{WholeAcl}
use Rattle.sd_whole.specs.declared.ace.TypedAce.{TypedAce}
use Rattle.sd_whole.specs.declared.ace.WholeAce.{WholeAce}
use Rattle.sd_whole.specs.declared.ace.WholeAce.TheVariants.{Plain, Typed, Opaque}
use Rattle.sd_whole.specs.declared.descriptor.WholeDescriptor.{WholeDescriptor}
use Rattle.sd_whole.specs.declared.types.Guid.{Guid}
use Rattle.sd_line.specs.Line.{LineOf, form, line_of}
use Rattle.sd_answer.specs.declared.forms.TheConstants.{WHOLE_ALONE}
use Rattle.sd_commands.specs.Answer.{AnswerValue, Telling}
use Rattle.sd_commands.specs.Chain.{types_of}
use Rattle.sd_commands.specs.Diagnostic.{told_line}
use Rattle.sd_commands.specs.declared.settings.Settings.{Settings}

-- an effective entry with an ObjectType ([MS-DTYP] 2.4.4.3), or where children are looked at one for them: its part
-- depends on the object types asked about (2.5.3.2)
abbrev pub is_for_type : (below : Bool) → WholeAce → Bool
is_for_type below (Plain e) = false
is_for_type below (Typed e) = is_some e.types.object && (below || not (for_children_alone e.flags.0))
is_for_type below (Opaque e) = false

-- one of the entries is such
abbrev pub has_types : (below : Bool) → WholeAcl → Bool
has_types below Absent = false
has_types below Null = false
has_types below (Entries list) = list_any (is_for_type below) list.entries

-- no object type is asked about
abbrev pub is_of_whole : List Guid → Bool
is_of_whole [] = true
is_of_whole (type ∷ types) = false

-- whether `compare` depends on them: one of the two has such an entry, and they don't have one owner and one DACL
abbrev pub ChangeHasTypes : Bool → (below : Bool) → (old new : WholeDescriptor) → Type 0
ChangeHasTypes depends below old new =
    (same : Bool) × Decides same ((old.owner ≡ new.owner) × (old.dacl ≡ new.dacl))
    × (depends ≡ ((has_types below old.dacl || has_types below new.dacl) && not same))

-- the line of an answer that depends on them, where none is asked about
abbrev pub types_left_out : Settings → Bool → List LineOf
types_left_out settings depends =
    if depends && is_of_whole (types_of settings.chain) then line_of (form WHOLE_ALONE) [] ∷ [] else []

-- what standard error says: how an object type is asked about, or that others aren't looked at
abbrev pub types_text : Bool → List ℕ
types_text true = codes "asks about an object type"
types_text false = codes "only these object types are looked at: of others the answer may be another"

-- that is said where the answer depends on them
abbrev pub types_note : Settings → Bool → List ℕ
types_note settings depends =
    if depends then told_line (codes "--type") (types_text (is_of_whole (types_of settings.chain))) else []

-- what is answered with that line, and before what else standard error says, that
abbrev pub NotingTypes : Settings → Bool → (List LineOf → AnswerValue → Type 0) → AnswerValue → Type 0
NotingTypes settings depends Answers =
    Telling (types_note settings depends) (Answers (types_left_out settings depends))

-- where there is no such entry, the plain descriptor is the same for all object types
abbrev pub TypesChangeNothing : Type 0
TypesChangeNothing = (c : ContextValue) (other : List Guid) (marks : List TypedAce) (d : WholeDescriptor)
    → has_types false d.dacl ≡ false → marked (asking c other) marks d ≡ marked c marks d

-- and none for children, what they inherit
abbrev pub TypesChangeNoChild : Type 0
TypesChangeNoChild = (class : Option Guid) (c : ContextValue) (other : List Guid) (marks : List TypedAce)
    (acl : WholeAcl) → has_types true acl ≡ false
    → handed_entries class (asking c other) marks acl ≡ handed_entries class c marks acl

-- where both have one owner and one DACL, so have the plain descriptors of each question
abbrev pub OneListForAllTypes : Type 0
OneListForAllTypes = (c : ContextValue) (old new : WholeDescriptor) (plain_old plain_new : DescriptorValue)
    → old.owner ≡ new.owner → old.dacl ≡ new.dacl
    → marked c (conditionals old.dacl) old ≡ Ok plain_old
    → marked c (conditionals old.dacl ++ conditionals new.dacl) new ≡ Ok plain_new
    → (plain_old.owner ≡ plain_new.owner) × (plain_old.dacl ≡ plain_new.dacl)
