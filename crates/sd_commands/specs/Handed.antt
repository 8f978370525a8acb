-- From which entries what is made in a container inherits ([MS-DTYP] 2.5.3.4), as `compare` looks at it: a list for
-- each class of children that an entry names (2.4.4.3), and one for those of other classes; and what changes of it.
use Rattle.std.specs.Prelude.{◌≡◌, Bool, not, ◌&&◌, List, [], ◌∷◌, ◌++◌, Option, Some, None, if◌then◌else◌, option_map}
use Rattle.std.specs.Prelude.{◌==◌, codes, length, map}
use Rattle.std.specs.Bool.{Decides}
use Rattle.std.specs.Borrow.{Bor}
use Rattle.std.specs.Option.{option_to_list}
use Rattle.sd_acl.specs.Descriptor.{DescriptorValue}
use Rattle.sd_acl.specs.declared.ace.Ace.{Ace}
use Rattle.sd_analysis.specs.Descendants.{AreDescendantChanges}
use Rattle.sd_analysis.specs.declared.descendants_compare.DescendantChange.{DescendantChange}
use Rattle.sd_answer.specs.Descendants.{descendants_lines}
use Rattle.sd_answer.specs.Parts.{entries_in}
use Rattle.sd_check.specs.declared.token.GroupState.{GroupState}
use Rattle.sd_line.specs.Line.{LineOf, form, line_of, part_of, with_head, word_part}
use Rattle.sd_line.specs.declared.line.Value.TheVariants.{Text}
use Rattle.sd_specialize.specs.Children.{handed_classes, handed_conditionals, handed_entries, leaves_out_children}
use Rattle.sd_specialize.specs.Context.{ContextValue}
use Rattle.sd_specialize.specs.Laws.{asking}
use Rattle.sd_sid.specs.Sid.{SidValue}
use Rattle.sd_specialize.specs.Marked.{lent_marks}
use Rattle.sd_whole.specs.Reading.{WholeAcl}
use Rattle.sd_whole.specs.declared.ace.TypedAce.{TypedAce}
use Rattle.sd_whole.specs.declared.types.Guid.{Guid}
use Rattle.sd_whole_text.specs.Guid.{guid_text}
use Rattle.sd_commands.specs.Chain.{types_of}
use Rattle.sd_commands.specs.Conditions.{shown_by}
use Rattle.sd_commands.specs.ForEveryone.{marks_of}
use Rattle.sd_commands.specs.WholeVerdict.{everyone_context}
use Rattle.sd_commands.specs.declared.forms.TheConstants.{OBJECT_ALONE, OF_CLASS, OF_OTHERS}
use Rattle.sd_commands.specs.declared.handed.Children.{Children}
use Rattle.sd_commands.specs.declared.handed.Children.TheVariants.{All, OfClass, OfOthers}
use Rattle.sd_commands.specs.declared.handed.Handed.{Handed}
use Rattle.sd_commands.specs.declared.handed.HandedTo.{HandedTo}
use Rattle.sd_commands.specs.declared.settings.Settings.{Settings}

-- ---- which children

-- all, or where entries name classes those of each, and those of others
abbrev pub children_of : List Guid → List Children
children_of classes = if length classes == 0 then All ∷ [] else map OfClass classes ++ OfOthers ∷ []

-- their class, if an entry names it
abbrev pub class_of : Children → Option Guid
class_of All = None
class_of (OfClass class) = Some class
class_of OfOthers = None

-- a line says which they are, where entries name classes
abbrev pub headed : Children → LineOf → LineOf
headed All l = l
headed (OfClass class) l = with_head (part_of OF_CLASS.now (Text (guid_text class) ∷ [])) l
headed OfOthers l = with_head (word_part OF_OTHERS.now (codes "other")) l

-- of a child of a class that class is asked about too, if object types are asked about
abbrev pub types_below : Option Guid → List Guid → List Guid
types_below class types = if length types == 0 then [] else option_to_list class ++ types

abbrev pub child_context : Settings → Children → ContextValue
child_context settings children =
    asking (everyone_context settings) (types_below (class_of children) (types_of settings.chain))

-- ---- what they inherit from

-- the entries of OLD and of NEW, for these children
pub record HandedToValue : Type 0 where
  pub children : Children
  pub old : List Ace
  pub new : List Ace

abbrev pub handed_to_of : HandedTo → HandedToValue
handed_to_of one = record { children = one.children; old = one.old.items; new = one.new.items }

-- those for each, and the conditions for which markers stand in them
pub record HandedValue : Type 0 where
  pub lists : List HandedToValue
  pub marks : List TypedAce

abbrev pub handed_of : Handed → HandedValue
handed_of h = record { lists = map handed_to_of h.lists.items; marks = lent_marks h.marks.items }

abbrev pub lent_handed : Option (Bor Handed) → Option HandedValue
lent_handed handed = option_map (λ one. handed_of one.now) handed

abbrev pub handed_plain : (old new : List Ace) → HandedToValue
handed_plain old new = record { children = All; old = old; new = new }

-- where nothing else is given, the plain descriptors have both
abbrev pub handed_or : Option HandedValue → List TypedAce → (old new : DescriptorValue) → HandedValue
handed_or None marks old new =
    record { lists = handed_plain (entries_in old.dacl) (entries_in new.dacl) ∷ []; marks = marks }
handed_or (Some handed) marks old new = handed

-- ---- of whole DACLs

-- conditions of the objects themselves have the first markers, and those that are handed on the next
abbrev pub marks_below : (old new : WholeAcl) → List TypedAce
marks_below old new = marks_of old new ++ (handed_conditionals old ++ handed_conditionals new)

-- what children inherit is left out where it doesn't follow from plain entries, unless both have one DACL
abbrev pub ChildrenAreLeftOut : Bool → (old new : WholeAcl) → Type 0
ChildrenAreLeftOut is_left old new = (same : Bool) × Decides same (old ≡ new)
    × (is_left ≡ (leaves_out_children old new && not same))

-- then `compare` ends with this line
abbrev pub children_left_out : Bool → List LineOf
children_left_out is_left = if is_left then line_of (form OBJECT_ALONE) [] ∷ [] else []

-- the entries for these children, by these marks
abbrev pub handed_to : Settings → List TypedAce → (old new : WholeAcl) → Children → HandedToValue
handed_to settings marks old new children = record {
  children = children;
  old = handed_entries (class_of children) (child_context settings children) marks old;
  new = handed_entries (class_of children) (child_context settings children) marks new;
}

abbrev pub lists_below : Settings → List TypedAce → (old new : WholeAcl) → List HandedToValue
lists_below settings marks old new = map (handed_to settings marks old new) (children_of (handed_classes old new))

-- and then nothing is inherited
abbrev pub handed_below : Settings → (is_left : Bool) → (old new : WholeAcl) → HandedValue
handed_below settings is_left old new = record {
  lists = if is_left then [] else lists_below settings (marks_below old new) old new;
  marks = marks_below old new;
}

-- an object has no children
abbrev pub handed_in : Settings → (is_left : Bool) → (old new : WholeAcl) → Option HandedValue
handed_in settings is_left old new =
    if settings.object then None else Some (handed_below settings is_left old new)

-- ---- what changes of it

-- of a child no SID is known for which PRINCIPAL SELF stands
abbrev pub of_child : Settings → Settings
of_child settings = record settings { principal_self = None }

-- what tokens gain and lose of these children, with conditions in the place of markers
abbrev pub AreChildLines : Settings → List TypedAce → HandedToValue → List (SidValue × GroupState) → List LineOf
    → Type 0
AreChildLines settings marks handed base lines =
    (changes : List DescendantChange)
    × AreDescendantChanges settings.mapping base handed.old handed.new changes
    × (lines ≡ map (headed handed.children) (shown_by (of_child settings) marks (descendants_lines changes)))

-- of each
abbrev pub AreLinesOfEach : Settings → List TypedAce → List HandedToValue → List (SidValue × GroupState)
    → List LineOf → Type 0
AreLinesOfEach settings marks [] base lines = lines ≡ []
AreLinesOfEach settings marks (handed ∷ more) base lines =
    (first : List LineOf) × (others : List LineOf) × AreChildLines settings marks handed base first
    × AreLinesOfEach settings marks more base others × (lines ≡ first ++ others)

-- of all that is made in the object, if it is a container
abbrev pub AreDescendantLines : Settings → HandedValue → List (SidValue × GroupState) → List LineOf → Type 0
AreDescendantLines settings handed = AreLinesOfEach settings handed.marks handed.lists
