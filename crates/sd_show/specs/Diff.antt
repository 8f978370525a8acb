-- What differs between two descriptors, in the words of `show` ([MS-DTYP] 2.4.6).
use Rattle.std.specs.Prelude.{ℕ, zero, suc, ◌+◌, Bool, true, false, ◌==◌, if◌then◌else◌, bytes_eq, codes}
use Rattle.std.specs.Prelude.{List, [], ◌∷◌, ◌++◌, length, slice_get, Option, Some, None}
use Rattle.std.specs.List.{flat_map}
use Rattle.sd_acl.specs.declared.descriptor.DaclOf.TheVariants.{Absent, Null, List as Entries}
use Rattle.sd_line.specs.Line.{LineOf, form, line_of}
use Rattle.sd_line.specs.declared.line.Value.{Value}
use Rattle.sd_line.specs.declared.line.Value.TheVariants as values
use Rattle.sd_sid.specs.Sid.{SidValue, same_sid}
use Rattle.sd_whole.specs.Reading.{WholeAcl}
use Rattle.sd_whole.specs.declared.ace.WholeAce.{WholeAce}
use Rattle.sd_whole.specs.declared.descriptor.WholeDescriptor.{WholeDescriptor}
use Rattle.sd_whole_text.specs.declared.no_text.AclKind.{AclKind}
use Rattle.sd_whole_text.specs.declared.no_text.AclKind.TheVariants.{Dacl, Sacl}
use Rattle.sd_wire.specs.Reading.{is_set}
use Rattle.sd_show.specs.Control.{BitWord, bits_of, field_of, name_of}
use Rattle.sd_show.specs.Entry.{entry_line}
use Rattle.sd_show.specs.Pairs.{common_within, counts, partner_at, partners}
use Rattle.sd_show.specs.Show.{entries_of, is_of_directory}
use Rattle.sd_show.specs.declared.control.Field.{Field}
use Rattle.sd_show.specs.declared.control.Field.TheVariants.{Owner, Group, ResourceManager}
use Rattle.sd_show.specs.declared.forms.TheConstants.{ADDED, BYTE_CHANGED, CHANGED, CLEARED, ENTRY_MOVED, REMOVED, SET}
use Rattle.sd_show.specs.declared.show.TheConstants.{REVISION_WORD}

-- ---- what is one value of a part

abbrev pub changed : Field → (was is : Value) → List LineOf
changed field was is = line_of (form CHANGED) (values.Text (name_of field) ∷ was ∷ is ∷ []) ∷ []

abbrev pub same_trustee : Option SidValue → Option SidValue → Bool
same_trustee None None = true
same_trustee None (Some b) = false
same_trustee (Some a) None = false
same_trustee (Some a) (Some b) = same_sid a b

abbrev pub trustee_value : Option SidValue → Value
trustee_value None = values.Text (codes "absent")
trustee_value (Some sid) = values.Sid sid

-- an owner or a group
abbrev pub trustee_changes : Field → (was is : Option SidValue) → List LineOf
trustee_changes field was is =
    if same_trustee was is then [] else changed field (trustee_value was) (trustee_value is)

-- the resource manager's byte
abbrev pub byte_changes : (was is : ℕ) → List LineOf
byte_changes was is =
    if was == is then [] else line_of (form BYTE_CHANGED) (values.Number was ∷ values.Number is ∷ []) ∷ []

-- what a list is
abbrev pub state_of : WholeAcl → List ℕ
state_of Absent = codes "absent"
state_of Null = codes "null"
state_of (Entries list) = codes "a list"

abbrev pub state_changes : Field → (was is : List ℕ) → List LineOf
state_changes field was is = if bytes_eq was is then [] else changed field (values.Text was) (values.Text is)

-- ---- what a part is or isn't

abbrev pub word_values : Field → List ℕ → List Value
word_values field word = values.Text (name_of field) ∷ values.Text word ∷ []

abbrev pub word_changes : Field → List ℕ → (was is : Bool) → List LineOf
word_changes field word false false = []
word_changes field word false true = line_of (form SET) (word_values field word) ∷ []
word_changes field word true false = line_of (form CLEARED) (word_values field word) ∷ []
word_changes field word true true = []

-- the control bits of a part
abbrev pub bit_changes : Field → (was is : ℕ) → BitWord → List LineOf
bit_changes field was is one = word_changes field one.1 (is_set one.0 was) (is_set one.0 is)

abbrev pub bits_changes : Field → (was is : ℕ) → List LineOf
bits_changes field was is = flat_map (bit_changes field was is) (bits_of field)

-- ---- entries

-- an old entry, with its number, counted from 1: it is removed where it has no partner
abbrev pub removed_at : AclKind → ℕ → Option ℕ → Option WholeAce → List LineOf
removed_at kind number partner None = []
removed_at kind number (Some p) (Some e) = []
removed_at kind number None (Some e) = entry_line (form REMOVED) kind (number ∷ []) e ∷ []

-- the lines of the old entries before a place
unfoldable pub removed_below : AclKind → List (Option ℕ) → List WholeAce → ℕ → List LineOf
removed_below kind ps es zero = []
removed_below kind ps es (suc k) =
    removed_below kind ps es k ++ removed_at kind (k + 1) (partner_at ps k) (slice_get es k)

-- a new entry with a partner is moved where the two have different numbers among those in common
abbrev pub moved_at : AclKind → (old new : List (Option ℕ)) → (number from : ℕ) → WholeAce → List LineOf
moved_at kind old new number from e =
    if common_within old from == common_within new number then []
    else entry_line (form ENTRY_MOVED) kind (number ∷ from ∷ []) e ∷ []

-- a new entry, with its number: it is added where it has no partner
abbrev pub new_at : AclKind → (old new : List (Option ℕ)) → ℕ → Option ℕ → Option WholeAce → List LineOf
new_at kind old new number partner None = []
new_at kind old new number None (Some e) = entry_line (form ADDED) kind (number ∷ []) e ∷ []
new_at kind old new number (Some from) (Some e) = moved_at kind old new number from e

-- the lines of the new entries before a place
unfoldable pub new_below : AclKind → (old new : List (Option ℕ)) → List WholeAce → ℕ → List LineOf
new_below kind old new es zero = []
new_below kind old new es (suc k) =
    new_below kind old new es k ++ new_at kind old new (k + 1) (partner_at new k) (slice_get es k)

-- the partners of the entries of a list among those of another
abbrev pub partners_of : List WholeAce → List WholeAce → List (Option ℕ)
partners_of es others = partners (counts es (length es)) (counts others (length others))

abbrev pub entry_changes : AclKind → (old new : List WholeAce) → List LineOf
entry_changes kind old new =
    removed_below kind (partners_of old new) old (length old)
    ++ new_below kind (partners_of old new) (partners_of new old) new (length new)

-- ---- the descriptors

abbrev pub acl_changes : AclKind → (was is : ℕ) → (old new : WholeAcl) → List LineOf
acl_changes kind was is old new =
    state_changes (field_of kind) (state_of old) (state_of new) ++ bits_changes (field_of kind) was is
    ++ word_changes (field_of kind) REVISION_WORD.now (is_of_directory old) (is_of_directory new)
    ++ entry_changes kind (entries_of old) (entries_of new)

abbrev pub changes : (old new : WholeDescriptor) → List LineOf
changes old new =
    trustee_changes Owner old.owner new.owner ++ bits_changes Owner old.control new.control
    ++ trustee_changes Group old.group new.group ++ bits_changes Group old.control new.control
    ++ byte_changes old.resource_manager new.resource_manager
    ++ bits_changes ResourceManager old.control new.control
    ++ acl_changes Dacl old.control new.control old.dacl new.dacl
    ++ acl_changes Sacl old.control new.control old.sacl new.sacl
