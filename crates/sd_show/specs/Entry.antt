-- Entries in words ([MS-DTYP] 2.4.4).
use Rattle.std.specs.Prelude.{ℕ, Bool, true, false, List, [], ◌∷◌, ◌++◌, map, Option, Some, None, codes}
use Rattle.sd_line.specs.Line.{Form, LineOf, PartOf, line_with, part_of, word_part}
use Rattle.sd_line.specs.declared.line.Value.{Value}
use Rattle.sd_line.specs.declared.line.Value.TheVariants as values
use Rattle.sd_whole.specs.Kind.{has_object_types}
use Rattle.sd_whole.specs.declared.ace.WholeAce.{WholeAce}
use Rattle.sd_whole.specs.declared.ace.WholeAce.TheVariants.{Plain, Typed, Opaque}
use Rattle.sd_whole.specs.declared.types.Guid.{Guid}
use Rattle.sd_whole.specs.declared.types.ObjectTypes.{ObjectTypes}
use Rattle.sd_whole_text.specs.Guid.{guid_text}
use Rattle.sd_whole_text.specs.Kind.{kind_of_plain}
use Rattle.sd_whole_text.specs.declared.no_text.AclKind.{AclKind}
use Rattle.sd_wire.specs.Reading.{is_set}
use Rattle.sd_show.specs.Act.{act_of, act_parts, flag_words}
use Rattle.sd_show.specs.Control.{BitWord, field_of, name_of, words_set}
use Rattle.sd_show.specs.Data.{data_parts, other_parts}
use Rattle.sd_show.specs.declared.act.Act.TheVariants.{Allow}
use Rattle.sd_show.specs.declared.forms.TheConstants.{FLAGS, INHERITED_TYPE, OBJECT_TYPE, ON, OPAQUE}

-- ---- flags (2.4.4.1, AceFlags)

-- what an entry applies to: the flags IO, CI and OI
abbrev pub applies_text : (inherit_only containers objects : Bool) → List ℕ
applies_text false false false = codes "this object"
applies_text false false true = codes "this object and objects below"
applies_text false true false = codes "this object and containers below"
applies_text false true true = codes "this object, containers and objects below"
applies_text true false false = codes "nothing"
applies_text true false true = codes "objects below"
applies_text true true false = codes "containers below"
applies_text true true true = codes "containers and objects below"

abbrev pub applies_to : ℕ → List ℕ
applies_to flags = applies_text (is_set 0x08 flags) (is_set 0x02 flags) (is_set 0x01 flags)

-- the words of the other flags that are set, where there are some
abbrev pub words_parts : List (List ℕ) → List PartOf
words_parts [] = []
words_parts (word ∷ words) = part_of FLAGS.now (values.Words (word ∷ words) ∷ []) ∷ []

abbrev pub flags_parts : List BitWord → ℕ → List PartOf
flags_parts named flags = words_parts (words_set named flags)

-- ---- types of objects (2.4.4.3)

abbrev pub object_text : Option Guid → List ℕ
object_text None = codes "any"
object_text (Some guid) = guid_text guid

abbrev pub guid_parts : Option Guid → List PartOf
guid_parts None = []
guid_parts (Some guid) = word_part INHERITED_TYPE.now (guid_text guid) ∷ []

-- where the kind has them: of the object, any where none is named, and of those that inherit the entry
abbrev pub types_parts : Bool → ObjectTypes → List PartOf
types_parts false types = []
types_parts true types = word_part OBJECT_TYPE.now (object_text types.object) ∷ guid_parts types.inherited

-- ---- entries

-- all that an entry has: what it does, where, for which types of objects, with which data, and its other flags
abbrev pub entry_parts : WholeAce → List PartOf
entry_parts (Plain e) =
    act_parts (act_of (kind_of_plain e.kind)) e.flags.0 e.mask e.sid ++ word_part ON.now (applies_to e.flags.0) ∷ []
    ++ flags_parts (flag_words (act_of (kind_of_plain e.kind))) e.flags.0
entry_parts (Typed e) =
    act_parts (act_of e.kind) e.flags.0 e.mask e.sid ++ word_part ON.now (applies_to e.flags.0) ∷ []
    ++ types_parts (has_object_types e.kind) e.types ++ data_parts e.kind e.trailing
    ++ flags_parts (flag_words (act_of e.kind)) e.flags.0
entry_parts (Opaque e) =
    part_of OPAQUE.now (values.Number e.kind ∷ []) ∷ word_part ON.now (applies_to e.flags.0)
    ∷ (other_parts e.body ++ flags_parts (flag_words Allow) e.flags.0)

-- its list, and the numbers of entries, counted from 1
abbrev pub entry_values : AclKind → List ℕ → List Value
entry_values acl numbers = values.Text (name_of (field_of acl)) ∷ map (λ number. values.Number number) numbers

-- the line of an entry: its list, the numbers of entries, and all that it has
abbrev pub entry_line : Form → AclKind → List ℕ → WholeAce → LineOf
entry_line f acl numbers e = line_with f.0 (part_of f.1 (entry_values acl numbers) ∷ entry_parts e)
