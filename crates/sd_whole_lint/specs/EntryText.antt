-- An entry of a whole list, as a line names it.
use Rattle.std.specs.Prelude.{ℕ, nat_lt, List, [], ◌∷◌, ◌++◌, codes, Option, Some, None, Result, Ok, Err}
use Rattle.std.specs.Prelude.{if◌then◌else◌}
use Rattle.std.specs.Fmt.{decimal}
use Rattle.sd_text.specs.declared.right_names.RightNames.{RightNames}
use Rattle.sd_whole.specs.Entry.{type_of, whole_acl_size}
use Rattle.sd_whole.specs.declared.ace.WholeAce.{WholeAce}
use Rattle.sd_whole.specs.declared.ace.WholeAce.TheVariants.{Plain, Typed, Opaque}
use Rattle.sd_whole_text.specs.Entry.{entry_text}
use Rattle.sd_whole_text.specs.NoText.{entry_test}
use Rattle.sd_whole_text.specs.declared.no_text.AclKind.TheVariants.{Dacl}
use Rattle.sd_whole_text.specs.declared.no_text.NoText.{NoText}
use Rattle.sd_line.specs.declared.line.Value.{Value}
use Rattle.sd_line.specs.declared.line.Value.TheVariants as values

abbrev pub text_if : Result (Unit {0}) NoText → List ℕ → Option (List ℕ)
text_if (Ok passed) text = Some text
text_if (Err why) text = None

-- its text ([MS-DTYP] 2.5.1.1, ace), if it has one, and a list has room for it (2.4.5, AclSize)
abbrev pub text_of : RightNames → WholeAce → Option (List ℕ)
text_of names e =
    if nat_lt 65535 (whole_acl_size (e ∷ [])) then None else text_if (entry_test Dacl 1 e) (entry_text names e)

-- its text, or else its AceType (2.4.4.1)
abbrev pub text_or_type : Option (List ℕ) → ℕ → List ℕ
text_or_type (Some text) type = text
text_or_type None type = codes "of type " ++ decimal type

abbrev pub entry_word : RightNames → WholeAce → List ℕ
entry_word names e = text_or_type (text_of names e) (type_of e)

abbrev pub entry_value : RightNames → WholeAce → Value
entry_value names (Plain e) = values.Entry e
entry_value names (Typed e) = values.Text (entry_word names (Typed e))
entry_value names (Opaque e) = values.Text (entry_word names (Opaque e))
