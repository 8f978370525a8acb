-- The words of the types of values ([MS-DTYP] 2.5.1.1, TI-attr to TB-attr).
use Rattle.std.specs.Prelude.{ℕ, List, [], ◌∷◌, Err, codes}
use Rattle.sd_claim.specs.declared.value_type.ValueType.{ValueType}
use Rattle.sd_claim.specs.declared.value_type.ValueType.TheVariants.{Integer, Unsigned, Text, Sid, Boolean, Octets}
use Rattle.sd_text.specs.Finding.{name_or}
use Rattle.sd_text.specs.Grammar.{Name, name_for, named}
use Rattle.sd_text.specs.declared.fault.TextFault.TheVariants.{Syntax}
use Rattle.sd_claim_text.specs.Parser.{Reads, gives}

abbrev pub type_word : ValueType → List ℕ
type_word Integer = codes "TI"
type_word Unsigned = codes "TU"
type_word Text = codes "TS"
type_word Sid = codes "TD"
type_word Boolean = codes "TB"
type_word Octets = codes "TX"

abbrev pub type_name : ValueType → Name ValueType
type_name value_type = name_for (type_word value_type) value_type

abbrev pub type_names : List (Name ValueType)
type_names = type_name Integer ∷ type_name Unsigned ∷ type_name Text ∷ type_name Sid ∷ type_name Boolean
    ∷ type_name Octets ∷ []

-- the type whose word is here
unfoldable pub type_found : Reads ValueType
type_found text = name_or (named type_names text) gives (Err (Syntax, text))
