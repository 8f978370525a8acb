-- The bytes after the SID of an entry: a condition, a claim, or other data ([MS-DTYP] 2.4.4.17 and 2.4.10.1).
use Rattle.std.specs.Prelude.{ℕ, ◌==◌, List, [], ◌∷◌, length, Option, Some, None, if◌then◌else◌}
use Rattle.hex.specs.Hex.{encode_lower}
use Rattle.sd_line.specs.Line.{PartOf, word_part}
use Rattle.sd_whole.specs.declared.kind.WholeKind.{WholeKind}
use Rattle.sd_whole.specs.declared.kind.WholeKind.TheVariants.{CallbackAllow, CallbackDeny, CallbackObjectAllow}
use Rattle.sd_whole.specs.declared.kind.WholeKind.TheVariants.{CallbackObjectDeny, CallbackAudit, CallbackObjectAudit}
use Rattle.sd_whole.specs.declared.kind.WholeKind.TheVariants.{ResourceAttribute, AccessFilter}
use Rattle.sd_whole_text.specs.Data.{claim_in, condition_in}
use Rattle.sd_show.specs.declared.forms.TheConstants.{CLAIM, CONDITION, DATA, UNKNOWN_CONDITION}

-- bytes in hexadecimal digits
abbrev pub data_part : List ℕ → List ℕ → PartOf
data_part form bytes = word_part form (encode_lower bytes)

-- bytes that have no meaning, if there are any
abbrev pub other_parts : List ℕ → List PartOf
other_parts bytes = if length bytes == 0 then [] else data_part DATA.now bytes ∷ []

-- the text of a condition or of a claim, or the bytes where it has none
abbrev pub condition_parts : Option (List ℕ) → List ℕ → List PartOf
condition_parts (Some text) bytes = word_part CONDITION.now text ∷ []
condition_parts None bytes = data_part UNKNOWN_CONDITION.now bytes ∷ []

abbrev pub claim_parts : Option (List ℕ) → List ℕ → List PartOf
claim_parts (Some text) bytes = word_part CLAIM.now text ∷ []
claim_parts None bytes = other_parts bytes

abbrev pub conditional : List ℕ → List PartOf
conditional bytes = condition_parts (condition_in bytes) bytes

-- what the bytes are, by the kind of the entry
abbrev pub data_parts : WholeKind → List ℕ → List PartOf
data_parts CallbackAllow bytes = conditional bytes
data_parts CallbackDeny bytes = conditional bytes
data_parts CallbackObjectAllow bytes = conditional bytes
data_parts CallbackObjectDeny bytes = conditional bytes
data_parts CallbackAudit bytes = conditional bytes
data_parts CallbackObjectAudit bytes = conditional bytes
data_parts AccessFilter bytes = conditional bytes
data_parts ResourceAttribute bytes = claim_parts (claim_in bytes) bytes
data_parts _ bytes = other_parts bytes
