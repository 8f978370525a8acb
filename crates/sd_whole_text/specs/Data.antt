-- The bytes after the SID of an entry: a condition, or a claim ([MS-DTYP] 2.4.4.17 and 2.4.10.1).
use Rattle.std.specs.Prelude.{ℕ, ◌==◌, List, [], length, Option, Some, None, codes, if◌then◌else◌}
use Rattle.std.specs.Fmt.{◌++?◌}
use Rattle.std.specs.Str.{bytes_eq}
use Rattle.sd_claim.specs.Reading.{claim_read}
use Rattle.sd_claim.specs.Writing.{claim_data}
use Rattle.sd_claim_text.specs.Text.{claim_text}
use Rattle.sd_data.specs.Outcome.{◌>>=◌}
use Rattle.sd_condition.specs.Reading.{condition_read}
use Rattle.sd_condition_text.specs.Text.{condition_text}
use Rattle.sd_whole.specs.declared.ace.TypedAce.{TypedAce}
use Rattle.sd_whole.specs.declared.kind.WholeKind.{WholeKind}
use Rattle.sd_whole.specs.declared.kind.WholeKind.TheVariants.{CallbackAllow, CallbackDeny, CallbackObjectAllow}
use Rattle.sd_whole.specs.declared.kind.WholeKind.TheVariants.{CallbackObjectDeny, CallbackAudit, CallbackObjectAudit}
use Rattle.sd_whole.specs.declared.kind.WholeKind.TheVariants.{ResourceAttribute, AccessFilter}
use Rattle.sd_whole_text.specs.declared.data.LastField.{LastField}
use Rattle.sd_whole_text.specs.declared.data.LastField.TheVariants.{Condition, Claim, Nothing}

-- what the last field of a kind's entries says
abbrev pub last_field : WholeKind → LastField
last_field CallbackAllow = Condition
last_field CallbackDeny = Condition
last_field CallbackObjectAllow = Condition
last_field CallbackObjectDeny = Condition
last_field CallbackAudit = Condition
last_field CallbackObjectAudit = Condition
last_field AccessFilter = Condition
last_field ResourceAttribute = Claim
last_field _ = Nothing

-- the text of the condition in application data, if that is one
unfoldable pub condition_in : List ℕ → Option (List ℕ)
condition_in bytes = condition_read bytes >>= condition_text

-- the text of the claim in a resource attribute's data, if that is the claim's one written form: parts may be
-- anywhere, which no text says
unfoldable pub claim_in : List ℕ → Option (List ℕ)
claim_in bytes = claim_read bytes >>= λ claim. if bytes_eq (claim_data claim) bytes then claim_text claim else None

-- the field after a semicolon, if those bytes have a text: where no field is, there must be none
abbrev pub field_text : LastField → List ℕ → Option (List ℕ)
field_text Condition bytes = Some (codes ";") ++? condition_in bytes
field_text Claim bytes = Some (codes ";") ++? claim_in bytes
field_text Nothing bytes = if length bytes == 0 then Some [] else None

abbrev pub data_text : TypedAce → Option (List ℕ)
data_text e = field_text (last_field e.kind) e.trailing
