-- The last field of an entry: a condition or a claim ([MS-DTYP] 2.5.1.1, conditional-ace and resource-attribute-ace).
use Rattle.std.specs.Prelude.{ℕ, Bool, true, false, List, [], codes, if◌then◌else◌}
use Rattle.sd_claim.specs.Writing.{claim_data}
use Rattle.sd_claim_text.specs.Found.{claim_found}
use Rattle.sd_condition.specs.Writing.{condition_data}
use Rattle.sd_condition_parse.specs.Condition.{condition_found}
use Rattle.sd_text.specs.Finding.{Found, find}
use Rattle.sd_text.specs.Grammar.{word}
use Rattle.sd_text.specs.declared.alias.Aliases.{Aliases}
use Rattle.sd_whole.specs.declared.kind.WholeKind.{WholeKind}
use Rattle.sd_whole.specs.declared.kind.WholeKind.TheVariants.{CallbackAllow, CallbackDeny, CallbackObjectAllow}
use Rattle.sd_whole.specs.declared.kind.WholeKind.TheVariants.{CallbackAudit, ResourceAttribute, AccessFilter}
use Rattle.sd_whole_parse.specs.Finding.{◌>>=◌, done}

-- the last field of entries of this kind is a condition
abbrev pub has_condition : WholeKind → Bool
has_condition CallbackAllow = true
has_condition CallbackDeny = true
has_condition CallbackObjectAllow = true
has_condition CallbackAudit = true
has_condition AccessFilter = true
has_condition _ = false

-- it is a claim
abbrev pub has_claim : WholeKind → Bool
has_claim ResourceAttribute = true
has_claim _ = false

-- the field of a condition, and the condition's application data
unfoldable pub condition_field : Aliases → List ℕ → Found (List ℕ)
condition_field known = do
  u ← find (word (codes ";"))
  tokens ← condition_found known
  done (condition_data tokens)

-- the field of a claim, and the claim's bytes
unfoldable pub claim_field : Aliases → List ℕ → Found (List ℕ)
claim_field known = do
  u ← find (word (codes ";"))
  claim ← claim_found known
  done (claim_data claim)

-- the bytes of the last field, none in an entry that has no such field
unfoldable pub data_found : Aliases → WholeKind → List ℕ → Found (List ℕ)
data_found known kind text =
    if has_condition kind then condition_field known text
    else if has_claim kind then claim_field known text
    else done [] text
