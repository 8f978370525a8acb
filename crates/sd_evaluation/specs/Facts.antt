-- What a condition can ask about ([MS-DTYP] 2.5.3.1.5), and which attribute a name in it means (2.4.4.17.8).
use Rattle.std.specs.Prelude.{Bool, true, false, not, ◌&&◌, ◌||◌, ◌==◌, bit_and, List, length, Option}
use Rattle.std.specs.List.{find}
use Rattle.sd_sid.specs.Sid.{SidValue}
use Rattle.sd_acl.specs.declared.ace.AceKind.{AceKind}
use Rattle.sd_acl.specs.declared.ace.AceKind.TheVariants.{Allow, Deny}
use Rattle.sd_check.specs.Token.{TokenValue}
use Rattle.sd_check.specs.declared.token.GroupState.{GroupState}
use Rattle.sd_claim.specs.Claim.{ClaimValue}
use Rattle.sd_condition.specs.declared.attribute.Attribute.{Attribute}
use Rattle.sd_condition.specs.declared.attribute.Scope.{Scope}
use Rattle.sd_condition.specs.declared.attribute.Scope.TheVariants.{Local, User, Resource, Device}
use Rattle.sd_evaluation.specs.Case.{same_text}

-- who asks, the groups of the device that is asked from, and the claims of each scope
pub record FactsValue : Type 0 where
  pub token : TokenValue
  pub device_groups : List (SidValue × GroupState)
  pub local : List ClaimValue
  pub user : List ClaimValue
  pub device : List ClaimValue
  pub resource : List ClaimValue

abbrev pub claims_of : FactsValue → Scope → List ClaimValue
claims_of f Local = f.local
claims_of f User = f.user
claims_of f Resource = f.resource
claims_of f Device = f.device

-- ---- flags of a claim (2.4.10.1)

abbrev pub is_case_sensitive : ClaimValue → Bool
is_case_sensitive c = not (bit_and c.flags 0x2 == 0)

abbrev pub is_for_deny_only : ClaimValue → Bool
is_for_deny_only c = not (bit_and c.flags 0x4 == 0)

abbrev pub is_disabled : ClaimValue → Bool
is_disabled c = not (bit_and c.flags 0x10 == 0)

-- ---- attributes

abbrev pub is_deny : AceKind → Bool
is_deny Allow = false
is_deny Deny = true

-- the claim is there for an entry of the kind: it isn't disabled, a claim for deny entries alone is asked by one, and
-- there are values in it
abbrev pub is_there : AceKind → ClaimValue → Bool
is_there kind c = not (is_disabled c) && ((is_deny kind || not (is_for_deny_only c)) && not (length c.values == 0))

-- the first claim of the scope that is there and has the name, without case
abbrev pub attribute_claim : FactsValue → AceKind → Attribute → Option ClaimValue
attribute_claim f kind a =
    find (λ (c : ClaimValue). is_there kind c && same_text false c.name a.name) (claims_of f a.scope)
