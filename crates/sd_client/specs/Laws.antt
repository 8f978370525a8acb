-- The laws of who asks.
use Rattle.std.specs.Prelude.{◌≡◌, ℕ, List, []}
use Rattle.sd_sid.specs.Sid.{SidValue}
use Rattle.sd_text.specs.declared.alias.Aliases.{Aliases}
use Rattle.sd_check.specs.Token.{TokenValue}
use Rattle.sd_condition.specs.Laws.{IsValue}
use Rattle.sd_condition.specs.declared.value.Value.{Value}
use Rattle.sd_answer.specs.Word.{IsToken}
use Rattle.sd_client.specs.Claim.{in_claim}
use Rattle.sd_client.specs.Client.{ClientValue}
use Rattle.sd_client.specs.Word.{IsClient}
use Rattle.sd_evaluation.specs.Value.{claim_datum, literal_datum}

-- a client with this token, and without claims and groups of a device
pub record IsTokenAlone (client : ClientValue) (alone : TokenValue) : Type 0 where
  pub token : client.token ≡ alone
  pub device_groups : client.device_groups ≡ []
  pub local : client.local ≡ []
  pub user : client.user ≡ []
  pub device : client.device ≡ []

-- words that are all of a token make a client with that token alone
abbrev pub ClientsOfTokens : Type 0
ClientsOfTokens = (known : Aliases) (user : SidValue) (texts : List (List ℕ)) (token : TokenValue)
    (client : ClientValue) → IsToken known user texts token → IsClient known user texts client
    → IsTokenAlone client token

-- the value of a claim compares as the literal that it was written as
abbrev pub ClaimsCompareAsWritten : Type 0
ClaimsCompareAsWritten = (literal : Value) → IsValue literal → claim_datum (in_claim literal) ≡ literal_datum literal
