use Rattle.sd_client.proofs.Tokens.{clients_of_tokens}
use Rattle.sd_client.proofs.laws.clients_of_tokens.Goals as goal

pub returns : goal.returns
returns c = clients_of_tokens
