-- Each token takes no more bytes than all of them.
use Rattle.sd_condition.proofs.Cited.{ap, arith, length, length-flat_map-take, token_bytes}
use Rattle.sd_condition.proofs.token.push_tokens.Goals as goal

pub push_token-requires : goal.push_token-requires
push_token-requires c =
    let tokens = c.args.tokens.now in
    let item = c.token-item.result in
    let within = length-flat_map-take token_bytes tokens c.loop-token.token-index item c.loop-token-test.true in
    let this = ap (λ v. length (token_bytes v)) c.token-item.is in
    omega (arith, c.requires)
