use Rattle.sd_commands.proofs.Cited.{arith, length, nat_tests, sym, ◌∙◌, ◌≡◌}
use Rattle.sd_commands.proofs.BytesByPart.{all_joined}
use Rattle.sd_commands.proofs.loose.hex_value.Goals as goal

pub returns-clause-ok : goal.returns-clause-ok
returns-clause-ok c =
    let none : length c.loop-rest.rest.now ≡ 0 = let test = sym c.is_empty.ensures ∙ c.loop-rest-test.false in grind (arith, nat_tests) in
    all_joined _ c.args.text.now c.loop-rest.rest.now c.loop-rest.bytes.items c.loop-rest.invariant.1 none
