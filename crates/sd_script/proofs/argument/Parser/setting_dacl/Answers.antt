-- The arguments are parsed one after another.
use Rattle.std.proofs.Common.{arith, inl, rules}
use Rattle.std.proofs.lemmas.Grind.{common_steps}
use Rattle.sd_script.proofs.argument.Parser.setting_dacl.Goals as goal

pub returns : goal.returns
returns c = inl (
  _,
  c.in_ok-path.ensures,
  inl (
    (c.in_ok-dacl.dacl, c.in_ok-dacl.is_all),
    c.in_ok-dacl.ensures,
    first_of (cc, search rules, grind (arith, common_steps)),
  ),
)
