use Rattle.sd_path.proofs.Cited.{[], put_three, rules, slashed, ◌∷◌}
use Rattle.sd_path.proofs.PathTexts.{slashed-up}
use Rattle.sd_path.proofs.print.+write_names.Goals as goal

pub returns : goal.returns
returns g t c =
    λ plain ok.
    put_three g.W.Write.write_str_gives c.args.f.now c.write_names.new.f c.write_str.new.self c.write_str-2.new.self (slashed c.parent.result) (0x2F ∷ []) c.in-Ok.name.now (slashed c.args.path.now)
    (search rules) (search rules) (search rules)
    (slashed-up c.args.path.now c.parent.result c.in-Some.name.now c.in-Ok.name.now c.in-Some.ensures c.parent.ensures c.in-Ok.ensures.cases.0)
