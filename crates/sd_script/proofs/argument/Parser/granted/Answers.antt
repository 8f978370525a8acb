-- The arguments are parsed one after another.
use Rattle.sd_script.proofs.Cited.{Ok, Viewing, ap, inl, inr, texts}
use Rattle.sd_script.specs.Command.{asks_groups}
use Rattle.sd_script.proofs.Readings.{takes}
use Rattle.sd_script.proofs.argument.Parser.granted.Goals as goal

pub returns-in_err-groups : goal.returns-in_err-groups
unfolding asks_groups
returns-in_err-groups c =
    takes c.args.self.notation (asks_groups c.args.question c.args.path.now c.args.mask.now (texts c.args.words.now)) _ (
    inl (_, c.in_ok-path.ensures, inl (_, c.in_ok-asked.ensures, inr (_, c.in_err-groups.ensures, c.from_residual-in_err-groups.ensures.1))))

pub returns : goal.returns
unfolding asks_groups
returns c = rw (c.view.ensures) (inl (_, c.in_ok-path.ensures, inl (_, c.in_ok-asked.ensures, inl (_, c.in_ok-groups.ensures, ap (λ v. Ok (Viewing v)) c.about.ensures))))
