-- The arguments are parsed one after another.
use Rattle.sd_script.proofs.Cited.{Ok, ap, inl, inr, texts}
use Rattle.sd_script.specs.Command.{posed}
use Rattle.sd_script.proofs.Readings.{takes}
use Rattle.sd_script.proofs.argument.Parser.posed.Goals as goal

pub returns-in_err-user : goal.returns-in_err-user
unfolding posed
returns-in_err-user c =
    takes c.args.self.notation (posed c.args.question c.args.reader.now c.args.path.now c.args.user.now c.args.mask.now (texts c.args.words.now)) _ (
    inl (_, c.in_ok-reader.ensures, inl (_, c.in_ok-path.ensures, inr (_, c.in_err-user.ensures, c.from_residual-in_err-user.ensures.1))))

pub returns-in_err-asked : goal.returns-in_err-asked
unfolding posed
returns-in_err-asked c =
    takes c.args.self.notation (posed c.args.question c.args.reader.now c.args.path.now c.args.user.now c.args.mask.now (texts c.args.words.now)) _ (
    inl (_, c.in_ok-reader.ensures, inl (_, c.in_ok-path.ensures, inl (_, c.in_ok-user.ensures, inr (_, c.in_err-asked.ensures, c.from_residual-in_err-asked.ensures.1)))))

pub returns-in_err-token : goal.returns-in_err-token
unfolding posed
returns-in_err-token c =
    takes c.args.self.notation (posed c.args.question c.args.reader.now c.args.path.now c.args.user.now c.args.mask.now (texts c.args.words.now)) _ (
    inl (_, c.in_ok-reader.ensures, inl (_, c.in_ok-path.ensures, inl (_, c.in_ok-user.ensures, inl (_, c.in_ok-asked.ensures, inr (_, c.in_err-token.ensures, c.from_residual-in_err-token.ensures.1))))))

pub returns : goal.returns
unfolding posed
returns c =
    inl (_, c.in_ok-reader.ensures, inl (_, c.in_ok-path.ensures, inl (_, c.in_ok-user.ensures, inl (_, c.in_ok-asked.ensures, inl (_, c.in_ok-token.ensures, ap Ok c.in_ok-about.ensures)))))
