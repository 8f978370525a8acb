-- The arguments are parsed one after another.
use Rattle.sd_script.proofs.Cited.{inl, inr, refl, texts}
use Rattle.sd_script.specs.Command.{deletes}
use Rattle.sd_script.proofs.Readings.{takes}
use Rattle.sd_script.proofs.argument.Parser.deleting.Goals as goal

pub returns-in_err-user : goal.returns-in_err-user
unfolding deletes
returns-in_err-user c =
    takes c.args.self.notation (deletes c.args.reader.now c.args.path.now c.args.user.now (texts c.args.words.now)) _ (
    inl (_, c.in_ok-reader.ensures, inl (_, c.in_ok-path.ensures, inr (_, c.in_err-user.ensures, c.from_residual-in_err-user.ensures.1))))

pub returns-in_err-token : goal.returns-in_err-token
unfolding deletes
returns-in_err-token c =
    takes c.args.self.notation (deletes c.args.reader.now c.args.path.now c.args.user.now (texts c.args.words.now)) _ (
    inl (_, c.in_ok-reader.ensures, inl (_, c.in_ok-path.ensures, inl (_, c.in_ok-user.ensures, inr (_, c.in_err-token.ensures, c.from_residual-in_err-token.ensures.1)))))

pub returns : goal.returns
unfolding deletes
returns c = inl (_, c.in_ok-reader.ensures, inl (_, c.in_ok-path.ensures, inl (_, c.in_ok-user.ensures, inl (_, c.in_ok-token.ensures, rw c.in_ok-token-2.ensures refl))))
