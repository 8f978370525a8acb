-- The argument that is named is the mistake's.
use Rattle.std.proofs.Common.{◌∙◌, ap}
use Rattle.std.proofs.lemmas.Result.{IfOk-weaker}
use Rattle.sd_commands.specs.Diagnostic.{told_line}
use Rattle.sd_arguments.proofs.usage_error.message.Goals as goal

pub returns : goal.returns
returns c =
    let what = c.as_str-2.result.now in
    IfOk-weaker c.told_line.result _ _ (λ text is. (
      c.args.usage_error.left,
      what,
      is ∙ ap (λ place. told_line place what) (c.as_str.ensures.value ∙ c.in_ok-place.ensures),
    )) c.told_line.ensures
