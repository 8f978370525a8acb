use Rattle.std.proofs.Common.{◌∙◌, ap, option_map}
use Rattle.sd_acl.specs.Descriptor.{descriptor_of}
use Rattle.sd_open.specs.Open.{open_verdict}
use Rattle.sd_c.proofs.Opened.{borrowed_copied}
use Rattle.sd_c.proofs.open.verdict_on.Goals as goal

pub returns : goal.returns
returns c =
    c.check_open.ensures
    ∙ ap (λ p. open_verdict (descriptor_of c.args.file.now) p c.args.mapping.now c.args.token.now c.args.asked)
    (borrowed_copied c.as_ref.result ∙ ap (option_map descriptor_of) c.as_ref.ensures.value)
