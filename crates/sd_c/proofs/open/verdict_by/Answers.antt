use Rattle.std.proofs.Common.{rules, ◌∙◌, ap, option_map, sym}
use Rattle.std.specs.Prelude.{Ok}
use Rattle.sd_acl.specs.Descriptor.{descriptor_of}
use Rattle.sd_c.proofs.Opened.{opened}
use Rattle.sd_c.proofs.open.verdict_by.Goals as goal

pub returns-clause-read : goal.returns-clause-read
returns-clause-read c =
    opened c.args.file.now c.args.parent.now c.args.kept.now c.args.mapping c.args.asked
    c.deref.result.now c.in_ok-mapping.mapping (descriptor_of c.in_ok-file.file) (option_map descriptor_of c.in_ok-parent.parent)
    (search rules) (search rules) (search rules) (search rules) ∙ ap Ok (sym c.verdict_on.ensures)
