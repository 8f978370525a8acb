-- MAXIMUM_ALLOWED by itself.
use Rattle.sd_acl.specs.Descriptor.{descriptor_of}
use Rattle.sd_check.specs.Check.{dacl_entries, is_granted, most}
use Rattle.sd_open.proofs.LawProofs.{most_small}
use Rattle.sd_open.proofs.Rest.{most_granted, most_none}
use Rattle.sd_open.proofs.open.most_of.Goals as goal

pub returns-in-Granted : goal.returns-in-Granted
returns-in-Granted c =
    let file = descriptor_of c.args.file.now in
    most_granted c.args.mapping.now (is_granted file.owner (dacl_entries file.dacl) c.args.mapping.now c.args.token.now)
    (most file.owner (dacl_entries file.dacl) c.args.mapping.now c.args.token.now) (most_small file c.args.mapping.now c.args.token.now)
    c.check.result c.check.ensures c.in-Granted.mask c.in-Granted.is

pub returns-in_default : goal.returns-in_default
returns-in_default c =
    let file = descriptor_of c.args.file.now in
    most_none c.args.mapping.now (is_granted file.owner (dacl_entries file.dacl) c.args.mapping.now c.args.token.now)
    (most file.owner (dacl_entries file.dacl) c.args.mapping.now c.args.token.now) (most_small file c.args.mapping.now c.args.token.now)
    c.check.result c.check.ensures (λ mask is. c.in_default.not-Granted mask is)
