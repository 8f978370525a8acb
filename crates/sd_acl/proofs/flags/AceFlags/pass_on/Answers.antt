-- The flags are the first two places.
use Rattle.std.proofs.Common.{rules}
use Rattle.sd_sid.proofs.Masks.{flag_test}
use Rattle.sd_acl.proofs.flags.AceFlags.pass_on.Goals as goal

pub returns-else-to_objects : goal.returns-else-to_objects
returns-else-to_objects c =
    let flags = c.args.self.0 in
    rw (← flag_test flags 0, ← flag_test flags 1, ← c.contains-to_objects.ensures tt, ← c.contains-to_containers.ensures tt) (search rules)
