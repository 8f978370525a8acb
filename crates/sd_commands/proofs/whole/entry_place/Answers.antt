use Rattle.std.proofs.Common.{append_assoc}
use Rattle.sd_commands.proofs.whole.entry_place.Goals as goal

pub returns : goal.returns
returns c = rw (c.in_ok-place.ensures.ok, c.acl_name-acl.ensures) (simp append_assoc)
