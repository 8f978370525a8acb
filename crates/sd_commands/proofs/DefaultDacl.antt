-- The default DACL of a token is within the bytes that a list may take.
use Rattle.std.proofs.Common.{arith, ◌≤◌, [], ◌∷◌}
use Rattle.sd_sid.specs.Sid.{IsSid, SidValue}
use Rattle.sd_whole.proofs.Lengths.{length_of_sid}
use Rattle.sd_whole.specs.Entry.{whole_acl_size}
use Rattle.sd_commands.specs.Heir.{all_rights, system}

pub default_fits : (user : SidValue) → IsSid user → whole_acl_size (all_rights user ∷ all_rights system ∷ []) ≤ 65535
default_fits user known = omega (arith, known.few, length_of_sid user, length_of_sid system)
