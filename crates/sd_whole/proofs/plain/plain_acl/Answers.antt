use Rattle.sd_acl.specs.declared.descriptor.DaclOf.TheVariants.{List}
use Rattle.sd_whole.proofs.PlainForms.{unlisted_mapped}
use Rattle.sd_whole.specs.Plain.{plain_list}
use Rattle.sd_whole.proofs.plain.plain_acl.Goals as goal

pub returns-in-Err-clause-odd : goal.returns-in-Err-clause-odd
returns-in-Err-clause-odd c = rw c.in-List.is (unlisted_mapped List (plain_list c.in-List.list.entries) c.in-Err.error (rw c.in-Err.is at c.plain_list.ensures.odd))
