use Rattle.sd_c.proofs.Cited.{descriptors_come_back, refl}
use Rattle.sd_c.specs.Stored.{descriptor_of_list}
use Rattle.sd_c.proofs.stored.lists_come_back.Goals as goal

pub returns : goal.returns
returns c = λ list sound named. (descriptor_of_list list, descriptors_come_back (descriptor_of_list list) sound named, refl)
