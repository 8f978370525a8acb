use Rattle.sd_text.proofs.Cited.{mask_text, sddl_in, sid_text_in}
use Rattle.sd_text.proofs.Engine.{one_fault}
use Rattle.sd_text.proofs.laws.texts_have_one_fault.Goals as goal

pub returns : goal.returns
returns c = record { descriptors = λ known. one_fault (sddl_in known); sids = λ known. one_fault (sid_text_in known); masks = one_fault mask_text }
