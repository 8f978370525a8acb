use Rattle.sd_text.proofs.Cited.{mask_text, sddl_in, sid_text_in}
use Rattle.sd_text.proofs.Engine.{one_value}
use Rattle.sd_text.proofs.laws.texts_have_one_value.Goals as goal

pub returns : goal.returns
returns c = record { descriptors = λ known. one_value (sddl_in known); sids = λ known. one_value (sid_text_in known); masks = one_value mask_text }
