use Rattle.sd_text.proofs.Cited.{mask_text, sddl_in, sid_text_in}
use Rattle.sd_text.proofs.Engine.{no_fault}
use Rattle.sd_text.proofs.laws.texts_never_have_both.Goals as goal

pub returns : goal.returns
returns c = record { descriptors = λ known. no_fault (sddl_in known); sids = λ known. no_fault (sid_text_in known); masks = no_fault mask_text }
