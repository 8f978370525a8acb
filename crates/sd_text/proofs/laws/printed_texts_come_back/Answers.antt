use Rattle.sd_text.proofs.CanonDescriptors.{descriptors_come_back, sids_come_back, masks_come_back}
use Rattle.sd_text.proofs.laws.printed_texts_come_back.Goals as goal

pub returns : goal.returns
returns c = record { descriptors = descriptors_come_back; sids = sids_come_back; masks = masks_come_back }
