use Rattle.sd_text.proofs.Cited.{rights, sections, sid}
use Rattle.sd_text.proofs.Engine.{value_or_fault}
use Rattle.sd_text.proofs.laws.texts_have_a_value_or_a_fault.Goals as goal

pub returns : goal.returns
returns c = record { descriptors = λ known. value_or_fault (sections known); sids = λ known. value_or_fault (sid known); masks = value_or_fault rights }
