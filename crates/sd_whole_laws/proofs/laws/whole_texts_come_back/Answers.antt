use Rattle.sd_whole_laws.proofs.WholeTexts.{texts_back}
use Rattle.sd_whole_laws.proofs.laws.whole_texts_come_back.Goals as goal

pub returns : goal.returns
returns c = texts_back
