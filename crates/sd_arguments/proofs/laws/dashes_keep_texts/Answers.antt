use Rattle.sd_arguments.proofs.LawProofs as laws
use Rattle.sd_arguments.proofs.laws.dashes_keep_texts.Goals as goal

pub returns : goal.returns
returns c = record {
  verdict = laws.verdict_keeps_texts;
  why = laws.why_keeps_texts;
  with_options = laws.options_keep_texts;
}
