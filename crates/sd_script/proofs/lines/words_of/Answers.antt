use Rattle.sd_script.proofs.Cited.{YieldsList-from_str_split, lit<, map_from_collect}
use Rattle.sd_script.proofs.lines.words_of.Goals as goal

pub returns : goal.returns
returns c = map_from_collect _ c.collect.ensures.ran (YieldsList-from_str_split 32 c.args.line.now (lit< tt) c.split.ensures.text c.split.ensures.has_more c.split.ensures.pattern)
