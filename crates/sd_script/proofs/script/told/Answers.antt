-- A line opens a store just where none is open.
use Rattle.sd_script.proofs.Cited.{ap, is_open, not, ◌∙◌}
use Rattle.sd_script.proofs.Timely.{line_opens}
use Rattle.sd_script.proofs.script.told.Goals as goal

pub open_store-requires : goal.open_store-requires
open_store-requires c =
    line_opens c.options.result.notation c.is_open.result c.args.line.now c.in-Ok.asked c.in-Ok.ensures ∙ ap not (c.is_open.ensures ∙ ap is_open c.in-Closed.is)

pub done-requires : goal.done-requires
done-requires c = line_opens c.options.result.notation c.is_open.result c.args.line.now c.in-Ok.asked c.in-Ok.ensures ∙ ap not (c.is_open.ensures ∙ ap is_open c.in-Opened.is)
