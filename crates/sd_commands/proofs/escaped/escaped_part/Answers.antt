use Rattle.sd_commands.proofs.Cited.{YieldsList-end, YieldsList-from_chars, YieldsList-from_skip, YieldsList-from_take, ap, escaped_chars, map-id, sym, ◌∙◌}
use Rattle.sd_commands.proofs.escaped.escaped_part.Goals as goal

pub returns : goal.returns
returns c =
    let shown = YieldsList-from_take c.args.count (YieldsList-from_skip c.args.start (YieldsList-from_chars c.args.text.now c.utf8.text cc) cc) cc in
    let end = YieldsList-end shown c.loop-c.yielded _ c.loop-c.yielded_by _ _ c.in-None.is c.next.ensures.steps in
    c.loop-c.invariant ∙ ap escaped_chars (sym (map-id c.loop-c.yielded) ∙ end.0)
