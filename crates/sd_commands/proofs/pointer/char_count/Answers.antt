use Rattle.sd_commands.proofs.Cited.{Chars-Drains, ap, chars, encodes-chars, length, sym, ◌∙◌}
use Rattle.sd_commands.proofs.pointer.char_count.Goals as goal

pub returns : goal.returns
returns c =
    let text = c.args.text.now in
    let ran = c.count.ensures.ran in
    ran.2 ∙ ap length (Chars-Drains (chars text) ran.0 c.chars.result (encodes-chars text c.utf8.text ∙ sym c.chars.ensures.rest) ran.1)
