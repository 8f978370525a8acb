-- The text is cut before the character at the byte.
use Rattle.sd_commands.proofs.Cited.{IfOk-weaker, ap, ap₂, chars, drop, end_shown, lines_of, start_of, start_shown, sym, take, ◌∙◌, ◌≡◌}
use Rattle.sd_commands.proofs.CharStart.{start_is}
use Rattle.sd_commands.proofs.pointer.pointer_lines.Goals as goal

pub returns : goal.returns
returns c =
    let text = c.args.text.now in
    let floor = c.floor_char_boundary in
    let cut : floor.result ≡ start_of text c.args.place = sym (start_is text c.args.place floor.result (floor.ensures.bound, floor.ensures.boundary, floor.ensures.nearest)) in
    let before : c.as_str.result.now ≡ end_shown (chars (take (start_of text c.args.place) text)) =
    c.as_str.ensures.value ∙ c.in_ok-before.ensures ∙ ap (λ part. end_shown (chars part)) (c.split_at.ensures.front ∙ ap (λ n. take n text) cut) in
    let from : c.as_str-2.result.now ≡ start_shown (chars (drop (start_of text c.args.place) text)) =
    c.as_str-2.ensures.value ∙ c.in_ok-from.ensures ∙ ap (λ part. start_shown (chars part)) (c.split_at.ensures.back ∙ ap (λ n. drop n text) cut) in
    IfOk-weaker c.lines_of.result _ _ (λ lines is. is ∙ ap₂ lines_of before from) c.lines_of.ensures
