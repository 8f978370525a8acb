use Rattle.sd_lines.proofs.Cited.{[], append-nil, append_assoc, rules, utf16_text, ◌++◌, ◌≡◌}
use Rattle.sd_lines.proofs.utf16.ByteOrder.decode_last.Goals as goal

pub returns : goal.returns
returns c =
    let text = c.in_ok-left.ensures.text in
    let left = c.in_ok-left.left.now in
    let all : utf16_text c.args.self c.args.bytes.now ≡ text.0 ++ utf16_text c.args.self left =
    rw (append-nil c.args.bytes.now, append-nil left) at (text.2 []) in
    let whole : c.decode.new.text.items ++ c.unfinished.result.now ≡ c.args.text.now.items ++ utf16_text c.args.self c.args.bytes.now =
    rw (text.1, c.unfinished.ensures, ← c.in_ok-left.ensures.left, all) (append_assoc c.args.text.now.items text.0 (utf16_text c.args.self left)) in
    rw (← whole) (search rules)
