-- A text has no more characters than bytes.
use Rattle.sd_commands.proofs.Cited.{IfOk, chars, encodes-chars, escaped_chars, length, length-le-encodes, string_bytes, subst, take_all, ◌≡◌, ◌≤◌}
use Rattle.sd_commands.proofs.escaped.escaped_word.Goals as goal

pub returns : goal.returns
returns c =
    let word = c.args.word.now in
    let fewer : length (chars word) ≤ length word = subst (λ bytes. length (chars word) ≤ length bytes) (encodes-chars word c.utf8.word) (length-le-encodes (chars word)) in
    subst (λ part. IfOk c.escaped_part.result (λ shown. string_bytes shown ≡ escaped_chars part)) (take_all (length word) (chars word) fewer) c.escaped_part.ensures
