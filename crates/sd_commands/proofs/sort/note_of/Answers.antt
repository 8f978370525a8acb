-- The line is that of the first entry before which this one belongs.
use Rattle.sd_commands.proofs.Cited.{IfOk-weaker, Some, ap, append_assoc, codes, decimal, entry_head, is_misplaced, move_note, position, string_bytes, sym, take, told_line, ◌++◌, ◌+◌, ◌∙◌, ◌≡◌}
use Rattle.sd_commands.proofs.sort.note_of.Goals as goal

pub returns-in_ok-what-in-Some : goal.returns-in_ok-what-in-Some
returns-in_ok-what-in-Some c =
    let head = entry_head c.args.spelling c.args.place c.args.entry.now in
    let found : position (is_misplaced c.args.entry.now) (take c.args.place c.args.entries.now) ≡ Some c.in-Some.first =
    sym c.first_misplaced.ensures.first ∙ c.in-Some.is in
    let what : string_bytes c.in_ok-what-in-Some.what ≡ head ++ codes "moves before entry " ++ decimal (c.in-Some.first + 1) =
    rw (c.in_ok-what-in-Some.ensures.ok, c.as_str-entry.ensures.value, c.in_ok-entry-in-Some.ensures, c.right_names.ensures) (simp append_assoc) in
    IfOk-weaker c.told_line.result _ _ (λ text is.
    is ∙ ap (told_line (codes "SDDL")) (c.as_str.ensures.value ∙ what) ∙ ap (λ first. move_note first head) (sym found)) c.told_line.ensures
