-- The line is that of the first entry before which this one belongs.
use Rattle.sd_commands.proofs.Cited.{IfOk-weaker, List, Option, Some, ap, append_assoc, codes, decimal, option_map_or, position, string_bytes, sym, take, told_line, ℕ, ◌++◌, ◌+◌, ◌∙◌, ◌≡◌}
use Rattle.std.specs.Prelude.{[], nat_lt}
use Rattle.sd_whole.specs.Order.{rank}
use Rattle.sd_whole.specs.declared.ace.WholeAce.{WholeAce}
use Rattle.sd_commands.specs.WholeSort.{move_note}
use Rattle.sd_commands.proofs.whole_sort.note_on.Goals as goal

-- the note on what was found
abbrev note_for : ℕ → Option ℕ → List ℕ
note_for place found = option_map_or (move_note place) found []

pub returns-in_ok-what-in-Some : goal.returns-in_ok-what-in-Some
returns-in_ok-what-in-Some c =
    let place = c.args.place in
    let found : position (λ (other : WholeAce). nat_lt (rank c.args.entry.now) (rank other)) (take place c.args.entries.now) ≡ Some c.in-Some.first =
    sym c.first_above.ensures ∙ c.in-Some.is in
    let what : string_bytes c.in_ok-what-in-Some.what ≡ codes "entry " ++ decimal (place + 1) ++ codes " moves before entry " ++ decimal (c.in-Some.first + 1) =
    rw (c.in_ok-what-in-Some.ensures.ok) (simp append_assoc) in
    IfOk-weaker c.told_line.result _ _ (λ text is.
    is ∙ ap (told_line (codes "SDDL")) (c.as_str.ensures.value ∙ what) ∙ ap (note_for place) (sym found)) c.told_line.ensures
