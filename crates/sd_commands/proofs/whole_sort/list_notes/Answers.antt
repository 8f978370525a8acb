use Rattle.sd_commands.proofs.Cited.{Some, add-one, ap, length, option_map_or, refl, slice_get, slice_get_read, sym, ◌++◌, ◌∙◌, ◌≡◌}
use Rattle.std.specs.Prelude.{[]}
use Rattle.sd_commands.specs.WholeSort.{note_on, notes_below}
use Rattle.sd_commands.proofs.whole_sort.list_notes.Goals as goal

pub loop-place-init : goal.loop-place-init
unfolding notes_below
loop-place-init c = c.new-text.ensures.bytes

pub loop-place-preserved : goal.loop-place-preserved
unfolding notes_below
loop-place-preserved c =
    let entries = c.args.entries.now in
    let place = c.loop-place.place in
    let stands : slice_get entries place ≡ Some c.index-entries-place.result =
    slice_get_read entries (length entries) place c.index-entries-place.result refl c.loop-place-test.true c.index-entries-place.is in
    c.in_ok-push_str.ensures.bytes
    ∙ ap (λ text. text ++ c.as_str.result.now) c.loop-place.invariant
    ∙ ap (λ notes. notes_below entries place ++ notes)
    (c.as_str.ensures.value ∙ c.in_ok-note.ensures ∙ ap (λ entry. option_map_or (note_on entries place) entry []) (sym stands))
    ∙ ap (notes_below entries) (sym (add-one place))
