-- The lines so far, and those of the nodes that are left.
use Rattle.sd_script.proofs.Cited.{drop, entries, flat_map, gone_lines, trees_of, ◌++◌, ◌≡◌}
use Rattle.sd_script.proofs.review.ReviewLines.gone.Given as goal

abbrev pub invariant-loop-index : goal.invariant-loop-index
invariant-loop-index l =
    let ts = trees_of l.self.review in
    let lines = gone_lines l.self.paths ts l.top in
    l.lines.items ++ flat_map lines (drop l.index (entries ts.old)) ≡ flat_map lines (entries ts.old)
