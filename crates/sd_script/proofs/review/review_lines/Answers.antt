-- A review of the desk's two trees is that of the store.
use Rattle.std.proofs.Math.Seq.{drop-append_seam}
use Rattle.sd_script.proofs.review.review_lines.Goals as goal

pub returns : goal.returns
returns c =
    let old = c.published-old.ensures in
    let new = c.draft-new.ensures in
    rw (c.of.ensures.old, c.of.ensures.new, old.opening, old.journal, new.opening, new.journal, drop-append_seam) at c.lines.ensures
