use Rattle.sd_versions.proofs.Keeping.{started_is}
use Rattle.sd_versions.proofs.desk.Desk.start_within.Goals as goal

pub returns-clause-started : goal.returns-clause-started
returns-clause-started c =
    let e = c.in_ok-opening.ensures in
    started_is c.in_ok-opening.field-0 c.in_ok-vec.field-0.items _ c.args.readers e.opening e.journal.0 e.journal.1
    (c.in_ok-vec.ensures.items_if_clones_equal (λ y h. h))
