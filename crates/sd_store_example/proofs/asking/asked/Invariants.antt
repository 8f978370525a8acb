use Rattle.std.proofs.Common.{◌≡◌, [], take}
use Rattle.sd_edit.specs.Journal.{IsLawful}
use Rattle.sd_store_example.proofs.asking.asked.Given as goal

abbrev pub invariant-loop-edit : goal.invariant-loop-edit
invariant-loop-edit g l =
    (l.writer.journal ≡ [])
    × (l.writer.pending ≡ take l.edit-index l.edits)
    × IsLawful g.J.StoreId.opening (take l.edit-index l.edits)
