use Rattle.std.proofs.Common.{◌≡◌, drop}
use Rattle.sd_label.specs.Label.{first_label}
use Rattle.sd_label.proofs.label.first_label.Given as goal

-- none of the entries so far is a label
abbrev pub invariant-loop-entry : goal.invariant-loop-entry
invariant-loop-entry l = first_label l.entries ≡ first_label (drop l.entry-index l.entries)
