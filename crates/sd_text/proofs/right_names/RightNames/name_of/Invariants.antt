use Rattle.std.proofs.Common.{◌≡◌, drop, map}
use Rattle.sd_text.specs.RightNames.{name_in, printed_right, printed_rights}
use Rattle.sd_text.proofs.right_names.RightNames.name_of.Given as goal

-- none of the names so far is for just these bits
abbrev pub invariant-loop-letters : goal.invariant-loop-letters
invariant-loop-letters l = record {
  table : map printed_right l.letters-items ≡ printed_rights;
  none : name_in l.self printed_rights l.bits ≡ name_in l.self (map printed_right (drop l.letters-index l.letters-items)) l.bits;
}
