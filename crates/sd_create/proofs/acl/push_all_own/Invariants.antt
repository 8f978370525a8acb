-- What the entries so far become stands behind what stood there.
use Rattle.std.proofs.Common.{◌≡◌, ◌++◌, take}
use Rattle.std.specs.List.{flat_map}
use Rattle.sd_create.specs.Entry.{own_copies, new_of}
use Rattle.sd_create.proofs.acl.push_all_own.Given as goal

abbrev pub invariant-loop-entry : goal.invariant-loop-entry
invariant-loop-entry l =
    l.list.items ≡ l.initial.list.items ++ flat_map (own_copies (new_of l.object)) (take l.entry-index l.own)
