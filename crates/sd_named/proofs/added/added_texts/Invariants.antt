-- The texts so far are those of the groups so far.
use Rattle.std.proofs.Common.{◌≡◌, map, string_bytes, take}
use Rattle.sd_named.specs.Arguments.{group_text}
use Rattle.sd_named.proofs.added.added_texts.Given as goal

abbrev pub invariant-loop-sid : goal.invariant-loop-sid
invariant-loop-sid l = map string_bytes l.named.items ≡ map (group_text l.role) (take l.sid-index l.sid-items)
