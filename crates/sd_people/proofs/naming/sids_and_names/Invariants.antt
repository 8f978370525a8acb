-- The words of the SIDs so far.
use Rattle.std.proofs.Common.{◌≡◌, map, string_bytes, take}
use Rattle.std.specs.List.{filter_map}
use Rattle.sd_people.specs.Names.{names_in}
use Rattle.sd_people.specs.Naming.{sid_and_name}
use Rattle.sd_people.proofs.naming.sids_and_names.Given as goal

abbrev pub invariant-loop-sid : goal.invariant-loop-sid
invariant-loop-sid l = map string_bytes l.words.items ≡ filter_map (sid_and_name (names_in l.names)) (take l.sid-index l.sids)
