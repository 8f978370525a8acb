use Rattle.sd_whole_text.proofs.Cited.{drop, entries_test, entry_text, flat_map, string_bytes, take, ◌++◌, ◌+◌, ◌≡◌}
use Rattle.sd_whole_text.proofs.acl.push_entries.Given as goal

-- the entries so far have a text, and it has been printed
abbrev pub invariant-loop-i : goal.invariant-loop-i
invariant-loop-i l = record {
  passed : entries_test l.kind (l.i + 1) (drop l.i l.entries) ≡ entries_test l.kind 1 l.entries;
  printed : string_bytes l.out ≡ string_bytes l.initial.out ++ flat_map (entry_text l.names) (take l.i l.entries);
}
